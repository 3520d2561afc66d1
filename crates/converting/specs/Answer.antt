-- Document 02, Q-11: the answer to a conversion, and what it leaves in the tables. What it leaves in the output goes by the answer (`output_left` of the crate writing).
use Rattle.std.specs.Prelude.{true, false, ℕ, ◌*◌, ltb, length}
use Rattle.record.specs.Record.{File, record_length}
use Rattle.verdict.specs.Tables.{Tables, lengths_of, tables_after}
use Rattle.verdict.specs.Verdict.{check}
use Rattle.writing.specs.Writing.{Writing, written, refused_with, unless_refused}
use Rattle.converting.specs.Converting.{other_form, most_records, converted}

-- 22 where the result has too many records for its form; and else the file is written.
abbrev pub room_for : File → Writing
room_for file =
    elim (ltb (most_records (other_form file.form)) (length (converted file))) [
      | true ↦ refused_with 22 0 0
      | false ↦ written (record_length (other_form file.form) * length (converted file))
    ]

-- A short output comes before all else; then the check of the file by its own form. Whether a file is refused does not depend on the day of its check.
unfoldable pub conversion_answer : File → Tables → ℕ → Writing
conversion_answer file tables room =
    elim (ltb room 65536) [ true ↦ refused_with 2 0 0 | false ↦ unless_refused 1 (check 0 file (lengths_of tables)).verdict (room_for file) ]

-- The tables: untouched with a short output, else as the check left them.
unfoldable pub tables_left : File → Tables → ℕ → Tables
tables_left file tables room = elim (ltb room 65536) [ true ↦ tables | false ↦ tables_after file tables ]
