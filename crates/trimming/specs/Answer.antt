-- Document 02, Q-12: the answer to a trim, and what it leaves in the tables and in the output.
use Rattle.std.specs.Prelude.{true, false, List, ℕ, ltb, length}
use Rattle.record.specs.Record.{old_file}
use Rattle.verdict.specs.Tables.{Tables, lengths_of, tables_after}
use Rattle.verdict.specs.Verdict.{Verdict, accepted, open', refusal, check}
use Rattle.writing.specs.Writing.{Writing, written, refused_with, unless_refused}
use Rattle.trimming.specs.Trimming.{trimmed_file}

-- 23 for a file that stands and is not accepted on the day; and else it is written.
abbrev pub unless_open : Verdict → Writing → Writing
unless_open open' next = refused_with 23 1 0
unless_open (accepted n) next = next
unless_open (refusal reason k) next = next

-- A short output comes before all else; then the check of the file on the day.
unfoldable pub trim_answer : ℕ → List ℕ → Tables → ℕ → Writing
trim_answer day file tables room =
    elim (ltb room 65536) [
      | true ↦ refused_with 2 0 0
      | false ↦ unless_refused 1 (check day (old_file file) (lengths_of tables)).verdict (unless_open (check day (old_file file) (lengths_of tables)).verdict (written (length (trimmed_file day file))))
    ]

-- The tables: untouched with a short output, else as the check left them.
unfoldable pub tables_left : List ℕ → Tables → ℕ → Tables
tables_left file tables room = elim (ltb room 65536) [ true ↦ tables | false ↦ tables_after (old_file file) tables ]
