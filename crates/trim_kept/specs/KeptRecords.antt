-- The records that the program writes for a clause, from its tables as they are. No promise needs this file; which records a trimmed file has stands in the crate
-- trimming.
use Rattle.std.specs.Prelude.{List, ℕ, set}
use Rattle.record.specs.Record.{old_file, record_count, Record, records}
use Rattle.derivation.specs.Stored.{record_cell}
use Rattle.trimming.specs.Trimming.{first_numbers}
use Rattle.marking.specs.Marking.{marked_down, dated_down, marked_records}
use Rattle.tables.specs.Cells.{cleared_part}

-- Of the cells of records, 4,096 at most, only that of clause n's record is not 0.
abbrev pub first_marks : List ℕ → ℕ → List ℕ → List ℕ
first_marks clauses n marks = set (cleared_part 0 4096 marks) (record_cell clauses n) 1

module _ (symbols rows clauses file : List ℕ) (n : ℕ) where
  -- The marks of what clause n uses, and then of windows too.
  abbrev pub used_marks : List ℕ → List ℕ
  used_marks marks = marked_down symbols rows clauses (old_file file) (record_count (old_file file)) (first_marks clauses n marks)

  abbrev pub kept_marks : List ℕ → List ℕ
  kept_marks marks = dated_down symbols rows clauses (old_file file) (record_count (old_file file)) (used_marks marks)

  abbrev pub kept_records : (marks numbers : List ℕ) → List Record
  kept_records marks numbers = marked_records symbols rows clauses (kept_marks marks) numbers first_numbers 0 (records (old_file file))
