-- Document 02, Q-8: the answer to a merge, and what it leaves in the tables. What it leaves in the output goes by the answer (`output_left` of the crate writing).
use Rattle.std.specs.Prelude.{Bool, true, false, List, [], ◌∷◌, ℕ, suc, ◌*◌, eqb, ltb, length}
use Rattle.std.proofs.Math.Option.{Option, none, some}
use Rattle.record.specs.Record.{old_file, Record, records}
use Rattle.record.specs.Sorts.{is_symbol, is_step}
use Rattle.verdict.specs.Tables.{Tables, lengths_of, tables_after}
use Rattle.verdict.specs.Verdict.{Verdict, accepted, open', refusal, check}
use Rattle.writing.specs.Writing.{Writing, written, refused_with, unless_refused}
use Rattle.merging.specs.Merging.{merged}

-- The first record of a sort, where the first of the list has the number k.
abbrev pub first_where : (Record → Bool) → ℕ → List Record → Option ℕ
first_where sort k [] = none
first_where sort k (r ∷ rs) = elim (sort r) [ true ↦ some k | false ↦ first_where sort (suc k) rs ]

-- The symbols that records declare, as a list of arities, symbol 0 first.
abbrev pub symbol_list : List Record → List ℕ
symbol_list [] = []
symbol_list (r ∷ rs) = elim (is_symbol r) [ true ↦ r.count ∷ symbol_list rs | false ↦ symbol_list rs ]

-- The first symbol record that differs from the symbol of its number, of those in a list; symbols past the end of the list differ from none.
abbrev pub first_other : List ℕ → ℕ → List Record → Option ℕ
first_other [] k rs = none
first_other (a ∷ xs) k [] = none
first_other (a ∷ xs) k (r ∷ rs) =
    elim (is_symbol r) [ true ↦ elim (eqb a r.count) [ true ↦ first_other xs (suc k) rs | false ↦ some k ] | false ↦ first_other (a ∷ xs) (suc k) rs ]

-- 17 for a step in the first file, then in the second; 18 for symbols that differ; 19 for over 4,096 records; and else the file is written.
abbrev pub room_for : List Record → Writing
room_for rs = elim (ltb 4096 (length rs)) [ true ↦ refused_with 19 0 0 | false ↦ written (16 * length rs) ]

abbrev pub symbols_compared : List Record → List Record → Writing
symbols_compared first second = elim (first_other (symbol_list first) 0 second) [ some k ↦ refused_with 18 2 k | none ↦ room_for (merged first second) ]

abbrev pub after_checks : List Record → List Record → Writing
after_checks first second =
    elim (first_where is_step 0 first) [ some k ↦ refused_with 17 1 k | none ↦ elim (first_where is_step 0 second) [ some k ↦ refused_with 17 2 k | none ↦ symbols_compared first second ] ]

-- A short output comes before all else; then the check of the first file, and with the tables as it leaves them that of the second. Whether a file is
-- refused does not depend on the day of its check.
unfoldable pub merge_answer : List ℕ → List ℕ → Tables → ℕ → Writing
merge_answer first second tables room =
    elim (ltb room 65536) [
      | true ↦ refused_with 2 0 0
      | false ↦ unless_refused 1 (check 0 (old_file first) (lengths_of tables)).verdict (unless_refused 2 (check 0 (old_file second) (lengths_of (tables_after (old_file first) tables))).verdict (after_checks (records (old_file first)) (records (old_file second))))
    ]

-- The tables: untouched with a short output, else as the last check left them.
abbrev pub tables_unless_refused : Verdict → Tables → Tables → Tables
tables_unless_refused (refusal reason k) here next = here
tables_unless_refused (accepted n) here next = next
tables_unless_refused open' here next = next

unfoldable pub tables_left : List ℕ → List ℕ → Tables → ℕ → Tables
tables_left first second tables room =
    elim (ltb room 65536) [ true ↦ tables | false ↦ tables_unless_refused (check 0 (old_file first) (lengths_of tables)).verdict (tables_after (old_file first) tables) (tables_after (old_file second) (tables_after (old_file first) tables)) ]
