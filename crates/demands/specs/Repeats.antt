-- Document 02, Q-2: what taking a repeated row as the earliest equal one means, and what it leaves as it was.
use Rattle.std.specs.Prelude.{◌≡◌, true, List, [], ◌∷◌, ◌++◌, map, ℕ, suc, ◌+◌, ◌*◌, ◌/◌, ◌%◌, ◌<◌, eqb, length, take, drop}
use Rattle.std.proofs.Math.Option.{some}
use Rattle.record.specs.Bytes.{bytes_in}
use Rattle.record.specs.Record.{pick, File, in_form, Record, records, otherKind, Kind, symbolKind, variableKind, applicationKind, inputKind, resolveKind, factorKind, severalKind, windowKind, field_a}
use Rattle.unification.specs.Repeated.{IsEarliest}
use Rattle.unification.specs.Row.{variable, Expression, Variable, Row, application, no_symbol, row_at, argument_terms}
use Rattle.unification.specs.Term.{Term, var, app, nil}
use Rattle.derivation.specs.Derivation.{input, input_literals, Derivation, lookup}
use Rattle.verdict.specs.Refusal.{tests, outline_tests, kind_of_record, argument_rows}
use Rattle.verdict.specs.State.{State, empty_state, with_row, with_clause, with_days_beside, rows_of, earliest_of, next_clause, clause_of}
use Rattle.verdict.specs.Step.{stands, refused, Result, require_all, enter, step, read, Ending, all_stand, refused_at}
use Rattle.verdict.specs.Verdict.{Lengths, fitting, long_enough, Reading, untouched, read_to, reading}
use Rattle.verdict.specs.Refusal.{badLength, shortTable}

-- ── Rows as the file writes them ──

-- The rows that records declare, as written, with every repetition; the newest first, after the rows ws.
abbrev pub with_written : List Row → Kind → Record → List Row
with_written ws variableKind r = variable (field_a r) ∷ ws
with_written ws applicationKind r = application (field_a r) (argument_rows r) ∷ ws
with_written ws symbolKind r = ws
with_written ws inputKind r = ws
with_written ws resolveKind r = ws
with_written ws severalKind r = ws
with_written ws factorKind r = ws
with_written ws windowKind r = ws
with_written ws otherKind r = ws

abbrev pub written_after : List Row → List Record → List Row
written_after ws [] = ws
written_after ws (r ∷ rs) = written_after (with_written ws (kind_of_record r) r) rs

abbrev pub written_rows : List Record → List Row
written_rows rs = written_after [] rs

-- A row written out as a term over variable numbers: rows do not come in.
abbrev pub number_term : (ℕ → Term ℕ) → Row → Term ℕ
number_term before (variable v) = var v
number_term before (application s xs) = app s (argument_terms before xs)

abbrev pub term_by_numbers : List Row → ℕ → Term ℕ
term_by_numbers [] r = app no_symbol nil
term_by_numbers (w ∷ ws) r = pick (eqb r (length ws)) (number_term (term_by_numbers ws) w) (term_by_numbers ws r)

-- ── The reading as it was ──

-- Rows are entered as they are written. For files without repeated rows this is what the check did before Q-2.
abbrev pub enter_as_written : State → ℕ → Kind → Record → Result
enter_as_written S k variableKind r = stands (with_row S k (variable (field_a r)))
enter_as_written S k applicationKind r = stands (with_row S k (application (field_a r) (argument_rows r)))
enter_as_written S k inputKind r = stands (with_days_beside (with_clause S k (input (next_clause S) (input_literals r))) (next_clause S) r.days)
enter_as_written S k symbolKind r = enter S k symbolKind r
enter_as_written S k resolveKind r = enter S k resolveKind r
enter_as_written S k severalKind r = enter S k severalKind r
enter_as_written S k factorKind r = enter S k factorKind r
enter_as_written S k windowKind r = enter S k windowKind r
enter_as_written S k otherKind r = enter S k otherKind r

abbrev pub step_as_written : State → ℕ → Record → Result
step_as_written S k r = require_all (tests S (kind_of_record r) r) (require_all (outline_tests S (kind_of_record r) r) (enter_as_written S k (kind_of_record r) r))

abbrev pub read_as_written : State → ℕ → List Record → Ending
read_as_written S k [] = all_stand S
read_as_written S k (r ∷ rs) = elim (step_as_written S k r) [ stands T ↦ read_as_written T (suc k) rs | refused reason ↦ refused_at S reason k ]

abbrev pub reading_as_written : File → Lengths → Reading
reading_as_written file lengths =
    pick (fitting file)
    (pick (long_enough lengths) (read_to (read_as_written empty_state 0 (records file))) (untouched shortTable))
    (untouched badLength)

-- No row of the file equals an earlier one, as written.
abbrev pub NoRepeats : List Record → Type 0
NoRepeats rs = (p q : ℕ) → p < q → q < length (written_rows rs) → ¬ (row_at (written_rows rs) p ≡ row_at (written_rows rs) q)

-- ── The file with repeats replaced ──

-- A record in which every row that is named, as an argument or as a literal's, is replaced by the earliest equal one.
abbrev pub replaced_fields : State → Kind → Record → List ℕ
replaced_fields S applicationKind r = field_a r ∷ (map (earliest_of S) (argument_rows r) ++ drop (1 + r.count) r.fields)
replaced_fields S inputKind r = map (λ n. 2 * earliest_of S (n / 2) + n % 2) (take r.count r.fields) ++ drop r.count r.fields
replaced_fields S symbolKind r = r.fields
replaced_fields S variableKind r = r.fields
replaced_fields S resolveKind r = r.fields
replaced_fields S severalKind r = r.fields
replaced_fields S factorKind r = r.fields
replaced_fields S windowKind r = r.fields
replaced_fields S otherKind r = r.fields

abbrev pub replaced : State → Record → Record
replaced S r = record { kind = r.kind; count = r.count; fields = replaced_fields S (kind_of_record r) r; days = r.days }

-- The records of a file, each replaced in the state that those before it leave, as far as they stand.
abbrev pub replaced_from : State → ℕ → List Record → List Record
replaced_from S k [] = []
replaced_from S k (r ∷ rs) = replaced S r ∷ elim (step S k r) [ stands T ↦ replaced_from T (suc k) rs | refused reason ↦ rs ]

abbrev pub replaced_file : File → File
replaced_file file = in_form file.form (bytes_in file.form (replaced_from empty_state 0 (records file)))

-- ── What is shown ──
-- The tables are a function of what becomes of a file (`reading`), and the answer and the readout of that and the day.
pub record RepeatedRows (file : File) : Type 0 where
  -- In every state that reading comes to there is a row for each that the file writes, and it has the term that the file writes.
  pub as_many : (k : ℕ) (S : State) → read empty_state 0 (take k (records file)) ≡ all_stand S → length (rows_of S) ≡ length (written_rows (take k (records file)))
  pub as_written : (k : ℕ) (S : State) → read empty_state 0 (take k (records file)) ≡ all_stand S → (p : ℕ) → term_by_numbers (rows_of S) p ≡ term_by_numbers (written_rows (take k (records file))) p
  -- Two rows are the same expression exactly if their terms, as the file writes them, are equal: in every such state.
  pub same_term : (k : ℕ) (S : State) → read empty_state 0 (take k (records file)) ≡ all_stand S → (p q : ℕ) → p < length (rows_of S) → q < length (rows_of S)
      → earliest_of S p ≡ earliest_of S q → term_by_numbers (written_rows (take k (records file))) p ≡ term_by_numbers (written_rows (take k (records file))) q
  pub same_row : (k : ℕ) (S : State) → read empty_state 0 (take k (records file)) ≡ all_stand S → (p q : ℕ) → p < length (rows_of S) → q < length (rows_of S)
      → term_by_numbers (written_rows (take k (records file))) p ≡ term_by_numbers (written_rows (take k (records file))) q → earliest_of S p ≡ earliest_of S q
  -- Bindings name earliest rows, in every clause of every such state.
  pub bindings_earliest : (k : ℕ) (S : State) → read empty_state 0 (take k (records file)) ≡ all_stand S → (n : ℕ) (c : Derivation) → clause_of S n ≡ some c
      → (x : Variable) (e : Expression) → lookup c x ≡ some e → IsEarliest (rows_of S) x.0 × IsEarliest (rows_of S) e.0
  -- A file without repeated rows gets what it had.
  pub unrepeated : NoRepeats (records file) → (lengths : Lengths) → reading file lengths ≡ reading_as_written file lengths
  -- A file in which repeated rows are replaced wherever they are named gets the same.
  pub replacing : fitting file ≡ true → (lengths : Lengths) → reading (replaced_file file) lengths ≡ reading file lengths
