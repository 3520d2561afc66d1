-- Document 01, "Verdict, tables and refusals": the answer to a whole file; document 02, Q-6: on a day.
use Rattle.std.specs.Prelude.{◌≡◌, Bool, true, false, ◌&&◌, List, [], ◌∷◌, ◌++◌, ℕ, ◌%◌, eqb, leb, length}
use Rattle.std.proofs.Math.Option.{Option, none, some}
use Rattle.record.specs.Record.{pick, File, records}
use Rattle.derivation.specs.Derivation.{literals, Derivation}
use Rattle.verdict.specs.Force.{uses_in_force}
use Rattle.verdict.specs.Refusal.{Reason, badLength, shortTable, reason_number}
use Rattle.verdict.specs.State.{State, empty_state, derivations}
use Rattle.verdict.specs.Step.{read, Ending, all_stand, refused_at, state_of}
use Rattle.record.specs.declared.Form.{Form}
use Rattle.record.specs.declared.Form.TheVariants.{Old, New}

-- The verdict, with its numbers: 0 open; 1 accepted, and the clause; 2 refused, the reason and the record.
pub data Verdict : Type 0 where
  accepted : ℕ → Verdict
  open' : Verdict
  refusal : Reason → ℕ → Verdict

abbrev pub verdict_numbers : Verdict → List ℕ
verdict_numbers open' = 0 ∷ 0 ∷ 0 ∷ []
verdict_numbers (accepted n) = 1 ∷ n ∷ 0 ∷ []
verdict_numbers (refusal reason k) = 2 ∷ reason_number reason ∷ k ∷ []

-- The answer: the verdict and how many symbols, rows, clauses and bindings there are.
pub record Answer : Type 0 where
  pub verdict : Verdict
  pub symbols : ℕ
  pub rows : ℕ
  pub clauses : ℕ
  pub bindings : ℕ

-- The seven numbers of an answer: the verdict's three, then the counts.
abbrev pub answer_numbers : Answer → List ℕ
answer_numbers a = verdict_numbers a.verdict ++ (a.symbols ∷ a.rows ∷ a.clauses ∷ a.bindings ∷ [])

-- A list without elements.
abbrev pub is_empty {ℓ} : {A : Type ℓ} → List A → Bool
is_empty [] = true
is_empty (x ∷ xs) = false

-- The lowest clause number that has no literals, among the clauses whose derivation passes the test.
abbrev pub first_empty : (Derivation → Bool) → List Derivation → Option ℕ
first_empty test [] = none
first_empty test (c ∷ cs) = elim (first_empty test cs) [ some n ↦ some n | none ↦ pick (test c && is_empty (literals c)) (some (length cs)) none ]

abbrev pub standing : Option ℕ → Verdict
standing none = open'
standing (some n) = accepted n

-- Document 02, Q-6: accepted with the lowest empty clause whose derivation uses only clauses in force on the day, otherwise open. A refusal does not
-- look at the day.
abbrev pub verdict_of : ℕ → Ending → Verdict
verdict_of day (all_stand S) = standing (first_empty (uses_in_force S day) (derivations S))
verdict_of day (refused_at S reason k) = refusal reason k

abbrev pub answer_of : Verdict → State → Answer
answer_of v S = record { verdict = v; symbols = length S.symbols; rows = length S.rows; clauses = length S.clauses; bindings = S.total }

-- The lengths that the four tables must have at least.
pub record Lengths : Type 0 where
  pub symbols : ℕ
  pub rows : ℕ
  pub clauses : ℕ
  pub bindings : ℕ

abbrev pub least_lengths : Lengths
least_lengths = record { symbols = 4096; rows = 4096; clauses = 20480; bindings = 32768 }

abbrev pub long_enough : Lengths → Bool
long_enough n =
    leb least_lengths.symbols n.symbols && leb least_lengths.rows n.rows && leb least_lengths.clauses n.clauses && leb least_lengths.bindings n.bindings

-- The length is at most 65,536 and a multiple of 16; in the new form (document 02, Q-11) at most 65,520 and a multiple of 20.
abbrev pub fitting_length : Form → ℕ → Bool
fitting_length Old n = leb n 65536 && eqb (n % 16) 0
fitting_length New n = leb n 65520 && eqb (n % 20) 0

abbrev pub fitting : File → Bool
fitting file = fitting_length file.form (length file.bytes)

-- The whole file is read, also after an empty clause; only a refusal ends the reading.
unfoldable pub ending : File → Ending
ending file = read empty_state 0 (records file)

-- The file stands and leaves S: its length fits, and every record of it stands. Tables do not come in: the check refuses a file that
-- stands only where a table is too short, and one that it does not refuse stands.
pub record Stands (file : File) (S : State) : Type 0 where
  pub fits : fitting file ≡ true
  pub reads : ending file ≡ all_stand S

-- What becomes of a file: it is refused before any record, with 1 or 2, and nothing is touched; or its records are read.
pub data Reading : Type 0 where
  untouched : Reason → Reading
  read_to : Ending → Reading

-- 1 comes before 2, and both before any record.
abbrev pub reading : File → Lengths → Reading
reading file lengths =
    pick (fitting file)
    (pick (long_enough lengths) (read_to (ending file)) (untouched shortTable))
    (untouched badLength)

-- The verdict, and the state that the records read have left.
abbrev pub verdict_given : ℕ → Reading → Verdict
verdict_given day (untouched reason) = refusal reason 0
verdict_given day (read_to e) = verdict_of day e

abbrev pub state_given : Reading → State
state_given (untouched reason) = empty_state
state_given (read_to e) = state_of e

unfoldable pub check : ℕ → File → Lengths → Answer
check day file lengths = answer_of (verdict_given day (reading file lengths)) (state_given (reading file lengths))
