-- Document 01, "Verdict, tables and refusals": one record on a state, and all records of a file.
use Rattle.std.specs.Prelude.{Bool, true, false, List, [], ◌∷◌, map, ℕ, suc}
use Rattle.std.proofs.Math.Option.{Option, none, some}
use Rattle.record.specs.Record.{Record, otherKind, Kind, symbolKind, variableKind, applicationKind, inputKind, resolveKind, factorKind, severalKind, windowKind, field_a, field_b, field_c}
use Rattle.unification.specs.Environment.{Binding}
use Rattle.unification.specs.Row.{variable, Row, application, Expression}
use Rattle.unification.specs.Unification.{unify, Outcome, unified, failed}
use Rattle.derivation.specs.Derivation.{input, Literal, RowLiteral, input_literals, Derivation, resolve, factor, pairs_with, maximum_index, joined, lookup}
use Rattle.verdict.specs.Refusal.{tests, outline_tests, Reason, unification, badKind, notThere, kind_of_record, left_of, right_numbers, right_of, deleted_of, argument_rows}
use Rattle.verdict.specs.State.{State, Window, with_symbol, with_row, with_clause, with_window, with_days_beside, row_of, earliest_of, record_of_row, next_clause}

-- A record that stands gives the next state; a refused one its reason.
pub data Result : Type 0 where
  stands : State → Result
  refused : Reason → Result

-- Each test holds, or the record is refused for the first that does not; tests are in the order in which reasons are given.
unfoldable pub require : Bool → Reason → Result → Result
require true reason next = next
require false reason next = refused reason

abbrev pub require_all : List (Bool × Reason) → Result → Result
require_all [] next = next
require_all (t ∷ ts) next = require t.0 t.1 (require_all ts next)

-- A step's clause, with the bindings that unification adds.
unfoldable pub add_clause : State → ℕ → (List Binding → Derivation) → Outcome → Result
add_clause S k clause (unified bs n) = stands (with_clause S k (clause bs))
add_clause S k clause (failed f) = refused (unification f)

-- Resolve puts the left literal on the left, factor the one kept. Right literals are raised by the left maximum index; they are taken up one
-- after another, with one allowance of work and one count of bindings for all.
abbrev pub atoms : List Literal → List Expression
atoms ls = map (λ l. l.1) ls

abbrev pub unify_resolve : State → Derivation × Literal → Derivation × List Literal → Outcome
unify_resolve S x y =
    unify (row_of S) S.total (joined (maximum_index x.0) (lookup x.0) (lookup y.0)) (pairs_with (maximum_index x.0) x.1.1 (atoms y.1))

abbrev pub unify_factor : State → Derivation × Literal → Derivation × Literal → Outcome
unify_factor S x y = unify (row_of S) S.total (lookup x.0) ((x.1.1, y.1.1) ∷ [])

-- A step on what it names; the tests before have shown that it exists.
abbrev pub on_named : {A B : Type 0} → (A → B → Result) → Option A → Option B → Result
on_named step none y = refused notThere
on_named step (some x) none = refused notThere
on_named step (some x) (some y) = step x y

-- Document 02, Q-2: here, where a record is entered, every row that it names is taken as the earliest equal one, the arguments of an application
-- and the rows of an input clause's literals. Nothing else ever sees a repeated row.
abbrev pub new_application : State → Record → Row
new_application S r = application (field_a r) (map (earliest_of S) (argument_rows r))

abbrev pub new_literals : State → Record → List RowLiteral
new_literals S r = map (λ l. (l.0, earliest_of S l.1)) (input_literals r)

-- A row with the record that the table of rows has for it.
abbrev pub enter_row : State → ℕ → Row → Result
enter_row S k w = stands (with_row S (record_of_row S k w) w)

-- A resolve, on one right literal or on several.
abbrev pub enter_resolvent : State → ℕ → Kind → Record → Result
enter_resolvent S k kind r =
    on_named (λ x y. add_clause S k (resolve (next_clause S) x.0 (field_b r) y.0 (right_numbers kind r)) (unify_resolve S x y)) (left_of S r) (right_of S kind r)

-- The window that a record of kind 8 gives its clause.
abbrev pub window_in : Record → Window
window_in r = record { clause = field_a r; first = field_b r; last = field_c r }

-- What a record that has passed all tests adds.
abbrev pub enter : State → ℕ → Kind → Record → Result
enter S k symbolKind r = stands (with_symbol S k r.count)
enter S k variableKind r = enter_row S k (variable (field_a r))
enter S k applicationKind r = enter_row S k (new_application S r)
enter S k inputKind r = stands (with_days_beside (with_clause S k (input (next_clause S) (new_literals S r))) (next_clause S) r.days)
enter S k resolveKind r = enter_resolvent S k resolveKind r
enter S k severalKind r = enter_resolvent S k severalKind r
enter S k factorKind r =
    on_named (λ x y. add_clause S k (factor (next_clause S) x.0 (field_b r) (field_c r)) (unify_factor S x y)) (left_of S r) (deleted_of S r)
-- Document 02, Q-6: a window is no clause and takes no number.
enter S k windowKind r = stands (with_window S (window_in r))
enter S k otherKind r = refused badKind

-- Record k on a state: its tests, its outlines, and what it adds.
abbrev pub step : State → ℕ → Record → Result
step S k r = require_all (tests S (kind_of_record r) r) (require_all (outline_tests S (kind_of_record r) r) (enter S k (kind_of_record r) r))

-- The same without outlines, as it was before document 02's Q-1. No file is read by it; what changed by Q-1 is stated against it.
abbrev pub step_without_outlines : State → ℕ → Record → Result
step_without_outlines S k r = require_all (tests S (kind_of_record r) r) (enter S k (kind_of_record r) r)

-- Where reading ends: after the last record, or at the first refused one, with the state that the records before it left.
pub data Ending : Type 0 where
  all_stand : State → Ending
  refused_at : State → Reason → ℕ → Ending

abbrev pub read : State → ℕ → List Record → Ending
read S k [] = all_stand S
read S k (r ∷ rs) = elim (step S k r) [ stands T ↦ read T (suc k) rs | refused reason ↦ refused_at S reason k ]

abbrev pub state_of : Ending → State
state_of (all_stand S) = S
state_of (refused_at S reason k) = S
