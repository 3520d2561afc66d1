-- Document 01, "Verdict, tables and refusals": the reasons with their numbers, and the tests of a record that give 3 to 9; document 02, Q-1: the
-- outlines of a step; Q-3: reason 14, and several right literals; Q-6: reason 16, and windows; Q-11: the days beside a record.
use Rattle.std.specs.Prelude.{Bool, true, false, ◌&&◌, not, List, [], ◌∷◌, map, ℕ, ◌+◌, eqb, leb, ltb, length, take, drop}
use Rattle.std.proofs.Math.Option.{Option, none, some}
use Rattle.record.specs.Record.{pick, Record, otherKind, Kind, symbolKind, variableKind, applicationKind, inputKind, resolveKind, factorKind, severalKind, windowKind, kind_numbered, field_a, field_b, field_c, field_d}
use Rattle.unification.specs.Outlines.{outlines_clash}
use Rattle.unification.specs.Row.{variable, Row, application}
use Rattle.unification.specs.Unification.{Failure, failure_number, clash}
use Rattle.derivation.specs.Derivation.{literals, input, Literal, RowLiteral, input_literals, Derivation, resolve, factor, numbered, numbered_all, maximum_index}
use Rattle.verdict.specs.State.{State, rows_of, arity_of, clause_of, row_of, next_clause}

-- Reasons 1 to 9, 14 and 16; 6, a repeated row, is not given any more (document 02, Q-2). What unification gives is in the crate unification.
pub data Reason : Type 0 where
  badLength shortTable badKind outOfRange notThere notRising crossedDays variableLiteral wrongSigns tooLarge : Reason
  unification : Failure → Reason

abbrev pub reason_number : Reason → ℕ
reason_number badLength = 1
reason_number shortTable = 2
reason_number badKind = 3
reason_number outOfRange = 4
reason_number notThere = 5
reason_number notRising = 14
reason_number crossedDays = 16
reason_number variableLiteral = 7
reason_number wrongSigns = 8
reason_number tooLarge = 9
reason_number (unification f) = failure_number f

-- The limits of document 01 on a clause.
unfoldable pub most_literals : ℕ
most_literals = 128

unfoldable pub most_index : ℕ
most_index = 4096

-- Document 02, Q-11: where records have days there is no kind 8.
abbrev pub has_days : Option (ℕ × ℕ) → Bool
has_days none = false
has_days (some days) = true

abbrev pub kind_of_record : Record → Kind
kind_of_record r = pick (has_days r.days && eqb r.kind 8) otherKind (kind_numbered r.kind)

-- 4: byte 1 and the variable number are in range, and unused fields are zero.
abbrev pub zeros : List ℕ → Bool
zeros [] = true
zeros (n ∷ ns) = eqb n 0 && zeros ns

abbrev pub fields_in_range : Kind → Record → Bool
fields_in_range symbolKind r = leb r.count 6 && zeros r.fields
fields_in_range variableKind r = eqb r.count 0 && leb (field_a r) 63 && zeros (drop 1 r.fields)
fields_in_range applicationKind r = leb r.count 6 && zeros (drop (1 + r.count) r.fields)
fields_in_range inputKind r = leb r.count 7 && zeros (drop r.count r.fields)
fields_in_range resolveKind r = eqb r.count 0 && zeros (drop 4 r.fields)
fields_in_range factorKind r = eqb r.count 0 && zeros (drop 3 r.fields)
fields_in_range severalKind r = leb 1 r.count && leb r.count 4 && zeros (drop (3 + r.count) r.fields)
fields_in_range windowKind r = eqb r.count 0 && zeros (drop 3 r.fields)
-- Any other kind is refused with 3, before its range matters.
fields_in_range otherKind r = true

-- Document 02, Q-11: only an input clause has days; beside every other record they are zero.
abbrev pub zero_days : Option (ℕ × ℕ) → Bool
zero_days none = true
zero_days (some days) = eqb days.0 0 && eqb days.1 0

abbrev pub days_in_range : Kind → Record → Bool
days_in_range inputKind r = true
days_in_range symbolKind r = zero_days r.days
days_in_range variableKind r = zero_days r.days
days_in_range applicationKind r = zero_days r.days
days_in_range resolveKind r = zero_days r.days
days_in_range severalKind r = zero_days r.days
days_in_range factorKind r = zero_days r.days
days_in_range windowKind r = true
days_in_range otherKind r = true

abbrev pub in_range : Kind → Record → Bool
in_range kind r = days_in_range kind r && fields_in_range kind r

-- The argument rows of an application.
abbrev pub argument_rows : Record → List ℕ
argument_rows r = take r.count (drop 1 r.fields)

-- A clause that a step names, with the literal that it names there, if both exist.
abbrev pub literal_in : ℕ → Option Derivation → Option (Derivation × Literal)
literal_in n none = none
literal_in n (some c) = elim (numbered (literals c) n) [ some l ↦ some (c, l) | none ↦ none ]

abbrev pub literal_named : State → ℕ → ℕ → Option (Derivation × Literal)
literal_named S c n = literal_in n (clause_of S c)

abbrev pub left_of : State → Record → Option (Derivation × Literal)
left_of S r = literal_named S (field_a r) (field_b r)

-- The right literals that a resolve names: one, or in kind 7 as many as byte 1 says; and the right clause with them, if all exist.
abbrev pub right_numbers : Kind → Record → List ℕ
right_numbers resolveKind r = field_d r ∷ []
right_numbers severalKind r = take r.count (drop 3 r.fields)
right_numbers symbolKind r = []
right_numbers variableKind r = []
right_numbers applicationKind r = []
right_numbers inputKind r = []
right_numbers factorKind r = []
right_numbers windowKind r = []
right_numbers otherKind r = []

abbrev pub literals_in : List ℕ → Option Derivation → Option (Derivation × List Literal)
literals_in ns none = none
literals_in ns (some c) = elim (numbered_all (literals c) ns) [ some ls ↦ some (c, ls) | none ↦ none ]

abbrev pub right_of : State → Kind → Record → Option (Derivation × List Literal)
right_of S kind r = literals_in (right_numbers kind r) (clause_of S (field_c r))

-- In a factor the clause of the literal deleted is that of the literal kept.
abbrev pub deleted_of : State → Record → Option (Derivation × Literal)
deleted_of S r = literal_named S (field_a r) (field_c r)

-- 5: every symbol, row, clause and literal named exists, and the number of arguments is the symbol's arity. First its parts.
abbrev pub is_there {ℓ} : {A : Type ℓ} → Option A → Bool
is_there none = false
is_there (some a) = true

abbrev pub has_arity : ℕ → Option ℕ → Bool
has_arity n none = false
has_arity n (some a) = eqb a n

abbrev pub all_below : ℕ → List ℕ → Bool
all_below n [] = true
all_below n (a ∷ xs) = ltb a n && all_below n xs

-- A clause that is there and is an input clause.
abbrev pub is_input : Option Derivation → Bool
is_input none = false
is_input (some (input number ls)) = true
is_input (some (resolve number l a r ns bs)) = false
is_input (some (factor number c a b bs)) = false

-- 5, of an application, of an input clause, and of a step.
abbrev pub arguments_there : State → Record → Bool
arguments_there S r = has_arity r.count (arity_of S (field_a r)) && all_below (length (rows_of S)) (argument_rows r)

abbrev pub literal_rows_there : State → Record → Bool
literal_rows_there S r = all_below (length (rows_of S)) (map (λ l. l.1) (input_literals r))

abbrev pub both_there : {A B : Type 0} → Option A → Option B → Bool
both_there x y = is_there x && is_there y

-- 14: the right literals strictly rise.
abbrev pub rising : List ℕ → Bool
rising [] = true
rising (n ∷ []) = true
rising (n ∷ m ∷ ns) = ltb n m && rising (m ∷ ns)

-- 16: the days beside an input clause do not cross.
abbrev pub in_order : Option (ℕ × ℕ) → Bool
in_order none = true
in_order (some days) = leb days.0 days.1

-- 7: no literal's row is a variable.
abbrev pub is_application : Row → Bool
is_application (variable v) = false
is_application (application s xs) = true

abbrev pub all_applications : (ℕ → Row) → List RowLiteral → Bool
all_applications row [] = true
all_applications row (l ∷ ls) = is_application (row l.1) && all_applications row ls

-- 8: a resolve is on opposite signs; a factor is on equal signs and on two literals. No other kind compares signs.
abbrev pub equal_signs : Bool → Bool → Bool
equal_signs true b = b
equal_signs false b = not b

abbrev pub all_opposite : Bool → List Literal → Bool
all_opposite s [] = true
all_opposite s (l ∷ ls) = not (equal_signs s l.0) && all_opposite s ls

-- A test of what a step names on both sides; where something does not exist, an earlier test has failed.
abbrev pub on_both : {A B : Type 0} → (A → B → Bool) → Option A → Option B → Bool
on_both test none y = true
on_both test (some x) none = true
on_both test (some x) (some y) = test x y

abbrev pub opposite_signs : State → Kind → Record → Bool
opposite_signs S kind r = on_both (λ x y. all_opposite x.1.0 y.1) (left_of S r) (right_of S kind r)

abbrev pub factor_signs : State → Record → Bool
factor_signs S r = on_both (λ x y. equal_signs x.1.0 y.1.0) (left_of S r) (deleted_of S r) && not (eqb (field_b r) (field_c r))

-- 9: the result has at most 128 literals and a maximum index of at most 4,096. Neither depends on its bindings.
abbrev pub result_fits : Derivation → Bool
result_fits c = leb (length (literals c)) most_literals && leb (maximum_index c) most_index

abbrev pub resolvent_fits : State → Kind → Record → Bool
resolvent_fits S kind r = on_both (λ x y. result_fits (resolve (next_clause S) x.0 (field_b r) y.0 (right_numbers kind r) [])) (left_of S r) (right_of S kind r)

abbrev pub factor_fits : State → Record → Bool
factor_fits S r = on_both (λ x y. result_fits (factor (next_clause S) x.0 (field_b r) (field_c r) [])) (left_of S r) (deleted_of S r)

-- The tests of a resolve, on one right literal or on several: a single number always rises.
abbrev pub resolve_tests : State → Kind → Record → List (Bool × Reason)
resolve_tests S kind r =
    (in_range kind r, outOfRange)
    ∷ (both_there (left_of S r) (right_of S kind r), notThere)
    ∷ (rising (right_numbers kind r), notRising)
    ∷ (opposite_signs S kind r, wrongSigns)
    ∷ (resolvent_fits S kind r, tooLarge) ∷ []

-- The tests that a record of each kind has, in the order in which reasons are given.
abbrev pub tests : State → Kind → Record → List (Bool × Reason)
tests S symbolKind r = (in_range symbolKind r, outOfRange) ∷ []
tests S variableKind r =
    (in_range variableKind r, outOfRange) ∷ []
tests S applicationKind r =
    (in_range applicationKind r, outOfRange)
    ∷ (arguments_there S r, notThere) ∷ []
tests S inputKind r =
    (in_range inputKind r, outOfRange)
    ∷ (literal_rows_there S r, notThere)
    ∷ (in_order r.days, crossedDays)
    ∷ (all_applications (row_of S) (input_literals r), variableLiteral) ∷ []
tests S resolveKind r = resolve_tests S resolveKind r
tests S severalKind r = resolve_tests S severalKind r
tests S factorKind r =
    (in_range factorKind r, outOfRange)
    ∷ (both_there (left_of S r) (deleted_of S r), notThere)
    ∷ (factor_signs S r, wrongSigns)
    ∷ (factor_fits S r, tooLarge) ∷ []
tests S windowKind r =
    (in_range windowKind r, outOfRange)
    ∷ (is_input (clause_of S (field_a r)), notThere)
    ∷ (leb (field_b r) (field_c r), crossedDays) ∷ []
-- 3: the kind is none of these.
tests S otherKind r = (false, badKind) ∷ []

-- Document 02, Q-1: the outlines of the input atoms that the named literals come from, which are their rows, do not clash, the left one's with
-- each right one's in turn. This comes after every test above and before the first pair of unification, and gives 10.
abbrev pub outlines_agree : (ℕ → Row) → Literal → List Literal → Bool
outlines_agree row l [] = true
outlines_agree row l (m ∷ ms) = not (outlines_clash row l.1.0 m.1.0) && outlines_agree row l ms

abbrev pub outlines_of_resolve : State → Kind → Record → List (Bool × Reason)
outlines_of_resolve S kind r = (on_both (λ x y. outlines_agree (row_of S) x.1 y.1) (left_of S r) (right_of S kind r), unification clash) ∷ []

abbrev pub outline_tests : State → Kind → Record → List (Bool × Reason)
outline_tests S resolveKind r = outlines_of_resolve S resolveKind r
outline_tests S severalKind r = outlines_of_resolve S severalKind r
outline_tests S factorKind r = (on_both (λ x y. outlines_agree (row_of S) x.1 (y.1 ∷ [])) (left_of S r) (deleted_of S r), unification clash) ∷ []
outline_tests S symbolKind r = []
outline_tests S variableKind r = []
outline_tests S applicationKind r = []
outline_tests S inputKind r = []
outline_tests S windowKind r = []
outline_tests S otherKind r = []
