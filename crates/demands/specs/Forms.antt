-- Document 02, Q-11: a file of the old form is answered as before. Here is the check as it was, over records without days; no file is read by it any more, and what stays is stated against it.
use Rattle.std.specs.Prelude.{◌≡◌, Bool, false, ◌&&◌, List, [], ◌∷◌, map, ℕ, suc, ◌/◌, ◌%◌, eqb, leb, length}
use Rattle.record.specs.Record.{pick, old_file, Record, decoded, parts, otherKind, Kind, symbolKind, variableKind, applicationKind, inputKind, resolveKind, factorKind, severalKind, windowKind, kind_numbered, field_a, field_b, field_c}
use Rattle.derivation.specs.Derivation.{input, input_literals}
use Rattle.verdict.specs.Refusal.{outline_tests, Reason, badLength, shortTable, badKind, outOfRange, notThere, notRising, crossedDays, variableLiteral, wrongSigns, tooLarge, fields_in_range, right_numbers, left_of, right_of, deleted_of, arguments_there, literal_rows_there, both_there, rising, all_applications, opposite_signs, factor_signs, resolvent_fits, factor_fits, is_input}
use Rattle.verdict.specs.State.{State, empty_state, with_clause, row_of, clause_of, next_clause}
use Rattle.verdict.specs.Step.{stands, refused, Result, require_all, new_literals, enter, Ending, all_stand, refused_at}
use Rattle.verdict.specs.Verdict.{Lengths, long_enough, Reading, untouched, read_to, reading}

-- The tests of each kind, without days.
abbrev pub resolve_tests_before : State → Kind → Record → List (Bool × Reason)
resolve_tests_before S kind r =
    (fields_in_range kind r, outOfRange)
    ∷ (both_there (left_of S r) (right_of S kind r), notThere)
    ∷ (rising (right_numbers kind r), notRising)
    ∷ (opposite_signs S kind r, wrongSigns)
    ∷ (resolvent_fits S kind r, tooLarge) ∷ []

abbrev pub tests_before : State → Kind → Record → List (Bool × Reason)
tests_before S symbolKind r = (fields_in_range symbolKind r, outOfRange) ∷ []
tests_before S variableKind r = (fields_in_range variableKind r, outOfRange) ∷ []
tests_before S applicationKind r = (fields_in_range applicationKind r, outOfRange) ∷ (arguments_there S r, notThere) ∷ []
tests_before S inputKind r =
    (fields_in_range inputKind r, outOfRange)
    ∷ (literal_rows_there S r, notThere)
    ∷ (all_applications (row_of S) (input_literals r), variableLiteral) ∷ []
tests_before S resolveKind r = resolve_tests_before S resolveKind r
tests_before S severalKind r = resolve_tests_before S severalKind r
tests_before S factorKind r =
    (fields_in_range factorKind r, outOfRange)
    ∷ (both_there (left_of S r) (deleted_of S r), notThere)
    ∷ (factor_signs S r, wrongSigns)
    ∷ (factor_fits S r, tooLarge) ∷ []
tests_before S windowKind r =
    (fields_in_range windowKind r, outOfRange)
    ∷ (is_input (clause_of S (field_a r)), notThere)
    ∷ (leb (field_b r) (field_c r), crossedDays) ∷ []
tests_before S otherKind r = (false, badKind) ∷ []

-- An input clause brings no window with it; every other record adds what it adds.
abbrev pub enter_before : State → ℕ → Kind → Record → Result
enter_before S k inputKind r = stands (with_clause S k (input (next_clause S) (new_literals S r)))
enter_before S k symbolKind r = enter S k symbolKind r
enter_before S k variableKind r = enter S k variableKind r
enter_before S k applicationKind r = enter S k applicationKind r
enter_before S k resolveKind r = enter S k resolveKind r
enter_before S k severalKind r = enter S k severalKind r
enter_before S k factorKind r = enter S k factorKind r
enter_before S k windowKind r = enter S k windowKind r
enter_before S k otherKind r = enter S k otherKind r

abbrev pub step_before : State → ℕ → Record → Result
step_before S k r =
    require_all (tests_before S (kind_numbered r.kind) r) (require_all (outline_tests S (kind_numbered r.kind) r) (enter_before S k (kind_numbered r.kind) r))

abbrev pub read_before : State → ℕ → List Record → Ending
read_before S k [] = all_stand S
read_before S k (r ∷ rs) = elim (step_before S k r) [ stands T ↦ read_before T (suc k) rs | refused reason ↦ refused_at S reason k ]

-- Sixteen bytes a record, at most 65,536 of them.
abbrev pub reading_before : List ℕ → Lengths → Reading
reading_before bytes lengths =
    pick (leb (length bytes) 65536 && eqb (length bytes % 16) 0)
    (pick (long_enough lengths) (read_to (read_before empty_state 0 (map decoded (parts 16 (length bytes / 16) bytes)))) (untouched shortTable))
    (untouched badLength)

-- Every file of the old form is read as it was. The tables are a function of that, and the answer and the readouts of that and the day.
pub record OldFormAsBefore : Type 0 where
  pub read_alike : (bytes : List ℕ) (lengths : Lengths) → reading (old_file bytes) lengths ≡ reading_before bytes lengths
