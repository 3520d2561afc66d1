-- What a record does depends on a state only through its arities, rows, clauses and total of bindings: not on the records that they are of, and not on windows.
use mathlib.Core.Path.{◌≡◌, refl, ap}
use mathlib.Core.Bool.{◌&&◌, not}
use mathlib.Core.Option.{Option}
use mathlib.Core.List.{List, [], ◌∷◌, map}
use Prim.Native.Nat.{ℕ, ◌+◌}
use lib.ListN.{length}
use lib.Dec.{eqb}
use Rattle.record.specs.Record.{Record, Kind, otherKind, symbolKind, variableKind, applicationKind, inputKind, resolveKind, factorKind, severalKind, windowKind, field_a, field_b, field_c}
use Rattle.unification.specs.Repeated.{earliest_row}
use Rattle.unification.specs.Row.{Row, row_at, application}
use Rattle.unification.specs.Unification.{clash}
use Rattle.derivation.specs.Derivation.{input_literals, Derivation, resolve, factor, own_bindings}
use Rattle.verdict.specs.Refusal.{tests, outline_tests, unification, outOfRange, notThere, notRising, wrongSigns, tooLarge, fields_in_range, in_range, zero_days, literal_in, literals_in, left_of, right_of, right_numbers, deleted_of, has_arity, all_below, argument_rows, resolve_tests, arguments_there, literal_rows_there, both_there, rising, on_both, all_opposite, equal_signs, result_fits, outlines_agree, all_applications}
use Rattle.verdict.specs.State.{State, with_symbol, with_row, with_clause, entry, arities, rows_of, derivations, next_clause, row_of}
use Rattle.verdict.specs.Step.{new_application, new_literals}
use Rattle.converting.proofs.KindsDated.{Plain, dated}

pub record Alike (S T : State) : Type 0 where
  pub same_arities : arities S ≡ arities T
  pub same_rows : rows_of S ≡ rows_of T
  pub same_clauses : derivations S ≡ derivations T
  pub same_total : S.total ≡ T.total

module _ (S T : State) (A : Alike S T) where
  -- ── What is named ──
  pub next_alike : next_clause S ≡ next_clause T
  next_alike = ap length A.same_clauses

  pub left_alike : (r : Record) → left_of S r ≡ left_of T r
  left_alike r = ap (λ (ds : List Derivation). literal_in (field_b r) (entry ds (field_a r))) A.same_clauses

  pub right_alike : (kind : Kind) (r : Record) → right_of S kind r ≡ right_of T kind r
  right_alike kind r = ap (λ (ds : List Derivation). literals_in (right_numbers kind r) (entry ds (field_c r))) A.same_clauses

  pub deleted_alike : (r : Record) → deleted_of S r ≡ deleted_of T r
  deleted_alike r = ap (λ (ds : List Derivation). literal_in (field_c r) (entry ds (field_a r))) A.same_clauses

  arguments_alike : (r : Record) → arguments_there S r ≡ arguments_there T r
  arguments_alike r = λ i. has_arity r.count (entry (A.same_arities i) (field_a r)) && all_below (length (A.same_rows i)) (argument_rows r)

  pub literal_rows_alike : (r : Record) → literal_rows_there S r ≡ literal_rows_there T r
  literal_rows_alike r = ap (λ (ws : List Row). all_below (length ws) (map (λ l. l.1) (input_literals r))) A.same_rows

  pub applications_alike : (r : Record) → all_applications (row_of S) (input_literals r) ≡ all_applications (row_of T) (input_literals r)
  applications_alike r = ap (λ (ws : List Row). all_applications (row_at ws) (input_literals r)) A.same_rows

  -- ── Tests ──
  module _ (r : Record) (days : Option (ℕ × ℕ)) (z : zero_days r.days ≡ zero_days days) where
    resolve_tests_lem : (kind : Kind) → in_range kind r ≡ in_range kind (dated r days) → right_numbers kind r ≡ right_numbers kind (dated r days) → resolve_tests S kind r ≡ resolve_tests T kind (dated r days)
    resolve_tests_lem kind e n = λ i.
        (e i, outOfRange)
        ∷ (both_there (left_alike r i) (literals_in (n i) (entry (A.same_clauses i) (field_c r))), notThere)
        ∷ (rising (n i), notRising)
        ∷ (on_both (λ x y. all_opposite x.1.0 y.1) (left_alike r i) (literals_in (n i) (entry (A.same_clauses i) (field_c r))), wrongSigns)
        ∷ (on_both (λ x y. result_fits (resolve (next_alike i) x.0 (field_b r) y.0 (n i) [])) (left_alike r i) (literals_in (n i) (entry (A.same_clauses i) (field_c r))), tooLarge)
        ∷ []

    pub tests_alike : (kind : Kind) → Plain kind → tests S kind r ≡ tests T kind (dated r days)
    tests_alike symbolKind p = λ i. (z i && fields_in_range symbolKind r, outOfRange) ∷ []
    tests_alike variableKind p = λ i. (z i && fields_in_range variableKind r, outOfRange) ∷ []
    tests_alike applicationKind p = λ i. (z i && fields_in_range applicationKind r, outOfRange) ∷ (arguments_alike r i, notThere) ∷ []
    tests_alike resolveKind p = resolve_tests_lem resolveKind (λ i. z i && fields_in_range resolveKind r) refl
    tests_alike severalKind p = resolve_tests_lem severalKind (λ i. z i && fields_in_range severalKind r) refl
    tests_alike factorKind p = λ i.
        (z i && fields_in_range factorKind r, outOfRange)
        ∷ (both_there (left_alike r i) (deleted_alike r i), notThere)
        ∷ (on_both (λ x y. equal_signs x.1.0 y.1.0) (left_alike r i) (deleted_alike r i) && not (eqb (field_b r) (field_c r)), wrongSigns)
        ∷ (on_both (λ x y. result_fits (factor (next_alike i) x.0 (field_b r) (field_c r) [])) (left_alike r i) (deleted_alike r i), tooLarge)
        ∷ []
    tests_alike inputKind p = absurd p
    tests_alike windowKind p = absurd p
    tests_alike otherKind p = absurd p

    pub outlines_alike : (kind : Kind) → Plain kind → outline_tests S kind r ≡ outline_tests T kind (dated r days)
    outlines_alike symbolKind p = refl
    outlines_alike variableKind p = refl
    outlines_alike applicationKind p = refl
    outlines_alike resolveKind p = λ i. (on_both (λ x y. outlines_agree (row_at (A.same_rows i)) x.1 y.1) (left_alike r i) (right_alike resolveKind r i), unification clash) ∷ []
    outlines_alike severalKind p = λ i. (on_both (λ x y. outlines_agree (row_at (A.same_rows i)) x.1 y.1) (left_alike r i) (right_alike severalKind r i), unification clash) ∷ []
    outlines_alike factorKind p = λ i. (on_both (λ x y. outlines_agree (row_at (A.same_rows i)) x.1 (y.1 ∷ [])) (left_alike r i) (deleted_alike r i), unification clash) ∷ []
    outlines_alike inputKind p = absurd p
    outlines_alike windowKind p = absurd p
    outlines_alike otherKind p = absurd p

  -- ── What is entered ──
  pub application_alike : (r : Record) → new_application S r ≡ new_application T r
  application_alike r = ap (λ (ws : List Row). application (field_a r) (map (earliest_row ws) (argument_rows r))) A.same_rows

  pub literals_alike : (r : Record) → new_literals S r ≡ new_literals T r
  literals_alike r = ap (λ (ws : List Row). map (λ l. (l.0, earliest_row ws l.1)) (input_literals r)) A.same_rows

  pub with_symbol_lem : (k j a : ℕ) → Alike (with_symbol S k a) (with_symbol T j a)
  with_symbol_lem k j a = record { same_arities = ap (λ (xs : List ℕ). a ∷ xs) A.same_arities; same_rows = A.same_rows; same_clauses = A.same_clauses; same_total = A.same_total }

  pub with_row_lem : (k j : ℕ) (w u : Row) → w ≡ u → Alike (with_row S k w) (with_row T j u)
  with_row_lem k j w u e = record { same_arities = A.same_arities; same_rows = λ i. e i ∷ A.same_rows i; same_clauses = A.same_clauses; same_total = A.same_total }

  pub with_clause_lem : (k j : ℕ) (c d : Derivation) → c ≡ d → Alike (with_clause S k c) (with_clause T j d)
  with_clause_lem k j c d e = record { same_arities = A.same_arities; same_rows = A.same_rows; same_clauses = λ i. e i ∷ A.same_clauses i; same_total = λ i. A.same_total i + length (own_bindings (e i)) }
