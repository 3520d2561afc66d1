-- A file without repeated rows: every row is the earliest equal one, so its records are read as they are written.
use mathlib.Core.Path.{◌≡◌, refl, sym, ap, ap₂, ◌∙◌, subst}
use mathlib.Core.Bool.{Bool, true, false}
use mathlib.Core.Option.{Option, none, some}
use mathlib.Core.List.{List, [], ◌∷◌, map}
use Prim.Native.Nat.{ℕ, suc, ◌<◌}
use native.Mathlib.Omega.{arith}
use lib.Dec.{ltb, ltb→lt}
use lib.ListN.{length}
use Rattle.record.specs.Record.{Record, otherKind, Kind, symbolKind, variableKind, applicationKind, inputKind, resolveKind, factorKind, severalKind, windowKind, field_a}
use Rattle.unification.specs.Repeated.{earliest_equal, or_same, earliest_row}
use Rattle.unification.specs.Row.{variable, Row, application, row_at}
use Rattle.unification.proofs.Repeats.{row_old, row_new, earliest_found, earliest_itself, earliest_absent}
use Rattle.unification.proofs.Tests.{to_t}
use Rattle.derivation.specs.Derivation.{input, RowLiteral, input_literals}
use Rattle.verdict.specs.Refusal.{tests, outline_tests, kind_of_record, argument_rows}
use Rattle.demands.specs.Repeats.{with_written, written_after, enter_as_written, step_as_written, read_as_written}
use Rattle.verdict.specs.State.{State, with_row, with_clause, with_days_beside, entry, rows_of, record_of_row, next_clause}
use Rattle.verdict.specs.Step.{stands, refused, Result, require_all, step, new_application, enter_row, enter, read, refused_at, Ending}
use Rattle.demands.proofs.Inversions.{step_stands, not_below}
use Rattle.demands.proofs.WrittenRows.{rows_entered, entered_rows}

-- ── Distinct rows ──
abbrev pub Distinct : List Row → Type 0
Distinct ws = (p q : ℕ) → p < q → q < length ws → ¬ (row_at ws p ≡ row_at ws q)

distinct_fewer : (w : Row) (ws : List Row) → Distinct (w ∷ ws) → Distinct ws
distinct_fewer w ws d p q l m e = d p q l (omega arith) (row_old w ws p (omega arith) ∙ e ∙ sym (row_old w ws q m))

distinct_with : (ws : List Row) (r : Record) (kind : Kind) → Distinct (with_written ws kind r) → Distinct ws
distinct_with ws r variableKind d = distinct_fewer (variable (field_a r)) ws d
distinct_with ws r applicationKind d = distinct_fewer (application (field_a r) (argument_rows r)) ws d
distinct_with ws r symbolKind d = d
distinct_with ws r inputKind d = d
distinct_with ws r resolveKind d = d
distinct_with ws r severalKind d = d
distinct_with ws r factorKind d = d
distinct_with ws r windowKind d = d
distinct_with ws r otherKind d = d

distinct_before : (ws : List Row) (rs : List Record) → Distinct (written_after ws rs) → Distinct ws
distinct_before ws [] d = d
distinct_before ws (r ∷ rs) d = distinct_with ws r (kind_of_record r) (distinct_before (with_written ws (kind_of_record r) r) rs d)

-- Of distinct rows each is the earliest equal one, and a row that is distinct from all has none.
module _ (ws : List Row) (d : Distinct ws) where
  own_row : (r : ℕ) → earliest_row ws r ≡ r
  own_row r = try (ltb r (length ws)) refl
    where
      try : (b : Bool) → ltb r (length ws) ≡ b → earliest_row ws r ≡ r
      try true q =
          let l = ltb→lt r (length ws) (to_t (ltb r (length ws)) q) in
          earliest_itself ws r (record { there = l; first = λ p m. d p r m l })
      try false q = earliest_absent ws r (not_below r (length ws) q)

  own_rows : (xs : List ℕ) → map (earliest_row ws) xs ≡ xs
  own_rows [] = refl
  own_rows (x ∷ xs) = ap₂ (λ (z : ℕ) (zs : List ℕ). z ∷ zs) (own_row x) (own_rows xs)

  own_literals : (ls : List RowLiteral) → map (λ (l : RowLiteral). (l.0, earliest_row ws l.1)) ls ≡ ls
  own_literals [] = refl
  own_literals (l ∷ ls) = ap₂ (λ (a : ℕ) (ms : List RowLiteral). (l.0, a) ∷ ms) (own_row l.1) (own_literals ls)

none_equal : (w : Row) (ws : List Row) → Distinct (w ∷ ws) → earliest_equal w ws ≡ none
none_equal w ws d = try (earliest_equal w ws) refl
  where
    try : (o : Option ℕ) → earliest_equal w ws ≡ o → o ≡ none
    try none e = refl
    try (some q) e =
        let F = earliest_found w ws q e in
        absurd (d q (length ws) F.earliest.there (omega arith) (row_old w ws q F.earliest.there ∙ F.equals ∙ sym (row_new w ws)))

-- ── Records over distinct rows ──
module _ (S : State) (k : ℕ) where
  own_record_lem : (w : Row) → Distinct (w ∷ rows_of S) → enter_row S k w ≡ stands (with_row S k w)
  own_record_lem w d =
      let e : record_of_row S k w ≡ k = ap (λ (o : Option ℕ). elim o [ none ↦ k | some q ↦ or_same k (entry (map (λ (u : ℕ × Row). u.0) S.rows) q) ]) (none_equal w (rows_of S) d) in
      ap (λ (j : ℕ). stands (with_row S j w)) e

  own_arguments : (r : Record) → Distinct (rows_of S) → new_application S r ≡ application (field_a r) (argument_rows r)
  own_arguments r d = ap (application (field_a r)) (own_rows (rows_of S) d (argument_rows r))

  entered_as_written : (r : Record) (kind : Kind) → Distinct (with_written (rows_of S) kind r) → enter S k kind r ≡ enter_as_written S k kind r
  entered_as_written r variableKind d = own_record_lem (variable (field_a r)) d
  entered_as_written r applicationKind d =
      ap (enter_row S k) (own_arguments r (distinct_with (rows_of S) r applicationKind d)) ∙ own_record_lem (application (field_a r) (argument_rows r)) d
  entered_as_written r inputKind d = ap (λ (ls : List RowLiteral). stands (with_days_beside (with_clause S k (input (next_clause S) ls)) (next_clause S) r.days)) (own_literals (rows_of S) d (input_literals r))
  entered_as_written r symbolKind d = refl
  entered_as_written r resolveKind d = refl
  entered_as_written r severalKind d = refl
  entered_as_written r factorKind d = refl
  entered_as_written r windowKind d = refl
  entered_as_written r otherKind d = refl

  step_as_written_lem : (r : Record) → Distinct (with_written (rows_of S) (kind_of_record r) r) → step S k r ≡ step_as_written S k r
  step_as_written_lem r d =
      ap (λ (o : Result). require_all (tests S (kind_of_record r) r) (require_all (outline_tests S (kind_of_record r) r) o)) (entered_as_written r (kind_of_record r) d)

  rows_as_written : (r : Record) (kind : Kind) → Distinct (rows_of S) → rows_entered S kind r ≡ with_written (rows_of S) kind r
  rows_as_written r variableKind d = refl
  rows_as_written r applicationKind d = ap (λ (w : Row). w ∷ rows_of S) (own_arguments r d)
  rows_as_written r symbolKind d = refl
  rows_as_written r inputKind d = refl
  rows_as_written r resolveKind d = refl
  rows_as_written r severalKind d = refl
  rows_as_written r factorKind d = refl
  rows_as_written r windowKind d = refl
  rows_as_written r otherKind d = refl

-- All along, by the records read.
pub read_as_written_lem : (S : State) (k : ℕ) (rs : List Record) → Distinct (written_after (rows_of S) rs) → read S k rs ≡ read_as_written S k rs
read_as_written_lem S k [] d = refl
read_as_written_lem S k (r ∷ rs) d =
    try (step S k r) refl (λ T g. read_as_written_lem T (suc k) rs g)
    ∙ ap (λ (o : Result). elim o [ stands T ↦ read_as_written T (suc k) rs | refused reason ↦ refused_at S reason k ]) (step_as_written_lem S k r here)
  where
    here : Distinct (with_written (rows_of S) (kind_of_record r) r)
    here = distinct_before (with_written (rows_of S) (kind_of_record r) r) rs d

    rows : (T : State) → step S k r ≡ stands T → rows_of T ≡ with_written (rows_of S) (kind_of_record r) r
    rows T q = entered_rows S k r T (kind_of_record r) (step_stands S k r T q).1 ∙ rows_as_written S k r (kind_of_record r) (distinct_with (rows_of S) r (kind_of_record r) here)

    try : (o : Result) → step S k r ≡ o → ((T : State) → Distinct (written_after (rows_of T) rs) → read T (suc k) rs ≡ read_as_written T (suc k) rs)
        → ◌≡◌ {A = Ending} (elim o [ stands T ↦ read T (suc k) rs | refused reason ↦ refused_at S reason k ]) (elim o [ stands T ↦ read_as_written T (suc k) rs | refused reason ↦ refused_at S reason k ])
    try (stands T) q ih = ih T (subst (λ (ws : List Row). Distinct (written_after ws rs)) (sym (rows T q)) d)
    try (refused reason) q ih = refl
