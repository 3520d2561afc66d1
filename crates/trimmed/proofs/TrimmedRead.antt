-- The kept records of a file that stands, with numbers closed up, stand, and leave the kept symbols, rows, clauses and windows, renumbered.
use mathlib.Core.Path.{◌≡◌, refl, sym, ap, ap₂, ◌∙◌, subst}
use mathlib.Core.Bool.{Bool, true, false, ◌&&◌, ◌||◌, not}
use mathlib.Core.Option.{Option, none, some}
use mathlib.Core.List.{List, [], ◌∷◌}
use Prim.Native.Nat.{ℕ, suc}
use native.Mathlib.Omega.{arith}
use lib.Dec.{eqb, leb}
use lib.ListN.{length}
use Rattle.record.specs.Record.{pick, Record, otherKind, Kind, symbolKind, variableKind, applicationKind, inputKind, resolveKind, factorKind, severalKind, windowKind, field_a, field_b, field_c}
use Rattle.record.proofs.Records.{Shaped, HaveDays}
use Rattle.record.specs.declared.Form.TheVariants.{Old}
use Rattle.unification.specs.Environment.{Binding}
use Rattle.unification.specs.Row.{variable, Row}
use Rattle.unification.specs.Unification.{unified}
use Rattle.unification.proofs.Repeats.{row_new}
use Rattle.unification.proofs.Tests.{both_true, true_not_false}
use Rattle.derivation.specs.Derivation.{literals, input, Literal, Derivation, resolve, factor, numbered, numbered_all}
use Rattle.renumbering.specs.Renumbering.{Renumbering}
use Rattle.renumbering.proofs.Renumbered.{renumbered_derivation}
use Rattle.renumbering.proofs.EqualNumbers.{numbers_renumbered}
use Rattle.verdict.specs.Force.{window_of}
use Rattle.verdict.specs.Refusal.{tests, outline_tests, kind_of_record, left_of, right_numbers, right_of, deleted_of, is_input, outlines_of_resolve}
use Rattle.verdict.specs.State.{State, Window, with_row, with_clause, with_window, with_days_beside, entry, arities, rows_of, row_of, derivations, clause_of, next_clause, record_of_row}
use Rattle.verdict.specs.Step.{stands, refused, Result, step, unify_resolve, unify_factor, new_application, new_literals, enter_resolvent, window_in, read, all_stand, refused_at}
use Rattle.verdict.proofs.Endings.{ending_stands, stands_not_refused}
use Rattle.demands.proofs.Inversions.{AllPass, PassedResolve, PassedWindow, tests_passed, stands_same, named_stands, clause_added, literal_named_lem, literals_named, entry_new}
use Rattle.demands.proofs.RangeTests.{equal}
use Rattle.demands.proofs.Shared.{Shared, step_shared}
use Rattle.demands.proofs.Sources.{Sourced, step_sourced}
use Rattle.trimming.specs.Kept.{Kept}
use Rattle.trimming.specs.Trimming.{kept_below, closed_up, closed_record, Next, next_after, is_window_of, dated_in, is_kept, trimmed_from}
use Rattle.trimmed.proofs.Additions.{symbol_goes, row_goes, clause_goes}
use Rattle.trimmed.proofs.Closed.{KeptClosed}
use Rattle.trimmed.proofs.ClosedFields.{closed_as, right_closed, rights_closed, resolve_range, several_range, factor_range_lem, window_range, second_closed, third_closed}
use Rattle.trimmed.proofs.Grown.{Grown, grown_on, step_grown, read_grown}
use Rattle.trimmed.proofs.Keeping.{below_one}
use Rattle.trimmed.proofs.KeptDeclared.{step_of, all_tests, tests_of_lem, symbol_follows, variable_follows, application_follows, input_follows}
use Rattle.trimmed.proofs.KeptSteps.{clause_there, SameResolve, Resolves, resolves, SameFactor, factors}
use Rattle.trimmed.proofs.Related.{renumbered_window, Trims}

-- The numbers of the next symbol, row and clause of a state.
abbrev pub next_of : State → Next
next_of A = record { symbol = length (arities A); row = length (rows_of A); clause = next_clause A }

module _ {S : State} {K : Kept} (C : KeptClosed S K) {A B : State} {r : Record} {rs : List Record} (H : Shared A) (D : Sourced (derivations A)) (R : Trims S K A B (r ∷ rs)) (seven : length r.fields ≡ 7) (undated : r.days ≡ none) (k j : ℕ) (A' : State) (G : Grown A S) (G' : Grown A' S) where
  abbrev N : Renumbering
  N = closed_up S K

  -- What becomes of a record of a kind: it goes, or it stands beside the kept records.
  pub data Becomes (kind : Kind) : Type 0 where
    goes : is_kept K (next_of A) kind r rs ≡ false → Trims S K A' B rs → next_of A' ≡ next_after (next_of A) kind → Becomes kind
    remains : is_kept K (next_of A) kind r rs ≡ true → (Z : State) → step_of B j kind (closed_as N kind r) ≡ stands Z → Trims S K A' Z rs → next_of A' ≡ next_after (next_of A) kind → Becomes kind

  -- ── Windows ──
  module _ (e : kind_of_record r ≡ windowKind) (p : PassedWindow A r) (q : with_window A (window_in r) ≡ A') where
    dated_here : (n : ℕ) → dated_in (r ∷ rs) n ≡ (eqb (field_a r) n || dated_in rs n)
    dated_here n = ap (λ (kind : Kind). is_window_of n kind r || dated_in rs n) e

    -- Other clauses have the windows that they had.
    others : (n : ℕ) → K.clause n ≡ true → eqb (field_a r) n ≡ false → window_of B.windows (kept_below K.clause n) ≡ renumbered_window S K (pick (dated_in rs n) none (window_of (with_window A (window_in r)).windows n))
    others n h d =
        R.windows n h
        ∙ ap₂ (λ (b : Bool) (o : Option Window). renumbered_window S K (pick b none o)) (dated_here n ∙ ap (λ (b : Bool). b || dated_in rs n) d) (sym (ap (λ (b : Bool). pick b (some (window_in r)) (window_of A.windows n)) d))

    window_goes : (K.clause (field_a r) && not (dated_in rs (field_a r))) ≡ false → Trims S K (with_window A (window_in r)) B rs
    window_goes h = record { symbols = R.symbols; rows = R.rows; clauses = R.clauses; total = R.total; inside = R.inside; windows = λ n i. try n i (eqb (field_a r) n) refl }
      where
        superseded : (c b : Bool) → c ≡ true → (c && not b) ≡ false → b ≡ true
        superseded true true x y = refl
        superseded true false x y = absurd (true_not_false refl y)
        superseded false b x y = absurd (true_not_false x refl)

        try : (n : ℕ) → K.clause n ≡ true → (b : Bool) → eqb (field_a r) n ≡ b → window_of B.windows (kept_below K.clause n) ≡ renumbered_window S K (pick (dated_in rs n) none (window_of (with_window A (window_in r)).windows n))
        try n i true d =
            let m : field_a r ≡ n = equal (field_a r) n d in
            let later : dated_in rs n ≡ true = subst (λ (x : ℕ). dated_in rs x ≡ true) m (superseded (K.clause (field_a r)) (dated_in rs (field_a r)) (ap K.clause m ∙ i) h) in
            R.windows n i ∙ ap (λ (b : Bool). renumbered_window S K (pick b none (window_of A.windows n))) (dated_here n ∙ ap (λ (b : Bool). b || dated_in rs n) d)
            ∙ sym (ap (λ (b : Bool). renumbered_window S K (pick b none (window_of (with_window A (window_in r)).windows n))) later)
        try n i false d = others n i d

    abbrev w' : Window
    w' = window_in (closed_as N windowKind r)

    window_remains : K.clause (field_a r) ≡ true → dated_in rs (field_a r) ≡ false → Trims S K (with_window A (window_in r)) (with_window B w') rs
    window_remains h f = record { symbols = R.symbols; rows = R.rows; clauses = R.clauses; total = R.total; inside = R.inside; windows = λ n i. ap (λ (b : Bool). pick b (some w') (window_of B.windows (kept_below K.clause n))) (numbers_renumbered (kept_below K.clause) (field_a r) n (λ z. below_one K.clause (field_a r) n h i z)) ∙ try n i (eqb (field_a r) n) refl }
      where
        same_window : w' ≡ record { clause = kept_below K.clause (field_a r); first = field_b r; last = field_c r }
        same_window = λ i. record { clause = kept_below K.clause (field_a r); first = second_closed N r seven (kept_below K.clause (field_a r)) i; last = third_closed N r seven (kept_below K.clause (field_a r)) i }

        try : (n : ℕ) → K.clause n ≡ true → (b : Bool) → eqb (field_a r) n ≡ b → pick b (some w') (window_of B.windows (kept_below K.clause n)) ≡ renumbered_window S K (pick (dated_in rs n) none (window_of (with_window A (window_in r)).windows n))
        try n i true d =
            let m : field_a r ≡ n = equal (field_a r) n d in
            ap some same_window
            ∙ sym (ap₂ (λ (b c : Bool). renumbered_window S K (pick b none (pick c (some (window_in r)) (window_of A.windows n)))) (subst (λ (x : ℕ). dated_in rs x ≡ false) m f) d)
        try n i false d = others n i d

    input_there : (d : Derivation) → is_input (some d) ≡ true → is_input (some (renumbered_derivation N d)) ≡ true
    input_there (input number ls) z = refl
    input_there (resolve number l a x ns bs) z = absurd (true_not_false z refl)
    input_there (factor number c a b bs) z = absurd (true_not_false z refl)

    window_tested : K.clause (field_a r) ≡ true → AllPass (tests B windowKind (closed_as N windowKind r))
    window_tested h = (window_range N r seven ∙ p.ranged, (is_input_lem (clause_of A (field_a r)) refl p.there, (ap₂ leb (second_closed N r seven (N.clause (field_a r))) (third_closed N r seven (N.clause (field_a r))) ∙ p.days, tt)))
      where
        is_input_lem : (o : Option Derivation) → clause_of A (field_a r) ≡ o → is_input o ≡ true → is_input (clause_of B (N.clause (field_a r))) ≡ true
        is_input_lem none z i = absurd (true_not_false i refl)
        is_input_lem (some d) z i = ap is_input (clause_there C G H D R (field_a r) d h z) ∙ input_there d i

    window_becomes : (b : Bool) → (K.clause (field_a r) && not (dated_in rs (field_a r))) ≡ b → Becomes windowKind
    window_becomes false h = goes h (subst (λ (X : State). Trims S K X B rs) q (window_goes h)) (ap next_of (sym q))
    window_becomes true h =
        let t = both_true (K.clause (field_a r)) (not (dated_in rs (field_a r))) h in
        remains h (with_window B w') (all_tests B j windowKind (closed_as N windowKind r) (with_window B w') (window_tested t.0) tt refl)
        (subst (λ (X : State). Trims S K X (with_window B w') rs) q (window_remains t.0 (not_true (dated_in rs (field_a r)) t.1))) (ap next_of (sym q))
      where
        not_true : (b : Bool) → not b ≡ true → b ≡ false
        not_true true z = absurd (true_not_false z refl)
        not_true false z = refl

  -- ── Rows and clauses as the whole file leaves them ──
  row_there : (m : ℕ) (w : Row) → with_row A m w ≡ A' → row_of S (length (rows_of A)) ≡ w
  row_there m w q =
      let g : Grown (with_row A m w) S = subst (λ (X : State). Grown X S) (sym q) G' in
      g.rows (length (rows_of A)) (omega arith) ∙ row_new w (rows_of A)

  clause_in_lem : (c : Derivation) (X : State) → derivations X ≡ c ∷ derivations A → X ≡ A' → clause_of S (next_clause A) ≡ some c
  clause_in_lem c X d q = (subst (λ (Y : State). Grown Y S) (sym q) G').clauses (next_clause A) c (ap (λ (ds : List Derivation). entry ds (next_clause A)) d ∙ entry_new c (derivations A))

  -- ── Each kind ──
  module _ (same : (n : ℕ) → dated_in (r ∷ rs) n ≡ dated_in rs n) where
    symbol_becomes : step_of A k symbolKind r ≡ stands A' → (b : Bool) → K.symbol (length (arities A)) ≡ b → Becomes symbolKind
    symbol_becomes q true h =
        let f = symbol_follows C G H R seven k j same A' q h in
        remains h f.next f.steps f.trims (ap next_of (sym (stands_same (tests_of_lem A k symbolKind r A' q).2)))
    symbol_becomes q false h =
        let e = stands_same (tests_of_lem A k symbolKind r A' q).2 in
        goes h (subst (λ (X : State). Trims S K X B rs) e (symbol_goes R same k r.count h)) (ap next_of (sym e))

    variable_becomes : step_of A k variableKind r ≡ stands A' → (b : Bool) → K.row (length (rows_of A)) ≡ b → Becomes variableKind
    variable_becomes q true h =
        let f = variable_follows C G H R seven k j same A' q h in
        remains h f.next f.steps f.trims (ap next_of (sym (stands_same (tests_of_lem A k variableKind r A' q).2)))
    variable_becomes q false h =
        let e = stands_same (tests_of_lem A k variableKind r A' q).2 in
        goes h (subst (λ (X : State). Trims S K X B rs) e (row_goes R same (record_of_row A k (variable (field_a r))) (variable (field_a r)) h)) (ap next_of (sym e))

    application_becomes : step_of A k applicationKind r ≡ stands A' → (b : Bool) → K.row (length (rows_of A)) ≡ b → Becomes applicationKind
    application_becomes q true h =
        let t = tests_of_lem A k applicationKind r A' q in
        let e = stands_same t.2 in
        let f = application_follows C G H R seven k j same h (tests_passed A applicationKind r t.0) (row_there (record_of_row A k (new_application A r)) (new_application A r) e) A' e in
        remains h f.next f.steps f.trims (ap next_of (sym e))
    application_becomes q false h =
        let e = stands_same (tests_of_lem A k applicationKind r A' q).2 in
        goes h (subst (λ (X : State). Trims S K X B rs) e (row_goes R same (record_of_row A k (new_application A r)) (new_application A r) h)) (ap next_of (sym e))

    abbrev entered_input : State
    entered_input = with_days_beside (with_clause A k (input (next_clause A) (new_literals A r))) (next_clause A) r.days

    plain_input : with_clause A k (input (next_clause A) (new_literals A r)) ≡ with_days_beside (with_clause A k (input (next_clause A) (new_literals A r))) (next_clause A) r.days
    plain_input = sym (ap (with_days_beside (with_clause A k (input (next_clause A) (new_literals A r))) (next_clause A)) undated)

    input_becomes : step_of A k inputKind r ≡ stands A' → (b : Bool) → K.clause (next_clause A) ≡ b → Becomes inputKind
    input_becomes q true h =
        let t = tests_of_lem A k inputKind r A' q in
        let e = stands_same t.2 in
        let f = input_follows C G H R seven k j same h (tests_passed A inputKind r t.0) undated (clause_in_lem (input (next_clause A) (new_literals A r)) entered_input refl e) A' e in
        remains h f.next f.steps f.trims (ap next_of (sym e))
    input_becomes q false h =
        let e = stands_same (tests_of_lem A k inputKind r A' q).2 in
        goes h (subst (λ (X : State). Trims S K X B rs) (plain_input ∙ e) (clause_goes R same k (input (next_clause A) (new_literals A r)) h)) (ap next_of (sym e))

    -- A resolve, on one right literal or on several.
    data ResolveBecomes (kind : Kind) : Type 0 where
      resolve_goes : K.clause (next_clause A) ≡ false → Trims S K A' B rs → next_of A' ≡ next_after (next_of A) resolveKind → ResolveBecomes kind
      resolve_remains : (h : K.clause (next_clause A) ≡ true) → Resolves C G H D R same k j h kind (closed_as N kind r) A' → next_of A' ≡ next_after (next_of A) resolveKind → ResolveBecomes kind

    resolve_becomes : (kind : Kind) → ((h : K.clause (next_clause A) ≡ true) → SameResolve C G H D R same k j h kind (closed_as N kind r)) → PassedResolve A kind r → AllPass (outlines_of_resolve A kind r) → enter_resolvent A k kind r ≡ stands A'
        → (b : Bool) → K.clause (next_clause A) ≡ b → ResolveBecomes kind
    resolve_becomes kind E p o q b h =
        let s = named_stands _ (left_of A r) (right_of A kind r) A' q in
        let c = clause_added A k (resolve (next_clause A) s.0.0 (field_b r) s.1.0 (right_numbers kind r)) (unify_resolve A s.0 s.1) A' s.4 in
        let x = literal_named_lem A (field_a r) (field_b r) s.0 s.2 in
        let y = literals_named A (field_c r) (right_numbers kind r) s.1 s.3 in
        try s.0 s.1 c.0 c.1 x.0 x.1 y.0 y.1 c.2 c.3 b h
      where
        try : (x : Derivation × Literal) (y : Derivation × List Literal) (bs : List Binding) (n : ℕ) → clause_of A (field_a r) ≡ some x.0 → numbered (literals x.0) (field_b r) ≡ some x.1 → clause_of A (field_c r) ≡ some y.0 → numbered_all (literals y.0) (right_numbers kind r) ≡ some y.1
            → unify_resolve A x y ≡ unified bs n → with_clause A k (resolve (next_clause A) x.0 (field_b r) y.0 (right_numbers kind r) bs) ≡ A' → (b : Bool) → K.clause (next_clause A) ≡ b → ResolveBecomes kind
        try x y bs n il ln ir rn u e true h =
            let c = resolve (next_clause A) x.0 (field_b r) y.0 (right_numbers kind r) bs in
            resolve_remains h (resolves C G H D R same k j h kind (closed_as N kind r) (E h) p x y bs n il ln ir rn (clause_in_lem c (with_clause A k c) refl e) u A' o e) (ap next_of (sym e))
        try x y bs n il ln ir rn u e false h =
            let c = resolve (next_clause A) x.0 (field_b r) y.0 (right_numbers kind r) bs in
            resolve_goes h (subst (λ (X : State). Trims S K X B rs) e (clause_goes R same k c h)) (ap next_of (sym e))

    one_becomes : step_of A k resolveKind r ≡ stands A' → Becomes resolveKind
    one_becomes q =
        let t = tests_of_lem A k resolveKind r A' q in
        told (resolve_becomes resolveKind (λ h. record { left = refl; left_literal = refl; right = refl; right_literals = right_closed N r seven; range = resolve_range N r seven }) (tests_passed A resolveKind r t.0) t.1 t.2 (K.clause (next_clause A)) refl)
      where
        told : ResolveBecomes resolveKind → Becomes resolveKind
        told (resolve_goes h T n) = goes h T n
        told (resolve_remains h T n) = remains h T.next (all_tests B j resolveKind (closed_as N resolveKind r) T.next T.tested T.outlined T.enters) T.trims n

    several_becomes : step_of A k severalKind r ≡ stands A' → Becomes severalKind
    several_becomes q =
        let t = tests_of_lem A k severalKind r A' q in
        told (resolve_becomes severalKind (λ h. record { left = refl; left_literal = refl; right = refl; right_literals = rights_closed N r seven; range = several_range N r seven }) (tests_passed A severalKind r t.0) t.1 t.2 (K.clause (next_clause A)) refl)
      where
        told : ResolveBecomes severalKind → Becomes severalKind
        told (resolve_goes h T n) = goes h T n
        told (resolve_remains h T n) = remains h T.next (all_tests B j severalKind (closed_as N severalKind r) T.next T.tested T.outlined T.enters) T.trims n

    factor_becomes : step_of A k factorKind r ≡ stands A' → (b : Bool) → K.clause (next_clause A) ≡ b → Becomes factorKind
    factor_becomes q b h =
        let t = tests_of_lem A k factorKind r A' q in
        let s = named_stands _ (left_of A r) (deleted_of A r) A' t.2 in
        let c = clause_added A k (factor (next_clause A) s.0.0 (field_b r) (field_c r)) (unify_factor A s.0 s.1) A' s.4 in
        let x = literal_named_lem A (field_a r) (field_b r) s.0 s.2 in
        let y = literal_named_lem A (field_a r) (field_c r) s.1 s.3 in
        try t.0 t.1 s.0 s.1 c.0 c.1 x.0 x.1 y.0 y.1 c.2 c.3 b h
      where
        try : AllPass (tests A factorKind r) → AllPass (outline_tests A factorKind r) → (x y : Derivation × Literal) (bs : List Binding) (n : ℕ) → clause_of A (field_a r) ≡ some x.0 → numbered (literals x.0) (field_b r) ≡ some x.1 → clause_of A (field_a r) ≡ some y.0 → numbered (literals y.0) (field_c r) ≡ some y.1
            → unify_factor A x y ≡ unified bs n → with_clause A k (factor (next_clause A) x.0 (field_b r) (field_c r) bs) ≡ A' → (b : Bool) → K.clause (next_clause A) ≡ b → Becomes factorKind
        try t o x y bs n ip kn id dn u e true h =
            let c = factor (next_clause A) x.0 (field_b r) (field_c r) bs in
            let E : SameFactor C G H D R same k j h (closed_as N factorKind r) = record { parent = refl; kept = second_closed N r seven (N.clause (field_a r)); deleted = third_closed N r seven (N.clause (field_a r)); factor_range = factor_range_lem N r seven } in
            let f = factors C G H D R same k j h (closed_as N factorKind r) E (tests_passed A factorKind r t) x y bs n ip kn id dn (clause_in_lem c (with_clause A k c) refl e) u A' o e in
            remains h f.factored (all_tests B j factorKind (closed_as N factorKind r) f.factored f.factor_tested f.factor_outlined f.factor_enters) f.factor_trims (ap next_of (sym e))
        try t o x y bs n ip kn id dn u e false h =
            let c = factor (next_clause A) x.0 (field_b r) (field_c r) bs in
            goes h (subst (λ (X : State). Trims S K X B rs) e (clause_goes R same k c h)) (ap next_of (sym e))

  pub becomes : (kind : Kind) → kind_of_record r ≡ kind → step_of A k kind r ≡ stands A' → Becomes kind
  becomes symbolKind e q = symbol_becomes (λ n. ap (λ (x : Kind). is_window_of n x r || dated_in rs n) e) q (K.symbol (length (arities A))) refl
  becomes variableKind e q = variable_becomes (λ n. ap (λ (x : Kind). is_window_of n x r || dated_in rs n) e) q (K.row (length (rows_of A))) refl
  becomes applicationKind e q = application_becomes (λ n. ap (λ (x : Kind). is_window_of n x r || dated_in rs n) e) q (K.row (length (rows_of A))) refl
  becomes inputKind e q = input_becomes (λ n. ap (λ (x : Kind). is_window_of n x r || dated_in rs n) e) q (K.clause (next_clause A)) refl
  becomes resolveKind e q = one_becomes (λ n. ap (λ (x : Kind). is_window_of n x r || dated_in rs n) e) q
  becomes severalKind e q = several_becomes (λ n. ap (λ (x : Kind). is_window_of n x r || dated_in rs n) e) q
  becomes factorKind e q = factor_becomes (λ n. ap (λ (x : Kind). is_window_of n x r || dated_in rs n) e) q (K.clause (next_clause A)) refl
  becomes windowKind e q =
      let t = tests_of_lem A k windowKind r A' q in
      window_becomes e (tests_passed A windowKind r t.0) (stands_same t.2) (K.clause (field_a r) && not (dated_in rs (field_a r))) refl
  becomes otherKind e q = absurd (tests_passed A otherKind r (tests_of_lem A k otherKind r A' q).0)

-- ── All records ──
module _ {S : State} {K : Kept} (C : KeptClosed S K) where
  pub record ReadTo (B : State) (j : ℕ) (rs : List Record) : Type 0 where
    pub final : State
    pub reads : read B j rs ≡ all_stand final
    pub trims : Trims S K S final []

  pub read_trimmed : (rs : List Record) (A B : State) (k j : ℕ) → Shaped rs → HaveDays Old rs → Shared A → Sourced (derivations A) → Trims S K A B rs → read A k rs ≡ all_stand S → ReadTo B j (trimmed_from K (closed_up S K) (next_of A) rs)
  read_trimmed [] A B k j s d H D R q = record { final = B; reads = refl; trims = subst (λ (X : State). Trims S K X B []) (ending_stands q) R }
  read_trimmed (r ∷ rs) A B k j s d H D R q = try (step A k r) refl q (λ U Z i h e R z. read_trimmed rs U Z (suc k) i s.1 d.1 h e R z)
    where
      rest : Next → List Record
      rest n = trimmed_from K (closed_up S K) n rs

      whole : Bool → Next → List Record
      whole b n = pick b (closed_record (closed_up S K) r ∷ rest n) (rest n)

      here : (U : State) → read U (suc k) rs ≡ all_stand S → ((Z : State) (i : ℕ) → Trims S K U Z rs → ReadTo Z i (trimmed_from K (closed_up S K) (next_of U) rs)) → (G : Grown A S) (G' : Grown U S) → Becomes C H D R s.0 d.0 k j U G G' (kind_of_record r)
          → ReadTo B j (trimmed_from K (closed_up S K) (next_of A) (r ∷ rs))
      here U z ih G G' (goes h T n) =
          let a = ih B j T in
          record { final = a.final; reads = ap₂ (λ (b : Bool) (m : Next). read B j (whole b m)) h (sym n) ∙ a.reads; trims = a.trims }
      here U z ih G G' (remains h Z e T n) =
          let a = ih Z (suc j) T in
          record {
            final = a.final;
            reads = ap₂ (λ (b : Bool) (m : Next). read B j (whole b m)) h (sym n) ∙ ap (λ (o : Result). elim o [ stands X ↦ read X (suc j) (rest (next_of U)) | refused x ↦ refused_at B x j ]) e ∙ a.reads;
            trims = a.trims;
          }

      try : (o : Result) → step A k r ≡ o → elim o [ stands U ↦ read U (suc k) rs | refused x ↦ refused_at A x k ] ≡ all_stand S
          → ((U Z : State) (i : ℕ) → Shared U → Sourced (derivations U) → Trims S K U Z rs → read U (suc k) rs ≡ all_stand S → ReadTo Z i (trimmed_from K (closed_up S K) (next_of U) rs)) → ReadTo B j (trimmed_from K (closed_up S K) (next_of A) (r ∷ rs))
      try (stands U) e z ih =
          let G' = read_grown rs U (suc k) S z in
          let G = grown_on A U S (step_grown A k r U e) G' in
          let h = step_shared A k r U H e in
          let f = step_sourced A k r U s.0 e D in
          here U z (λ Z i T. ih U Z i h f T z) G G' (becomes C H D R s.0 d.0 k j U G G' (kind_of_record r) refl e)
      try (refused x) e z ih = absurd (stands_not_refused (sym z))
