-- Document 02, Q-1: outlines change no step that stood, and of those refused only 11, 12 and 13 with outlines that clash.
use mathlib.Core.Path.{◌≡◌, refl, sym, ap, ◌∙◌, subst}
use mathlib.Core.Logic.{◌⊎◌, inl, inr}
use mathlib.Core.Bool.{Bool, true, false, not}
use mathlib.Core.Option.{Option, some}
use mathlib.Core.List.{List, [], ◌∷◌}
use Prim.Native.Nat.{ℕ, ◌≤◌, ◌<◌}
use native.Mathlib.Omega.{arith}
use borrow.Author.Tests.{not-false}
use Rattle.record.specs.Record.{Record, otherKind, Kind, symbolKind, variableKind, applicationKind, inputKind, resolveKind, factorKind, severalKind, windowKind, field_b, field_c}
use Rattle.unification.specs.Environment.{Binding, Environment}
use Rattle.unification.specs.Outlines.{outlines_clash}
use Rattle.unification.specs.Unification.{most_work, most_links, endless, Failure, clash, occurs, overwork, full, failure_number, unify, unified, Pair, no_room}
use Rattle.unification.proofs.Outlines.{found_or_spent_lem}
use Rattle.unification.proofs.UnifiedOutlines.{ClashAmong, clash_here, clash_later, clash_not_unified}
use Rattle.unification.proofs.Tests.{true_not_false}
use Rattle.derivation.specs.Derivation.{Literal, resolve, factor, pairs_with, maximum_index, joined, lookup}
use Rattle.demands.specs.Conditions.{OneOf, OutlinesClash, precedence}
use Rattle.demands.specs.Outlines.{OutlinesBeforeUnification}
use Rattle.verdict.specs.Refusal.{tests, outline_tests, outlines_of_resolve, outlines_agree, on_both, Reason, unification, reason_number, kind_of_record, left_of, right_numbers, right_of, deleted_of}
use Rattle.verdict.specs.State.{State, row_of, next_clause}
use Rattle.verdict.specs.Step.{stands, refused, require_all, step, step_without_outlines, atoms, unify_resolve, unify_factor, enter_resolvent, enter}
use Rattle.demands.proofs.Inversions.{FirstFailing, AllPass, all_stand_lem, all_refused, all_passed, named_stands, clause_added, tests_passed}
use Rattle.demands.proofs.RangeTests.{either_false}
use Rattle.demands.proofs.Refusals.{tests_rising, rising_first, first_refused_lem, pass_or_fail, by_unification, by_outlines_lem, outlines_clash_lem, outlines_fail}

-- ── What stood ──
module _ (S : State) where
  agreeing : {A B : Type 0} (test : A → B → Bool) (o : Option A) (p : Option B) (x : A) (y : B) → o ≡ some x → p ≡ some y → ¬ (test x y ≡ false) → on_both test o p ≡ true
  agreeing test o p x y e f n = rw (e, f) (try (test x y) refl)
    where
      try : (b : Bool) → test x y ≡ b → b ≡ true
      try true q = refl
      try false q = absurd (n q)

  -- Outlines that do not agree: a pair among those that unification takes up clashes.
  clash_among : (m : ℕ) (l : Literal) (ms : List Literal) → outlines_agree (row_of S) l ms ≡ false → ClashAmong (row_of S) (pairs_with m l.1 (atoms ms))
  clash_among m l [] z = absurd (true_not_false refl z)
  clash_among m l (n ∷ ms) z = try (either_false (not (outlines_clash (row_of S) l.1.0 n.1.0)) (outlines_agree (row_of S) l ms) z) (λ w. clash_among m l ms w)
    where
      try : (not (outlines_clash (row_of S) l.1.0 n.1.0) ≡ false) ⊎ (outlines_agree (row_of S) l ms ≡ false) → (outlines_agree (row_of S) l ms ≡ false → ClashAmong (row_of S) (pairs_with m l.1 (atoms ms))) → ClashAmong (row_of S) (pairs_with m l.1 (atoms (n ∷ ms)))
      try (inl w) h = clash_here (not-false _ w)
      try (inr w) h = clash_later (h w)

  unified_agree : (ρ : Environment) (ps : List Pair) → ClashAmong (row_of S) ps → (bs : List Binding) (m : ℕ) → ¬ (unify (row_of S) S.total ρ ps ≡ unified bs m)
  unified_agree ρ ps h bs m u = clash_not_unified (row_of S) most_links (no_room S.total) ρ most_work [] ps h bs m u

  resolvent_agrees : (k : ℕ) (r : Record) (T : State) (kind : Kind) → enter_resolvent S k kind r ≡ stands T → AllPass (outlines_of_resolve S kind r)
  resolvent_agrees k r T kind q =
      let s = named_stands _ (left_of S r) (right_of S kind r) T q in
      let c = clause_added S k (resolve (next_clause S) s.0.0 (field_b r) s.1.0 (right_numbers kind r)) (unify_resolve S s.0 s.1) T s.4 in (
        agreeing (λ x y. outlines_agree (row_of S) x.1 y.1) (left_of S r) (right_of S kind r) s.0 s.1 s.2 s.3
            (λ z. unified_agree (joined (maximum_index s.0.0) (lookup s.0.0) (lookup s.1.0)) (pairs_with (maximum_index s.0.0) s.0.1.1 (atoms s.1.1)) (clash_among (maximum_index s.0.0) s.0.1 s.1.1 z) c.0 c.1 c.2),
        tt,
      )

  one_clash : (l m : Literal) → outlines_agree (row_of S) l (m ∷ []) ≡ false → ClashAmong (row_of S) ((l.1, m.1) ∷ [])
  one_clash l m z = try (either_false (not (outlines_clash (row_of S) l.1.0 m.1.0)) true z)
    where
      try : (not (outlines_clash (row_of S) l.1.0 m.1.0) ≡ false) ⊎ (true ≡ false) → ClashAmong (row_of S) ((l.1, m.1) ∷ [])
      try (inl w) = clash_here (not-false _ w)
      try (inr w) = absurd (true_not_false refl w)

  entered_agrees : (k : ℕ) (r : Record) (T : State) (kind : Kind) → enter S k kind r ≡ stands T → AllPass (outline_tests S kind r)
  entered_agrees k r T symbolKind q = tt
  entered_agrees k r T variableKind q = tt
  entered_agrees k r T applicationKind q = tt
  entered_agrees k r T inputKind q = tt
  entered_agrees k r T resolveKind q = resolvent_agrees k r T resolveKind q
  entered_agrees k r T severalKind q = resolvent_agrees k r T severalKind q
  entered_agrees k r T factorKind q =
      let s = named_stands _ (left_of S r) (deleted_of S r) T q in
      let c = clause_added S k (factor (next_clause S) s.0.0 (field_b r) (field_c r)) (unify_factor S s.0 s.1) T s.4 in (
        agreeing (λ x y. outlines_agree (row_of S) x.1 (y.1 ∷ [])) (left_of S r) (deleted_of S r) s.0 s.1 s.2 s.3
            (λ z. unified_agree (lookup s.0.0) ((s.0.1.1, s.1.1.1) ∷ []) (one_clash s.0.1 s.1.1 z) c.0 c.1 c.2),
        tt,
      )
  entered_agrees k r T windowKind q = tt
  entered_agrees k r T otherKind q = tt

  stood_stands_lem : (T : State) (k : ℕ) (r : Record) → step_without_outlines S k r ≡ stands T → step S k r ≡ stands T
  stood_stands_lem T k r q =
      let a = all_stand_lem (tests S (kind_of_record r) r) (enter S k (kind_of_record r) r) T q in
      all_passed (tests S (kind_of_record r) r) _ a.0 ∙ all_passed (outline_tests S (kind_of_record r) r) (enter S k (kind_of_record r) r) (entered_agrees k r T (kind_of_record r) a.1) ∙ a.1

-- ── What was refused ──
abbrev late : List ℕ
late = 11 ∷ 12 ∷ 13 ∷ []

-- A failure of unification is a clash, or its number is 11, 12 or 13.
clash_or_late : (f : Failure) → ¬ (f ≡ endless) → (f ≡ clash) ⊎ OneOf (failure_number f) late
clash_or_late clash n = inl refl
clash_or_late occurs n = inr (inl refl)
clash_or_late overwork n = inr (inr (inl refl))
clash_or_late full n = inr (inr (inr (inl refl)))
clash_or_late endless n = absurd (n refl)

late_over : (n : ℕ) → OneOf n late → 11 ≤ precedence n
late_over n (inl e) = let w : precedence n ≡ 11 = ap precedence e in omega arith
late_over n (inr (inl e)) = let w : precedence n ≡ 12 = ap precedence e in omega arith
late_over n (inr (inr (inl e))) = let w : precedence n ≡ 13 = ap precedence e in omega arith
late_over n (inr (inr (inr e))) = absurd e

module _ (S : State) (k : ℕ) (r : Record) (reason : Reason) (q : step_without_outlines S k r ≡ refused reason) where
  abbrev kind : Kind
  kind = kind_of_record r

  refused_alike_lem : 0 < reason_number reason → ¬ (OneOf (reason_number reason) late × OutlinesClash S r) → step S k r ≡ refused reason
  refused_alike_lem positive n = try (all_refused (tests S kind r) (enter S k kind r) reason q)
    where
      failing : (f : Failure) → unification f ≡ reason → OutlinesClash S r → (f ≡ clash) ⊎ OneOf (failure_number f) late → unification clash ≡ reason
      failing f e c (inl z) = ap unification (sym z) ∙ e
      failing f e c (inr m) = absurd (n (subst (λ (p : Reason). OneOf (reason_number p) late) e m, c))

      ends : (f : Failure) → unification f ≡ reason → ¬ (f ≡ endless)
      ends f e z = let a : reason_number (unification f) ≡ reason_number reason = ap reason_number e in let b : failure_number f ≡ 0 = ap failure_number z in omega arith

      compared : AllPass (tests S kind r) → enter S k kind r ≡ refused reason → AllPass (outline_tests S kind r) ⊎ ((p : Reason) × FirstFailing (outline_tests S kind r) p) → require_all (outline_tests S kind r) (enter S k kind r) ≡ refused reason
      compared a z (inl b) = all_passed (outline_tests S kind r) (enter S k kind r) b ∙ z
      compared a z (inr h) =
          let passed = tests_passed S kind r a in
          let o = by_outlines_lem k S r kind h.0 refl passed h.1 in
          let u = by_unification k S r kind reason refl passed z in
          first_refused_lem (outline_tests S kind r) (enter S k kind r) h.0 h.1 ∙ ap refused (sym o.0 ∙ failing u.0 u.1 (outlines_clash_lem k S r o.1) (clash_or_late u.0 (ends u.0 u.1)))

      try : FirstFailing (tests S kind r) reason ⊎ (AllPass (tests S kind r) × (enter S k kind r ≡ refused reason)) → step S k r ≡ refused reason
      try (inl f) = first_refused_lem (tests S kind r) _ reason f
      try (inr a) = all_passed (tests S kind r) _ a.0 ∙ compared a.0 a.1 (pass_or_fail (outline_tests S kind r))

  clash_first_lem : OneOf (reason_number reason) late → OutlinesClash S r → (now : Reason) × (step S k r ≡ refused now) × (reason_number now ≡ 10)
  clash_first_lem m c = try (all_refused (tests S kind r) (enter S k kind r) reason q)
    where
      try : FirstFailing (tests S kind r) reason ⊎ (AllPass (tests S kind r) × (enter S k kind r ≡ refused reason)) → (now : Reason) × (step S k r ≡ refused now) × (reason_number now ≡ 10)
      try (inl f) =
          let a = (rising_first 3 (tests S kind r) reason (tests_rising S kind r) f).1 in
          let b = late_over (reason_number reason) m in
          absurd (omega arith)
      try (inr a) =
          let f = outlines_fail k S r c in
          (unification clash, all_passed (tests S kind r) _ a.0 ∙ first_refused_lem (outline_tests S kind r) (enter S k kind r) (unification clash) f, refl)

pub outlines_shown : OutlinesBeforeUnification
outlines_shown = record {
  stood_stands = λ S T k r q. stood_stands_lem S T k r q;
  refused_alike = λ S k r reason q l n. refused_alike_lem S k r reason q l n;
  clash_first = λ S k r reason q m c. clash_first_lem S k r reason q m c;
  found_or_spent = λ S r q path c. found_or_spent_lem (row_of S) r q path c;
}
