-- A record is refused exactly where the condition stated for a number holds, and with the lowest such number.
use mathlib.Core.Path.{◌≡◌, refl, sym, ap, ap₂, ◌∙◌, subst, subst₂}
use mathlib.Core.Logic.{◌⊎◌, inl, inr}
use mathlib.Core.Bool.{Bool, true, false, not}
use mathlib.Core.Option.{Option, some}
use mathlib.Core.List.{List, [], ◌∷◌}
use Prim.Native.Nat.{ℕ, ◌+◌, ◌≤◌, ◌<◌}
use native.Mathlib.Omega.{arith}
use lib.Dec.{eqb, leb, eqb→eq}
use lib.ListN.{length}
use borrow.Author.Tests.{not-false}
use Rattle.record.specs.Record.{pick, File, Record, otherKind, Kind, symbolKind, variableKind, applicationKind, inputKind, resolveKind, factorKind, severalKind, windowKind, field_b, field_c}
use Rattle.unification.specs.Environment.{Binding, Environment}
use Rattle.unification.specs.Failing.{Failing}
use Rattle.unification.specs.Outlines.{outlines_clash}
use Rattle.unification.specs.Unification.{most_work, most_links, endless, Failure, clash, occurs, overwork, full, failure_number, Outcome, failed, Pair, unifying, no_room}
use Rattle.unification.specs.Unifier.{TermPair, NoUnifier}
use Rattle.unification.proofs.Failures.{fails, failing_fails}
use Rattle.unification.proofs.Limits.{bindings_8192, work_16384}
use Rattle.unification.proofs.Outlines.{clash_found, found_clash}
use Rattle.unification.proofs.Tests.{to_t, both_true, true_not_false, some_injective}
use Rattle.derivation.specs.Derivation.{Literal, Derivation, resolve, factor, pairs_with, maximum_index, joined, lookup}
use Rattle.derivation.proofs.Validity.{signed}
use Rattle.demands.specs.Conditions.{OneOf, RightLiterals, of_one, of_some, Resolves, OutlinesClash, resolve_outlines, factor_outlines, Fails, StepFails, resolve_fails, factor_fails, Condition, unknown_kind, outside_range, nothing_there, falling_literals, crossing_days, variable_as_literal, unfit_signs, large_result, clashing_outlines, clashing, occurring, overworking, overfull, precedence}
use Rattle.demands.specs.Demands.{Reached, atom_of, StepAtoms, resolve_atoms, factor_atoms}
use Rattle.verdict.specs.Refusal.{tests, resolve_tests, outline_tests, outlines_of_resolve, outlines_agree, on_both, Reason, unification, reason_number, kind_of_record, in_range, left_of, right_numbers, right_of, deleted_of}
use Rattle.verdict.specs.State.{State, row_of, next_clause}
use Rattle.verdict.specs.Step.{stands, refused, Result, require, require_all, step, add_clause, atoms, unify_resolve, unify_factor, enter_resolvent, enter}
use Rattle.demands.proofs.RangeTests.{not_true, either_false, of_kind_lem, kind_at, other_kind, range_over, out_of_range, IsResolve, on_one, on_several}
use Rattle.demands.proofs.ExistenceTests.{arguments_absent, literal_rows_absent, resolve_absent, factor_absent, window_absent, not_there}
use Rattle.demands.proofs.StepTests.{literal_on_variable, on_variable_fails, not_rising, rising_fails, days_cross, beside_cross, days_fail, kind_of_resolve, resolves_left, factors_kept, factors_deleted, resolves, factors, both_named, resolve_signs, factor_signs_lem, signs_fail, resolvent_over, factor_over, result_fails}
use Rattle.demands.proofs.Inversions.{FirstFailing, fails_here, passes_here, AllPass, all_refused, all_passed, clause_refused, never_both, refused_injective, PassedResolve, Passed, tests_passed, test_for}
use Rattle.demands.proofs.Reading.{reached_seven, reached_ok}
use Rattle.demands.proofs.Resolution.{at_kind, enter_resolve, enter_factor, resolve_pairs, resolve_no_unifier, factor_no_unifier, resolve_outlines_apart, factor_outlines_apart, resolve_not_endless, factor_not_endless}
use Rattle.demands.proofs.Steps.{signs_resolve, signs_factor}

-- Tests come in the order in which reasons are given, from m on, and before 10.
abbrev place : Reason → ℕ
place q = precedence (reason_number q)

abbrev pub Rising : ℕ → List (Bool × Reason) → Type 0
Rising m [] = Unit {0}
Rising m (t ∷ ts) = (m ≤ precedence (reason_number t.1)) × (precedence (reason_number t.1) < 10) × Rising (precedence (reason_number t.1)) ts

pub tests_rising : (S : State) (kind : Kind) (r : Record) → Rising 3 (tests S kind r)
tests_rising S symbolKind r = (omega arith, omega arith, tt)
tests_rising S variableKind r = (omega arith, omega arith, tt)
tests_rising S applicationKind r = (omega arith, omega arith, (omega arith, omega arith, tt))
tests_rising S inputKind r = (omega arith, omega arith, (omega arith, omega arith, (omega arith, omega arith, (omega arith, omega arith, tt))))
tests_rising S resolveKind r = (omega arith, omega arith, (omega arith, omega arith, (omega arith, omega arith, (omega arith, omega arith, (omega arith, omega arith, tt)))))
tests_rising S severalKind r = (omega arith, omega arith, (omega arith, omega arith, (omega arith, omega arith, (omega arith, omega arith, (omega arith, omega arith, tt)))))
tests_rising S factorKind r = (omega arith, omega arith, (omega arith, omega arith, (omega arith, omega arith, (omega arith, omega arith, tt))))
tests_rising S windowKind r = (omega arith, omega arith, (omega arith, omega arith, (omega arith, omega arith, tt)))
tests_rising S otherKind r = (omega arith, omega arith, tt)

pub rising_first : (m : ℕ) (ts : List (Bool × Reason)) (q : Reason) → Rising m ts → FirstFailing ts q → (m ≤ precedence (reason_number q)) × (precedence (reason_number q) < 10)
rising_first m ts q h (fails_here p) = (h.0, h.1)
rising_first m ts q h (passes_here {t} {ts = us} p f) = let z = rising_first (place t.1) us q h.2 f in let y = h.0 in (omega arith, z.1)

-- A test that fails: the first that does comes no later.
first_failing : (m : ℕ) (ts : List (Bool × Reason)) (n : ℕ) → Rising m ts → test_for ts n ≡ false → (q : Reason) × FirstFailing ts q × (m ≤ precedence (reason_number q)) × (precedence (reason_number q) ≤ precedence n)
first_failing m [] n h e = absurd (true_not_false refl e)
first_failing m (t ∷ ts) n h e = try t.0 refl (eqb (reason_number t.1) n) refl e (λ z. first_failing (place t.1) ts n h.2 z)
  where
    Later : Type 0
    Later = (q : Reason) × FirstFailing ts q × (place t.1 ≤ place q) × (place q ≤ precedence n)

    at : eqb (reason_number t.1) n ≡ true → place t.1 ≡ precedence n
    at p = ap precedence (eqb→eq (reason_number t.1) n (to_t (eqb (reason_number t.1) n) p))

    try : (b : Bool) → t.0 ≡ b → (c : Bool) → eqb (reason_number t.1) n ≡ c → pick c t.0 (test_for ts n) ≡ false → (test_for ts n ≡ false → Later) → (q : Reason) × FirstFailing (t ∷ ts) q × (m ≤ place q) × (place q ≤ precedence n)
    try true p true c z k = absurd (true_not_false p z)
    try true p false c z k = let l = k z in (l.0, passes_here p l.1, let a = h.0 in let b = l.2 in omega arith, l.3)
    try false p true c z k = (t.1, fails_here p, h.0, let a = at c in omega arith)
    try false p false c z k = let l = k z in (t.1, fails_here p, h.0, let a = l.2 in let b = l.3 in omega arith)

pub first_refused_lem : (ts : List (Bool × Reason)) (next : Result) (q : Reason) → FirstFailing ts q → require_all ts next ≡ refused q
unfolding require
first_refused_lem ts next q (fails_here {t} {ts = us} p) = ap (λ (b : Bool). require b t.1 (require_all us next)) p
first_refused_lem ts next q (passes_here {t} {ts = us} p f) = ap (λ (b : Bool). require b t.1 (require_all us next)) p ∙ first_refused_lem us next q f

pub pass_or_fail : (ts : List (Bool × Reason)) → AllPass ts ⊎ ((q : Reason) × FirstFailing ts q)
pass_or_fail [] = inl tt
pass_or_fail (t ∷ ts) = try t.0 refl (pass_or_fail ts)
  where
    try : (b : Bool) → t.0 ≡ b → AllPass ts ⊎ ((q : Reason) × FirstFailing ts q) → AllPass (t ∷ ts) ⊎ ((q : Reason) × FirstFailing (t ∷ ts) q)
    try true p (inl a) = inl (p, a)
    try true p (inr f) = inr (f.0, passes_here p f.1)
    try false p h = inr (t.1, fails_here p)

no_test_fails : {q : Reason} → ¬ FirstFailing [] q
no_test_fails {q} f = try [] q f refl
  where
    nothing : {t : Bool × Reason} {us : List (Bool × Reason)} → ¬ (◌≡◌ {A = List (Bool × Reason)} (t ∷ us) [])
    nothing e = let z : ◌≡◌ {A = ℕ} 0 1 = cc in omega arith

    try : (ts : List (Bool × Reason)) (q : Reason) → FirstFailing ts q → ¬ (ts ≡ [])
    try ts q (fails_here p) e = nothing e
    try ts q (passes_here p g) e = nothing e

named_fails : {A B : Type 0} (test : A → B → Bool) (o : Option A) (p : Option B) (x : A) (y : B) → o ≡ some x → p ≡ some y → on_both test o p ≡ false → test x y ≡ false
named_fails test o p x y e f z = rw (e, f) at z

only_test_fails : {t : Bool × Reason} {q : Reason} → FirstFailing (t ∷ []) q → (t.0 ≡ false) × (t.1 ≡ q)
only_test_fails (fails_here p) = (p, refl)
only_test_fails (passes_here p f) = absurd (no_test_fails f)

stands_refused : {S : State} {q : Reason} → stands S ≡ refused q → ⊥
stands_refused p = never_both (stands _) refl p

-- The limits by their numbers.
stated : (S : State) (ρ : Environment) (pairs : List Pair) (f : Failure) → Failing (row_of S) most_links (no_room S.total) ρ most_work (unifying [] pairs) f → Fails S ρ pairs f
stated S ρ pairs f h = subst₂ (λ (b w : ℕ). Failing (row_of S) most_links (λ bs. leb b (S.total + length bs)) ρ w (unifying [] pairs) f) bindings_8192 work_16384 h

unstated : (S : State) (ρ : Environment) (pairs : List Pair) (f : Failure) → Fails S ρ pairs f → Failing (row_of S) most_links (no_room S.total) ρ most_work (unifying [] pairs) f
unstated S ρ pairs f h = subst₂ (λ (b w : ℕ). Failing (row_of S) most_links (λ bs. leb b (S.total + length bs)) ρ w (unifying [] pairs) f) (sym bindings_8192) (sym work_16384) h

module _ (k : ℕ) (S : State) (r : Record) where
  -- ── A refusal by unification ──
  pub data ByUnification (f : Failure) : Type 0 where
    resolving : {kind : Kind} {x : Derivation × Literal} {y : Derivation × List Literal} → IsResolve kind → kind_of_record r ≡ kind → left_of S r ≡ some x → right_of S kind r ≡ some y → y.1 ≡ signed (not x.1.0) (atoms y.1) → unify_resolve S x y ≡ failed f → ByUnification f
    factoring : {x y : Derivation × Literal} → kind_of_record r ≡ factorKind → left_of S r ≡ some x → deleted_of S r ≡ some y → y.1.0 ≡ x.1.0 → unify_factor S x y ≡ failed f → ByUnification f

  resolve_refused : (kind : Kind) → IsResolve kind → (q : Reason) → kind_of_record r ≡ kind → PassedResolve S kind r → enter_resolvent S k kind r ≡ refused q → (f : Failure) × (unification f ≡ q) × ByUnification f
  resolve_refused kind i q e a z =
      let n = both_named S r (left_of S r) (right_of S kind r) a.there in
      let c = clause_refused S k (resolve (next_clause S) n.0.0 (field_b r) n.1.0 (right_numbers kind r)) (unify_resolve S n.0 n.1) q (sym (enter_resolve S k r kind n.0 n.1 n.2 n.3) ∙ z) in
      (c.0, c.2, resolving i e n.2 n.3 (signs_resolve S kind r n.0 n.1 n.2 n.3 a.signs) c.1)

  pub by_unification : (kind : Kind) (q : Reason) → kind_of_record r ≡ kind → Passed S kind r → enter S k kind r ≡ refused q → (f : Failure) × (unification f ≡ q) × ByUnification f
  by_unification symbolKind q e a z = absurd (stands_refused z)
  by_unification variableKind q e a z = absurd (stands_refused z)
  by_unification applicationKind q e a z = absurd (stands_refused z)
  by_unification inputKind q e a z = absurd (stands_refused z)
  by_unification resolveKind q e a z = resolve_refused resolveKind on_one q e a z
  by_unification severalKind q e a z = resolve_refused severalKind on_several q e a z
  by_unification factorKind q e a z =
      let n = both_named S r (left_of S r) (deleted_of S r) a.there in
      let c = clause_refused S k (factor (next_clause S) n.0.0 (field_b r) (field_c r)) (unify_factor S n.0 n.1) q (sym (enter_factor S k r n.0 n.1 n.2 n.3) ∙ z) in
      (c.0, c.2, factoring e n.2 n.3 (signs_factor S r n.0 n.1 n.2 n.3 a.signs).0 c.1)
  by_unification windowKind q e a z = absurd (stands_refused z)
  by_unification otherKind q e a z = absurd a

  -- ── A refusal by outlines ──
  pub data ByOutlines : Type 0 where
    resolve_apart : {kind : Kind} {x : Derivation × Literal} {y : Derivation × List Literal} → IsResolve kind → kind_of_record r ≡ kind → left_of S r ≡ some x → right_of S kind r ≡ some y → outlines_agree (row_of S) x.1 y.1 ≡ false → ByOutlines
    factor_apart : {x y : Derivation × Literal} → kind_of_record r ≡ factorKind → left_of S r ≡ some x → deleted_of S r ≡ some y → outlines_agree (row_of S) x.1 (y.1 ∷ []) ≡ false → ByOutlines

  resolve_apart_lem : (kind : Kind) → IsResolve kind → (q : Reason) → kind_of_record r ≡ kind → PassedResolve S kind r → FirstFailing (outlines_of_resolve S kind r) q → (unification clash ≡ q) × ByOutlines
  resolve_apart_lem kind i q e a f =
      let n = both_named S r (left_of S r) (right_of S kind r) a.there in
      let o = only_test_fails f in
      (o.1, resolve_apart i e n.2 n.3 (named_fails (λ x y. outlines_agree (row_of S) x.1 y.1) (left_of S r) (right_of S kind r) n.0 n.1 n.2 n.3 o.0))

  pub by_outlines_lem : (kind : Kind) (q : Reason) → kind_of_record r ≡ kind → Passed S kind r → FirstFailing (outline_tests S kind r) q → (unification clash ≡ q) × ByOutlines
  by_outlines_lem symbolKind q e a f = absurd (no_test_fails f)
  by_outlines_lem variableKind q e a f = absurd (no_test_fails f)
  by_outlines_lem applicationKind q e a f = absurd (no_test_fails f)
  by_outlines_lem inputKind q e a f = absurd (no_test_fails f)
  by_outlines_lem resolveKind q e a f = resolve_apart_lem resolveKind on_one q e a f
  by_outlines_lem severalKind q e a f = resolve_apart_lem severalKind on_several q e a f
  by_outlines_lem factorKind q e a f =
      let n = both_named S r (left_of S r) (deleted_of S r) a.there in
      let o = only_test_fails f in
      (o.1, factor_apart e n.2 n.3 (named_fails (λ x y. outlines_agree (row_of S) x.1 (y.1 ∷ [])) (left_of S r) (deleted_of S r) n.0 n.1 n.2 n.3 o.0))
  by_outlines_lem windowKind q e a f = absurd (no_test_fails f)
  by_outlines_lem otherKind q e a f = absurd a

  -- Among the right literals there is one whose outline clashes with the left one's; and with such a one the test fails.
  one_clashing : (l : Literal) (ms : List Literal) → outlines_agree (row_of S) l ms ≡ false → (m : Literal) × OneOf m ms × (outlines_clash (row_of S) l.1.0 m.1.0 ≡ true)
  one_clashing l [] z = absurd (true_not_false refl z)
  one_clashing l (m ∷ ms) z = try (either_false (not (outlines_clash (row_of S) l.1.0 m.1.0)) (outlines_agree (row_of S) l ms) z) (λ w. one_clashing l ms w)
    where
      try : (not (outlines_clash (row_of S) l.1.0 m.1.0) ≡ false) ⊎ (outlines_agree (row_of S) l ms ≡ false) → (outlines_agree (row_of S) l ms ≡ false → (n : Literal) × OneOf n ms × (outlines_clash (row_of S) l.1.0 n.1.0 ≡ true))
          → (n : Literal) × OneOf n (m ∷ ms) × (outlines_clash (row_of S) l.1.0 n.1.0 ≡ true)
      try (inl w) h = (m, inl refl, not-false _ w)
      try (inr w) h = let z = h w in (z.0, inr z.1, z.2)

  not_agreeing : (l : Literal) (ms : List Literal) (m : Literal) → OneOf m ms → outlines_clash (row_of S) l.1.0 m.1.0 ≡ true → outlines_agree (row_of S) l ms ≡ true → ⊥
  not_agreeing l [] m o z q = o
  not_agreeing l (n ∷ ms) m (inl e) z q =
      true_not_false (both_true (not (outlines_clash (row_of S) l.1.0 n.1.0)) (outlines_agree (row_of S) l ms) q).0 (ap not (ap (λ (x : Literal). outlines_clash (row_of S) l.1.0 x.1.0) (sym e) ∙ z))
  not_agreeing l (n ∷ ms) m (inr o) z q = not_agreeing l ms m o z (both_true (not (outlines_clash (row_of S) l.1.0 n.1.0)) (outlines_agree (row_of S) l ms) q).1

  pub outlines_clash_lem : ByOutlines → OutlinesClash S r
  outlines_clash_lem (resolve_apart {kind} {x} {y} i e p q z) = let w = one_clashing x.1 y.1 z in resolve_outlines (resolves S r kind i x y e p q) w.0 w.1 (clash_found (row_of S) x.1.1.0 w.0.1.0 w.2)
  outlines_clash_lem (factor_apart {x} {y} e p q z) = let w = one_clashing x.1 (y.1 ∷ []) z in factor_outlines (factors S r x y e p q) (clash_found (row_of S) x.1.1.0 y.1.1.0 (same_one w.0 w.1 w.2))
    where
      same_one : (m : Literal) → OneOf m (y.1 ∷ []) → outlines_clash (row_of S) x.1.1.0 m.1.0 ≡ true → outlines_clash (row_of S) x.1.1.0 y.1.1.0 ≡ true
      same_one m (inl e) z = ap (λ (n : Literal). outlines_clash (row_of S) x.1.1.0 n.1.0) (sym e) ∙ z
      same_one m (inr o) z = absurd o

  -- How a record comes to be refused: by its first failing test, by its outlines, or by unification.
  pub data RefusedBy (q : Reason) : Type 0 where
    by_test : FirstFailing (tests S (kind_of_record r) r) q → RefusedBy q
    by_outlines : unification clash ≡ q → ByOutlines → RefusedBy q
    by_failure : {f : Failure} → unification f ≡ q → ByUnification f → RefusedBy q

  pub refused_by_lem : (q : Reason) → step S k r ≡ refused q → RefusedBy q
  refused_by_lem q z = try (all_refused (tests S (kind_of_record r) r) (require_all (outline_tests S (kind_of_record r) r) (enter S k (kind_of_record r) r)) q z)
    where
      passed : Passed S (kind_of_record r) r → FirstFailing (outline_tests S (kind_of_record r) r) q ⊎ (AllPass (outline_tests S (kind_of_record r) r) × (enter S k (kind_of_record r) r ≡ refused q)) → RefusedBy q
      passed a (inl f) = let b = by_outlines_lem (kind_of_record r) q refl a f in by_outlines b.0 b.1
      passed a (inr e) = let b = by_unification (kind_of_record r) q refl a e.1 in by_failure b.1 b.2

      try : FirstFailing (tests S (kind_of_record r) r) q ⊎ (AllPass (tests S (kind_of_record r) r) × (require_all (outline_tests S (kind_of_record r) r) (enter S k (kind_of_record r) r) ≡ refused q)) → RefusedBy q
      try (inl f) = by_test f
      try (inr a) = passed (tests_passed S (kind_of_record r) r a.0) (all_refused (outline_tests S (kind_of_record r) r) (enter S k (kind_of_record r) r) q a.1)

  -- ── A condition that holds: the record is refused with its number, or with one that is given before it ──
  abbrev pub RefusedUpTo : ℕ → Type 0
  RefusedUpTo n = (q : Reason) × (step S k r ≡ refused q) × (precedence (reason_number q) ≤ precedence n)

  test_refuses : (n : ℕ) → test_for (tests S (kind_of_record r) r) n ≡ false → RefusedUpTo n
  test_refuses n e =
      let z = first_failing 3 (tests S (kind_of_record r) r) n (tests_rising S (kind_of_record r) r) e in
      (z.0, first_refused_lem (tests S (kind_of_record r) r) (require_all (outline_tests S (kind_of_record r) r) (enter S k (kind_of_record r) r)) z.0 z.1, z.3)

  two_refuse : (m n : ℕ) → precedence m ≤ precedence n → (test_for (tests S (kind_of_record r) r) m ≡ false) ⊎ (test_for (tests S (kind_of_record r) r) n ≡ false) → RefusedUpTo n
  two_refuse m n l (inl e) = let z = test_refuses m e in (z.0, z.1, let a = z.2 in omega arith)
  two_refuse m n l (inr e) = test_refuses n e

  enter_refused : (S : State) (k : ℕ) (clause : List Binding → Derivation) (f : Failure) → add_clause S k clause (failed f) ≡ refused (unification f)
  unfolding add_clause
  enter_refused S k clause f = refl

  -- Once the tests are passed a record is refused; or a test refuses it before.
  tests_or : (n : ℕ) → 10 ≤ precedence n → (kind : Kind) → kind_of_record r ≡ kind → ((q : Reason) × (require_all (outline_tests S kind r) (enter S k kind r) ≡ refused q) × (place q ≤ precedence n)) → RefusedUpTo n
  tests_or n l kind e z = try (pass_or_fail (tests S kind r))
    where
      try : AllPass (tests S kind r) ⊎ ((q : Reason) × FirstFailing (tests S kind r) q) → RefusedUpTo n
      try (inl a) = (z.0, at_kind S k r kind e ∙ all_passed (tests S kind r) (require_all (outline_tests S kind r) (enter S k kind r)) a ∙ z.1, z.2)
      try (inr h) =
          let y = (rising_first 3 (tests S kind r) h.0 (tests_rising S kind r) h.1).1 in
          (h.0, at_kind S k r kind e ∙ first_refused_lem (tests S kind r) (require_all (outline_tests S kind r) (enter S k kind r)) h.0 h.1, omega arith)

  outline_number : (kind : Kind) (q : Reason) → FirstFailing (outline_tests S kind r) q → place q ≡ 10
  outline_number symbolKind q f = absurd (no_test_fails f)
  outline_number variableKind q f = absurd (no_test_fails f)
  outline_number applicationKind q f = absurd (no_test_fails f)
  outline_number inputKind q f = absurd (no_test_fails f)
  outline_number resolveKind q f = ap place (sym (only_test_fails f).1)
  outline_number severalKind q f = ap place (sym (only_test_fails f).1)
  outline_number factorKind q f = ap place (sym (only_test_fails f).1)
  outline_number windowKind q f = absurd (no_test_fails f)
  outline_number otherKind q f = absurd (no_test_fails f)

  outlines_or : (n : ℕ) → 10 ≤ precedence n → (kind : Kind) → kind_of_record r ≡ kind → (f : Failure) → failure_number f ≡ n → enter S k kind r ≡ refused (unification f) → RefusedUpTo n
  outlines_or n l kind e f g z = tests_or n l kind e (try (pass_or_fail (outline_tests S kind r)))
    where
      try : AllPass (outline_tests S kind r) ⊎ ((q : Reason) × FirstFailing (outline_tests S kind r) q) → (q : Reason) × (require_all (outline_tests S kind r) (enter S k kind r) ≡ refused q) × (place q ≤ precedence n)
      try (inl a) = (unification f, all_passed (outline_tests S kind r) (enter S k kind r) a ∙ z, let w : place (unification f) ≡ precedence n = ap precedence g in omega arith)
      try (inr h) = (h.0, first_refused_lem (outline_tests S kind r) (enter S k kind r) h.0 h.1, let y = outline_number kind h.0 h.1 in omega arith)

  resolve_outlines_fail : (kind : Kind) → IsResolve kind → kind_of_record r ≡ kind → on_both (λ x y. outlines_agree (row_of S) x.1 y.1) (left_of S r) (right_of S kind r) ≡ false → FirstFailing (outline_tests S (kind_of_record r) r) (unification clash)
  resolve_outlines_fail kind on_one e z = subst (λ (k : Kind). FirstFailing (outline_tests S k r) (unification clash)) (sym e) (fails_here z)
  resolve_outlines_fail kind on_several e z = subst (λ (k : Kind). FirstFailing (outline_tests S k r) (unification clash)) (sym e) (fails_here z)

  -- Outlines that clash: their test fails.
  pub outlines_fail : OutlinesClash S r → FirstFailing (outline_tests S (kind_of_record r) r) (unification clash)
  outlines_fail (resolve_outlines {l = c} {ms = ms} N m o f) =
      let K = kind_of_resolve S r N in
      let z : on_both (λ x y. outlines_agree (row_of S) x.1 y.1) (left_of S r) (right_of S K.kind r) ≡ false =
      rw (resolves_left S r N, K.named) (not_true (outlines_agree (row_of S) c ms) (not_agreeing c ms m o (found_clash (row_of S) c.1.0 m.1.0 f))) in
      resolve_outlines_fail K.kind K.is_resolve K.is_kind z
  outlines_fail (factor_outlines {l = c} {m = d} N f) =
      let z : on_both (λ x y. outlines_agree (row_of S) x.1 (y.1 ∷ [])) (left_of S r) (deleted_of S r) ≡ false = rw (factors_kept S r N, factors_deleted S r N) (not_true (outlines_agree (row_of S) c (d ∷ [])) (not_agreeing c (d ∷ []) d (inl refl) (found_clash (row_of S) c.1.0 d.1.0 f))) in
      subst (λ (kind : Kind). FirstFailing (outline_tests S kind r) (unification clash)) (sym (kind_at r 6 N.is_factor refl)) (fails_here z)

  outlines_refuse : OutlinesClash S r → RefusedUpTo 10
  outlines_refuse c =
      tests_or 10 (omega arith) (kind_of_record r) refl
      (unification clash, first_refused_lem (outline_tests S (kind_of_record r) r) (enter S k (kind_of_record r) r) (unification clash) (outlines_fail c), omega arith)

  enter_by : (kind : Kind) → IsResolve kind → (q : Reason) → enter_resolvent S k kind r ≡ refused q → enter S k kind r ≡ refused q
  enter_by kind on_one q z = z
  enter_by kind on_several q z = z

  failure_refuses : (n : ℕ) → 10 ≤ precedence n → (f : Failure) → failure_number f ≡ n → StepFails S r f → RefusedUpTo n
  failure_refuses n least f g (resolve_fails {left} {right} {l = c} {ns} {ms} N h) =
      let K = kind_of_resolve S r N in
      let ρ = joined (maximum_index left) (lookup left) (lookup right) in
      let ps = pairs_with (maximum_index left) c.1 (atoms ms) in
      outlines_or n least K.kind K.is_kind f g
      (enter_by K.kind K.is_resolve (unification f) (enter_resolve S k r K.kind (left, c) (right, ms) (resolves_left S r N) K.named
      ∙ ap (add_clause S k (resolve (next_clause S) left (field_b r) right (right_numbers K.kind r))) (failing_fails (row_of S) most_links (no_room S.total) ρ most_work (unifying [] ps) f (unstated S ρ ps f h))
      ∙ enter_refused S k (resolve (next_clause S) left (field_b r) right (right_numbers K.kind r)) f))
  failure_refuses n least f g (factor_fails {parent} {l = c} {m = d} N h) =
      outlines_or n least factorKind (kind_at r 6 N.is_factor refl) f g
      (enter_factor S k r (parent, c) (parent, d) (factors_kept S r N) (factors_deleted S r N)
      ∙ ap (add_clause S k (factor (next_clause S) parent (field_b r) (field_c r))) (failing_fails (row_of S) most_links (no_room S.total) (lookup parent) most_work (unifying [] ((c.1, d.1) ∷ [])) f (unstated S (lookup parent) ((c.1, d.1) ∷ []) f h))
      ∙ enter_refused S k (factor (next_clause S) parent (field_b r) (field_c r)) f)

  module _ (file : File) (R : Reached file k S r) where
    seven : length r.fields ≡ 7
    seven = reached_seven file k S r R

    abbrev Holds : ℕ → Type 0
    Holds n = Condition S r n

    -- ── A test that is the first to fail: its condition holds ──
    abbrev Sound : List (Bool × Reason) → Type 0
    Sound [] = Unit {0}
    Sound (t ∷ ts) = (t.0 ≡ false → Holds (reason_number t.1)) × (t.0 ≡ true → Sound ts)

    sound_first : (ts : List (Bool × Reason)) (q : Reason) → Sound ts → FirstFailing ts q → Holds (reason_number q)
    sound_first ts q h (fails_here p) = h.0 p
    sound_first ts q h (passes_here {ts = us} p f) = sound_first us q (h.1 p) f

    resolve_sound : (kind : Kind) → IsResolve kind → kind_of_record r ≡ kind → Sound (resolve_tests S kind r)
    resolve_sound kind i e = (
      λ p. outside_range (range_over r kind e p),
      λ ranged. (
        λ p. nothing_there (resolve_absent S r seven kind i e p),
        λ there. (
          λ p. falling_literals (not_rising S r seven kind i e ranged p),
          λ rises.
              (λ p. unfit_signs (resolve_signs S r seven kind i e there p), λ signs. (λ p. large_result (resolvent_over S r seven kind i e there p), λ fits. tt)),
        ),
      ),
    )

    tests_sound : (kind : Kind) → kind_of_record r ≡ kind → Sound (tests S kind r)
    tests_sound symbolKind e = (λ p. outside_range (range_over r symbolKind e p), λ ranged. tt)
    tests_sound variableKind e = (λ p. outside_range (range_over r variableKind e p), λ ranged. tt)
    tests_sound applicationKind e = (λ p. outside_range (range_over r applicationKind e p), λ ranged. (λ p. nothing_there (arguments_absent S r seven e p), λ there. tt))
    tests_sound inputKind e = (λ p. outside_range (range_over r inputKind e p), λ ranged. (λ p. nothing_there (literal_rows_absent S r seven e p), λ there. (λ p. crossing_days (beside_cross S r seven e p), λ days. (λ p. variable_as_literal (literal_on_variable S r seven e p), λ _. tt))))
    tests_sound resolveKind e = resolve_sound resolveKind on_one e
    tests_sound severalKind e = resolve_sound severalKind on_several e
    tests_sound factorKind e = (λ p. outside_range (range_over r factorKind e p), λ ranged. (λ p. nothing_there (factor_absent S r seven e p), λ there. (λ p. unfit_signs (factor_signs_lem S r seven e there p), λ signs. (λ p. large_result (factor_over S r seven e there p), λ fits. tt))))
    tests_sound windowKind e = (λ p. outside_range (range_over r windowKind e p), λ ranged. (λ p. nothing_there (window_absent S r seven e p), λ there. (λ p. crossing_days (days_cross S r seven e p), λ days. tt)))
    tests_sound otherKind e = (λ p. unknown_kind (of_kind_lem r otherKind e), λ p. tt)

    pub not_endless : (f : Failure) → ByUnification f → ¬ (f ≡ endless)
    not_endless f (resolving {kind} {x} {y} i e p q s u) z = resolve_not_endless S (reached_ok file k S r R) k r kind x y p q (u ∙ ap failed z)
    not_endless f (factoring {x} {y} e p q s u) z = factor_not_endless S (reached_ok file k S r R) k r x y p q (u ∙ ap failed z)

    step_fails : (f : Failure) → ByUnification f → StepFails S r f
    step_fails f (resolving {kind} {x} {y} i e p q s u) =
        let ρ = joined (maximum_index x.0) (lookup x.0) (lookup y.0) in
        let ps = pairs_with (maximum_index x.0) x.1.1 (atoms y.1) in
        resolve_fails (resolves S r kind i x y e p q) (stated S ρ ps f (fails (row_of S) most_links (no_room S.total) ρ most_work (unifying [] ps) f u (not_endless f (resolving i e p q s u))))
    step_fails f (factoring {x} {y} e p q s u) =
        factor_fails (factors S r x y e p q) (stated S (lookup x.0) ((x.1.1, y.1.1) ∷ []) f
        (fails (row_of S) most_links (no_room S.total) (lookup x.0) most_work (unifying [] ((x.1.1, y.1.1) ∷ [])) f u (not_endless f (factoring e p q s u))))

    failure_condition : (f : Failure) → ByUnification f → Holds (failure_number f)
    failure_condition clash b = clashing (step_fails clash b)
    failure_condition occurs b = occurring (step_fails occurs b)
    failure_condition overwork b = overworking (step_fails overwork b)
    failure_condition full b = overfull (step_fails full b)
    failure_condition endless b = absurd (not_endless endless b refl)

    pub refused_condition : (q : Reason) → step S k r ≡ refused q → Condition S r (reason_number q)
    refused_condition q z = try (refused_by_lem q z)
      where
        try : RefusedBy q → Holds (reason_number q)
        try (by_test f) = sound_first (tests S (kind_of_record r) r) q (tests_sound (kind_of_record r) refl) f
        try (by_outlines e b) = subst (λ (p : Reason). Holds (reason_number p)) e (clashing_outlines (outlines_clash_lem b))
        try (by_failure {f} e b) = subst (λ (p : Reason). Holds (reason_number p)) e (failure_condition f b)

    ranges_differ : (kind : Kind) → in_range kind r ≡ false → test_for (tests S kind r) 4 ≡ false
    ranges_differ symbolKind q = q
    ranges_differ variableKind q = q
    ranges_differ applicationKind q = q
    ranges_differ inputKind q = q
    ranges_differ resolveKind q = q
    ranges_differ severalKind q = q
    ranges_differ factorKind q = q
    ranges_differ windowKind q = q
    ranges_differ otherKind q = absurd (true_not_false refl q)

    pub condition_refused : (n : ℕ) → Condition S r n → (q : Reason) × (step S k r ≡ refused q) × (precedence (reason_number q) ≤ precedence n)
    condition_refused n (unknown_kind h) = test_refuses 3 (subst (λ (kind : Kind). test_for (tests S kind r) 3 ≡ false) (sym (other_kind r h)) refl)
    condition_refused n (outside_range h) = test_refuses 4 (ranges_differ (kind_of_record r) (out_of_range r h))
    condition_refused n (nothing_there h) = two_refuse 4 5 (omega arith) (not_there S r seven h)
    condition_refused n (falling_literals h) = two_refuse 4 14 (omega arith) (rising_fails S r seven h)
    condition_refused n (crossing_days h) = test_refuses 16 (days_fail S r seven h)
    condition_refused n (variable_as_literal h) = two_refuse 4 7 (omega arith) (on_variable_fails S r seven h)
    condition_refused n (unfit_signs h) = test_refuses 8 (signs_fail S r seven h)
    condition_refused n (large_result h) = test_refuses 9 (result_fails S r seven h)
    condition_refused n (clashing_outlines h) = outlines_refuse h
    condition_refused n (clashing h) = failure_refuses 10 (omega arith) clash refl h
    condition_refused n (occurring h) = failure_refuses 11 (omega arith) occurs refl h
    condition_refused n (overworking h) = failure_refuses 12 (omega arith) overwork refl h
    condition_refused n (overfull h) = failure_refuses 13 (omega arith) full refl h

    -- A condition that holds does not come before the number given.
    pub refused_lowest : (q : Reason) → step S k r ≡ refused q → (n : ℕ) → Condition S r n → precedence (reason_number q) ≤ precedence n
    refused_lowest q z n h =
        let w = condition_refused n h in
        subst (λ (p : Reason). place p ≤ precedence n) (refused_injective (sym w.1 ∙ z)) w.2

    -- A step is of one kind, and has one list of right literals.
    right_at : (kind : Kind) → kind_of_record r ≡ kind → {left right : Derivation} {l : Literal} {ns : List ℕ} {ms : List Literal} → Resolves S r left right l ns ms → right_of S kind r ≡ some (right, ms)
    right_at kind e N = let K = kind_of_resolve S r N in ap (λ (x : Kind). right_of S x r) (sym e ∙ K.is_kind) ∙ K.named

    no_factor_kind : (kind : Kind) → IsResolve kind → kind_of_record r ≡ kind → r.kind ≡ 6 → ⊥
    no_factor_kind kind on_one e z = let w = of_kind_lem r resolveKind e in omega arith
    no_factor_kind kind on_several e z = let w = of_kind_lem r severalKind e in omega arith

    no_resolve_kind : kind_of_record r ≡ factorKind → {ns : List ℕ} → RightLiterals r ns → ⊥
    no_resolve_kind e (of_one z) = let w = of_kind_lem r factorKind e in omega arith
    no_resolve_kind e (of_some z) = let w = of_kind_lem r factorKind e in omega arith

    -- ── No unifier where 10 or 11 is given ──
    clash_or_occurs : (f : Failure) → OneOf (failure_number f) (10 ∷ 11 ∷ []) → (f ≡ clash) ⊎ (f ≡ occurs)
    clash_or_occurs clash m = inl refl
    clash_or_occurs occurs m = inr refl
    clash_or_occurs overwork (inl e) = absurd (omega arith)
    clash_or_occurs overwork (inr (inl e)) = absurd (omega arith)
    clash_or_occurs overwork (inr (inr e)) = absurd e
    clash_or_occurs full (inl e) = absurd (omega arith)
    clash_or_occurs full (inr (inl e)) = absurd (omega arith)
    clash_or_occurs full (inr (inr e)) = absurd e
    clash_or_occurs endless (inl e) = absurd (omega arith)
    clash_or_occurs endless (inr (inl e)) = absurd (omega arith)
    clash_or_occurs endless (inr (inr e)) = absurd e

    which : {o : Outcome} {f : Failure} → o ≡ failed f → (f ≡ clash) ⊎ (f ≡ occurs) → (o ≡ failed clash) ⊎ (o ≡ failed occurs)
    which u (inl z) = inl (u ∙ ap failed z)
    which u (inr z) = inr (u ∙ ap failed z)

    atoms_apart : (Y : Type 0) (f : Failure) → (f ≡ clash) ⊎ (f ≡ occurs) → ByUnification f → (pairs : List TermPair) → StepAtoms S r pairs → NoUnifier Y pairs
    atoms_apart Y f c (resolving {kind} {x} {y} i e p q s u) pairs (resolve_atoms {left} {right} {l} {ns} {ms} N) =
        let a : x ≡ (left, l) = some_injective (sym p ∙ resolves_left S r N) in
        let b : y ≡ (right, ms) = some_injective (sym q ∙ right_at kind e N) in
        subst₂ (λ (x : Derivation × Literal) (y : Derivation × List Literal). NoUnifier Y (resolve_pairs S (reached_ok file k S r R) k r x y)) a b
        (resolve_no_unifier S (reached_ok file k S r R) k r Y kind x y p q s (which u c))
    atoms_apart Y f c (resolving {kind} i e p q s u) pairs (factor_atoms N) = absurd (no_factor_kind kind i e N.is_factor)
    atoms_apart Y f c (factoring e p q s u) pairs (resolve_atoms N) = absurd (no_resolve_kind e N.is_resolve)
    atoms_apart Y f c (factoring {x} {y} e p q s u) pairs (factor_atoms {parent} {l} {m} N) =
        let a : x ≡ (parent, l) = some_injective (sym p ∙ factors_kept S r N) in
        let b : y ≡ (parent, m) = some_injective (sym q ∙ factors_deleted S r N) in
        subst₂ (λ (x y : Derivation × Literal). NoUnifier Y ((atom_of S x.0 x.1, atom_of S y.0 y.1) ∷ [])) a b
        (factor_no_unifier S (reached_ok file k S r R) k r Y x y p q s (which u c))

    outlines_apart : (Y : Type 0) → ByOutlines → (pairs : List TermPair) → StepAtoms S r pairs → NoUnifier Y pairs
    outlines_apart Y (resolve_apart {kind} {x} {y} i e p q z) pairs (resolve_atoms {left} {right} {l} {ns} {ms} N) =
        let a : x ≡ (left, l) = some_injective (sym p ∙ resolves_left S r N) in
        let b : y ≡ (right, ms) = some_injective (sym q ∙ right_at kind e N) in
        subst₂ (λ (x : Derivation × Literal) (y : Derivation × List Literal). NoUnifier Y (resolve_pairs S (reached_ok file k S r R) k r x y)) a b (resolve_outlines_apart S (reached_ok file k S r R) k r Y x y z)
    outlines_apart Y (resolve_apart {kind} i e p q z) pairs (factor_atoms N) = absurd (no_factor_kind kind i e N.is_factor)
    outlines_apart Y (factor_apart e p q z) pairs (resolve_atoms N) = absurd (no_resolve_kind e N.is_resolve)
    outlines_apart Y (factor_apart {x} {y} e p q z) pairs (factor_atoms {parent} {l} {m} N) =
        let a : x ≡ (parent, l) = some_injective (sym p ∙ factors_kept S r N) in
        let b : y ≡ (parent, m) = some_injective (sym q ∙ factors_deleted S r N) in
        factor_outlines_apart S (reached_ok file k S r R) k r Y (parent, l) (parent, m) (ap₂ (λ (x y : Derivation × Literal). outlines_agree (row_of S) x.1 (y.1 ∷ [])) (sym a) (sym b) ∙ z)

    pub refused_no_unifier : (Y : Type 0) (q : Reason) → step S k r ≡ refused q → OneOf (reason_number q) (10 ∷ 11 ∷ []) → (pairs : List TermPair) → StepAtoms S r pairs → NoUnifier Y pairs
    refused_no_unifier Y q z m pairs A = try (refused_by_lem q z)
      where
        late : OneOf (reason_number q) (10 ∷ 11 ∷ []) → 10 ≤ place q
        late (inl e) = let w : place q ≡ 10 = ap precedence e in omega arith
        late (inr (inl e)) = let w : place q ≡ 11 = ap precedence e in omega arith
        late (inr (inr e)) = absurd e

        try : RefusedBy q → NoUnifier Y pairs
        try (by_test f) = let a = (rising_first 3 (tests S (kind_of_record r) r) q (tests_rising S (kind_of_record r) r) f).1 in let b = late m in absurd (omega arith)
        try (by_outlines e b) = outlines_apart Y b pairs A
        try (by_failure {f} e b) = atoms_apart Y f (clash_or_occurs f (subst (λ (p : Reason). OneOf (reason_number p) (10 ∷ 11 ∷ [])) (sym e) m)) b pairs A

-- The numbers of conditions.
pub condition_number : {S : State} {r : Record} (n : ℕ) → Condition S r n → (3 ≤ n) × (3 ≤ precedence n)
condition_number n (unknown_kind h) = (omega arith, omega arith)
condition_number n (outside_range h) = (omega arith, omega arith)
condition_number n (nothing_there h) = (omega arith, omega arith)
condition_number n (falling_literals h) = (omega arith, omega arith)
condition_number n (crossing_days h) = (omega arith, omega arith)
condition_number n (variable_as_literal h) = (omega arith, omega arith)
condition_number n (unfit_signs h) = (omega arith, omega arith)
condition_number n (large_result h) = (omega arith, omega arith)
condition_number n (clashing_outlines h) = (omega arith, omega arith)
condition_number n (clashing h) = (omega arith, omega arith)
condition_number n (occurring h) = (omega arith, omega arith)
condition_number n (overworking h) = (omega arith, omega arith)
condition_number n (overfull h) = (omega arith, omega arith)
