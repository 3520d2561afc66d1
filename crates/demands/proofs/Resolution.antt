-- Steps of a state in order: what stands is the textbook's, what clashes has no unifier, and what has one stands or meets a limit.
use mathlib.Core.Path.{◌≡◌, refl, sym, ap, ◌∙◌, subst}
use mathlib.Core.Logic.{◌⊎◌, inl, inr}
use mathlib.Core.Bool.{Bool, true, false, ◌&&◌, not}
use mathlib.Core.Option.{some}
use mathlib.Core.List.{List, [], ◌∷◌, map}
use Prim.Native.Nat.{ℕ}
use lib.ListN.{length}
use borrow.Author.Tests.{not-false}
use Rattle.record.specs.Record.{Record, Kind, resolveKind, factorKind, severalKind, field_a, field_b, field_c}
use Rattle.unification.specs.Environment.{Binding}
use Rattle.unification.specs.Outlines.{outlines_clash}
use Rattle.unification.specs.Row.{application, Variable, row_term, written_out}
use Rattle.unification.specs.Term.{Term, apply}
use Rattle.unification.specs.Unification.{endless, clash, occurs, overwork, full, Outcome, unified, failed}
use Rattle.unification.specs.Unifier.{TermPair, Unifies, NoUnifier}
use Rattle.unification.proofs.Outlines.{clash_apart}
use Rattle.unification.proofs.Terms.{apply_apply}
use Rattle.unification.proofs.Tests.{true_not_false}
use Rattle.derivation.specs.Derivation.{literals, Literal, Derivation, resolve, factor, numbered, maximum_index, joined, lookup}
use Rattle.derivation.specs.Written.{substitution, renamed}
use Rattle.derivation.proofs.Resolvents.{no_resolvent, is_resolvent, no_factor, is_factor_lem}
use Rattle.derivation.proofs.Validity.{signed}
use Rattle.demands.specs.Conditions.{OutOfRange, NotRising, SignsUnfit}
use Rattle.demands.specs.Demands.{atom_of, StepAtoms, resolve_atoms, factor_atoms, ResolventAdded, FactorAdded, StandsOrLimit, it_stands, limit_met}
use Rattle.verdict.specs.Refusal.{tests, outline_tests, outlines_agree, on_both, Reason, outOfRange, notThere, notRising, wrongSigns, tooLarge, unification, kind_of_record, in_range, left_of, right_numbers, right_of, deleted_of, both_there, rising, opposite_signs, factor_signs, resolvent_fits, factor_fits}
use Rattle.verdict.specs.State.{State, row_of, term_of, next_clause}
use Rattle.verdict.specs.Step.{stands, refused, Result, require, require_all, step, add_clause, atoms, unify_resolve, unify_factor, enter_resolvent, enter}
use Rattle.demands.proofs.RangeTests.{either_false, kind_at, range_over, IsResolve, on_one, on_several}
use Rattle.demands.proofs.StepTests.{resolves_left, kind_of_resolve, factors_kept, factors_deleted, not_rising, resolve_signs, factor_signs_lem}
use Rattle.demands.proofs.Inversions.{AllPass, PassedResolve, tests_passed, step_stands, named_stands, literal_named_lem, literals_named, clause_added}
use Rattle.demands.proofs.Reading.{term_of_row, one_arity}
use Rattle.demands.proofs.Standing.{StateOk, order_of, ChainsAfter, resolve_chains, factor_chains}
use Rattle.demands.proofs.Steps.{NamedResolve, NamedFactor, signs_resolve, signs_factor, same_parent_lem, named_resolve, named_factor}

-- A step's kind, put in place of its number.
pub at_kind : (S : State) (k : ℕ) (r : Record) (kind : Kind) → kind_of_record r ≡ kind → step S k r ≡ require_all (tests S kind r) (require_all (outline_tests S kind r) (enter S k kind r))
at_kind S k r kind e = ap (λ (z : Kind). require_all (tests S z r) (require_all (outline_tests S z r) (enter S k z r))) e

stands_at : (S : State) (k : ℕ) (r : Record) (T : State) (kind : Kind) → kind_of_record r ≡ kind → step S k r ≡ stands T → AllPass (tests S kind r) × (enter S k kind r ≡ stands T)
stands_at S k r T kind e q = subst (λ (z : Kind). AllPass (tests S z r) × (enter S k z r ≡ stands T)) e (step_stands S k r T q)

-- A step is its tests, one after the other, then its outlines, and then what it enters.
pub step_resolve : (S : State) (k : ℕ) (r : Record) (kind : Kind) → IsResolve kind → kind_of_record r ≡ kind
    → step S k r ≡ require (in_range kind r) outOfRange (require (both_there (left_of S r) (right_of S kind r)) notThere (require (rising (right_numbers kind r)) notRising (require (opposite_signs S kind r) wrongSigns (require (resolvent_fits S kind r) tooLarge
    (require (on_both (λ x y. outlines_agree (row_of S) x.1 y.1) (left_of S r) (right_of S kind r)) (unification clash) (enter_resolvent S k kind r))))))
step_resolve S k r kind on_one e = at_kind S k r resolveKind e
step_resolve S k r kind on_several e = at_kind S k r severalKind e

pub step_factor : (S : State) (k : ℕ) (r : Record) → kind_of_record r ≡ factorKind
    → step S k r ≡ require (in_range factorKind r) outOfRange (require (both_there (left_of S r) (deleted_of S r)) notThere (require (factor_signs S r) wrongSigns (require (factor_fits S r) tooLarge (require (on_both (λ x y. outlines_agree (row_of S) x.1 (y.1 ∷ [])) (left_of S r) (deleted_of S r)) (unification clash) (enter S k factorKind r)))))
step_factor S k r e = at_kind S k r factorKind e

-- On the literals that it names, a step is its unification.
pub enter_resolve : (S : State) (k : ℕ) (r : Record) (kind : Kind) (x : Derivation × Literal) (y : Derivation × List Literal) → left_of S r ≡ some x → right_of S kind r ≡ some y
    → enter_resolvent S k kind r ≡ add_clause S k (resolve (next_clause S) x.0 (field_b r) y.0 (right_numbers kind r)) (unify_resolve S x y)
enter_resolve S k r kind x y p q = rw (p, q)

pub enter_factor : (S : State) (k : ℕ) (r : Record) (x y : Derivation × Literal) → left_of S r ≡ some x → deleted_of S r ≡ some y → enter S k factorKind r ≡ add_clause S k (factor (next_clause S) x.0 (field_b r) (field_c r)) (unify_factor S x y)
enter_factor S k r x y p q = rw (p, q)

module _ (S : State) (H : StateOk 4096 S) (k : ℕ) (r : Record) where
  abbrev law : (w : ℕ) → term_of S w ≡ row_term (term_of S) w (row_of S w)
  law = term_of_row S H

  abbrev one : (w q s : ℕ) (xs ys : List ℕ) → row_of S w ≡ application s xs → row_of S q ≡ application s ys → length xs ≡ length ys
  one = one_arity S H

  resolve_entered : (kind : Kind) → IsResolve kind → (T : State) → kind_of_record r ≡ kind → step S k r ≡ stands T → PassedResolve S kind r × (enter_resolvent S k kind r ≡ stands T)
  resolve_entered kind on_one T e q = let a = stands_at S k r T resolveKind e q in (tests_passed S resolveKind r a.0, a.1)
  resolve_entered kind on_several T e q = let a = stands_at S k r T severalKind e q in (tests_passed S severalKind r a.0, a.1)

  pub resolvent_added : (Y : Type 0) (T : State) (kind : Kind) → IsResolve kind → kind_of_record r ≡ kind → step S k r ≡ stands T → ResolventAdded Y S k r (right_numbers kind r) T
  resolvent_added Y T kind i e q =
      let a = resolve_entered kind i T e q in
      let s = named_stands _ (left_of S r) (right_of S kind r) T a.1 in
      made (right_numbers kind r) s.0 s.1 (named_resolve S kind r s.0 s.1 s.2 s.3 a.0) s.4
    where
      made : (ns : List ℕ) (x : Derivation × Literal) (y : Derivation × List Literal) → NamedResolve S r ns x y → add_clause S k (resolve (next_clause S) x.0 (field_b r) y.0 ns) (unify_resolve S x y) ≡ stands T → ResolventAdded Y S k r ns T
      made ns x y N z =
          let c = clause_added S k (resolve (next_clause S) x.0 (field_b r) y.0 ns) (unify_resolve S x y) T z in
          let L = (order_of 4096 S H (field_a r) x.0 N.is_left).valid in
          let R = (order_of 4096 S H (field_c r) y.0 N.is_right).valid in
          record {
            left = x.0;
            right = y.0;
            is_left = N.is_left;
            is_right = N.is_right;
            clause = resolve (next_clause S) x.0 (field_b r) y.0 ns c.0;
            added = sym c.3;
            resolvent = is_resolvent (row_of S) (term_of S) law x.0 y.0 L R (field_b r) ns x.1.0 x.1.1 (atoms y.1) N.is_left_literal (N.are_right_literals ∙ ap some N.signs) one N.rises c.0 (S.total, c.1, c.2) Y (next_clause S);
          }

  pub factor_added : (Y : Type 0) (T : State) → kind_of_record r ≡ factorKind → step S k r ≡ stands T → FactorAdded Y S k r T
  factor_added Y T e q =
      let a = stands_at S k r T factorKind e q in
      let s = named_stands _ (left_of S r) (deleted_of S r) T a.1 in
      made s.0 s.1 (named_factor S r s.0 s.1 s.2 s.3 (tests_passed S factorKind r a.0)) s.4
    where
      made : (x y : Derivation × Literal) → NamedFactor S r x y → add_clause S k (factor (next_clause S) x.0 (field_b r) (field_c r)) (unify_factor S x y) ≡ stands T → FactorAdded Y S k r T
      made x y N z =
          let c = clause_added S k (factor (next_clause S) x.0 (field_b r) (field_c r)) (unify_factor S x y) T z in
          record {
            parent = x.0;
            is_parent = N.is_parent;
            clause = factor (next_clause S) x.0 (field_b r) (field_c r) c.0;
            added = sym c.3;
            factored = is_factor_lem (row_of S) (term_of S) law x.0 (order_of 4096 S H (field_a r) x.0 N.is_parent).valid (field_b r) (field_c r) x.1.0 x.1.1 y.1.1 N.is_kept (N.is_deleted ∙ ap (λ (b : Bool). some (b, y.1.1)) N.signs) one c.0 (S.total, c.1, c.2) N.different Y (next_clause S);
          }

  -- The atoms of a resolve as pairs of terms.
  abbrev pub resolve_pairs : Derivation × Literal → Derivation × List Literal → List TermPair
  resolve_pairs x y = map (λ m. (atom_of S x.0 x.1, apply (renamed (maximum_index x.0)) (atom_of S y.0 m))) y.1

  pairs_of_atoms : (x : Derivation × Literal) (d : Derivation) (ms : List Literal) → map (λ t. (atom_of S x.0 x.1, t)) (map (λ c. apply (renamed (maximum_index x.0)) (written_out (term_of S) (substitution (term_of S) d) c)) (atoms ms)) ≡ resolve_pairs x (d, ms)
  pairs_of_atoms x d [] = refl
  pairs_of_atoms x d (m ∷ ms) = ap (λ (ps : List TermPair). (atom_of S x.0 x.1, apply (renamed (maximum_index x.0)) (atom_of S d m)) ∷ ps) (pairs_of_atoms x d ms)

  -- The atoms of a resolve whose unification clashes or meets an occurrence.
  pub resolve_no_unifier : (Y : Type 0) (kind : Kind) (x : Derivation × Literal) (y : Derivation × List Literal) → left_of S r ≡ some x → right_of S kind r ≡ some y → y.1 ≡ signed (not x.1.0) (atoms y.1) → (unify_resolve S x y ≡ failed clash) ⊎ (unify_resolve S x y ≡ failed occurs)
      → NoUnifier Y (resolve_pairs x y)
  resolve_no_unifier Y kind x y p q s f =
      let l = literal_named_lem S (field_a r) (field_b r) x p in
      let m = literals_named S (field_c r) (right_numbers kind r) y q in
      subst (NoUnifier Y) (pairs_of_atoms x y.0 y.1)
      (no_resolvent (row_of S) (term_of S) law x.0 y.0 (order_of 4096 S H (field_a r) x.0 l.0).valid (order_of 4096 S H (field_c r) y.0 m.0).valid (field_b r) (right_numbers kind r) x.1.0 x.1.1 (atoms y.1) l.1 (m.1 ∙ ap some s) Y S.total f)

  pub factor_no_unifier : (Y : Type 0) (x y : Derivation × Literal) → left_of S r ≡ some x → deleted_of S r ≡ some y → y.1.0 ≡ x.1.0 → (unify_factor S x y ≡ failed clash) ⊎ (unify_factor S x y ≡ failed occurs)
      → NoUnifier Y ((atom_of S x.0 x.1, atom_of S y.0 y.1) ∷ [])
  factor_no_unifier Y x y p q s f =
      let l = literal_named_lem S (field_a r) (field_b r) x p in
      let m = literal_named_lem S (field_a r) (field_c r) y q in
      let e = same_parent_lem S r x y p q in
      let n = subst (λ (c : Derivation). numbered (literals c) (field_c r) ≡ some y.1) e m.1 in
      subst (λ (c : Derivation). NoUnifier Y ((atom_of S x.0 x.1, written_out (term_of S) (substitution (term_of S) c) y.1.1) ∷ [])) (sym e)
      (no_factor (row_of S) (term_of S) law x.0 (order_of 4096 S H (field_a r) x.0 l.0).valid (field_b r) (field_c r) x.1.0 x.1.1 y.1.1 l.1 (n ∙ ap (λ (b : Bool). some (b, y.1.1)) s) Y S.total f)

  -- Atoms whose outlines clash.
  pub one_clashes : (l m : Literal) → outlines_agree (row_of S) l (m ∷ []) ≡ false → outlines_clash (row_of S) l.1.0 m.1.0 ≡ true
  one_clashes l m z = try (outlines_clash (row_of S) l.1.0 m.1.0) z
    where
      try : (b : Bool) → (not b && true) ≡ false → b ≡ true
      try true q = refl
      try false q = absurd (true_not_false refl q)

  one_apart : (Y : Type 0) (x : Derivation × Literal) (d : Derivation) (m : Literal) → outlines_clash (row_of S) x.1.1.0 m.1.0 ≡ true → (τ : Variable → Term Y)
      → ¬ (apply τ (atom_of S x.0 x.1) ≡ apply τ (apply (renamed (maximum_index x.0)) (atom_of S d m)))
  one_apart Y x d m z τ u =
      let f : ℕ → Term Variable = λ v. substitution (term_of S) x.0 (v, x.1.1.1) in
      let g : ℕ → Term Variable = λ v. substitution (term_of S) d (v, m.1.1) in
      let up : Variable → Term Variable = renamed (maximum_index x.0) in
      clash_apart (row_of S) (term_of S) law (λ v. apply τ (f v)) (λ v. apply τ (apply up (g v))) x.1.1.0 m.1.0 z
      (sym (apply_apply τ f (term_of S x.1.1.0)) ∙ u ∙ ap (apply τ) (apply_apply up g (term_of S m.1.0)) ∙ apply_apply τ (λ v. apply up (g v)) (term_of S m.1.0))

  pub resolve_outlines_apart : (Y : Type 0) (x : Derivation × Literal) (y : Derivation × List Literal) → outlines_agree (row_of S) x.1 y.1 ≡ false → NoUnifier Y (resolve_pairs x y)
  resolve_outlines_apart Y x y z τ u = some_apart y.1 z u
    where
      some_apart : (ms : List Literal) → outlines_agree (row_of S) x.1 ms ≡ false → Unifies τ (resolve_pairs x (y.0, ms)) → ⊥
      some_apart [] z u = true_not_false refl z
      some_apart (m ∷ ms) z u = try (either_false (not (outlines_clash (row_of S) x.1.1.0 m.1.0)) (outlines_agree (row_of S) x.1 ms) z) (λ w. some_apart ms w u.1)
        where
          try : (not (outlines_clash (row_of S) x.1.1.0 m.1.0) ≡ false) ⊎ (outlines_agree (row_of S) x.1 ms ≡ false) → (outlines_agree (row_of S) x.1 ms ≡ false → ⊥) → ⊥
          try (inl w) k = one_apart Y x y.0 m (not-false _ w) τ u.0
          try (inr w) k = k w

  pub factor_outlines_apart : (Y : Type 0) (x y : Derivation × Literal) → outlines_agree (row_of S) x.1 (y.1 ∷ []) ≡ false → NoUnifier Y ((atom_of S x.0 x.1, atom_of S y.0 y.1) ∷ [])
  factor_outlines_apart Y x y z τ u =
      let f : ℕ → Term Variable = λ v. substitution (term_of S) x.0 (v, x.1.1.1) in
      let g : ℕ → Term Variable = λ v. substitution (term_of S) y.0 (v, y.1.1.1) in
      clash_apart (row_of S) (term_of S) law (λ v. apply τ (f v)) (λ v. apply τ (g v)) x.1.1.0 y.1.1.0 (one_clashes x.1 y.1 z)
      (sym (apply_apply τ f (term_of S x.1.1.0)) ∙ u.0 ∙ apply_apply τ g (term_of S y.1.1.0))

  -- Following never runs out.
  pub resolve_not_endless : (kind : Kind) (x : Derivation × Literal) (y : Derivation × List Literal) → left_of S r ≡ some x → right_of S kind r ≡ some y → ¬ (unify_resolve S x y ≡ failed endless)
  resolve_not_endless kind x y p q f =
      let l = literal_named_lem S (field_a r) (field_b r) x p in
      let m = literals_named S (field_c r) (right_numbers kind r) y q in
      subst (ChainsAfter 4096 S H (joined (maximum_index x.0) (lookup x.0) (lookup y.0))) f
      (resolve_chains 4096 S H x y (order_of 4096 S H (field_a r) x.0 l.0) (order_of 4096 S H (field_c r) y.0 m.0) (field_b r) (right_numbers kind r) l.1 m.1)

  pub factor_not_endless : (x y : Derivation × Literal) → left_of S r ≡ some x → deleted_of S r ≡ some y → ¬ (unify_factor S x y ≡ failed endless)
  factor_not_endless x y p q f =
      let l = literal_named_lem S (field_a r) (field_b r) x p in
      let m = literal_named_lem S (field_a r) (field_c r) y q in
      let n = subst (λ (c : Derivation). numbered (literals c) (field_c r) ≡ some y.1) (same_parent_lem S r x y p q) m.1 in
      subst (ChainsAfter 4096 S H (lookup x.0)) f
      (factor_chains 4096 S H x y (order_of 4096 S H (field_a r) x.0 l.0) (field_b r) (field_c r) l.1 n)

  holds : (b : Bool) → (b ≡ false → ⊥) → b ≡ true
  holds true h = refl
  holds false h = absurd (h refl)

  -- The tests one after the other.
  require_true : (b : Bool) (q : Reason) (next : Result) → b ≡ true → require b q next ≡ next
  unfolding require
  require_true true q next e = refl
  require_true false q next e = absurd (true_not_false e refl)

  require_false : (b : Bool) (q : Reason) (next : Result) → b ≡ false → require b q next ≡ refused q
  unfolding require
  require_false true q next e = absurd (true_not_false refl e)
  require_false false q next e = refl

  -- A step whose tests but the last hold.
  to_limits : (a b c d : Bool) (next : Result) → a ≡ true → b ≡ true → c ≡ true → require a outOfRange (require b notThere (require c wrongSigns (require d tooLarge next))) ≡ require d tooLarge next
  to_limits a b c d next p q s = require_true a outOfRange _ p ∙ require_true b notThere _ q ∙ require_true c wrongSigns _ s

  -- From the outcome of unification to the result of the step.
  outcome : (fits agreeing : Bool) (clause : List Binding → Derivation) (o : Outcome) → step S k r ≡ require fits tooLarge (require agreeing (unification clash) (add_clause S k clause o))
      → ¬ (agreeing ≡ false) → ¬ (o ≡ failed clash) → ¬ (o ≡ failed occurs) → ¬ (o ≡ failed endless) → StandsOrLimit S k r
  unfolding add_clause
  outcome fits agreeing clause o e a c u n = limits fits refl
    where
      ends : (o : Outcome) → ¬ (o ≡ failed clash) → ¬ (o ≡ failed occurs) → ¬ (o ≡ failed endless) → step S k r ≡ add_clause S k clause o → StandsOrLimit S k r
      ends (unified bs m) c u n z = it_stands z
      ends (failed clash) c u n z = absurd (c refl)
      ends (failed occurs) c u n z = absurd (u refl)
      ends (failed overwork) c u n z = limit_met z (inr (inl refl))
      ends (failed full) c u n z = limit_met z (inr (inr (inl refl)))
      ends (failed endless) c u n z = absurd (n refl)

      limits : (b : Bool) → fits ≡ b → StandsOrLimit S k r
      limits true q = ends o c u n (e ∙ require_true fits tooLarge _ q ∙ require_true agreeing (unification clash) (add_clause S k clause o) (holds agreeing a))
      limits false q = limit_met (e ∙ require_false fits tooLarge _ q) (inl refl)

  resolve_stands : (Y : Type 0) (kind : Kind) → IsResolve kind → (x : Derivation × Literal) (y : Derivation × List Literal) → kind_of_record r ≡ kind → left_of S r ≡ some x → right_of S kind r ≡ some y
      → in_range kind r ≡ true → rising (right_numbers kind r) ≡ true → opposite_signs S kind r ≡ true → (τ : Variable → Term Y) → Unifies τ (resolve_pairs x y) → StandsOrLimit S k r
  resolve_stands Y kind i x y e p q range rise f τ z =
      let g = signs_resolve S kind r x y p q f in
      outcome (resolvent_fits S kind r) (on_both (λ x y. outlines_agree (row_of S) x.1 y.1) (left_of S r) (right_of S kind r)) (resolve (next_clause S) x.0 (field_b r) y.0 (right_numbers kind r)) (unify_resolve S x y)
      (step_resolve S k r kind i e ∙ require_true (in_range kind r) outOfRange _ range ∙ require_true (both_there (left_of S r) (right_of S kind r)) notThere _ (rw (p, q)) ∙ require_true (rising (right_numbers kind r)) notRising _ rise ∙ require_true (opposite_signs S kind r) wrongSigns _ f
      ∙ ap (λ (z : Result). require (resolvent_fits S kind r) tooLarge (require (on_both (λ x y. outlines_agree (row_of S) x.1 y.1) (left_of S r) (right_of S kind r)) (unification clash) z)) (enter_resolve S k r kind x y p q))
      (λ w. resolve_outlines_apart Y x y (rw (p, q) at w) τ z) (λ w. resolve_no_unifier Y kind x y p q g (inl w) τ z) (λ w. resolve_no_unifier Y kind x y p q g (inr w) τ z) (resolve_not_endless kind x y p q)

  factor_stands : (Y : Type 0) (x y : Derivation × Literal) → kind_of_record r ≡ factorKind → left_of S r ≡ some x → deleted_of S r ≡ some y → in_range factorKind r ≡ true → factor_signs S r ≡ true
      → (τ : Variable → Term Y) → Unifies τ ((atom_of S x.0 x.1, atom_of S y.0 y.1) ∷ []) → StandsOrLimit S k r
  factor_stands Y x y e p q range f τ z =
      let g = (signs_factor S r x y p q f).0 in
      outcome (factor_fits S r) (on_both (λ x y. outlines_agree (row_of S) x.1 (y.1 ∷ [])) (left_of S r) (deleted_of S r)) (factor (next_clause S) x.0 (field_b r) (field_c r)) (unify_factor S x y)
      (step_factor S k r e ∙ to_limits (in_range factorKind r) (both_there (left_of S r) (deleted_of S r)) (factor_signs S r) (factor_fits S r) _ range (rw (p, q)) f ∙ ap (λ (z : Result). require (factor_fits S r) tooLarge (require (on_both (λ x y. outlines_agree (row_of S) x.1 (y.1 ∷ [])) (left_of S r) (deleted_of S r)) (unification clash) z)) (enter_factor S k r x y p q))
      (λ w. factor_outlines_apart Y x y (rw (p, q) at w) τ z) (λ w. factor_no_unifier Y x y p q g (inl w) τ z) (λ w. factor_no_unifier Y x y p q g (inr w) τ z) (factor_not_endless x y p q)

  module _ (seven : length r.fields ≡ 7) where
    pub unifiable_stands : (Y : Type 0) → ¬ OutOfRange r → (pairs : List TermPair) → StepAtoms S r pairs → ¬ NotRising r → ¬ SignsUnfit S r → (τ : Variable → Term Y) → Unifies τ pairs → StandsOrLimit S k r
    unifiable_stands Y range pairs (resolve_atoms {left} {right} {l} {ns} {ms} N) rises signs τ z =
        let K = kind_of_resolve S r N in
        let e = K.is_kind in
        let p = resolves_left S r N in
        let q = K.named in
        let ranged = holds (in_range K.kind r) (λ w. range (range_over r K.kind e w)) in
        resolve_stands Y K.kind K.is_resolve (left, l) (right, ms) e p q ranged
        (holds (rising (right_numbers K.kind r)) (λ w. rises (not_rising S r seven K.kind K.is_resolve e ranged w)))
        (holds (opposite_signs S K.kind r) (λ w. signs (resolve_signs S r seven K.kind K.is_resolve e (rw (p, q) refl) w))) τ z
    unifiable_stands Y range pairs (factor_atoms {parent} {l} {m} N) rises signs τ z =
        let e : kind_of_record r ≡ factorKind = kind_at r 6 N.is_factor refl in
        let p = factors_kept S r N in
        let q = factors_deleted S r N in
        factor_stands Y (parent, l) (parent, m) e p q (holds (in_range factorKind r) (λ w. range (range_over r factorKind e w)))
        (holds (factor_signs S r) (λ w. signs (factor_signs_lem S r seven e (rw (p, q) refl) w))) τ z
