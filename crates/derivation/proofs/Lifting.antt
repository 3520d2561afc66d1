-- Variable-free instances of two clauses are instances by one unifier, so that what they resolve to is an instance of the resolvent.
use mathlib.Core.Path.{◌≡◌, refl, sym, ap, ap₂, ◌∙◌}
use mathlib.Core.Bool.{Bool, not}
use mathlib.Core.Option.{some}
use mathlib.Core.List.{List, [], ◌∷◌, ◌++◌, map}
use Prim.Native.Nat.{ℕ, zero, suc, ◌+◌, ◌-◌, ◌≤◌}
use native.Mathlib.Omega.{arith}
use lib.Dec.{leb}
use Rattle.record.specs.Record.{pick}
use Rattle.unification.specs.Row.{Variable}
use Rattle.unification.specs.Term.{Term, apply}
use Rattle.unification.specs.Unifier.{Unifies}
use Rattle.unification.proofs.Lists.{map_map, map_append}
use Rattle.unification.proofs.Terms.{apply_ext, apply_apply, apply_agree, variables_more}
use Rattle.unification.proofs.Tests.{some_not_none, some_injective}
use Rattle.derivation.specs.Derivation.{numbered, numbered_all, raise}
use Rattle.derivation.specs.Ground.{Ground, GroundLiteral}
use Rattle.derivation.specs.Lifting.{GroundClause, ground_instance, InstanceOf, GroundResolvent, GroundFactor}
use Rattle.derivation.specs.Textbook.{remaining, instantiated, ClauseVariables, Resolvent, Factor}
use Rattle.derivation.specs.Written.{Clause, renamed}
use Rattle.derivation.proofs.Literals.{In, numbered_cons, numbered_all_cons, map_numbered, map_numbered_all, leb_true, leb_false}
use Rattle.derivation.proofs.Remaining.{map_remaining}

-- A numbered literal of a list that was gone through is what became of a numbered literal.
module _ {A B : Type 0} (f : A → B) where
  pub numbered_back : (xs : List A) (k : ℕ) (b : B) → numbered (map f xs) k ≡ some b → (a : A) × (numbered xs k ≡ some a) × (f a ≡ b)
  numbered_back [] k b q = absurd (some_not_none refl q)
  numbered_back (x ∷ xs) zero b q = absurd (some_not_none refl q)
  numbered_back (x ∷ xs) (suc zero) b q = (x, refl, some_injective q)
  numbered_back (x ∷ xs) (suc (suc k)) b q = numbered_back xs (suc k) b q

  pub numbered_all_back : (xs : List A) (ns : List ℕ) (bs : List B) → numbered_all (map f xs) ns ≡ some bs → (ys : List A) × (numbered_all xs ns ≡ some ys) × (map f ys ≡ bs)
  numbered_all_back xs [] bs q = ([], refl, some_injective q)
  numbered_all_back xs (n ∷ ns) bs q =
      let z = numbered_cons (map f xs) n ns bs q in
      let y = numbered_back xs n z.0 z.2 in
      let ys = numbered_all_back xs ns z.1 z.3 in
      (y.0 ∷ ys.0, numbered_all_cons xs n ns y.0 ys.0 y.1 ys.1, ap₂ (λ (b : B) (cs : List B). b ∷ cs) y.2 ys.2 ∙ z.4)

-- Both parents' values as one, the right one's at raised indices.
abbrev pub both_values : ℕ → (Variable → Ground) → (Variable → Ground) → Variable → Ground
both_values m γ δ x = pick (leb x.1 m) (γ x) (δ (x.0, x.1 - m))

module _ (m : ℕ) (γ δ : Variable → Ground) where
  abbrev τ : Variable → Ground
  τ = both_values m γ δ

  value_left : (x : Variable) → x.1 ≤ m → both_values m γ δ x ≡ γ x
  value_left x h = rw (leb_true x.1 m h)

  value_right : (x : Variable) → 1 ≤ x.1 → both_values m γ δ (raise m x) ≡ δ x
  value_right x h =
      let q : m + x.1 - m ≡ x.1 = omega arith in
      rw (leb_false (m + x.1) m (omega arith), q)

  pub instance_left : (C : Clause) → ClauseVariables (λ x. In m x.1) C → ground_instance (both_values m γ δ) C ≡ ground_instance γ C
  instance_left [] h = refl
  instance_left (l ∷ C) h =
      ap₂ (λ (t : Ground) (G : GroundClause). (l.0, t) ∷ G)
      (apply_agree (both_values m γ δ) γ l.1 (variables_more (λ x. In m x.1) (λ x. both_values m γ δ x ≡ γ x) (λ x p. value_left x p.1) l.1 h.0))
      (instance_left C h.1)

  pub instance_right : (n : ℕ) (D : Clause) → ClauseVariables (λ x. In n x.1) D → ground_instance (both_values m γ δ) (instantiated (renamed m) D) ≡ ground_instance δ D
  instance_right n [] h = refl
  instance_right n (l ∷ D) h =
      ap₂ (λ (t : Ground) (G : GroundClause). (l.0, t) ∷ G)
      (apply_apply (both_values m γ δ) (renamed m) l.1
      ∙ apply_agree (λ x. both_values m γ δ (raise m x)) δ l.1 (variables_more (λ x. In n x.1) (λ x. both_values m γ δ (raise m x) ≡ δ x) (λ x p. value_right x p.0) l.1 h.0))
      (instance_right n D h.1)

-- A unifier after one that is more general is that unifier.
module _ (τ : Variable → Ground) (θ : Variable → Term Variable) (general : (x : Variable) → τ x ≡ apply τ (θ x)) where
  pub instance_through : (C : Clause) → ground_instance τ C ≡ ground_instance τ (instantiated θ C)
  instance_through [] = refl
  instance_through (l ∷ C) = ap₂ (λ (t : Ground) (G : GroundClause). (l.0, t) ∷ G) (apply_ext l.1 general ∙ sym (apply_apply τ θ l.1)) (instance_through C)

-- Where all terms become one, each pair of them is made equal.
module _ {A : Type 0} (τ : Variable → Ground) (left : Term Variable) (s t : Bool) (atom : Ground) where
  pub unifies_all : (rights : List (Term Variable)) (bs : List A) → apply τ left ≡ atom → map (λ x. (s, apply τ x)) rights ≡ map {B = GroundLiteral} (λ b. (t, atom)) bs → Unifies τ (map (λ x. (left, x)) rights)
  unifies_all [] bs p q = tt
  unifies_all (x ∷ xs) [] p q = let z : ◌≡◌ {A = ℕ} 0 1 = cc in absurd (omega arith)
  unifies_all (x ∷ xs) (b ∷ bs) p q =
      let e : apply τ x ≡ atom = ap (λ (G : GroundClause). elim G [ [] ↦ atom | l ∷ ls ↦ l.1 ]) q in
      let k : map (λ y. (s, apply τ y)) xs ≡ map {B = GroundLiteral} (λ c. (t, atom)) bs = ap (λ (G : GroundClause). elim G [ [] ↦ [] | l ∷ ls ↦ ls ]) q in
      (p ∙ sym e, unifies_all xs bs p k)

-- The resolvent of instances is an instance of the resolvent.
module _ (m n : ℕ) (C D E : Clause) (a : ℕ) (bs : List ℕ) (in_c : ClauseVariables (λ x. In m x.1) C) (in_d : ClauseVariables (λ x. In n x.1) D)
    (γ δ : Variable → Ground) (F : GroundClause) (G : GroundResolvent (ground_instance γ C) a (ground_instance δ D) bs F) where
  abbrev υ : Variable → Ground
  υ = both_values m γ δ

  pub left_under : numbered (ground_instance (both_values m γ δ) C) a ≡ some (G.sign, G.atom)
  left_under = ap (λ (X : GroundClause). numbered X a) (instance_left m γ δ C in_c) ∙ G.is_left

  pub rights_under : numbered_all (ground_instance (both_values m γ δ) (instantiated (renamed m) D)) bs ≡ some (map (λ b. (not G.sign, G.atom)) bs)
  rights_under = ap (λ (X : GroundClause). numbered_all X bs) (instance_right m γ δ n D in_d) ∙ G.are_right

  pub resolvent_lifted : Resolvent (Unit {0}) (renamed m) C a D bs E → InstanceOf F E
  resolvent_lifted R = (
    υ,
    G.result
        ∙ ap₂ (λ (X Y : GroundClause). remaining 1 (a ∷ []) X ++ remaining 1 bs Y) (sym (instance_left m γ δ C in_c)) (sym (instance_right m γ δ n D in_d))
        ∙ ap₂ (λ (X Y : GroundClause). X ++ Y) (sym (map_remaining ground 1 (a ∷ []) C)) (sym (map_remaining ground 1 bs (instantiated (renamed m) D)))
        ∙ sym (map_append ground (remaining 1 (a ∷ []) C) (remaining 1 bs (instantiated (renamed m) D)))
        ∙ instance_through υ R.unifier (R.most_general.general υ made_one) (remaining 1 (a ∷ []) C ++ remaining 1 bs (instantiated (renamed m) D))
        ∙ ap (ground_instance υ) (sym R.result),
  )
    where
      ground : Bool × Term Variable → GroundLiteral
      ground l = (l.0, apply υ l.1)

      is_left_lem : apply υ R.left ≡ G.atom
      is_left_lem = ap (λ (l : GroundLiteral). l.1) (some_injective (sym (map_numbered ground C a (R.sign, R.left) R.is_left) ∙ left_under))

      are_right_lem : map (λ x. (not R.sign, apply υ x)) R.rights ≡ map {B = GroundLiteral} (λ b. (not G.sign, G.atom)) bs
      are_right_lem =
          sym (map_map ground (λ t. (not R.sign, t)) R.rights)
          ∙ some_injective (sym (map_numbered_all ground (instantiated (renamed m) D) bs (map (λ t. (not R.sign, t)) R.rights) R.are_right) ∙ rights_under)

      made_one : Unifies υ (map (λ t. (R.left, t)) R.rights)
      made_one = unifies_all υ R.left (not R.sign) (not G.sign) G.atom R.rights bs is_left_lem are_right_lem

-- The factor of an instance is an instance of the factor.
module _ (C E : Clause) (a b : ℕ) (γ : Variable → Ground) (F : GroundClause) (G : GroundFactor (ground_instance γ C) a b F) where
  pub factor_lifted : Factor (Unit {0}) C a b E → InstanceOf F E
  factor_lifted R = (
    γ,
    G.result
        ∙ sym (map_remaining ground 1 (b ∷ []) C)
        ∙ instance_through γ R.unifier (R.most_general.general γ (is_left_lem ∙ sym is_right_lem, tt)) (remaining 1 (b ∷ []) C)
        ∙ ap (ground_instance γ) (sym R.result),
  )
    where
      ground : Bool × Term Variable → GroundLiteral
      ground l = (l.0, apply γ l.1)

      is_left_lem : apply γ R.left ≡ G.atom
      is_left_lem = ap (λ (l : GroundLiteral). l.1) (some_injective (sym (map_numbered ground C a (R.sign, R.left) R.is_left) ∙ G.is_kept))

      is_right_lem : apply γ R.right ≡ G.atom
      is_right_lem = ap (λ (l : GroundLiteral). l.1) (some_injective (sym (map_numbered ground C b (R.sign, R.right) R.is_right) ∙ G.is_deleted))
