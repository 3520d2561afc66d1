-- An image taken: what the table of images says afterwards, as a set of equations, and when there is a clash.
use mathlib.Core.Path.{◌≡◌, refl, sym, ap, ◌∙◌, subst}
use mathlib.Core.Logic.{◌⊎◌, inl, inr}
use mathlib.Core.Bool.{Bool, true, false}
use mathlib.Core.List.{List}
use Prim.Native.Nat.{ℕ, zero, suc, ◌<◌}
use native.Mathlib.Omega.{arith}
use lib.Dec.{eqb}
use lib.ListN.{length, get_or, set, length-set}
use lib.Seq.{get_or-set_same, get_or-set_other}
use borrow.Author.Tests.{eqb-true, eqb-false}
use Rattle.record.specs.Record.{pick}
use Rattle.unification.proofs.Tests.{true_not_false}
use Rattle.coverings.specs.Covering.{Substitution}
use Rattle.images.specs.Matching.{imaged}

pub same_or_not : (a b : ℕ) → (a ≡ b) ⊎ ¬ (a ≡ b)
same_or_not a b = try (eqb a b) refl
  where
    try : (t : Bool) → eqb a b ≡ t → (a ≡ b) ⊎ ¬ (a ≡ b)
    try true q = inl (eqb-true a b q)
    try false q = inr (eqb-false a b q)

-- Every image in a table has the property E of its place and its row.
abbrev pub Holds : (ℕ → ℕ → Type 0) → List ℕ → Type 0
Holds E X = (x y : ℕ) → get_or X x 0 ≡ suc y → E x y

module _ (There : ℕ → Type 0) (E : Substitution → ℕ → ℕ → Type 0) where
  -- What came of taking y for the image of x.
  pub record Taken (X : List ℕ) (x y : ℕ) (R : Bool × List ℕ) : Type 0 where
    pub long : length R.1 ≡ length X
    pub others : (z : ℕ) → ¬ (z ≡ x) → get_or R.1 z 0 ≡ get_or X z 0
    pub there : Holds (λ z w. There w) R.1
    pub forth : R.0 ≡ true → (σ : Substitution) → Holds (E σ) X → E σ x y → Holds (E σ) R.1
    pub back : R.0 ≡ true → (σ : Substitution) → Holds (E σ) R.1 → Holds (E σ) X × E σ x y
    pub clash : R.0 ≡ false → (σ : Substitution) → Holds (E σ) X → E σ x y → ⊥

  module _ (X : List ℕ) (x y : ℕ) (l : x < length X) (t : There y) (h : Holds (λ z w. There w) X) (one : (σ : Substitution) (w : ℕ) → There w → E σ x w → E σ x y → w ≡ y) where
    -- The place was free.
    at_place : get_or (set X x (suc y)) x 0 ≡ suc y
    at_place = get_or-set_same X x (suc y) 0 l

    elsewhere : (z : ℕ) → ¬ (z ≡ x) → get_or (set X x (suc y)) z 0 ≡ get_or X z 0
    elsewhere z n = get_or-set_other X x z (suc y) 0 n

    pred : (a b : ℕ) → ◌≡◌ {A = ℕ} (suc a) (suc b) → a ≡ b
    pred a b e = omega arith

    set_holds : (P : ℕ → ℕ → Type 0) → Holds P X → P x y → Holds P (set X x (suc y))
    set_holds P k p z w e = try (same_or_not z x)
      where
        try : (z ≡ x) ⊎ ¬ (z ≡ x) → P z w
        try (inl q) = subst (λ (a : ℕ). P a w) (sym q) (subst (P x) (pred y w (sym at_place ∙ ap (λ (a : ℕ). get_or (set X x (suc y)) a 0) (sym q) ∙ e)) p)
        try (inr n) = k z w (sym (elsewhere z n) ∙ e)

    free : get_or X x 0 ≡ 0 → Taken X x y (true, set X x (suc y))
    free q = record {
      long = length-set X x (suc y);
      others = elsewhere;
      there = set_holds (λ z w. There w) h t;
      forth = λ b σ k p. set_holds (E σ) k p;
      back = λ b σ k. ((λ z w e. k z w (elsewhere z (λ s. let g = ap (λ (a : ℕ). get_or X a 0) s in omega arith) ∙ e)), k x y at_place);
      clash = λ b σ k p. true_not_false refl b;
    }

    -- It had an image.
    full : (w : ℕ) → get_or X x 0 ≡ suc w → (b : Bool) → eqb (get_or X x 0) (suc y) ≡ b → Taken X x y (b, X)
    full w q b e = record {
      long = refl;
      others = λ z n. refl;
      there = h;
      forth = λ p σ k r. k;
      back = λ p σ k. (k, k x y (eqb-true (get_or X x 0) (suc y) (e ∙ p)));
      clash = λ p σ k r. eqb-false (get_or X x 0) (suc y) (e ∙ p) (q ∙ ap suc (one σ w (h x w q) (k x w q) r));
    }

    pub taken : Taken X x y (imaged X x y)
    taken = try (get_or X x 0) refl (eqb (get_or X x 0) 0) refl
      where
        try : (n : ℕ) → get_or X x 0 ≡ n → (b : Bool) → eqb (get_or X x 0) 0 ≡ b → Taken X x y (pick b (true, set X x (suc y)) (eqb (get_or X x 0) (suc y), X))
        try n q true e = free (eqb-true (get_or X x 0) 0 e)
        try zero q false e = absurd (eqb-false (get_or X x 0) 0 e q)
        try (suc w) q false e = full w q (eqb (get_or X x 0) (suc y)) refl
