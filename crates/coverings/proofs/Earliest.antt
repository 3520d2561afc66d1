-- The search finds the earliest choice that fits, or there is none.
use mathlib.Core.Path.{◌≡◌, refl, sym, ap, ap₂, ◌∙◌, subst}
use mathlib.Core.Logic.{◌⊎◌, inl, inr}
use mathlib.Core.Bool.{Bool, true, false, ◌&&◌}
use mathlib.Core.List.{List}
use Prim.Native.Nat.{ℕ, zero, suc, ◌+◌, ◌*◌, ◌≤◌, ◌<◌}
use native.Mathlib.Omega.{arith}
use lib.ListN.{length, get_or, set, length-set}
use lib.Seq.{get_or-set_same, get_or-set_other}
use Rattle.record.specs.Record.{pick}
use Rattle.unification.proofs.Tests.{true_not_false}
use Rattle.matching.specs.Searching.{pair_chosen, fits_from, fits, or_next, tried, searched}
use Rattle.coverings.proofs.Taking.{same_or_not}

-- Two choices have the same numbers below i.
abbrev pub SameTo : ℕ → List ℕ → List ℕ → Type 0
SameTo i X Z = (j : ℕ) → j < i → get_or X j 0 ≡ get_or Z j 0

-- The k numbers from i on of one choice are not after those of another.
abbrev pub NotAfterFrom : ℕ → ℕ → List ℕ → List ℕ → Type 0
NotAfterFrom i zero Y Z = Unit {0}
NotAfterFrom i (suc k) Y Z = (get_or Y i 0 < get_or Z i 0) ⊎ ((get_or Y i 0 ≡ get_or Z i 0) × NotAfterFrom (suc i) k Y Z)

module _ (T : List Bool) (rights : ℕ) where
  -- Whether a number fits depends on those up to it alone.
  fits_from_same : (X Z : List ℕ) (i m j : ℕ) → j + m ≤ suc i → SameTo (suc i) X Z → fits_from T X i m j ≡ fits_from T Z i m j
  fits_from_same X Z i zero j l h = refl
  fits_from_same X Z i (suc m) j l h =
      ap₂ (λ (p q : ℕ). get_or T (64 * (8 * j + p) + (8 * i + q)) false && fits_from T X i m (suc j)) (h j (omega arith)) (h i (omega arith))
      ∙ ap (λ (b : Bool). get_or T (64 * pair_chosen Z j + pair_chosen Z i) false && b) (fits_from_same X Z i m (suc j) (omega arith) h)

  fits_same : (X Z : List ℕ) (i : ℕ) → SameTo (suc i) X Z → fits T X i ≡ fits T Z i
  fits_same X Z i h = fits_from_same X Z i (suc i) 0 (omega arith) h

  -- The k numbers from i on are literals of D, and each fits.
  abbrev pub FitFrom : ℕ → ℕ → List ℕ → Type 0
  FitFrom i k Z = (j : ℕ) → i ≤ j → j < i + k → (1 ≤ get_or Z j 0) × (get_or Z j 0 ≤ rights) × (fits T Z j ≡ true)

  later : (i k : ℕ) (Z : List ℕ) → FitFrom i (suc k) Z → FitFrom (suc i) k Z
  later i k Z h j a b = h j (omega arith) (omega arith)

  pub record Came (k i : ℕ) (X : List ℕ) (R : Bool × List ℕ) : Type 0 where
    pub long : length R.1 ≡ length X
    pub before : SameTo i X R.1
    pub past : (j : ℕ) → i + k ≤ j → get_or X j 0 ≡ get_or R.1 j 0
    -- Found: the numbers fit, and no others that fit are before them.
    pub fitting : R.0 ≡ true → FitFrom i k R.1
    pub least : R.0 ≡ true → (Z : List ℕ) → SameTo i X Z → FitFrom i k Z → NotAfterFrom i k R.1 Z
    -- Not found: none fit.
    pub none : R.0 ≡ false → (Z : List ℕ) → SameTo i X Z → FitFrom i k Z → ⊥

  -- The same with numbers from n on for literal i.
  record TriedFrom (k i n : ℕ) (X : List ℕ) (R : Bool × List ℕ) : Type 0 where
    pub long : length R.1 ≡ length X
    pub before : SameTo i X R.1
    pub past : (j : ℕ) → i + suc k ≤ j → get_or X j 0 ≡ get_or R.1 j 0
    pub fitting : R.0 ≡ true → FitFrom i (suc k) R.1
    pub least : R.0 ≡ true → (Z : List ℕ) → SameTo i X Z → FitFrom i (suc k) Z → n ≤ get_or Z i 0 → NotAfterFrom i (suc k) R.1 Z
    pub none : R.0 ≡ false → (Z : List ℕ) → SameTo i X Z → FitFrom i (suc k) Z → n ≤ get_or Z i 0 → ⊥

  module _ (k i : ℕ) (after : List ℕ → Bool × List ℕ) (afterCame : (X : List ℕ) → i + suc k ≤ length X → Came k (suc i) X (after X)) where
    module _ (n : ℕ) (X : List ℕ) (l : i + suc k ≤ length X) where
      abbrev here : List ℕ
      here = set X i n

      here_number : get_or (set X i n) i 0 ≡ n
      here_number = get_or-set_same X i n 0 (omega arith)

      here_before : SameTo i X (set X i n)
      here_before j b = sym (get_or-set_other X i j n 0 (λ e. omega arith))

      here_past : (j : ℕ) → i + suc k ≤ j → get_or X j 0 ≡ get_or (set X i n) j 0
      here_past j b = sym (get_or-set_other X i j n 0 (λ e. omega arith))

      here_long : length (set X i n) ≡ length X
      here_long = length-set X i n

      -- A choice with this number is one after `here`.
      from_here : (Z : List ℕ) → SameTo i X Z → get_or Z i 0 ≡ n → SameTo (suc i) (set X i n) Z
      from_here Z h e j b = try (same_or_not j i)
        where
          try : (j ≡ i) ⊎ ¬ (j ≡ i) → get_or (set X i n) j 0 ≡ get_or Z j 0
          try (inl q) = ap (λ (a : ℕ). get_or (set X i n) a 0) q ∙ here_number ∙ sym e ∙ ap (λ (a : ℕ). get_or Z a 0) (sym q)
          try (inr q) = sym (here_before j (omega arith)) ∙ h j (omega arith)

      -- One from this number on has this number or a later one.
      cases : (Z : List ℕ) → n ≤ get_or Z i 0 → (get_or Z i 0 ≡ n) ⊎ (suc n ≤ get_or Z i 0)
      cases Z b = try (same_or_not (get_or Z i 0) n)
        where
          try : (get_or Z i 0 ≡ n) ⊎ ¬ (get_or Z i 0 ≡ n) → (get_or Z i 0 ≡ n) ⊎ (suc n ≤ get_or Z i 0)
          try (inl q) = inl q
          try (inr q) = inr (omega arith)

      -- The number leads to nothing: the next ones decide.
      go_on_lem : (Y : List ℕ) → length Y ≡ length X → SameTo i X Y → ((j : ℕ) → i + suc k ≤ j → get_or X j 0 ≡ get_or Y j 0) → ((Z : List ℕ) → SameTo i X Z → FitFrom i (suc k) Z → get_or Z i 0 ≡ n → ⊥) → (R : Bool × List ℕ) → TriedFrom k i (suc n) Y R → TriedFrom k i n X R
      go_on_lem Y g s p dead R A = record {
        long = A.long ∙ g;
        before = λ j b. s j b ∙ A.before j b;
        past = λ j b. p j b ∙ A.past j b;
        fitting = A.fitting;
        least = λ t Z h f b. try_least t Z h f (cases Z b);
        none = λ t Z h f b. try_none t Z h f (cases Z b);
      }
        where
          over : (Z : List ℕ) → SameTo i X Z → SameTo i Y Z
          over Z h j b = sym (s j b) ∙ h j b

          try_least : R.0 ≡ true → (Z : List ℕ) → SameTo i X Z → FitFrom i (suc k) Z → (get_or Z i 0 ≡ n) ⊎ (suc n ≤ get_or Z i 0) → NotAfterFrom i (suc k) R.1 Z
          try_least t Z h f (inl q) = absurd (dead Z h f q)
          try_least t Z h f (inr q) = A.least t Z (over Z h) f q

          try_none : R.0 ≡ false → (Z : List ℕ) → SameTo i X Z → FitFrom i (suc k) Z → (get_or Z i 0 ≡ n) ⊎ (suc n ≤ get_or Z i 0) → ⊥
          try_none t Z h f (inl q) = dead Z h f q
          try_none t Z h f (inr q) = A.none t Z (over Z h) f q

      -- The number leads to a whole choice.
      found_here : 1 ≤ n → n ≤ rights → fits T (set X i n) i ≡ true → (Y : List ℕ) → Came k (suc i) (set X i n) (true, Y) → TriedFrom k i n X (true, Y)
      found_here a b f Y A = record {
        long = A.long ∙ here_long;
        before = λ j c. here_before j c ∙ A.before j (omega arith);
        past = λ j c. here_past j c ∙ A.past j (omega arith);
        fitting = λ t j c e. fit j c e (same_or_not j i);
        least = λ t Z h g c. least_here Z h g (cases Z c);
        none = λ t. absurd (true_not_false refl t);
      }
        where
          number : get_or Y i 0 ≡ n
          number = sym (A.before i (omega arith)) ∙ here_number

          fit : (j : ℕ) → i ≤ j → j < i + suc k → (j ≡ i) ⊎ ¬ (j ≡ i) → (1 ≤ get_or Y j 0) × (get_or Y j 0 ≤ rights) × (fits T Y j ≡ true)
          fit j c e (inl q) = subst (λ (z : ℕ). (1 ≤ get_or Y z 0) × (get_or Y z 0 ≤ rights) × (fits T Y z ≡ true)) (sym q) (omega (arith, number), omega (arith, number), sym (fits_same (set X i n) Y i A.before) ∙ f)
          fit j c e (inr q) = A.fitting refl j (omega arith) (omega arith)

          least_here : (Z : List ℕ) → SameTo i X Z → FitFrom i (suc k) Z → (get_or Z i 0 ≡ n) ⊎ (suc n ≤ get_or Z i 0) → NotAfterFrom i (suc k) Y Z
          least_here Z h g (inl q) = inr (number ∙ sym q, A.least refl Z (from_here Z h q) (later i k Z g))
          least_here Z h g (inr q) = inl (omega (arith, number))

    tried_came : (m n : ℕ) → n + m ≡ suc rights → 1 ≤ n → (X : List ℕ) → i + suc k ≤ length X → TriedFrom k i n X (tried T i after m n X)
    tried_came zero n e o X l = record {
      long = refl;
      before = λ j b. refl;
      past = λ j b. refl;
      fitting = λ t. absurd (true_not_false t refl);
      least = λ t. absurd (true_not_false t refl);
      none = λ t Z h f b. let z = (f i (omega arith) (omega arith)).1 in omega arith;
    }
    tried_came (suc m) n e o X l = try (fits T (set X i n) i) refl (λ Y g. tried_came m (suc n) (omega arith) (omega arith) Y g)
      where
        try_after : fits T (set X i n) i ≡ true → (R : Bool × List ℕ) → Came k (suc i) (set X i n) R → ((Y : List ℕ) → i + suc k ≤ length Y → TriedFrom k i (suc n) Y (tried T i after m (suc n) Y))
            → TriedFrom k i n X (or_next R (λ Y. tried T i after m (suc n) Y))
        try_after f (true, Y) A ih = found_here n X l o (omega arith) f Y A
        try_after f (false, Y) A ih =
            let g = A.long ∙ here_long n X l in
            go_on_lem n X l Y g (λ j b. here_before n X l j b ∙ A.before j (omega arith)) (λ j b. here_past n X l j b ∙ A.past j (omega arith)) (λ Z h t q. A.none refl Z (from_here n X l Z h q) (later i k Z t)) (tried T i after m (suc n) Y) (ih Y (omega arith))

        try : (b : Bool) → fits T (set X i n) i ≡ b → ((Y : List ℕ) → i + suc k ≤ length Y → TriedFrom k i (suc n) Y (tried T i after m (suc n) Y))
            → TriedFrom k i n X (or_next (pick b (after (set X i n)) (false, set X i n)) (λ Y. tried T i after m (suc n) Y))
        try true f ih = let g = here_long n X l in try_after f (after (set X i n)) (afterCame (set X i n) (omega arith)) ih
        try false f ih =
            let g = here_long n X l in
            go_on_lem n X l (set X i n) g (here_before n X l) (here_past n X l) (λ Z h t q. true_not_false (t i (omega arith) (omega arith)).2 (sym (fits_same (set X i n) Z i (from_here n X l Z h q)) ∙ f)) (tried T i after m (suc n) (set X i n)) (ih (set X i n) (omega arith))

  pub search_came : (k i : ℕ) (X : List ℕ) → i + k ≤ length X → Came k i X (searched T rights k i X)
  search_came zero i X l = record { long = refl; before = λ j b. refl; past = λ j b. refl; fitting = λ t j a b. absurd (omega arith); least = λ t Z h f. tt; none = λ t. absurd (true_not_false refl t) }
  search_came (suc k) i X l = whole (tried_came k i (λ Y. searched T rights k (suc i) Y) (λ Y g. search_came k (suc i) Y (omega arith)) rights 1 (omega arith) (omega arith) X l)
    where
      whole : TriedFrom k i 1 X (tried T i (λ Y. searched T rights k (suc i) Y) rights 1 X) → Came (suc k) i X (tried T i (λ Y. searched T rights k (suc i) Y) rights 1 X)
      whole A = record {
        long = A.long;
        before = A.before;
        past = A.past;
        fitting = A.fitting;
        least = λ t Z h f. A.least t Z h f (f i (omega arith) (omega arith)).0;
        none = λ t Z h f. A.none t Z h f (f i (omega arith) (omega arith)).0;
      }
