-- Lists of which some elements are kept, by their numbers: the newest is first, and what is kept gets the number of kept ones below it.
use mathlib.Core.Path.{◌≡◌, refl, sym, ap, ◌∙◌, subst}
use mathlib.Core.Bool.{Bool, true, false}
use mathlib.Core.Option.{some}
use mathlib.Core.List.{List, [], ◌∷◌}
use Prim.Native.Nat.{ℕ, zero, suc, ◌+◌, ◌≤◌, ◌<◌}
use native.Mathlib.Omega.{arith}
use lib.Dec.{eqb, eqb_refl}
use lib.ListN.{length}
use Rattle.record.specs.Record.{pick}
use Rattle.unification.specs.Row.{Row, row_at}
use Rattle.unification.proofs.Rows.{eqb_below}
use Rattle.unification.proofs.Tests.{from_t, some_not_none, some_injective}
use Rattle.verdict.specs.State.{entry}
use Rattle.demands.proofs.Inversions.{entry_below}
use Rattle.demands.proofs.RangeTests.{equal, unequal}
use Rattle.trimming.specs.Trimming.{kept_below}

abbrev pub keeping : {A B : Type 0} → (ℕ → Bool) → (A → B) → List A → List B
keeping kept f [] = []
keeping kept f (x ∷ xs) = pick (kept (length xs)) (f x ∷ keeping kept f xs) (keeping kept f xs)

module _ (kept : ℕ → Bool) where
  -- ── Numbers ──
  pub below_next : (n : ℕ) → kept n ≡ true → kept_below kept (suc n) ≡ suc (kept_below kept n)
  below_next n k = ap (λ (b : Bool). pick b 1 0 + kept_below kept n) k ∙ omega arith

  below_grows : (n : ℕ) → kept_below kept n ≤ kept_below kept (suc n)
  below_grows n = try (kept n)
    where
      try : (b : Bool) → kept_below kept n ≤ pick b 1 0 + kept_below kept n
      try true = omega arith
      try false = omega arith

  pub below_less : (m n : ℕ) → m < n → kept m ≡ true → kept_below kept m < kept_below kept n
  below_less m zero l k = absurd (omega arith)
  below_less m (suc n) l k = try (eqb m n) refl (λ j. below_less m n j k)
    where
      try : (b : Bool) → eqb m n ≡ b → (m < n → kept_below kept m < kept_below kept n) → kept_below kept m < kept_below kept (suc n)
      try true q ih =
          let e : m ≡ n = equal m n q in
          let z : kept_below kept (suc n) ≡ suc (kept_below kept n) = below_next n (subst (λ (i : ℕ). kept i ≡ true) e k) in
          let w : kept_below kept m ≡ kept_below kept n = ap (kept_below kept) e in
          omega arith
      try false q ih =
          let d : ¬ (m ≡ n) = unequal m n q in
          let z = ih (omega arith) in
          let w = below_grows n in
          omega arith

  -- No two that are kept get the same number.
  pub below_one : (m n : ℕ) → kept m ≡ true → kept n ≡ true → kept_below kept m ≡ kept_below kept n → m ≡ n
  below_one m n j k e =
      let a : ¬ (m < n) = λ l. let z = below_less m n l j in omega arith in
      let b : ¬ (n < m) = λ l. let z = below_less n m l k in omega arith in
      omega arith

  -- Every number below is that of one that is kept.
  pub below_onto : (n q : ℕ) → q < kept_below kept n → (m : ℕ) × (kept m ≡ true) × (m < n) × (kept_below kept m ≡ q)
  below_onto zero q l = absurd (omega arith)
  below_onto (suc n) q l = try (kept n) refl l (λ j. below_onto n q j)
    where
      older : (m : ℕ) × (kept m ≡ true) × (m < n) × (kept_below kept m ≡ q) → (m : ℕ) × (kept m ≡ true) × (m < suc n) × (kept_below kept m ≡ q)
      older x = (x.0, x.1, let z = x.2 in omega arith, x.3)

      here : (c : Bool) → eqb q (kept_below kept n) ≡ c → kept n ≡ true → q < 1 + kept_below kept n → (q < kept_below kept n → (m : ℕ) × (kept m ≡ true) × (m < n) × (kept_below kept m ≡ q)) → (m : ℕ) × (kept m ≡ true) × (m < suc n) × (kept_below kept m ≡ q)
      here true e k j ih = (n, k, omega arith, sym (equal q (kept_below kept n) e))
      here false e k j ih = let d : ¬ (q ≡ kept_below kept n) = unequal q (kept_below kept n) e in older (ih (omega arith))

      try : (b : Bool) → kept n ≡ b → q < pick b 1 0 + kept_below kept n → (q < kept_below kept n → (m : ℕ) × (kept m ≡ true) × (m < n) × (kept_below kept m ≡ q)) → (m : ℕ) × (kept m ≡ true) × (m < suc n) × (kept_below kept m ≡ q)
      try true k j ih = here (eqb q (kept_below kept n)) refl k j ih
      try false k j ih = older (ih (omega arith))

  -- ── Lists ──
  module _ {A B : Type 0} (f : A → B) where
    pub keeping_length : (xs : List A) → length (keeping kept f xs) ≡ kept_below kept (length xs)
    keeping_length [] = refl
    keeping_length (x ∷ xs) = try (kept (length xs)) (keeping_length xs)
      where
        try : (b : Bool) → length (keeping kept f xs) ≡ kept_below kept (length xs) → length (pick b (f x ∷ keeping kept f xs) (keeping kept f xs)) ≡ pick b 1 0 + kept_below kept (length xs)
        try true h = omega arith
        try false h = omega arith

    -- One that is new.
    pub keeping_new : (x : A) (xs : List A) → kept (length xs) ≡ true → keeping kept f (x ∷ xs) ≡ f x ∷ keeping kept f xs
    keeping_new x xs k = ap (λ (b : Bool). pick b (f x ∷ keeping kept f xs) (keeping kept f xs)) k

    pub keeping_not : (x : A) (xs : List A) → kept (length xs) ≡ false → keeping kept f (x ∷ xs) ≡ keeping kept f xs
    keeping_not x xs k = ap (λ (b : Bool). pick b (f x ∷ keeping kept f xs) (keeping kept f xs)) k

    pub keeping_entry : (xs : List A) (n : ℕ) (a : A) → kept n ≡ true → entry xs n ≡ some a → entry (keeping kept f xs) (kept_below kept n) ≡ some (f a)
    keeping_entry [] n a k q = absurd (some_not_none refl q)
    keeping_entry (x ∷ xs) n a k q = try (eqb n (length xs)) refl q (λ p. keeping_entry xs n a k p)
      where
        same : n ≡ length xs → x ≡ a → entry (keeping kept f (x ∷ xs)) (kept_below kept n) ≡ some (f a)
        same e z =
            ap (λ (l : List B). entry l (kept_below kept n)) (keeping_new x xs (subst (λ (i : ℕ). kept i ≡ true) e k))
            ∙ ap (λ (b : Bool). pick b (some (f x)) (entry (keeping kept f xs) (kept_below kept n))) (ap (eqb (kept_below kept n)) (keeping_length xs ∙ ap (kept_below kept) (sym e)) ∙ from_t (eqb (kept_below kept n) (kept_below kept n)) (eqb_refl (kept_below kept n)))
            ∙ ap (λ (y : A). some (f y)) z

        older : (c : Bool) → entry xs n ≡ some a → entry (keeping kept f xs) (kept_below kept n) ≡ some (f a) → entry (pick c (f x ∷ keeping kept f xs) (keeping kept f xs)) (kept_below kept n) ≡ some (f a)
        older true p ih =
            let l : kept_below kept n < length (keeping kept f xs) = omega (arith, below_less n (length xs) (entry_below xs n a p) k, keeping_length xs) in
            ap (λ (b : Bool). pick b (some (f x)) (entry (keeping kept f xs) (kept_below kept n))) (eqb_below (kept_below kept n) (length (keeping kept f xs)) l) ∙ ih
        older false p ih = ih

        try : (b : Bool) → eqb n (length xs) ≡ b → pick b (some x) (entry xs n) ≡ some a → (entry xs n ≡ some a → entry (keeping kept f xs) (kept_below kept n) ≡ some (f a)) → entry (keeping kept f (x ∷ xs)) (kept_below kept n) ≡ some (f a)
        try true e p ih = same (equal n (length xs) e) (some_injective p)
        try false e p ih = older (kept (length xs)) p (ih p)

  -- The same of rows.
  pub keeping_row : (f : Row → Row) (ws : List Row) (r : ℕ) → kept r ≡ true → r < length ws → row_at (keeping kept f ws) (kept_below kept r) ≡ f (row_at ws r)
  keeping_row f [] r k l = absurd (omega arith)
  keeping_row f (w ∷ ws) r k l = try (eqb r (length ws)) refl (λ p. keeping_row f ws r k p)
    where
      older : (c : Bool) → r < length ws → row_at (keeping kept f ws) (kept_below kept r) ≡ f (row_at ws r) → row_at (pick c (f w ∷ keeping kept f ws) (keeping kept f ws)) (kept_below kept r) ≡ f (row_at ws r)
      older true p ih =
          let l : kept_below kept r < length (keeping kept f ws) = omega (arith, below_less r (length ws) p k, keeping_length f ws) in
          ap (λ (b : Bool). pick b (f w) (row_at (keeping kept f ws) (kept_below kept r))) (eqb_below (kept_below kept r) (length (keeping kept f ws)) l) ∙ ih
      older false p ih = ih

      try : (b : Bool) → eqb r (length ws) ≡ b → (r < length ws → row_at (keeping kept f ws) (kept_below kept r) ≡ f (row_at ws r)) → row_at (keeping kept f (w ∷ ws)) (kept_below kept r) ≡ f (pick b w (row_at ws r))
      try true e ih =
          let z : r ≡ length ws = equal r (length ws) e in
          ap (λ (u : List Row). row_at u (kept_below kept r)) (keeping_new f w ws (subst (λ (i : ℕ). kept i ≡ true) z k))
          ∙ ap (λ (b : Bool). pick b (f w) (row_at (keeping kept f ws) (kept_below kept r))) (ap (eqb (kept_below kept r)) (keeping_length f ws ∙ ap (kept_below kept) (sym z)) ∙ from_t (eqb (kept_below kept r) (kept_below kept r)) (eqb_refl (kept_below kept r)))
      try false e ih =
          let d : ¬ (r ≡ length ws) = unequal r (length ws) e in
          let p : r < length ws = omega arith in
          older (kept (length ws)) p (ih p)
