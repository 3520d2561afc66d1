-- The table of rows: what its terms are, and that a symbol has one number of arguments.
use mathlib.Core.Path.{◌≡◌, refl, sym, ap, ap₂, ◌∙◌, subst}
use mathlib.Core.Logic.{◌⊎◌, inl, inr}
use mathlib.Core.Bool.{Bool, true, false}
use mathlib.Core.Option.{Option, none, some}
use mathlib.Core.List.{List, [], ◌∷◌}
use Prim.Native.Nat.{ℕ, suc, ◌≤◌, ◌<◌}
use native.Mathlib.Omega.{arith}
use lib.Dec.{eqb, T, eqb→eq, eqb_refl}
use lib.ListN.{length}
use Rattle.record.specs.Record.{pick}
use Rattle.unification.specs.Row.{variable, Row, application, no_symbol, row_at, argument_terms, row_term, term_at}
use Rattle.unification.specs.Term.{Term, app, cons}
use Rattle.unification.proofs.Lists.{Each}
use Rattle.unification.proofs.Tests.{to_t, from_t, true_not_false, some_not_none, some_injective}

-- Every number of the list is below n.
abbrev pub Below : ℕ → List ℕ → Type 0
Below n xs = Each (λ a. a < n) xs

abbrev pub RowBelow : ℕ → Row → Type 0
RowBelow n (variable v) = Unit {0}
RowBelow n (application s xs) = Below n xs

abbrev pub RowOk : (ℕ → Option ℕ) → List Row → Row → Type 0
RowOk ar ws (variable v) = Unit {0}
RowOk ar ws (application s xs) = (ar s ≡ some (length xs)) × Below (length ws) xs

abbrev pub RowsOk : (ℕ → Option ℕ) → List Row → Type 0
RowsOk ar [] = Unit {0}
RowsOk ar (w ∷ ws) = RowOk ar ws w × RowsOk ar ws

below_more : (n m : ℕ) → n ≤ m → (xs : List ℕ) → Below n xs → Below m xs
below_more n m l [] h = tt
below_more n m l (a ∷ xs) h = (let k = h.0 in omega arith, below_more n m l xs h.1)

row_below_more : (n m : ℕ) → n ≤ m → (w : Row) → RowBelow n w → RowBelow m w
row_below_more n m l (variable v) h = tt
row_below_more n m l (application s xs) h = below_more n m l xs h

arguments_ext : (f g : ℕ → Term ℕ) (n : ℕ) → ((a : ℕ) → a < n → f a ≡ g a) → (xs : List ℕ) → Below n xs → argument_terms f xs ≡ argument_terms g xs
arguments_ext f g n h [] k = refl
arguments_ext f g n h (a ∷ xs) k = ap₂ cons (h a k.0) (arguments_ext f g n h xs k.1)

row_term_ext : (f g : ℕ → Term ℕ) (n : ℕ) → ((a : ℕ) → a < n → f a ≡ g a) → (r : ℕ) (w : Row) → RowBelow n w → row_term f r w ≡ row_term g r w
row_term_ext f g n h r (variable v) k = refl
row_term_ext f g n h r (application s xs) k = ap (app s) (arguments_ext f g n h xs k)

pub eqb_below : (a n : ℕ) → a < n → eqb a n ≡ false
eqb_below a n h = try (eqb a n) refl
  where
    try : (b : Bool) → eqb a n ≡ b → b ≡ false
    try true q = let z : a ≡ n = eqb→eq a n (to_t (eqb a n) q) in absurd (omega arith)
    try false q = refl

pub below_other : (r n : ℕ) → eqb r n ≡ false → r < suc n → r < n
below_other r n e l = try (eqb r n) e (eq_test r n)
  where
    eq_test : (r n : ℕ) → r ≡ n → eqb r n ≡ true
    eq_test r n p = from_t (eqb r n) (subst (λ (k : ℕ). T (eqb r k)) p (eqb_refl r))

    try : (b : Bool) → b ≡ false → (r ≡ n → b ≡ true) → r < n
    try b f g =
        let k : ¬ (r ≡ n) = λ p. true_not_false (g p) f in
        omega arith

module _ (ar : ℕ → Option ℕ) where
  pub row_below : (ws : List Row) → RowsOk ar ws → (r : ℕ) → RowBelow (length ws) (row_at ws r)
  row_below [] h r = tt
  row_below (w ∷ ws) h r = try (eqb r (length ws)) (row_below ws h.1 r)
    where
      new : (w : Row) → RowOk ar ws w → RowBelow (length ws) w
      new (variable v) k = tt
      new (application s xs) k = k.1

      try : (b : Bool) → RowBelow (length ws) (row_at ws r) → RowBelow (suc (length ws)) (pick b w (row_at ws r))
      try true ih = row_below_more (length ws) (suc (length ws)) (omega arith) w (new w h.0)
      try false ih = row_below_more (length ws) (suc (length ws)) (omega arith) (row_at ws r) ih

  term_old : (w : Row) (ws : List Row) (a : ℕ) → a < length ws → term_at ws a ≡ term_at (w ∷ ws) a
  term_old w ws a h = rw (eqb_below a (length ws) h)

  pub term_law : (ws : List Row) → RowsOk ar ws → (r : ℕ) → term_at ws r ≡ row_term (term_at ws) r (row_at ws r)
  term_law [] h r = refl
  term_law (w ∷ ws) h r = try (eqb r (length ws)) (term_law ws h.1 r)
    where
      new : (w : Row) → RowOk ar ws w → RowBelow (length ws) w
      new (variable v) k = tt
      new (application s xs) k = k.1

      try : (b : Bool) → term_at ws r ≡ row_term (term_at ws) r (row_at ws r) → pick b (row_term (term_at ws) r w) (term_at ws r) ≡ row_term (term_at (w ∷ ws)) r (pick b w (row_at ws r))
      try true ih = row_term_ext (term_at ws) (term_at (w ∷ ws)) (length ws) (term_old w ws) r w (new w h.0)
      try false ih = ih ∙ row_term_ext (term_at ws) (term_at (w ∷ ws)) (length ws) (term_old w ws) r (row_at ws r) (row_below ws h.1 r)

  -- A row that is there has its symbol's number of arguments.
  pub row_there : (ws : List Row) → RowsOk ar ws → (r s : ℕ) (xs : List ℕ) → r < length ws → row_at ws r ≡ application s xs → ar s ≡ some (length xs)
  row_there [] h r s xs l q = absurd (omega arith)
  row_there (w ∷ ws) h r s xs l q = try (eqb r (length ws)) refl q (λ k p. row_there ws h.1 r s xs k p)
    where
      new : (w : Row) → RowOk ar ws w → w ≡ application s xs → ar s ≡ some (length xs)
      new (variable v) k p = let z : ◌≡◌ {A = ℕ} 0 1 = cc in absurd (omega arith)
      new (application t ys) k p =
          let a : t ≡ s = cc in
          let b : ys ≡ xs = cc in
          rw (← a, ← b) k.0

      try : (b : Bool) → eqb r (length ws) ≡ b → pick b w (row_at ws r) ≡ application s xs → (r < length ws → row_at ws r ≡ application s xs → ar s ≡ some (length xs)) → ar s ≡ some (length xs)
      try true e p k = new w h.0 p
      try false e p k = k (below_other r (length ws) e l) p

  Declared : Row → Type 0
  Declared (variable v) = Unit {0}
  Declared (application s xs) = (ar s ≡ some (length xs)) ⊎ ((s ≡ no_symbol) × (xs ≡ []))

  row_declared : (ws : List Row) → RowsOk ar ws → (r : ℕ) → Declared (row_at ws r)
  unfolding Declared
  row_declared [] h r = inr (refl, refl)
  row_declared (w ∷ ws) h r = try (eqb r (length ws)) (row_declared ws h.1 r)
    where
      new : (w : Row) → RowOk ar ws w → Declared w
      new (variable v) k = tt
      new (application s xs) k = inl k.0

      try : (b : Bool) → Declared (row_at ws r) → Declared (pick b w (row_at ws r))
      try true ih = new w h.0
      try false ih = ih

  pub row_arities : ar no_symbol ≡ none → (ws : List Row) → RowsOk ar ws → (r q s : ℕ) (xs ys : List ℕ) → row_at ws r ≡ application s xs → row_at ws q ≡ application s ys → length xs ≡ length ys
  unfolding Declared
  row_arities no' ws h r q s xs ys p p' = try (rw p at (row_declared ws h r)) (rw p' at (row_declared ws h q))
    where
      try : (ar s ≡ some (length xs)) ⊎ ((s ≡ no_symbol) × (xs ≡ [])) → (ar s ≡ some (length ys)) ⊎ ((s ≡ no_symbol) × (ys ≡ [])) → length xs ≡ length ys
      try (inl a) (inl b) = some_injective (sym a ∙ b)
      try (inl a) (inr b) = absurd (some_not_none (ap ar b.0 ∙ no') a)
      try (inr a) (inl b) = absurd (some_not_none (ap ar a.0 ∙ no') b)
      try (inr a) (inr b) = ap length (a.1 ∙ sym b.1)
