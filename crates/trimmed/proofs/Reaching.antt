-- Rows that a row reaches: itself, and with every row its arguments; and every other one is an argument of one that is reached.
use mathlib.Core.Path.{◌≡◌, refl, sym, ap, ◌∙◌, subst}
use mathlib.Core.Logic.{◌⊎◌, inl, inr}
use mathlib.Core.Bool.{Bool, true, false, ◌&&◌, ◌||◌, or-true}
use mathlib.Core.Option.{Option}
use mathlib.Core.List.{List, [], ◌∷◌}
use Prim.Native.Nat.{ℕ, suc, ◌≤◌, ◌<◌}
use native.Mathlib.Omega.{arith}
use lib.Dec.{eqb}
use lib.ListN.{length}
use Rattle.record.specs.Record.{pick}
use Rattle.unification.specs.Row.{variable, Row, application, row_at}
use Rattle.unification.proofs.Lists.{Each}
use Rattle.unification.proofs.Repeats.{itself, row_old, row_new}
use Rattle.unification.proofs.Rows.{RowOk, RowsOk, eqb_below, below_other}
use Rattle.unification.proofs.Tests.{both_true, true_not_false}
use Rattle.derivation.specs.Derivation.{RowLiteral, Use}
use Rattle.demands.specs.Conditions.{OneOf}
use Rattle.demands.proofs.RangeTests.{equal}
use Rattle.trimming.specs.Kept.{some_of, arguments_of, reaches, literals_reach, uses_reach, is_of, symbol_of}

-- ── Tests and lists ──
pub either_true : (a b : Bool) → (a || b) ≡ true → (a ≡ true) ⊎ (b ≡ true)
either_true true b h = inl refl
either_true false b h = inr h

pub left_true : (a b : Bool) → a ≡ true → (a || b) ≡ true
left_true a b h = ap (λ (x : Bool). x || b) h

pub right_true : (a b : Bool) → b ≡ true → (a || b) ≡ true
right_true a b h = ap (λ (x : Bool). a || x) h ∙ or-true a

module _ {A : Type 0} (P : A → Type 0) where
  pub each_one : (xs : List A) → Each P xs → (a : A) → OneOf a xs → P a
  each_one [] h a o = absurd o
  each_one (x ∷ xs) h a (inl e) = subst P (sym e) h.0
  each_one (x ∷ xs) h a (inr o) = each_one xs h.1 a o

  pub one_each : (xs : List A) → ((a : A) → OneOf a xs → P a) → Each P xs
  one_each [] h = tt
  one_each (x ∷ xs) h = (h x (inl refl), one_each xs (λ a o. h a (inr o)))

some_of_lem : (test : ℕ → Bool) (xs : List ℕ) → some_of test xs ≡ true → (a : ℕ) × OneOf a xs × (test a ≡ true)
some_of_lem test [] h = absurd (true_not_false h refl)
some_of_lem test (x ∷ xs) h = try (either_true (test x) (some_of test xs) h) (some_of_lem test xs)
  where
    try : (test x ≡ true) ⊎ (some_of test xs ≡ true) → (some_of test xs ≡ true → (a : ℕ) × OneOf a xs × (test a ≡ true)) → (a : ℕ) × OneOf a (x ∷ xs) × (test a ≡ true)
    try (inl p) ih = (x, inl refl, p)
    try (inr p) ih = let z = ih p in (z.0, inr z.1, z.2)

of_some : (test : ℕ → Bool) (xs : List ℕ) (a : ℕ) → OneOf a xs → test a ≡ true → some_of test xs ≡ true
of_some test [] a o h = absurd o
of_some test (x ∷ xs) a (inl e) h = left_true (test x) (some_of test xs) (ap test (sym e) ∙ h)
of_some test (x ∷ xs) a (inr o) h = right_true (test x) (some_of test xs) (of_some test xs a o h)

-- ── One row ──
pub reach_self : (ws : List Row) (r : ℕ) → r < length ws → reaches ws r r ≡ true
reach_self [] r l = absurd (omega arith)
reach_self (w ∷ ws) r l = try (eqb r (length ws)) refl (reach_self ws r)
  where
    try : (b : Bool) → eqb r (length ws) ≡ b → (r < length ws → reaches ws r r ≡ true) → pick b (eqb r r || some_of (λ a. reaches ws a r) (arguments_of w)) (reaches ws r r) ≡ true
    try true q ih = left_true (eqb r r) (some_of (λ a. reaches ws a r) (arguments_of w)) (itself r)
    try false q ih = ih (below_other r (length ws) q l)

pub reach_below : (ws : List Row) (r q : ℕ) → reaches ws r q ≡ true → (q ≤ r) × (r < length ws)
reach_below [] r q h = absurd (true_not_false h refl)
reach_below (w ∷ ws) r q h = try (eqb r (length ws)) refl h (λ a. reach_below ws a q)
  where
    own : eqb r (length ws) ≡ true → (eqb q r ≡ true) ⊎ (some_of (λ a. reaches ws a q) (arguments_of w) ≡ true) → ((a : ℕ) → reaches ws a q ≡ true → (q ≤ a) × (a < length ws)) → (q ≤ r) × (r < suc (length ws))
    own e (inl p) ih = let z = equal q r p in let y = equal r (length ws) e in (omega arith, omega arith)
    own e (inr p) ih =
        let s = some_of_lem (λ a. reaches ws a q) (arguments_of w) p in
        let z = ih s.0 s.2 in
        let y = equal r (length ws) e in
        (omega (arith, z.0, z.1), omega arith)

    try : (b : Bool) → eqb r (length ws) ≡ b → pick b (eqb q r || some_of (λ a. reaches ws a q) (arguments_of w)) (reaches ws r q) ≡ true → ((a : ℕ) → reaches ws a q ≡ true → (q ≤ a) × (a < length ws)) → (q ≤ r) × (r < suc (length ws))
    try true e p ih = own e (either_true (eqb q r) (some_of (λ a. reaches ws a q) (arguments_of w)) p) ih
    try false e p ih = let z = ih r p in (z.0, omega (arith, z.1))

-- A newer row is above the older ones.
reach_older : (w : Row) (ws : List Row) (r q : ℕ) → r < length ws → reaches ws r q ≡ true → reaches (w ∷ ws) r q ≡ true
reach_older w ws r q l h = rw (eqb_below r (length ws) l) h

reach_argument : (w : Row) (ws : List Row) (a q : ℕ) → OneOf a (arguments_of w) → reaches ws a q ≡ true → reaches (w ∷ ws) (length ws) q ≡ true
reach_argument w ws a q o h = rw (itself (length ws)) (right_true (eqb q (length ws)) (some_of (λ a. reaches ws a q) (arguments_of w)) (of_some (λ a. reaches ws a q) (arguments_of w) a o h))

-- With a row its arguments.
module _ (ar : ℕ → Option ℕ) where
  pub reach_arguments : (ws : List Row) → RowsOk ar ws → (r q s : ℕ) (xs : List ℕ) → reaches ws r q ≡ true → row_at ws q ≡ application s xs → (a : ℕ) → OneOf a xs → reaches ws r a ≡ true
  reach_arguments [] R r q s xs h e a o = absurd (true_not_false h refl)
  reach_arguments (w ∷ ws) R r q s xs h e a o = try (eqb r (length ws)) refl h (λ b p z. reach_arguments ws R.1 b q s xs p z a o)
    where
      below : (u : Row) → RowOk ar ws u → u ≡ application s xs → OneOf a (arguments_of u) × (a < length ws)
      below (variable v) k z = let y : ◌≡◌ {A = ℕ} 0 1 = cc in absurd (omega arith)
      below (application t ys) k z =
          let y : xs ≡ ys = cc in
          let m : OneOf a ys = subst (OneOf a) y o in
          (m, each_one (λ b. b < length ws) ys k.1 a m)

      -- The rows of older ones are the same.
      older : (b : ℕ) → reaches ws b q ≡ true → row_at ws q ≡ application s xs
      older b p = let z = reach_below ws b q p in sym (row_old w ws q (omega (arith, z.0, z.1))) ∙ e

      own : r ≡ length ws → (eqb q r ≡ true) ⊎ (some_of (λ b. reaches ws b q) (arguments_of w) ≡ true) → ((b : ℕ) → reaches ws b q ≡ true → row_at ws q ≡ application s xs → reaches ws b a ≡ true) → reaches (w ∷ ws) r a ≡ true
      own z (inl p) ih =
          let y = equal q r p ∙ z in
          let k = below w R.0 (sym (ap (row_at (w ∷ ws)) y ∙ row_new w ws) ∙ e) in
          subst (λ (i : ℕ). reaches (w ∷ ws) i a ≡ true) (sym z) (reach_argument w ws a a k.0 (reach_self ws a k.1))
      own z (inr p) ih =
          let f = some_of_lem (λ b. reaches ws b q) (arguments_of w) p in
          subst (λ (i : ℕ). reaches (w ∷ ws) i a ≡ true) (sym z) (reach_argument w ws f.0 a f.1 (ih f.0 f.2 (older f.0 f.2)))

      try : (b : Bool) → eqb r (length ws) ≡ b → pick b (eqb q r || some_of (λ b. reaches ws b q) (arguments_of w)) (reaches ws r q) ≡ true → ((b : ℕ) → reaches ws b q ≡ true → row_at ws q ≡ application s xs → reaches ws b a ≡ true) → reaches (w ∷ ws) r a ≡ true
      try true z p ih = own (equal r (length ws) z) (either_true (eqb q r) (some_of (λ b. reaches ws b q) (arguments_of w)) p) ih
      try false z p ih = reach_older w ws r a (reach_below ws r q p).1 (ih r p (older r p))

-- Every row that is reached is the first one, or an argument of one that is reached.
pub record Argument (ws : List Row) (reached : ℕ → Bool) (q : ℕ) : Type 0 where
  pub row : ℕ
  pub symbol : ℕ
  pub arguments : List ℕ
  pub is_reached : reached row ≡ true
  pub is_row : row_at ws row ≡ application symbol arguments
  pub is_argument : OneOf q arguments
  pub is_below : q < row

pub reached_from : (ws : List Row) (r q : ℕ) → reaches ws r q ≡ true → (q ≡ r) ⊎ Argument ws (reaches ws r) q
reached_from [] r q h = absurd (true_not_false h refl)
reached_from (w ∷ ws) r q h = try (eqb r (length ws)) refl h (λ b. reached_from ws b q)
  where
    -- An argument of an older row.
    older : (b : ℕ) → ((i : ℕ) → i < length ws → reaches ws b i ≡ true → reaches (w ∷ ws) r i ≡ true) → Argument ws (reaches ws b) q → Argument (w ∷ ws) (reaches (w ∷ ws) r) q
    older b f A =
        let l = reach_below ws b A.row A.is_reached in
        let m : A.row < length ws = omega (arith, l.0, l.1) in
        record { row = A.row; symbol = A.symbol; arguments = A.arguments; is_reached = f A.row m A.is_reached; is_row = row_old w ws A.row m ∙ A.is_row; is_argument = A.is_argument; is_below = A.is_below }

    -- An argument of the newest row.
    newest : (u : Row) → w ≡ u → r ≡ length ws → OneOf q (arguments_of u) → q < length ws → Argument (w ∷ ws) (reaches (w ∷ ws) r) q
    newest (variable v) e z o l = absurd o
    newest (application s xs) e z o l = record {
      row = r;
      symbol = s;
      arguments = xs;
      is_reached = reach_self (w ∷ ws) r (omega arith);
      is_row = ap (row_at (w ∷ ws)) z ∙ row_new w ws ∙ e;
      is_argument = o;
      is_below = omega arith;
    }

    through : r ≡ length ws → (a : ℕ) → OneOf a (arguments_of w) → reaches ws a q ≡ true → (q ≡ a) ⊎ Argument ws (reaches ws a) q → Argument (w ∷ ws) (reaches (w ∷ ws) r) q
    through z a o p (inl e) = newest w refl z (subst (λ (i : ℕ). OneOf i (arguments_of w)) (sym e) o) (let l = reach_below ws a q p in omega (arith, l.0, l.1))
    through z a o p (inr A) = older a (λ i l h. subst (λ (j : ℕ). reaches (w ∷ ws) j i ≡ true) (sym z) (reach_argument w ws a i o h)) A

    own : r ≡ length ws → (eqb q r ≡ true) ⊎ (some_of (λ a. reaches ws a q) (arguments_of w) ≡ true) → ((b : ℕ) → reaches ws b q ≡ true → (q ≡ b) ⊎ Argument ws (reaches ws b) q) → (q ≡ r) ⊎ Argument (w ∷ ws) (reaches (w ∷ ws) r) q
    own z (inl p) ih = inl (equal q r p)
    own z (inr p) ih = let f = some_of_lem (λ a. reaches ws a q) (arguments_of w) p in inr (through z f.0 f.1 f.2 (ih f.0 f.2))

    before : r < length ws → (q ≡ r) ⊎ Argument ws (reaches ws r) q → (q ≡ r) ⊎ Argument (w ∷ ws) (reaches (w ∷ ws) r) q
    before l (inl e) = inl e
    before l (inr A) = inr (older r (λ i m h. reach_older w ws r i l h) A)

    try : (b : Bool) → eqb r (length ws) ≡ b → pick b (eqb q r || some_of (λ a. reaches ws a q) (arguments_of w)) (reaches ws r q) ≡ true → ((b : ℕ) → reaches ws b q ≡ true → (q ≡ b) ⊎ Argument ws (reaches ws b) q) → (q ≡ r) ⊎ Argument (w ∷ ws) (reaches (w ∷ ws) r) q
    try true z p ih = own (equal r (length ws) z) (either_true (eqb q r) (some_of (λ a. reaches ws a q) (arguments_of w)) p) ih
    try false z p ih = before (reach_below ws r q p).1 (ih r p)

-- ── The literals of uses ──
module _ (ws : List Row) where
  literals_from : (ls : List RowLiteral) (q : ℕ) → literals_reach ws ls q ≡ true → (l : RowLiteral) × OneOf l ls × (reaches ws l.1 q ≡ true)
  literals_from [] q h = absurd (true_not_false h refl)
  literals_from (l ∷ ls) q h = try (either_true (reaches ws l.1 q) (literals_reach ws ls q) h) (literals_from ls q)
    where
      try : (reaches ws l.1 q ≡ true) ⊎ (literals_reach ws ls q ≡ true) → (literals_reach ws ls q ≡ true → (m : RowLiteral) × OneOf m ls × (reaches ws m.1 q ≡ true)) → (m : RowLiteral) × OneOf m (l ∷ ls) × (reaches ws m.1 q ≡ true)
      try (inl p) ih = (l, inl refl, p)
      try (inr p) ih = let z = ih p in (z.0, inr z.1, z.2)

  literals_reach_lem : (ls : List RowLiteral) (l : RowLiteral) (q : ℕ) → OneOf l ls → reaches ws l.1 q ≡ true → literals_reach ws ls q ≡ true
  literals_reach_lem [] l q o h = absurd o
  literals_reach_lem (m ∷ ls) l q (inl e) h = left_true (reaches ws m.1 q) (literals_reach ws ls q) (ap (λ (x : RowLiteral). reaches ws x.1 q) (sym e) ∙ h)
  literals_reach_lem (m ∷ ls) l q (inr o) h = right_true (reaches ws m.1 q) (literals_reach ws ls q) (literals_reach_lem ls l q o h)

  pub uses_from : (us : List Use) (q : ℕ) → uses_reach ws us q ≡ true → (u : Use) × (l : RowLiteral) × OneOf u us × OneOf l u.1 × (reaches ws l.1 q ≡ true)
  uses_from [] q h = absurd (true_not_false h refl)
  uses_from (u ∷ us) q h = try (either_true (literals_reach ws u.1 q) (uses_reach ws us q) h) (uses_from us q)
    where
      try : (literals_reach ws u.1 q ≡ true) ⊎ (uses_reach ws us q ≡ true) → (uses_reach ws us q ≡ true → (v : Use) × (l : RowLiteral) × OneOf v us × OneOf l v.1 × (reaches ws l.1 q ≡ true)) → (v : Use) × (l : RowLiteral) × OneOf v (u ∷ us) × OneOf l v.1 × (reaches ws l.1 q ≡ true)
      try (inl p) ih = let z = literals_from u.1 q p in (u, z.0, inl refl, z.1, z.2)
      try (inr p) ih = let z = ih p in (z.0, z.1, inr z.2, z.3, z.4)

  pub uses_reach_lem : (us : List Use) (u : Use) (l : RowLiteral) (q : ℕ) → OneOf u us → OneOf l u.1 → reaches ws l.1 q ≡ true → uses_reach ws us q ≡ true
  uses_reach_lem [] u l q o m h = absurd o
  uses_reach_lem (v ∷ us) u l q (inl e) m h = left_true (literals_reach ws v.1 q) (uses_reach ws us q) (literals_reach_lem v.1 l q (subst (λ (x : Use). OneOf l x.1) e m) h)
  uses_reach_lem (v ∷ us) u l q (inr o) m h = right_true (literals_reach ws v.1 q) (uses_reach ws us q) (uses_reach_lem us u l q o m h)

-- ── Symbols ──
pub record SymbolOf (ws : List Row) (test : ℕ → Bool) (s : ℕ) : Type 0 where
  pub row : ℕ
  pub arguments : List ℕ
  pub is_tested : test row ≡ true
  pub is_row : row_at ws row ≡ application s arguments
  pub is_there : row < length ws

module _ (test : ℕ → Bool) where
  pub symbol_from : (ws : List Row) (s : ℕ) → symbol_of test ws s ≡ true → SymbolOf ws test s
  symbol_from [] s h = absurd (true_not_false h refl)
  symbol_from (w ∷ ws) s h = try (either_true (test (length ws) && is_of s w) (symbol_of test ws s) h) (symbol_from ws s)
    where
      newest : (u : Row) → w ≡ u → test (length ws) ≡ true → is_of s u ≡ true → SymbolOf (w ∷ ws) test s
      newest (variable v) e p q = absurd (true_not_false q refl)
      newest (application t xs) e p q = record { row = length ws; arguments = xs; is_tested = p; is_row = row_new w ws ∙ e ∙ ap (λ (i : ℕ). application i xs) (sym (equal s t q)); is_there = omega arith }

      older : SymbolOf ws test s → SymbolOf (w ∷ ws) test s
      older A = record { row = A.row; arguments = A.arguments; is_tested = A.is_tested; is_row = row_old w ws A.row A.is_there ∙ A.is_row; is_there = let l = A.is_there in omega arith }

      try : ((test (length ws) && is_of s w) ≡ true) ⊎ (symbol_of test ws s ≡ true) → (symbol_of test ws s ≡ true → SymbolOf ws test s) → SymbolOf (w ∷ ws) test s
      try (inl p) ih = let z = both_true (test (length ws)) (is_of s w) p in newest w refl z.0 z.1
      try (inr p) ih = older (ih p)

  pub symbol_of_lem : (ws : List Row) (r s : ℕ) (xs : List ℕ) → r < length ws → test r ≡ true → row_at ws r ≡ application s xs → symbol_of test ws s ≡ true
  symbol_of_lem [] r s xs l h e = absurd (omega arith)
  symbol_of_lem (w ∷ ws) r s xs l h e = try (eqb r (length ws)) refl e (λ m z. symbol_of_lem ws r s xs m h z)
    where
      own : (u : Row) → u ≡ application s xs → is_of s u ≡ true
      own (variable v) z = let y : ◌≡◌ {A = ℕ} 0 1 = cc in absurd (omega arith)
      own (application t ys) z = let y : s ≡ t = cc in ap (eqb s) (sym y) ∙ itself s

      try : (b : Bool) → eqb r (length ws) ≡ b → pick b w (row_at ws r) ≡ application s xs → (r < length ws → row_at ws r ≡ application s xs → symbol_of test ws s ≡ true) → symbol_of test (w ∷ ws) s ≡ true
      try true z p ih =
          let y = equal r (length ws) z in
          left_true (test (length ws) && is_of s w) (symbol_of test ws s) (ap (λ (b : Bool). b && is_of s w) (ap test (sym y) ∙ h) ∙ own w p)
      try false z p ih = right_true (test (length ws) && is_of s w) (symbol_of test ws s) (ih (below_other r (length ws) z l) p)
