-- The walks of the search against its definitions: one law for each way out.
use mathlib.Core.Path.{◌≡◌, sym, ap, ap₂, ◌∙◌}
use mathlib.Core.Bool.{Bool, true, false, ◌&&◌}
use mathlib.Core.List.{List}
use Prim.Native.Nat.{ℕ, suc, ◌+◌, ◌-◌, ◌*◌, ◌≤◌}
use native.Mathlib.Numerals.{add-one}
use native.Mathlib.Omega.{arith}
use lib.ListN.{get_or, set}
use Rattle.record.specs.Record.{pick}
use Rattle.matching.specs.Searching.{pair_chosen, fits_from, fits, or_next, tried, searched}

-- Before literal i: those from j on, with the cell that is read and the pairs that it is read for.
module _ (T : List Bool) (X : List ℕ) (i j : ℕ) where
  fits_here : j ≤ i → fits_from T X i (i + 1 - j) j ≡ (get_or T (64 * pair_chosen X j + pair_chosen X i) false && fits_from T X i (i + 1 - (j + 1)) (j + 1))
  fits_here l =
      let z : i + 1 - j ≡ suc (i + 1 - (j + 1)) = omega arith in
      ap (λ (m : ℕ). fits_from T X i m j) z
      ∙ ap (λ (k : ℕ). get_or T (64 * pair_chosen X j + pair_chosen X i) false && fits_from T X i (i + 1 - (j + 1)) k) (sym (add-one j))

  module _ {here there : ℕ} {cell whole : Bool} (h : here ≡ pair_chosen X i) (t : there ≡ pair_chosen X j) (e : cell ≡ get_or T (64 * there + here) false) (l : j ≤ i) (w : fits_from T X i (i + 1 - j) j ≡ whole) where
    step : (cell && fits_from T X i (i + 1 - (j + 1)) (j + 1)) ≡ whole
    step = ap (λ (b : Bool). b && fits_from T X i (i + 1 - (j + 1)) (j + 1)) (e ∙ ap₂ (λ (a b : ℕ). get_or T (64 * a + b) false) t h) ∙ sym (fits_here l) ∙ w

    pub fits_not : cell ≡ false → false ≡ whole
    fits_not q = sym (ap (λ (b : Bool). b && fits_from T X i (i + 1 - (j + 1)) (j + 1)) q) ∙ step

    pub fits_on : cell ≡ true → fits_from T X i (i + 1 - (j + 1)) (j + 1) ≡ whole
    fits_on q = sym (ap (λ (b : Bool). b && fits_from T X i (i + 1 - (j + 1)) (j + 1)) q) ∙ step

-- The numbers from n on are left to be tried for literal i.
abbrev pub left_to_try : List Bool → ℕ → ℕ → ℕ → ℕ → List ℕ → Bool × List ℕ
left_to_try T rights left i n X = tried T i (λ Y. searched T rights (left - 1) (suc i) Y) (rights + 1 - n) n X

pub search_begins : (T : List Bool) (rights left i : ℕ) (X : List ℕ) → ¬ (left ≡ 0) → left_to_try T rights left i 1 X ≡ searched T rights left i X
search_begins T rights left i X n =
    let z : rights + 1 - 1 ≡ rights = omega arith in
    let y : left ≡ suc (left - 1) = omega arith in
    ap (λ (m : ℕ). tried T i (λ Y. searched T rights (left - 1) (suc i) Y) m 1 X) z ∙ sym (ap (λ (k : ℕ). searched T rights k i X) y)

module _ (T : List Bool) (rights left i n : ℕ) (X : List ℕ) {whole : Bool × List ℕ} (w : left_to_try T rights left i n X ≡ whole) (l : n ≤ rights) where
  -- What comes of number n, by whether it fits and by what comes after it.
  abbrev here : Bool → Bool × List ℕ → Bool × List ℕ
  here b P = or_next (pick b P (false, set X i n)) (λ Y. left_to_try T rights left i (n + 1) Y)

  try_here : here (fits T (set X i n) i) (searched T rights (left - 1) (suc i) (set X i n)) ≡ whole
  try_here =
      let z : rights + 1 - n ≡ suc (rights + 1 - (n + 1)) = omega arith in
      ap (λ (m : ℕ). or_next (pick (fits T (set X i n) i) (searched T rights (left - 1) (suc i) (set X i n)) (false, set X i n)) (λ Y. tried T i (λ Z. searched T rights (left - 1) (suc i) Z) (rights + 1 - (n + 1)) m Y)) (add-one n)
      ∙ sym (ap (λ (m : ℕ). tried T i (λ Y. searched T rights (left - 1) (suc i) Y) m n X) z) ∙ w

  module _ {b : Bool} (f : b ≡ fits T (set X i n) i) where
    pub number_unfit : b ≡ false → left_to_try T rights left i (n + 1) (set X i n) ≡ whole
    number_unfit q = ap (λ (x : Bool). here x (searched T rights (left - 1) (suc i) (set X i n))) (sym q ∙ f) ∙ try_here

    module _ (q : b ≡ true) {s : Bool} {Z : List ℕ} (e : (s, Z) ≡ searched T rights (left - 1) (i + 1) (set X i n)) where
      gone_on : here true (s, Z) ≡ whole
      gone_on =
          ap (here true) (e ∙ ap (λ (m : ℕ). searched T rights (left - 1) m (set X i n)) (add-one i))
          ∙ ap (λ (x : Bool). here x (searched T rights (left - 1) (suc i) (set X i n))) (sym q ∙ f)
          ∙ try_here

      pub number_passed : s ≡ false → left_to_try T rights left i (n + 1) Z ≡ whole
      number_passed p = sym (ap (λ (x : Bool). here true (x, Z)) p) ∙ gone_on
