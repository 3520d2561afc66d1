-- The loops that match one atom against another, over arguments and over rows: one step of each.
use mathlib.Core.Path.{◌≡◌, sym, ap, ap₂, ◌∙◌}
use mathlib.Core.Bool.{Bool, true, false}
use mathlib.Core.List.{List}
use Prim.Native.Nat.{ℕ, suc, ◌+◌, ◌-◌, ◌≤◌, ◌<◌}
use native.Mathlib.Numerals.{add-one}
use native.Mathlib.Omega.{arith}
use lib.ListN.{get_or}
use Rattle.unification.specs.Nodes.{part}
use Rattle.images.specs.Matching.{and_then, imaged, arguments_imaged, Images, row_matched, if_imaged, rows_matched}

-- The loop over arguments: those that are left give the same answer as all.
module _ (N : List ℕ) (r y : ℕ) (W : Bool × List ℕ) where
  next_argument : (M : List ℕ) (count n : ℕ) → n ≤ count
      → arguments_imaged N r y (count + 1 - n) n M ≡ and_then (imaged M (part N r n) (part N y n)) (λ X. arguments_imaged N r y (count + 1 - (n + 1)) (n + 1) X)
  next_argument M count n l =
      let a : count + 1 - n ≡ suc (count + 1 - (n + 1)) = omega arith in
      ap (λ (m : ℕ). arguments_imaged N r y m n M) a
      ∙ ap (λ (k : ℕ). and_then (imaged M (part N r n) (part N y n)) (λ X. arguments_imaged N r y (count + 1 - (n + 1)) k X)) (sym (add-one n))

  module _ (M Y : List ℕ) (count n x z : ℕ) (b : Bool) (whole : arguments_imaged N r y (count + 1 - n) n M ≡ W) (l : n ≤ count) (ex : x ≡ part N r n) (ez : z ≡ part N y n) (e : ◌≡◌ {A = Bool × List ℕ} (b, Y) (imaged M x z)) where
    taken : and_then (b, Y) (λ X. arguments_imaged N r y (count + 1 - (n + 1)) (n + 1) X) ≡ W
    taken =
        ap (λ (P : Bool × List ℕ). and_then P (λ X. arguments_imaged N r y (count + 1 - (n + 1)) (n + 1) X)) (e ∙ ap₂ (imaged M) ex ez)
        ∙ sym (next_argument M count n l) ∙ whole

    pub argument_taken : b ≡ true → arguments_imaged N r y (count + 1 - (n + 1)) (n + 1) Y ≡ W
    argument_taken t = ap (λ (s : Bool). and_then (s, Y) (λ X. arguments_imaged N r y (count + 1 - (n + 1)) (n + 1) X)) (sym t) ∙ taken

-- The loop over rows: those that are left give the same answer as all.
module _ (N : List ℕ) (base : ℕ) (Z : Bool × Images) where
  next_row_lem : (X : Images) (r : ℕ) → 0 < r → rows_matched N base r X ≡ and_then (if_imaged N base (r - 1) (get_or X.0 (r - 1) 0) X) (λ Y. rows_matched N base (r - 1) Y)
  next_row_lem X r l =
      let a : r ≡ suc (r - 1) = omega arith in
      ap (λ (k : ℕ). rows_matched N base k X) a

  module _ (M W : List ℕ) (r y : ℕ) (whole : rows_matched N base r (M, W) ≡ Z) (l : 0 < r) (ey : y ≡ get_or M (r - 1) 0) where
    pub row_passed : y ≡ 0 → rows_matched N base (r - 1) (M, W) ≡ Z
    row_passed z =
        ap (λ (k : ℕ). and_then (if_imaged N base (r - 1) k (M, W)) (λ Y. rows_matched N base (r - 1) Y)) (sym z ∙ ey)
        ∙ sym (next_row_lem (M, W) r l) ∙ whole

    module _ (X U : List ℕ) (b : Bool) (some : ¬ (y ≡ 0)) (e : ◌≡◌ {A = Bool × Images} (b, (X, U)) (row_matched N base (r - 1) (y - 1) (M, W))) where
      row_done : and_then (b, (X, U)) (λ Y. rows_matched N base (r - 1) Y) ≡ Z
      row_done =
          let a : suc (y - 1) ≡ y = omega arith in
          ap (λ (P : Bool × Images). and_then P (λ Y. rows_matched N base (r - 1) Y)) (e ∙ ap (λ (k : ℕ). if_imaged N base (r - 1) k (M, W)) (a ∙ ey))
          ∙ sym (next_row_lem (M, W) r l) ∙ whole

      pub row_matched_lem : b ≡ true → rows_matched N base (r - 1) (X, U) ≡ Z
      row_matched_lem t = ap (λ (s : Bool). and_then (s, (X, U)) (λ Y. rows_matched N base (r - 1) Y)) (sym t) ∙ row_done

      pub row_unmatched : b ≡ false → ◌≡◌ {A = Bool × Images} (false, (X, U)) Z
      row_unmatched t = ap (λ (s : Bool). and_then (s, (X, U)) (λ Y. rows_matched N base (r - 1) Y)) (sym t) ∙ row_done
