-- Three numbers put before the rest of some cells.
use mathlib.Core.Path.{◌≡◌, refl, ap, ◌∙◌}
use mathlib.Core.List.{List, [], ◌∷◌, ◌++◌}
use Prim.Native.Nat.{ℕ, ◌≤◌}
use native.Mathlib.Omega.{arith}
use lib.ListN.{length, drop, set}

-- Three stores put three numbers before the rest.
three : (xs : List ℕ) (a b c : ℕ) → 3 ≤ length xs → set (set (set xs 0 a) 1 b) 2 c ≡ a ∷ b ∷ c ∷ drop 3 xs
three (_ ∷ _ ∷ _ ∷ xs) a b c l = refl
three (_ ∷ _ ∷ []) a b c l = absurd (omega arith)
three (_ ∷ []) a b c l = absurd (omega arith)
three [] a b c l = absurd (omega arith)

pub stored : (k w n : ℕ) (numbers xs : List ℕ) → (k ∷ w ∷ n ∷ []) ≡ numbers → 3 ≤ length xs → set (set (set xs 0 k) 1 w) 2 n ≡ numbers ++ drop 3 xs
stored k w n numbers xs q l =
    three xs k w n l ∙ ap (λ (v : List ℕ). v ++ drop 3 xs) q
