-- One variable more, and one cell of the table more.
use mathlib.Core.Path.{◌≡◌, sym, ap, ap₂, ◌∙◌}
use mathlib.Core.Bool.{Bool, true, false, ◌&&◌}
use mathlib.Core.List.{List}
use Prim.Native.Nat.{ℕ, suc, ◌+◌, ◌-◌, ◌*◌, ◌/◌, ◌%◌, ◌≤◌, ◌<◌}
use native.Mathlib.Numerals.{add-one}
use native.Mathlib.Omega.{arith}
use lib.ListN.{get_or, set}
use Rattle.matching.specs.Pairs.{agree_at, agree_from, go_together, table_filled}

-- The notes of pairs p and q at the variables from v on, m in all.
module _ (W : List ℕ) (p q m v : ℕ) where
  agree_here : v < m → agree_from W p q (m - v) v ≡ (agree_at (get_or W (64 * p + v) 0) (get_or W (64 * q + v) 0) && agree_from W p q (m - (v + 1)) (suc v))
  agree_here l = let z : m - v ≡ suc (m - (v + 1)) = omega arith in ap (λ (k : ℕ). agree_from W p q k v) z

  module _ {x y : ℕ} {b whole : Bool} (ex : x ≡ get_or W (64 * p + v) 0) (ey : y ≡ get_or W (64 * q + v) 0) (e : b ≡ agree_at x y) (l : v < m) (w : agree_from W p q (m - v) v ≡ whole) where
    agreed : (b && agree_from W p q (m - (v + 1)) (suc v)) ≡ whole
    agreed = ap (λ (c : Bool). c && agree_from W p q (m - (v + 1)) (suc v)) (e ∙ ap₂ agree_at ex ey) ∙ sym (agree_here l) ∙ w

    pub disagree_here : b ≡ false → false ≡ whole
    disagree_here z = sym (ap (λ (c : Bool). c && agree_from W p q (m - (v + 1)) (suc v)) z) ∙ agreed

    pub agree_on : b ≡ true → agree_from W p q (m - (v + 1)) (v + 1) ≡ whole
    agree_on z =
        ap (agree_from W p q (m - (v + 1))) (add-one v)
        ∙ sym (ap (λ (c : Bool). c && agree_from W p q (m - (v + 1)) (suc v)) z)
        ∙ agreed

  pub agree_all : {whole : Bool} → m ≤ v → agree_from W p q (m - v) v ≡ whole → true ≡ whole
  agree_all l w = let z : m - v ≡ 0 = omega arith in sym (ap (λ (k : ℕ). agree_from W p q k v) z) ∙ w

pub filled_more : (F : List Bool) (W : List ℕ) (T₀ T : List Bool) (x : ℕ) → T ≡ table_filled F W x T₀ → {b : Bool} → b ≡ go_together F W (x / 64) (x % 64) → set T x b ≡ table_filled F W (x + 1) T₀
unfolding table_filled
filled_more F W T₀ T x w e = ap₂ (λ (t : List Bool) (b : Bool). set t x b) w e ∙ sym (ap (λ (n : ℕ). table_filled F W n T₀) (add-one x))
