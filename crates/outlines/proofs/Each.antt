-- The listed rows one after another.
use mathlib.Core.Path.{◌≡◌, sym, ap, ◌∙◌}
use mathlib.Core.Bool.{Bool, true, false}
use Prim.Native.Nat.{ℕ, suc, ◌+◌, ◌-◌, ◌*◌, ◌≤◌, ◌<◌}
use native.Mathlib.Omega.{arith}
use mathlib.Core.List.{List}
use lib.ListN.{get_or}
use Rattle.record.specs.Record.{pick}
use Rattle.unification.specs.Listed.{listed_from}
use Rattle.unification.specs.Outlines.{outlines_clash}
use Rattle.unification.specs.Row.{Row}
use Rattle.outlines.specs.Comparing.{some_clash}

module _ (row : ℕ → Row) (r : ℕ) (cells : List ℕ) (n j : ℕ) (l : j < n) where
  from_here : some_clash row r (listed_from cells j (n - j)) ≡ pick (outlines_clash row r (get_or cells (2 * j) 0)) true (some_clash row r (listed_from cells (suc j) (n - (j + 1))))
  from_here = let z : n - j ≡ suc (n - (j + 1)) = omega arith in ap (λ (m : ℕ). some_clash row r (listed_from cells j m)) z

  module _ {b whole : Bool} (e : b ≡ outlines_clash row r (get_or cells (2 * j) 0)) (i : some_clash row r (listed_from cells j (n - j)) ≡ whole) where
    pub clash_found_here : b ≡ true → true ≡ whole
    clash_found_here q = sym (ap (λ (x : Bool). pick x true (some_clash row r (listed_from cells (suc j) (n - (j + 1))))) (sym e ∙ q)) ∙ sym from_here ∙ i

    pub clash_not_here : b ≡ false → some_clash row r (listed_from cells (j + 1) (n - (j + 1))) ≡ whole
    clash_not_here q =
        let z : j + 1 ≡ suc j = omega arith in
        ap (λ (k : ℕ). some_clash row r (listed_from cells k (n - (j + 1)))) z ∙ sym (ap (λ (x : Bool). pick x true (some_clash row r (listed_from cells (suc j) (n - (j + 1))))) (sym e ∙ q)) ∙ sym from_here ∙ i

pub no_clash : (row : ℕ → Row) (r : ℕ) (cells : List ℕ) (n j : ℕ) {whole : Bool} → n ≤ j → some_clash row r (listed_from cells j (n - j)) ≡ whole → false ≡ whole
no_clash row r cells n j l i = let z : n - j ≡ 0 = omega arith in sym (ap (λ (m : ℕ). some_clash row r (listed_from cells j m)) z) ∙ i

pub all_clashes : (row : ℕ → Row) (r : ℕ) (cells : List ℕ) (n : ℕ) → some_clash row r (listed_from cells 0 (n - 0)) ≡ some_clash row r (listed_from cells 0 n)
all_clashes row r cells n = let z : n - 0 ≡ n = omega arith in ap (λ (m : ℕ). some_clash row r (listed_from cells 0 m)) z
