-- The walk along a chain: one law for each way out of the search.
use mathlib.Core.Path.{◌≡◌, refl, sym, ap, ◌∙◌, subst}
use mathlib.Core.Bool.{Bool, true, false}
use mathlib.Core.List.{List, ◌∷◌}
use mathlib.Core.Logic.{◌⊎◌, inl, inr}
use Prim.Native.Nat.{ℕ, zero, suc, ◌-◌, ◌≤◌, ◌<◌}
use native.Mathlib.Omega.{arith}
use lib.ListN.{get_or}
use Rattle.std.specs.Prelude.{Some, None}
use Rattle.record.specs.Answered.{answered}
use Rattle.unification.specs.Nodes.{HasRow}
use Rattle.unification.specs.Repeated.{equal_lists}
use Rattle.unification.proofs.Tests.{true_not_false}
use Rattle.distinct.specs.Rows.{node_at, row_with_cells}
use Rattle.distinct.specs.Index.{bucket_of, OnChain, first, later, Findable}
use Rattle.distinct.proofs.Cells.{equal_lists_lem, lists_equal, listed_cells}
use Rattle.distinct.proofs.Lowest.{none_has, one_has}

-- A row of a chain is its first, or on the chain after that.
pub on_chain_lem : {L : List ℕ} (c : ℕ) {r : ℕ} → OnChain L c r → (c ≡ suc r) ⊎ ((0 < c) × OnChain L (get_or L (c - 1) 0) r)
on_chain_lem {L = L} zero {r = r} x = elim x [ ]
on_chain_lem (suc r) first = inl refl
on_chain_lem {L} (suc q) {r} (later h) = inr (omega arith, let z : q ≡ suc q - 1 = omega arith in subst (λ (p : ℕ). OnChain L (get_or L p 0) r) z h)

-- Cells that are sought are those of no row below n, or of one on the rest of the chain.
pub record Sought (N : List ℕ) (n : ℕ) (L cells : List ℕ) (c : ℕ) : Type 0 where
  pub below : c ≤ n
  pub left : (r : ℕ) → r < n → node_at N r ≡ cells → OnChain L c r

module _ {N : List ℕ} {n : ℕ} {H L : List ℕ} {code : ℕ} {numbers : List ℕ} (F : Findable N n H L code numbers) where
  listed : (r : ℕ) → node_at N r ≡ code ∷ numbers → HasRow N r
  listed r e = listed_cells N r (code ∷ numbers) e F.coded

  pub sought_first : (b : ℕ) → b ≡ bucket_of (code ∷ numbers) → Sought N n L (code ∷ numbers) (get_or H b 0)
  sought_first b q = record {
    below = F.index.heads_fall b;
    left = λ r l e. subst (λ (k : ℕ). OnChain L (get_or H k 0) r) (ap bucket_of e ∙ sym q) (F.index.on_chain r l (listed r e));
  }

  module _ (c : ℕ) (S : Sought N n L (code ∷ numbers) c) (l : 0 < c) {b : Bool} (t : b ≡ equal_lists (node_at N (c - 1)) (code ∷ numbers)) where
    pub sought_next : b ≡ false → Sought N n L (code ∷ numbers) (get_or L (c - 1) 0)
    sought_next z = record {
      below = let f = F.index.links_fall (c - 1) in let g = S.below in omega arith;
      left = λ r k e. on r e (on_chain_lem c (S.left r k e));
    }
      where
        on : (r : ℕ) → node_at N r ≡ code ∷ numbers → (c ≡ suc r) ⊎ ((0 < c) × OnChain L (get_or L (c - 1) 0) r) → OnChain L (get_or L (c - 1) 0) r
        on r e (inl q) =
            let x : c - 1 ≡ r = omega arith in
            absurd (true_not_false (lists_equal (node_at N (c - 1)) (code ∷ numbers) (ap (node_at N) x ∙ e)) (sym t ∙ z))
        on r e (inr h) = h.1

    pub sought_found : b ≡ true → Some (c - 1) ≡ answered (row_with_cells N n (code ∷ numbers))
    sought_found z =
        let e : node_at N (c - 1) ≡ code ∷ numbers = equal_lists_lem (node_at N (c - 1)) (code ∷ numbers) (sym t ∙ z) in
        let g = S.below in
        let k : c - 1 < n = omega arith in
        sym (ap answered (one_has N n (code ∷ numbers) (c - 1) k e (λ q m x. F.index.once q (c - 1) m k (listed q x) (listed (c - 1) e) (x ∙ sym e))))

  pub sought_nowhere : (c : ℕ) → Sought N n L (code ∷ numbers) c → c ≤ 0 → None ≡ answered (row_with_cells N n (code ∷ numbers))
  sought_nowhere c S l = sym (ap answered (none_has N n (code ∷ numbers) (λ q k e. ended (on_chain_lem c (S.left q k e)))))
    where
      ended : {q : ℕ} → (c ≡ suc q) ⊎ ((0 < c) × OnChain L (get_or L (c - 1) 0) q) → ⊥
      ended (inl e) = omega arith
      ended (inr h) = let z = h.0 in omega arith
