-- Cells of a table written one after another come to a part cleared, or to the five cells of a clause. No proof needs these laws now; the guide to proofs names two of them.
use mathlib.Core.Path.{◌≡◌, sym, ap}
use mathlib.Core.List.{List, [], ◌∷◌}
use Prim.Native.Nat.{ℕ, zero, suc, ◌+◌, ◌-◌, ◌*◌, ◌≤◌, ◌<◌}
use native.Mathlib.Numerals.{add-one}
use native.Mathlib.Omega.{arith}
use lib.ListN.{length, set, take-append-drop}
use Rattle.tables.specs.Cells.{cleared_part, with_clause_cells}
use native.Mathlib.Nat.{not-suc-le-zero, le_of_suc-le-suc}
use borrow.Author.Fill.{fill_more}

pub cleared_none : (t : List ℕ) (from : ℕ) → t ≡ cleared_part from from t
cleared_none t from = let e : from - from ≡ 0 = omega arith in rw e (sym (take-append-drop from t))

cleared_next : (t : List ℕ) (from k : ℕ) → from ≤ k → k < length t → set (cleared_part from k t) k 0 ≡ cleared_part from (suc k) t
cleared_next [] from k l h = absurd (not-suc-le-zero h)
cleared_next (x ∷ t) zero k l h =
    let d : k - 0 ≡ k = omega arith in
    let e : suc k - 0 ≡ suc k = omega arith in
    let f = add-one k in
    rw (d, e) (rw f at (fill_more k 0 (x ∷ t) h))
cleared_next (x ∷ t) (suc from) zero l h = absurd (not-suc-le-zero l)
cleared_next (x ∷ t) (suc from) (suc k) l h =
    let d : suc k - suc from ≡ k - from = omega arith in
    let e : suc (suc k) - suc from ≡ suc k - from = omega arith in
    rw (d, e) (ap (λ (r : List ℕ). x ∷ r) (cleared_next t from k (le_of_suc-le-suc l) (le_of_suc-le-suc h)))

pub cleared_more : (t : List ℕ) (from k : ℕ) → from ≤ k → k < length t → set (cleared_part from k t) k 0 ≡ cleared_part from (k + 1) t
cleared_more t from k l h = rw add-one (cleared_next t from k l h)

pub five_cells : (C : List ℕ) (c k literals index first count : ℕ) {C₁ C₂ C₃ C₄ C₅ : List ℕ}
    → C₁ ≡ set C (5 * c) k → C₂ ≡ set C₁ (5 * c + 1) literals → C₃ ≡ set C₂ (5 * c + 2) index → C₄ ≡ set C₃ (5 * c + 3) first → C₅ ≡ set C₄ (5 * c + 4) count
    → C₅ ≡ with_clause_cells C c k literals index first count
five_cells C c k literals index first count p q r s t = rw (t, s, r, q, p)
