-- Putting the bindings of the table into the array, in the numbers of the code.
use mathlib.Core.Path.{◌≡◌, refl, sym, ap, ◌∙◌, subst}
use mathlib.Core.Bool.{Bool, true, false}
use mathlib.Core.List.{List}
use Prim.Native.Nat.{ℕ, zero, suc, ◌+◌, ◌*◌, ◌≤◌, ◌<◌}
use native.Mathlib.Omega.{arith}
use native.Mathlib.Numerals.{add-one}
use lib.Dec.{eqb, leb}
use lib.ListN.{length, get_or, set, get_or-eq_default}
use borrow.Author.Tests.{leb-true, leb-false, eqb-true, eqb-false}
use Rattle.unification.specs.Bindings.{binding_at, bindings_from}
use Rattle.unification.specs.Nodes.{part}
use Rattle.unification.specs.ValueArray.{slot, put}
use Rattle.following.proofs.Writing.{length_put}
use Rattle.putting.specs.Putting.{put_bindings, BindingIn, AllIn, Puttable, BindingThere, put_cells}

-- Each binding that is to be put into the array is in range.
pub all_at : (N B : List ℕ) (m first n k : ℕ) → AllIn N m (bindings_from B first n) → k < n → BindingIn N m (binding_at B (first + k))
all_at N B m first zero k K h = absurd (omega arith)
all_at N B m first (suc n) k K h = try (eqb k n) refl (λ l. all_at N B m first n k K.1 l)
  where
    try : (b : Bool) → eqb k n ≡ b → (k < n → BindingIn N m (binding_at B (first + k))) → BindingIn N m (binding_at B (first + k))
    try true q more = subst (λ (j : ℕ). BindingIn N m (binding_at B (first + j))) (sym (eqb-true k n q)) K.0
    try false q more = let d = eqb-false k n q in more (omega arith)

-- The number of a variable, as the node table holds it.
number_cell_lem : (N : List ℕ) (r : ℕ) → part N r 0 ≡ get_or N (8 * r + 1) 0
unfolding part
number_cell_lem N r = let z : 8 * r + 1 + 0 ≡ 8 * r + 1 = omega arith in ap (λ (k : ℕ). get_or N k 0) z

pub number_small : {B N A : List ℕ} {at o : ℕ} → BindingThere B N A at o → get_or N (8 * get_or B at 0 + 1) 0 < 64
number_small {B} {N} {A} {at} P = subst (λ (k : ℕ). k < 64) (number_cell_lem N (get_or B at 0)) P.number

pub cells_put_lem : (B N A : List ℕ) (at o : ℕ)
    → set (set A (128 * (o + get_or B (at + 1) 0) + 2 * get_or N (8 * get_or B at 0 + 1) 0) (get_or B (at + 2) 0 + 1)) (128 * (o + get_or B (at + 1) 0) + 2 * get_or N (8 * get_or B at 0 + 1) 0 + 1) (o + get_or B (at + 3) 0)
    ≡ put_cells B N A at o
unfolding put_cells put
cells_put_lem B N A at o = rw (number_cell_lem N (get_or B at 0))

pub cells_room : (B N A : List ℕ) (at o : ℕ) → length A ≡ 524416 → length (put_cells B N A at o) ≡ 524416
unfolding put_cells
cells_room B N A at o h = length_put A (slot N (get_or B at 0) (o + get_or B (at + 1) 0)) (get_or B (at + 2) 0 + 1) (o + get_or B (at + 3) 0) ∙ h

-- A cell that is not 0 is inside the table.
cell_inside : (B : List ℕ) (k : ℕ) → 1 ≤ get_or B k 0 → k < length B
cell_inside B k h = try (leb (suc k) (length B)) refl
  where
    try : (b : Bool) → leb (suc k) (length B) ≡ b → k < length B
    try true q = leb-true (suc k) (length B) q
    try false q = let z = leb-false (suc k) (length B) q in let y = get_or-eq_default B 0 {n = k} (omega arith) in absurd (omega arith)

-- One binding more.
pub put_one : (N B A : List ℕ) (o first k : ℕ) {A₁ A₂ : List ℕ} → A₁ ≡ put_bindings N o (bindings_from B first k) A → A₂ ≡ put_cells B N A₁ (4 * (first + k)) o → A₂ ≡ put_bindings N o (bindings_from B first (k + 1)) A
unfolding put_cells
put_one N B A o first k q p = rw add-one (p ∙ ap (λ (y : List ℕ). put_cells B N y (4 * (first + k)) o) q)

-- A binding in range has its four cells in the table.
pub binding_there : {B N A A₁ : List ℕ} {first n o : ℕ} (k : ℕ) → Puttable B N A first n o → length A₁ ≡ 524416 → k < n → BindingThere B N A₁ (4 * (first + k)) o
binding_there {B} {N} {A} {A₁} {first} {n} {o} k P room h =
    let K = all_at N B P.top first n k P.all h in
    let low = K.value.low in
    let high = K.bound.high in
    let high₂ = K.value.high in
    let fits = P.fits in
    record {
      node_room = P.node_room;
      room = room;
      inside = cell_inside B (4 * (first + k) + 3) low;
      variable = P.nodes.room (get_or B (4 * (first + k)) 0) K.bound.row;
      number = P.nodes.number (get_or B (4 * (first + k)) 0) K.bound.row K.of_variable;
      index = omega arith;
      row = P.nodes.room (get_or B (4 * (first + k) + 2) 0) K.value.row;
      value = omega arith;
    }
