-- Bindings added to the table, and the list that it is from some binding on.
use mathlib.Core.Path.{◌≡◌, refl, sym, ap, ap₂, ◌∙◌, subst}
use mathlib.Core.List.{List, ◌∷◌}
use Prim.Native.Nat.{ℕ, zero, suc, ◌+◌, ◌-◌, ◌*◌, ◌≤◌, ◌<◌}
use native.Mathlib.Nat.{add-zero, add-suc}
use native.Mathlib.Omega.{arith}
use lib.ListN.{length, get_or, set, length-set}
use lib.Seq.{get_or-set_same, get_or-set_other}
use Rattle.unification.specs.Bindings.{binding_at, push, KeptBelow, Added}
use Rattle.unification.specs.Environment.{Binding}
use Rattle.unification.specs.ValueArray.{put}
use Rattle.unify.specs.Pairs.{bindings_onto}
use Rattle.following.proofs.Writing.{length_put}

pub added_none : (B : List ℕ) (h : ℕ) → Added B B h h
added_none B h = record { le = omega arith; low = λ k l. refl; high = λ k l. refl; past = λ k l. refl }

pub added_then : {B B₁ B₂ : List ℕ} {h m n : ℕ} → Added B B₁ h m → Added B₁ B₂ m n → Added B B₂ h n
added_then a b = record { le = let x = a.le in let y = b.le in omega arith; low = λ k l. b.low k (let x = a.le in omega arith) ∙ a.low k l; high = λ k l. b.high k l ∙ a.high k (let y = b.le in omega arith); past = λ k l. b.past k l ∙ a.past k l }

pub added_below : {B B₁ B₂ : List ℕ} {h m : ℕ} → Added B B₁ h m → KeptBelow B₁ B₂ m → KeptBelow B B₂ h
added_below a b = record { low = λ k l. b.low k (let x = a.le in omega arith) ∙ a.low k l; past = λ k l. b.past k l ∙ a.past k l }

pub added_as_below : {B B' : List ℕ} {h m : ℕ} → Added B B' h m → KeptBelow B B' h
added_as_below a = record { low = a.low; past = a.past }

onto_same : (B B' : List ℕ) (h k : ℕ) (bs : List Binding) → ((n : ℕ) → n < 4 * (h + k) → get_or B' n 0 ≡ get_or B n 0) → bindings_onto B' h k bs ≡ bindings_onto B h k bs
onto_same B B' h zero bs p = refl
onto_same B B' h (suc k) bs p =
    let a = p (4 * (h + k)) (omega arith) in
    let b = p (4 * (h + k) + 1) (omega arith) in
    let c = p (4 * (h + k) + 2) (omega arith) in
    let d = p (4 * (h + k) + 3) (omega arith) in
    ap₂ ◌∷◌ (λ i. ((a i, b i), (c i, d i))) (onto_same B B' h k bs (λ n l. p n (omega arith)))

onto_add : (B : List ℕ) (h k m : ℕ) (bs : List Binding) → bindings_onto B h (k + m) bs ≡ bindings_onto B (h + k) m (bindings_onto B h k bs)
onto_add B h k zero bs = ap (λ (n : ℕ). bindings_onto B h n bs) (add-zero k)
onto_add B h k (suc m) bs =
    ap (λ (n : ℕ). bindings_onto B h n bs) (add-suc k m)
    ∙ ap₂ (λ (n : ℕ) (l : List Binding). binding_at B n ∷ l) (omega arith) (onto_add B h k m bs)

pub onto_none : (B : List ℕ) (h : ℕ) (bs : List Binding) → bindings_onto B h (h - h) bs ≡ bs
onto_none B h bs = let z : h - h ≡ 0 = omega arith in ap (λ (n : ℕ). bindings_onto B h n bs) z

pub onto_then : {B B₁ B₂ : List ℕ} {h m n : ℕ} (bs : List Binding) → Added B B₁ h m → Added B₁ B₂ m n → bindings_onto B₂ m (n - m) (bindings_onto B₁ h (m - h) bs) ≡ bindings_onto B₂ h (n - h) bs
onto_then {B} {B₁} {B₂} {h} {m} {n} bs a b =
    let x = a.le in
    let y = b.le in
    let p : n - h ≡ (m - h) + (n - m) = omega arith in
    let q : m ≡ h + (m - h) = omega arith in
    ap₂ (λ (z : ℕ) (l : List Binding). bindings_onto B₂ z (n - m) l) q (sym (onto_same B₁ B₂ h (m - h) bs (λ k l. b.low k (omega arith))))
    ∙ sym (onto_add B₂ h (m - h) (n - m) bs)
    ∙ ap (λ (z : ℕ). bindings_onto B₂ h z bs) (sym p)

put_other : (A : List ℕ) (at a b k : ℕ) → (k ≡ at → ⊥) → (k ≡ at + 1 → ⊥) → get_or (put A at a b) k 0 ≡ get_or A k 0
unfolding put
put_other A at a b k p q = get_or-set_other (set A at a) (at + 1) k b 0 q ∙ get_or-set_other A at k a 0 p

put_0 : (A : List ℕ) (at a b : ℕ) → at < length A → get_or (put A at a b) at 0 ≡ a
unfolding put
put_0 A at a b l = get_or-set_other (set A at a) (at + 1) at b 0 (λ z. omega arith) ∙ get_or-set_same A at a 0 l

put_1 : (A : List ℕ) (at a b : ℕ) → at + 1 < length A → get_or (put A at a b) (at + 1) 0 ≡ b
unfolding put
put_1 A at a b l = get_or-set_same (set A at a) (at + 1) b 0 (simp length-set l)

module _ (B : List ℕ) (h v i t j : ℕ) where
  abbrev B₁ : List ℕ
  B₁ = put B (4 * h) v i

  push_other : (k : ℕ) → (k < 4 * h) → get_or (push B h v i t j) k 0 ≡ get_or B k 0
  unfolding push
  push_other k l = put_other B₁ (4 * h + 2) t j k (λ z. omega arith) (λ z. omega arith) ∙ put_other B (4 * h) v i k (λ z. omega arith) (λ z. omega arith)

  push_above : (k : ℕ) → (4 * (h + 1) ≤ k) → get_or (push B h v i t j) k 0 ≡ get_or B k 0
  unfolding push
  push_above k l = put_other B₁ (4 * h + 2) t j k (λ z. omega arith) (λ z. omega arith) ∙ put_other B (4 * h) v i k (λ z. omega arith) (λ z. omega arith)

  pub added_push : h < 8192 → Added B (push B h v i t j) h (h + 1)
  added_push few = record { le = omega arith; low = push_other; high = push_above; past = λ k l. push_above k (omega arith) }

  module _ (room : 4 * h + 3 < length B) where
    push_0 : get_or (push B h v i t j) (4 * h) 0 ≡ v
    unfolding push
    push_0 = put_other B₁ (4 * h + 2) t j (4 * h) (λ z. omega arith) (λ z. omega arith) ∙ put_0 B (4 * h) v i (omega arith)

    push_1 : get_or (push B h v i t j) (4 * h + 1) 0 ≡ i
    unfolding push
    push_1 = put_other B₁ (4 * h + 2) t j (4 * h + 1) (λ z. omega arith) (λ z. omega arith) ∙ put_1 B (4 * h) v i (omega arith)

    push_2 : get_or (push B h v i t j) (4 * h + 2) 0 ≡ t
    unfolding push
    push_2 = put_0 B₁ (4 * h + 2) t j (rw length_put (omega arith))

    push_3 : get_or (push B h v i t j) (4 * h + 3) 0 ≡ j
    unfolding push
    push_3 =
        let z : 4 * h + 3 ≡ 4 * h + 2 + 1 = omega arith in
        ap (λ (n : ℕ). get_or (push B h v i t j) n 0) z ∙ put_1 B₁ (4 * h + 2) t j (rw length_put (omega arith))

    pub onto_push : (bs : List Binding) → bindings_onto (push B h v i t j) h ((h + 1) - h) bs ≡ ((v, i), (t, j)) ∷ bs
    onto_push bs =
        let z : (h + 1) - h ≡ 1 = omega arith in
        let y : h + 0 ≡ h = omega arith in
        ap (λ (n : ℕ). bindings_onto (push B h v i t j) h n bs) z
        ∙ ap (λ (n : ℕ). binding_at (push B h v i t j) n ∷ bs) y
        ∙ ap (λ (b : Binding). b ∷ bs) (λ k. ((push_0 k, push_1 k), (push_2 k, push_3 k)))

pub length_push : (B : List ℕ) (h v i t j : ℕ) → length (push B h v i t j) ≡ length B
unfolding push
length_push B h v i t j = length_put (put B (4 * h) v i) (4 * h + 2) t j ∙ length_put B (4 * h) v i

pub added_by : (B B₂ : List ℕ) (h v i t j : ℕ) → h < 8192 → B₂ ≡ push B h v i t j → Added B B₂ h (h + 1)
added_by B B₂ h v i t j few p = subst (λ (z : List ℕ). Added B z h (h + 1)) (sym p) (added_push B h v i t j few)
