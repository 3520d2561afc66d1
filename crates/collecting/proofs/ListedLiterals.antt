-- Literals put into the list, moved down in it, and one of them taken out.
use mathlib.Core.Path.{◌≡◌, refl, sym, ap, ◌∙◌}
use mathlib.Core.Bool.{Bool, true, false}
use mathlib.Core.List.{List}
use Prim.Native.Nat.{ℕ, ◌+◌, ◌-◌, ◌≤◌, ◌<◌}
use native.Mathlib.Omega.{arith}
use lib.Dec.{eqb, leb, ltb}
use lib.ListN.{length, get_or, set}
use lib.Seq.{get_or-set_same, get_or-set_other}
use borrow.Author.Tests.{ne_eqb, ltb-true, ltb-false, le-leb, lt-leb, lt-ltb, le-ltb}
use Rattle.record.specs.Record.{pick}
use Rattle.named_literals.specs.Named.{left_over, passed}
use Rattle.std.specs.List.{CopiedTo, SameBelow}
use Rattle.collecting.specs.Literals.{literal_with, listed, Placed, Deleted}
use Rattle.collecting.specs.declared.literals.ListedLiteral.{ListedLiteral}

-- A literal written.
pub placed_there : (L : List ListedLiteral) (n : ℕ) (x : ListedLiteral) → n < length L → Placed L (set L n x) n x.code x.index
unfolding listed
placed_there L n x inside =
    record {
      here = ap (λ (y : ListedLiteral). literal_with y.code y.index) (get_or-set_same L n x (record { code = 0; index = 0 }) inside);
      others = λ k d. ap (λ (y : ListedLiteral). literal_with y.code y.index) (get_or-set_other L n k x (record { code = 0; index = 0 }) d);
    }

-- Literals copied one place down.
module _ (L L₁ : List ListedLiteral) (n end : ℕ) (low : n ≤ end) (C : CopiedTo L L₁ (n + 1) n (end + 1 - (n + 1))) (B : SameBelow L L₁ n) where
  moved_down : (k : ℕ) → n ≤ k → k < end → listed L₁ k ≡ listed L (k + 1)
  unfolding listed
  moved_down k l h =
      let z : n + 1 + (k - n) ≡ k + 1 = omega arith in
      ap (λ (y : ListedLiteral). literal_with y.code y.index) (C k (record { code = 0; index = 0 }) l (omega arith) ∙ ap (λ (i : ℕ). get_or L i (record { code = 0; index = 0 })) z)

  same_below : (k : ℕ) → k < n → listed L₁ k ≡ listed L k
  unfolding listed
  same_below k h = ap (λ (y : ListedLiteral). literal_with y.code y.index) (B k (record { code = 0; index = 0 }) h)

-- What is left without a number that is there, and without one that is not.
over_past : (count a : ℕ) → count < a → left_over count a ≡ count
unfolding left_over
over_past count a h = rw (ne_eqb a 0 (λ z. omega arith), lt-leb a count h)

over_in : (count a : ℕ) → 1 ≤ a → a ≤ count → left_over count a ≡ count - 1
unfolding left_over
over_in count a l h = rw (ne_eqb a 0 (λ z. omega arith), le-leb a count h)

pass_before : (n a : ℕ) → n < a → passed n a ≡ n
unfolding passed
pass_before n a h = rw (ne_eqb a 0 (λ z. omega arith), lt-ltb n a h)

pass_after : (n a : ℕ) → 1 ≤ a → a ≤ n → passed n a ≡ n + 1
unfolding passed
pass_after n a l h = rw (ne_eqb a 0 (λ z. omega arith), le-ltb n a h)

over_zero : (count a : ℕ) → a ≡ 0 → left_over count a ≡ count
unfolding left_over
over_zero count a z = ap (left_over count) z

pass_zero : (n a : ℕ) → a ≡ 0 → passed n a ≡ n
unfolding passed
pass_zero n a z = ap (passed n) z

-- Not more are left than there were, so the last one stays inside the list.
over_few : (count a : ℕ) → left_over count a ≤ count
unfolding left_over
over_few count a = try (eqb a 0) (leb a count)
  where
    try : (b c : Bool) → pick b count (pick c (count - 1) count) ≤ count
    try true c = omega arith
    try false true = omega arith
    try false false = omega arith

pub deleted_room : {L L₁ : List ListedLiteral} {base end a r : ℕ} → base ≤ end → end < 16512 → Deleted L L₁ base end a r → (base ≤ r) × (r < 16512)
deleted_room {base = base} {end = end} {a = a} low high D =
    let e = D.last (end - base) (omega arith) in
    let f = over_few (end - base) a in
    (omega (arith, e), omega (arith, low, high, e, f))

module _ (L : List ListedLiteral) (base end a : ℕ) where
  pub deleted_zero : a ≡ 0 → Deleted L L base end a end
  deleted_zero z =
      record {
        before = λ k h. refl;
        last = λ count e. e ∙ ap (λ (k : ℕ). base + k) (sym (over_zero count a z));
        left = λ count e n l h. ap (λ (k : ℕ). listed L (base + k)) (sym (pass_zero n a z));
      }

  pub deleted_past : end < base + a → Deleted L L base end a end
  deleted_past past =
      record {
        before = λ k h. refl;
        last = λ count e. e ∙ ap (λ (k : ℕ). base + k) (sym (over_past count a (omega arith)));
        left = λ count e n l h. ap (λ (k : ℕ). listed L (base + k)) (sym (pass_before n a (omega (arith, h, over_past count a (omega arith)))));
      }

  pub deleted_in : (a ≡ 0 → ⊥) → (inside : base + a ≤ end) → {L₁ : List ListedLiteral} → CopiedTo L L₁ (base + a + 1) (base + a) (end + 1 - (base + a + 1)) → SameBelow L L₁ (base + a) → Deleted L L₁ base end a (end - 1)
  deleted_in some₀ inside {L₁} C B =
      record {
        before = λ k h. same_below L L₁ (base + a) end inside C B k (omega arith);
        last = λ count e. omega (arith, e, over_in count a low (omega arith));
        left = left;
      }
    where
      low : 1 ≤ a
      low = omega arith

      left : (count : ℕ) → end ≡ base + count → (n : ℕ) → 1 ≤ n → n ≤ left_over count a → listed L₁ (base + n) ≡ listed L (base + passed n a)
      left count e n l h = try (ltb n a) refl
        where
          few : n ≤ count - 1
          few = omega (arith, h, over_in count a low (omega arith))

          try : (b : Bool) → ltb n a ≡ b → listed L₁ (base + n) ≡ listed L (base + passed n a)
          try true q = let z = ltb-true n a q in same_below L L₁ (base + a) end inside C B (base + n) (omega arith) ∙ ap (λ (k : ℕ). listed L (base + k)) (sym (pass_before n a z))
          try false q =
              let z = ltb-false n a q in
              let y : base + n + 1 ≡ base + passed n a = omega (arith, pass_after n a low (omega arith)) in
              moved_down L L₁ (base + a) end inside C B (base + n) (omega arith) (omega (arith, few)) ∙ ap (listed L) y
