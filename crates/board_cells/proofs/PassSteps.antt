-- One clause of the pass: what is left of it does the same as the whole.
use mathlib.Core.Path.{◌≡◌, sym, ap, ap₂, ◌∙◌}
use mathlib.Core.Bool.{Bool, true, false, not}
use mathlib.Core.List.{List}
use Prim.Native.Nat.{ℕ, suc, ◌+◌, ◌-◌, ◌*◌, ◌≤◌, ◌<◌}
use native.Mathlib.Numerals.{add-one}
use native.Mathlib.Omega.{arith}
use lib.Dec.{eqb, leb}
use lib.ListN.{get_or, set}
use mir.Val.{bool_byte}
use borrow.Author.Tests.{le-leb, lt-leb, lt-ltb, le-ltb}
use Rattle.record.specs.Record.{pick, File}
use Rattle.boards.specs.Cells.{child_cell, new_cell, larger, last_after, passed}

-- The larger of two numbers.
pub larger_second : (a b : ℕ) → a < b → b ≡ larger a b
larger_second a b l = sym (ap (λ (x : Bool). pick x b a) (lt-ltb a b l))

pub larger_first : (a b : ℕ) → b ≤ a → a ≡ larger a b
larger_first a b l = sym (ap (λ (x : Bool). pick x b a) (le-ltb a b l))

-- The last child of the clauses that have changed: a clause that has not changed counts as having none.
pub product_small : (b : Bool) (c : ℕ) → bool_byte b * c ≤ c
product_small true c = omega arith
product_small false c = omega arith

pub last_moves : (last before after : ℕ) {child r : ℕ} → child ≡ child_cell before → r ≡ larger last (bool_byte (not (eqb before after)) * child) → r ≡ last_after last before after
last_moves last before after {child} e m = m ∙ by (eqb before after)
  where
    by : (b : Bool) → larger last (bool_byte (not b) * child) ≡ pick b last (larger last (child_cell before))
    by true = let z : bool_byte (not true) * child ≡ 0 = omega arith in ap (larger last) z ∙ ap (λ (x : Bool). pick x 0 last) (le-ltb last 0 (omega arith))
    by false = let z : bool_byte (not false) * child ≡ child = omega arith in ap (larger last) (z ∙ e)

module _ (F : File) (C : List ℕ) (most : ℕ) where
  abbrev onward : ℕ → ℕ → ℕ → List ℕ → Bool → List ℕ
  onward k n last B b = elim b [ true ↦ passed F C k (suc n) (last_after last (get_or B n 0) (new_cell F C B n)) (set B n (new_cell F C B n)) | false ↦ B ]

  one_more : (n last : ℕ) → n < most → (B : List ℕ) → passed F C (most - n) n last B ≡ onward (most - suc n) n last B (leb n last)
  one_more n last l B = let z : most - n ≡ suc (most - suc n) = omega arith in ap (λ (k : ℕ). passed F C k n last B) z

  pub pass_ends : (B : List ℕ) (n last : ℕ) → n < most → last < n → passed F C (most - n) n last B ≡ B
  pass_ends B n last l s = one_more n last l B ∙ ap (onward (most - suc n) n last B) (lt-leb n last s)

  pub pass_goes : (B : List ℕ) (n last : ℕ) {before after last' : ℕ} {B' : List ℕ} → n < most → n ≤ last → before ≡ get_or B n 0 → after ≡ new_cell F C B n → B' ≡ set B n after → last' ≡ last_after last before after
      → passed F C (most - n) n last B ≡ passed F C (most - (n + 1)) (n + 1) last' B'
  pass_goes B n last {before} {after} {last'} {B'} l s e p q r =
      one_more n last l B ∙ ap (onward (most - suc n) n last B) (le-leb n last s)
      ∙ ap (λ (m : ℕ). passed F C (most - m) m (last_after last (get_or B n 0) (new_cell F C B n)) (set B n (new_cell F C B n))) (sym (add-one n))
      ∙ ap₂ (passed F C (most - (n + 1)) (n + 1)) (sym (r ∙ ap₂ (last_after last) e p)) (sym (q ∙ ap (set B n) p))

  pub pass_done : (B : List ℕ) (n last : ℕ) → most ≤ n → passed F C (most - n) n last B ≡ B
  pass_done B n last l = let z : most - n ≡ 0 = omega arith in ap (λ (k : ℕ). passed F C k n last B) z
