-- The cell of a clause off its record, on each way that the program takes.
use mathlib.Core.Path.{◌≡◌, refl, sym, ap, ap₂, ◌∙◌}
use mathlib.Core.Bool.{Bool, true, false, ◌&&◌}
use mathlib.Core.List.{List}
use Prim.Native.Nat.{ℕ, ◌+◌, ◌*◌, ◌/◌, ◌≤◌}
use native.Mathlib.Omega.{arith}
use mir.Val.{bool_byte}
use lib.ListN.{get_or}
use borrow.Author.Tests.{eq-eqb, ne_eqb}
use Rattle.record.specs.Record.{pick, File, record_part, kind_of, field_of}
use Rattle.boards.specs.Cells.{cell_with, child_cell, force_cell, stands_cell, from_parents, right_parent, cell_by_kind, new_cell}

-- Two answers as numbers, in the last bits of a cell.
pub small_byte : (b : Bool) → bool_byte b ≤ 1
small_byte true = omega arith
small_byte false = omega arith

pub with_bytes : (x : ℕ) (f s : Bool) → 8 * (x / 8) + 4 + 2 * bool_byte f + bool_byte s ≡ cell_with (child_cell x) f s
with_bytes x true true = omega arith
with_bytes x true false = omega arith
with_bytes x false true = omega arith
with_bytes x false false = omega arith

-- A cell of both parents' parts.
pub of_parts : (x left right : ℕ) {f g s t force stands : Bool} → f ≡ force_cell left → g ≡ force_cell right → force ≡ (f && g) → s ≡ stands_cell left → t ≡ stands_cell right → stands ≡ (s && t)
    → {r : ℕ} → r ≡ cell_with (child_cell x) force stands → r ≡ from_parents x left right
of_parts x left right a b p c d q e = e ∙ ap₂ (cell_with (child_cell x)) (p ∙ ap₂ ◌&&◌ a b) (q ∙ ap₂ ◌&&◌ c d)

module _ (F : File) (C B : List ℕ) (n : ℕ) {k : ℕ} (is_number : k ≡ get_or C (5 * n) 0) {part : List ℕ} (isPart : part ≡ record_part F k) {x : ℕ} (is_kind : x ≡ kind_of part) where
  by_record : new_cell F C B n ≡ cell_by_kind part B n
  unfolding new_cell
  by_record = ap (λ (p : List ℕ). cell_by_kind p B n) (sym (isPart ∙ ap (record_part F) is_number))

  pub own_cell : x ≡ 4 → {r : ℕ} → r ≡ get_or B n 0 → r ≡ new_cell F C B n
  own_cell z e = e ∙ sym (by_record ∙ own (sym is_kind ∙ z))
    where
      own : kind_of part ≡ 4 → cell_by_kind part B n ≡ get_or B n 0
      own q = rw q refl

  pub parents_cell : ¬ (x ≡ 4) → {own a b left right : ℕ} → own ≡ get_or B n 0 → a ≡ field_of part 0 → left ≡ get_or B a 0 → b ≡ right_parent part → right ≡ get_or B b 0
      → {r : ℕ} → r ≡ from_parents own left right → r ≡ new_cell F C B n
  parents_cell h {own} {a} {b} {left} {right} o f l g m e =
      e ∙ ap (λ (x : ℕ). from_parents x left right) o ∙ ap₂ (from_parents (get_or B n 0)) (l ∙ ap (λ (j : ℕ). get_or B j 0) f) (m ∙ ap (λ (j : ℕ). get_or B j 0) g)
      ∙ sym (by_record ∙ ap (λ (b : Bool). pick b (get_or B n 0) (from_parents (get_or B n 0) (get_or B (field_of part 0) 0) (get_or B (right_parent part) 0))) (ne_eqb (kind_of part) 4 (λ q. h (is_kind ∙ q))))

-- The right parent, by the kind.
module _ (part : List ℕ) {k : ℕ} (is_kind : k ≡ kind_of part) where
  pub left_again : k ≡ 6 → {a : ℕ} → a ≡ field_of part 0 → a ≡ right_parent part
  left_again z e = e ∙ sym (ap (λ (b : Bool). pick b (field_of part 0) (field_of part 2)) (eq-eqb (kind_of part) 6 (sym is_kind ∙ z)))

  pub other_parent : ¬ (k ≡ 6) → {a : ℕ} → a ≡ field_of part 2 → a ≡ right_parent part
  other_parent h e = e ∙ sym (ap (λ (b : Bool). pick b (field_of part 0) (field_of part 2)) (ne_eqb (kind_of part) 6 (λ q. h (is_kind ∙ q))))
