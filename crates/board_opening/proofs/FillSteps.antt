-- The cells of a board that is opened, one after another, on each way that the program takes.
use mathlib.Core.Path.{◌≡◌, refl, sym, ap, ap₂, ◌∙◌}
use mathlib.Core.Bool.{Bool, true, false}
use mathlib.Core.List.{List}
use Prim.Native.Nat.{ℕ, zero, suc, ◌+◌, ◌*◌, ◌%◌}
use native.Mathlib.Numerals.{add-one}
use lib.Dec.{eqb}
use lib.ListN.{length, get_or, set, length-set}
use borrow.Author.Tests.{eq-eqb, ne_eqb}
use Rattle.record.specs.Record.{pick, File, record_part, kind_of, field_of}
use Rattle.tables.specs.Cells.{cleared_part}
use Rattle.boards.specs.Cells.{record_of_clause}
use Rattle.board_opening.specs.Filling.{first_cell, cells_put, with_child, child_by_kind, child_put, children_put, filled_board}

-- ── The cells of clauses ──
module _ (L : List ℕ) (n : ℕ) {x : ℕ} (isFlag : x ≡ get_or L n 0) where
  pub set_flag : x ≡ 1 → 7 ≡ first_cell L n
  unfolding first_cell
  set_flag z = sym (ap (λ (b : Bool). pick b 7 5) (eq-eqb (get_or L n 0) 1 (sym isFlag ∙ z)))

  pub unset_flag : ¬ (x ≡ 1) → 5 ≡ first_cell L n
  unfolding first_cell
  unset_flag h = sym (ap (λ (b : Bool). pick b 7 5) (ne_eqb (get_or L n 0) 1 (λ q. h (isFlag ∙ q))))

pub cell_more : (L B₀ : List ℕ) (n : ℕ) {B B' : List ℕ} {x : ℕ} → B ≡ cells_put L n B₀ → x ≡ first_cell L n → B' ≡ set B n x → B' ≡ cells_put L (n + 1) B₀
cell_more L B₀ n {B} {B'} {x} h e q = q ∙ ap₂ (λ (X : List ℕ) (y : ℕ). set X n y) h e ∙ ap (λ (m : ℕ). cells_put L m B₀) (sym (add-one n))

pub cells_length : (L : List ℕ) (n : ℕ) (B : List ℕ) → length (cells_put L n B) ≡ length B
cells_length L zero B = refl
cells_length L (suc n) B = length-set (cells_put L n B) n (first_cell L n) ∙ cells_length L n B

-- ── Last children ──
pub child_set : (B : List ℕ) (p n : ℕ) {x : ℕ} {B' : List ℕ} → x ≡ get_or B p 0 → B' ≡ set B p (8 * n + x % 8) → B' ≡ with_child B p n
unfolding with_child
child_set B p n e q = q ∙ ap (λ (y : ℕ). set B p (8 * n + y % 8)) e

pub child_length : (B : List ℕ) (p n : ℕ) → length (with_child B p n) ≡ length B
unfolding with_child
child_length B p n = length-set B p (8 * n + get_or B p 0 % 8)

module _ (F : File) (C B : List ℕ) (n : ℕ) {k : ℕ} (is_number : k ≡ get_or C (5 * n) 0) {part : List ℕ} (isPart : part ≡ record_part F k) {x : ℕ} (is_kind : x ≡ kind_of part) where
  by_record : child_put F C n B ≡ child_by_kind part n B
  unfolding child_put
  by_record = ap (λ (p : List ℕ). child_by_kind p n B) (sym (isPart ∙ ap (record_part F) is_number))

  pub no_parents : x ≡ 4 → B ≡ child_put F C n B
  no_parents z = sym (by_record ∙ own (sym is_kind ∙ z))
    where
      own : kind_of part ≡ 4 → child_by_kind part n B ≡ B
      own q = rw q refl

  pub one_parent : x ≡ 6 → {a : ℕ} → a ≡ field_of part 0 → {B' : List ℕ} → B' ≡ with_child B a n → B' ≡ child_put F C n B
  one_parent z f q = q ∙ ap (λ (p : ℕ). with_child B p n) f ∙ sym (by_record ∙ one (sym is_kind ∙ z))
    where
      one : kind_of part ≡ 6 → child_by_kind part n B ≡ with_child B (field_of part 0) n
      one e = rw e refl

  pub two_parents : ¬ (x ≡ 4) → ¬ (x ≡ 6) → {a b : ℕ} → a ≡ field_of part 0 → {B₁ : List ℕ} → B₁ ≡ with_child B a n → b ≡ field_of part 2 → {B₂ : List ℕ} → B₂ ≡ with_child B₁ b n → B₂ ≡ child_put F C n B
  two_parents h i f q g r =
      r ∙ ap₂ (λ (X : List ℕ) (p : ℕ). with_child X p n) (q ∙ ap (λ (p : ℕ). with_child B p n) f) g ∙ sym (by_record ∙ two (λ e. h (is_kind ∙ e)) (λ e. i (is_kind ∙ e)))
    where
      two : ¬ (kind_of part ≡ 4) → ¬ (kind_of part ≡ 6) → child_by_kind part n B ≡ with_child (with_child B (field_of part 0) n) (field_of part 2) n
      two p q = rw (ne_eqb (kind_of part) 4 p, ne_eqb (kind_of part) 6 q) refl

pub put_length : (F : File) (C : List ℕ) (n : ℕ) (B : List ℕ) → length (child_put F C n B) ≡ length B
unfolding child_put
put_length F C n B = try (eqb (kind_of (record_of_clause F C n)) 4) (eqb (kind_of (record_of_clause F C n)) 6)
  where
    try : (a b : Bool) → length (pick a B (pick b (with_child B (field_of (record_of_clause F C n) 0) n) (with_child (with_child B (field_of (record_of_clause F C n) 0) n) (field_of (record_of_clause F C n) 2) n))) ≡ length B
    try true b = refl
    try false true = child_length B (field_of (record_of_clause F C n) 0) n
    try false false = child_length (with_child B (field_of (record_of_clause F C n) 0) n) (field_of (record_of_clause F C n) 2) n ∙ child_length B (field_of (record_of_clause F C n) 0) n

pub same_board_lem : (F : File) (C B : List ℕ) (n : ℕ) {B' : List ℕ} → B' ≡ child_put F C n B → length B' ≡ length B
same_board_lem F C B n q = ap length q ∙ put_length F C n B

pub child_more : (F : File) (C B₀ : List ℕ) (n : ℕ) {B B' : List ℕ} → B ≡ children_put F C n B₀ → B' ≡ child_put F C n B → B' ≡ children_put F C (n + 1) B₀
child_more F C B₀ n h q = q ∙ ap (child_put F C n) h ∙ ap (λ (m : ℕ). children_put F C m B₀) (sym (add-one n))

pub children_length : (F : File) (C : List ℕ) (n : ℕ) (B : List ℕ) → length (children_put F C n B) ≡ length B
children_length F C zero B = refl
children_length F C (suc n) B = put_length F C n (children_put F C n B) ∙ children_length F C n B

-- ── All cells ──
pub all_filled : (day : ℕ) (F : File) (C L : List ℕ) (count : ℕ) (B : List ℕ) {B₁ B₂ B₃ B₄ : List ℕ} → B₁ ≡ cleared_part 0 4096 B → B₂ ≡ set B₁ 4096 day → B₃ ≡ cells_put L count B₂ → B₄ ≡ children_put F C count B₃
    → B₄ ≡ filled_board day F C L count B
unfolding filled_board
all_filled day F C L count B {B₁} {B₂} {B₃} a b c d = d ∙ ap (children_put F C count) (c ∙ ap (cells_put L count) (b ∙ ap (λ (X : List ℕ). set X 4096 day) a))
