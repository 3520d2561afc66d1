-- A call on a board, on each way that the program takes.
use mathlib.Core.Path.{◌≡◌, refl, sym, ap, ap₂, ◌∙◌}
use mathlib.Core.Bool.{Bool, true, false, ◌&&◌, beq, not}
use mathlib.Core.Option.{Option, none, some}
use mathlib.Core.List.{List}
use Prim.Native.Nat.{ℕ, suc, ◌+◌, ◌-◌, ◌*◌, ◌≤◌, ◌<◌}
use native.Mathlib.Numerals.{add-one}
use native.Mathlib.Omega.{arith}
use lib.Dec.{eqb, leb, ltb}
use lib.ListN.{length, get_or, set}
use borrow.Author.Tests.{lt-ltb, le-ltb, le-leb, lt-leb, ltb-true}
use Rattle.record.specs.Record.{pick, File, record_part, kind_of}
use Rattle.unification.proofs.Tests.{both_true, true_not_false}
use Rattle.boards.specs.Board.{answered, refused_with, answer_numbers}
use Rattle.boards.specs.Cells.{cell_with, child_cell, is_clause_cell, force_cell, stands_cell, passed, lowest_answer, is_input_cell, record_of_clause, with_cell, refusal, board_after, call_answer}
use Rattle.board_cells.specs.Given.{board_given}
use Rattle.board_cells.specs.declared.lowest.BoardAnswer as board
use Rattle.board_cells.specs.declared.lowest.BoardAnswer.TheVariants as answer
use Rattle.board_calls.specs.Called.{BoardCalled}

-- ── Whether there is an input clause ──
module _ (F : File) (C B : List ℕ) (n : ℕ) where
  pub inside : {b : Bool} → b ≡ is_input_cell F C B n → b ≡ true → n < 4096
  inside {b} e t = ltb-true n 4096 (both_true (ltb n 4096) (is_clause_cell (get_or B n 0) && eqb (kind_of (record_of_clause F C n)) 4) (sym e ∙ t)).0

  -- ── A clause that changes ──
  pub changed_board : (present : Bool) {x y c : ℕ} {f : Bool} {B₁ B₂ : List ℕ} → n < 4096 → x ≡ get_or B n 0 → f ≡ force_cell x → y ≡ cell_with (child_cell x) f present → B₁ ≡ set B n y → c ≡ child_cell x
      → B₂ ≡ passed F C (4096 - (n + 1)) (n + 1) c B₁ → B₂ ≡ with_cell F C B n present
  changed_board present {x} {y} {c} {f} {B₁} {B₂} l e g p q r z =
      let k : 4096 - (n + 1) ≡ 4095 - n = omega arith in
      let cell : y ≡ cell_with (child_cell (get_or B n 0)) (force_cell (get_or B n 0)) present = p ∙ ap₂ (λ (i : ℕ) (b : Bool). cell_with (child_cell i) b present) e (g ∙ ap force_cell e) in
      z ∙ ap (λ (m : ℕ). passed F C m (n + 1) c B₁) k ∙ ap (λ (m : ℕ). passed F C (4095 - n) m c B₁) (add-one n)
      ∙ ap₂ (passed F C (4095 - n) (suc n)) (r ∙ ap child_cell e) (q ∙ ap (set B n) cell)

-- ── The call ──
module _ (F : File) (C B : List ℕ) (n : ℕ) (present : Bool) where
  abbrev number : Bool → Bool → Bool → Option ℕ
  number a b c = pick a (some 2) (pick b (pick c (some 21) none) (some 20))

  answer_of_lem : (o : Option ℕ) → refusal F C B n present ≡ o → call_answer F C B n present ≡ elim o [ some m ↦ refused_with m 0 | none ↦ answered (lowest_answer C (with_cell F C B n present) 4096 0) ]
  unfolding call_answer
  answer_of_lem o e = ap (λ (x : Option ℕ). elim x [ some m ↦ refused_with m 0 | none ↦ answered (lowest_answer C (with_cell F C B n present) 4096 0) ]) e

  board_of_lem : (o : Option ℕ) → refusal F C B n present ≡ o → board_after F C B n present ≡ elim o [ some m ↦ B | none ↦ with_cell F C B n present ]
  unfolding board_after
  board_of_lem o e = ap (λ (x : Option ℕ). elim x [ some m ↦ B | none ↦ with_cell F C B n present ]) e

  refused_so : (m : ℕ) (a : board.BoardAnswer) → board_given a ≡ answer_numbers (refused_with m 0) → refusal F C B n present ≡ some m → BoardCalled F C B n present a B
  refused_so m a g e = record { answer = g ∙ ap answer_numbers (sym (answer_of_lem (some m) e)); board = sym (board_of_lem (some m) e) }

  pub too_short : length B < 4097 → BoardCalled F C B n present (answer.Refused 2 0) B
  too_short l = refused_so 2 (answer.Refused 2 0) refl (ap (λ (a : Bool). number a (is_input_cell F C B n) (beq (stands_cell (get_or B n 0)) present)) (lt-ltb (length B) 4097 l))

  module _ (long : 4097 ≤ length B) where
    long_enough_lem : ltb (length B) 4097 ≡ false
    long_enough_lem = le-ltb (length B) 4097 long

    pub no_input_lem : {b : Bool} → b ≡ is_input_cell F C B n → b ≡ false → BoardCalled F C B n present (answer.Refused 20 0) B
    no_input_lem e f = refused_so 20 (answer.Refused 20 0) refl (ap₂ (λ (x y : Bool). number x y (beq (stands_cell (get_or B n 0)) present)) long_enough_lem (sym e ∙ f))

    module _ {b : Bool} (e : b ≡ is_input_cell F C B n) (t : b ≡ true) {x : ℕ} (isCell : x ≡ get_or B n 0) {s : Bool} (isStanding : s ≡ stands_cell x) {c : Bool} (isAlike : c ≡ beq s present) where
      condition : (d : Bool) → c ≡ d → refusal F C B n present ≡ pick d (some 21) none
      condition d z =
          ap₂ (λ (x y : Bool). number x y (beq (stands_cell (get_or B n 0)) present)) long_enough_lem (sym e ∙ t)
          ∙ ap (λ (y : Bool). pick y (some 21) none) (sym (isAlike ∙ ap (λ (y : Bool). beq y present) (isStanding ∙ ap stands_cell isCell)) ∙ z)

      pub already : c ≡ true → BoardCalled F C B n present (answer.Refused 21 0) B
      already z = refused_so 21 (answer.Refused 21 0) refl (condition true z)

      pub gone_through : c ≡ false → {B₁ : List ℕ} → B₁ ≡ with_cell F C B n present → (a : board.BoardAnswer) → board_given a ≡ answer_numbers (answered (lowest_answer C B₁ 4096 0)) → BoardCalled F C B n present a B₁
      gone_through z p a g = record {
        answer = g ∙ ap (λ (X : List ℕ). answer_numbers (answered (lowest_answer C X 4096 0))) p ∙ ap answer_numbers (sym (answer_of_lem none (condition false z)));
        board = p ∙ sym (board_of_lem none (condition false z));
      }
