-- One clause of the search for the answer: what is left of it finds the same as the whole.
use mathlib.Core.Path.{◌≡◌, sym, ap, ◌∙◌}
use mathlib.Core.Bool.{Bool, true, false, ◌&&◌, and-true, and-false}
use mathlib.Core.Option.{Option, some}
use mathlib.Core.List.{List}
use Prim.Native.Nat.{ℕ, suc, ◌+◌, ◌-◌, ◌*◌, ◌%◌, ◌≤◌, ◌<◌}
use native.Mathlib.Numerals.{add-one}
use native.Mathlib.Omega.{arith}
use lib.Dec.{eqb}
use lib.ListN.{get_or}
use borrow.Author.Tests.{eq-eqb, ne_eqb}
use Rattle.boards.specs.Board.{answered, answer_numbers}
use Rattle.boards.specs.Cells.{answers, lowest_answer}
use Rattle.board_cells.specs.Given.{board_given}
use Rattle.board_cells.specs.declared.lowest.BoardAnswer.TheVariants as answer

module _ (C B : List ℕ) (n : ℕ) {y : ℕ} (isCount : y ≡ get_or C (5 * n + 1) 0) where
  pub cell_decides : y ≡ 0 → {x : ℕ} → x ≡ get_or B n 0 → eqb (x % 8) 7 ≡ answers C B n
  cell_decides z e =
      ap (λ (i : ℕ). eqb (i % 8) 7) e ∙ sym (and-true (eqb (get_or B n 0 % 8) 7))
      ∙ ap (λ (b : Bool). eqb (get_or B n 0 % 8) 7 && b) (sym (eq-eqb (get_or C (5 * n + 1) 0) 0 (sym isCount ∙ z)))

  pub no_answer : ¬ (y ≡ 0) → false ≡ answers C B n
  no_answer h = sym (ap (λ (b : Bool). eqb (get_or B n 0 % 8) 7 && b) (ne_eqb (get_or C (5 * n + 1) 0) 0 (λ q. h (isCount ∙ q))) ∙ and-false (eqb (get_or B n 0 % 8) 7))

module _ (C B : List ℕ) (most : ℕ) where
  abbrev onward : ℕ → ℕ → Bool → Option ℕ
  onward k n b = elim b [ true ↦ some n | false ↦ lowest_answer C B k (suc n) ]

  one_more : (n : ℕ) → n < most → {b : Bool} → b ≡ answers C B n → lowest_answer C B (most - n) n ≡ onward (most - suc n) n b
  one_more n l e = let z : most - n ≡ suc (most - suc n) = omega arith in ap (λ (k : ℕ). lowest_answer C B k n) z ∙ ap (onward (most - suc n) n) (sym e)

  -- What is left from n on finds what the whole does.
  abbrev pub Same : ℕ → Type 0
  Same n = lowest_answer C B (most - n) n ≡ lowest_answer C B most 0

  pub found : (n : ℕ) → n < most → {b : Bool} → b ≡ answers C B n → b ≡ true → Same n → board_given (answer.Clause n) ≡ answer_numbers (answered (lowest_answer C B most 0))
  found n l {b} e z s = ap (λ (o : Option ℕ). answer_numbers (answered o)) (sym (one_more n l e ∙ ap (onward (most - suc n) n) z) ∙ s)

  pub not_found : (n : ℕ) → n < most → {b : Bool} → b ≡ answers C B n → b ≡ false → Same n → Same (n + 1)
  not_found n l {b} e z s = ap (λ (m : ℕ). lowest_answer C B (most - m) m) (add-one n) ∙ sym (one_more n l e ∙ ap (onward (most - suc n) n) z) ∙ s

  pub nothing : (n : ℕ) → most ≤ n → Same n → board_given answer.None ≡ answer_numbers (answered (lowest_answer C B most 0))
  nothing n l s = let z : most - n ≡ 0 = omega arith in ap (λ (o : Option ℕ). answer_numbers (answered o)) (sym (ap (λ (k : ℕ). lowest_answer C B k n) z) ∙ s)
