-- The answer as the program gives it, in the three numbers of document 02's answer of a board (Q-9).
use Rattle.std.specs.Prelude.{List, [], ◌∷◌, ℕ}
use Rattle.board_cells.specs.declared.lowest.BoardAnswer.{BoardAnswer}
use Rattle.board_cells.specs.declared.lowest.BoardAnswer.TheVariants as answer

abbrev pub board_given : BoardAnswer → List ℕ
board_given answer.None = 0 ∷ 0 ∷ 0 ∷ []
board_given (answer.Clause n) = 1 ∷ n ∷ 0 ∷ []
board_given (answer.Refused number k) = 2 ∷ number ∷ k ∷ []
