-- The contract of a call on a board: what it promises of every file, table of clauses and board, with no condition on the call.
use Rattle.std.specs.Prelude.{◌≡◌, Bool, List, ℕ}
use Rattle.record.specs.Record.{File}
use Rattle.boards.specs.Board.{answer_numbers}
use Rattle.boards.specs.Cells.{call_answer, board_after}
use Rattle.board_cells.specs.Given.{board_given}
use Rattle.board_cells.specs.declared.lowest.BoardAnswer.{BoardAnswer}

pub record BoardCalled (file : File) (clauses before : List ℕ) (n : ℕ) (present : Bool) (a : BoardAnswer) (after : List ℕ) : Type 0 where
  -- The three numbers of the answer, and the board, cell by cell.
  pub answer : board_given a ≡ answer_numbers (call_answer file clauses before n present)
  pub board : after ≡ board_after file clauses before n present
