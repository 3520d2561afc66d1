use mathlib.Core.Bool.{true}
use Rattle.board_c.proofs.BoardWritten.{call_left_alone, call_exported}
use Rattle.board_c.proofs.return_to_cells.Goals as goal

pub returns-then-answer-lt3 : goal.returns-then-answer-lt3
returns-then-answer-lt3 c =
    call_left_alone _ _ _ _ _ _ c.if-answer-lt3.true

pub returns : goal.returns
returns c =
    call_exported _ _ _ _ true _ _ _ _ c.if-answer-lt3.false c.return_clause-a.ensures c.put_board.ensures
