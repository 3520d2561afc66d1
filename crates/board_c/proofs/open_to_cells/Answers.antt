use Rattle.board_c.proofs.BoardWritten.{opening_left_alone, opening_exported}
use Rattle.board_c.proofs.open_to_cells.Goals as goal

pub returns-then-answer-lt3-clause-answered : goal.returns-then-answer-lt3-clause-answered
returns-then-answer-lt3-clause-answered c =
    opening_left_alone _ _ _ _ _ c.if-answer-lt3.true

pub returns-clause-answered : goal.returns-clause-answered
returns-clause-answered c =
    opening_exported _ _ _ _ _ _ _ _ _ c.if-answer-lt3.false c.open_board-a.ensures.answered c.put_board.ensures
