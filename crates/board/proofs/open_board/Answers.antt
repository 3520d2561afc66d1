-- A short board is refused before all else.
use Rattle.board.proofs.Opened.{too_short}
use Rattle.board.proofs.open_board.Goals as goal

pub returns-then-board-lt4097-clause-answered : goal.returns-then-board-lt4097-clause-answered
returns-then-board-lt4097-clause-answered c =
    too_short _ _ _ _ c.if-board-lt4097.true

pub returns-clause-answered : goal.returns-clause-answered
returns-clause-answered c =
    c.open_with.ensures.answered
