-- The file is refused, or it stands and its board is filled.
use Rattle.board.proofs.Opened.{file_refused_lem, openable, file_stands}
use Rattle.board.proofs.open_with.Goals as goal

pub returns-then-not-stands-clause-answered : goal.returns-then-not-stands-clause-answered
returns-then-not-stands-clause-answered c =
    file_refused_lem _ _ _ _ c.requires _ _ _ _ _ _ _ _ _ _ _ c.check_with-a.ensures.answered c.stands.ensures (c.if-not-stands.true) c.opening_answer.ensures

pub open_cells-requires : goal.open_cells-requires
open_cells-requires c =
    openable _ _ _ _ c.requires _ _ _ _ _ _ _ _ _ _ _ c.check_with-a.ensures.answered c.stands.ensures (c.if-not-stands.false)

pub returns-clause-answered : goal.returns-clause-answered
returns-clause-answered c =
    file_stands _ _ _ _ c.requires _ _ _ _ _ _ _ _ _ _ _ c.check_with-a.ensures.answered c.stands.ensures (c.if-not-stands.false) c.open_cells.ensures c.opening_answer-2.ensures
