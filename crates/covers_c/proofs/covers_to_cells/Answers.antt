use Rattle.exported_covers.proofs.CoveringWritten.{covers_left_alone, covers_exported}
use Rattle.covers_c.proofs.covers_to_cells.Goals as goal

pub returns-then-answer-lt10-clause-answered : goal.returns-then-answer-lt10-clause-answered
returns-then-answer-lt10-clause-answered c =
    covers_left_alone _ _ _ _ _ c.if-answer-lt10.true

pub returns-clause-answered : goal.returns-clause-answered
returns-clause-answered c =
    covers_exported _ _ _ _ _ _ _ _ c.if-answer-lt10.false c.covers-r.ensures.answered c.put_covering.ensures
