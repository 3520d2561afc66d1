use Rattle.exported.proofs.AnswerWritten.{left_alone, answered}
use Rattle.check_c.proofs.check_to_cells.Goals as goal

pub returns-then-answer-lt7-clause-answered : goal.returns-then-answer-lt7-clause-answered
returns-then-answer-lt7-clause-answered c =
    left_alone _ _ _ _ c.if-answer-lt7.true

pub returns-clause-answered : goal.returns-clause-answered
returns-clause-answered c =
    answered _ _ _ _ _ _ _ c.if-answer-lt7.false c.check-a.ensures.answered c.put.ensures
