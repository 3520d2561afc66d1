-- A short answer leaves everything alone; else the check's answer is put into it.
use Rattle.exported.proofs.AnswerWritten.{left_alone_with, answered_with}
use Rattle.check_with_c.proofs.check_with_to_cells.Goals as goal

pub returns-then-answer-lt7-clause-answered : goal.returns-then-answer-lt7-clause-answered
returns-then-answer-lt7-clause-answered c =
    left_alone_with _ _ _ _ _ c.if-answer-lt7.true

pub returns-clause-answered : goal.returns-clause-answered
returns-clause-answered c =
    answered_with _ _ _ _ _ _ _ _ _ c.if-answer-lt7.false c.check_with-a.ensures.answered c.put.ensures
