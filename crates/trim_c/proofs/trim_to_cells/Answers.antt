use Rattle.exported_trim.proofs.TrimWritten.{trim_left_alone, trim_exported}
use Rattle.trim_c.proofs.trim_to_cells.Goals as goal

pub returns-then-answer-lt4-clause-answered : goal.returns-then-answer-lt4-clause-answered
returns-then-answer-lt4-clause-answered c =
    trim_left_alone _ _ _ _ _ c.if-answer-lt4.true

pub returns-clause-answered : goal.returns-clause-answered
returns-clause-answered c =
    trim_exported _ _ _ _ _ _ _ _ _ c.if-answer-lt4.false c.trim-m.ensures.answered c.put_writing.ensures
