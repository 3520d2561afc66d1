use Rattle.exported_conversion.proofs.ConversionWritten.{conversion_left_alone, conversion_exported}
use Rattle.convert_c.proofs.new_to_cells.Goals as goal

pub returns-then-answer-lt4-clause-answered : goal.returns-then-answer-lt4-clause-answered
returns-then-answer-lt4-clause-answered c =
    conversion_left_alone _ _ _ _ c.if-answer-lt4.true

pub returns-clause-answered : goal.returns-clause-answered
returns-clause-answered c =
    conversion_exported _ _ _ _ _ _ _ _ c.if-answer-lt4.false c.to_new-m.ensures.answered c.put_writing.ensures
