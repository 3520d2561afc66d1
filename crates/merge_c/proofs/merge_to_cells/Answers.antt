use Rattle.exported_merge.proofs.MergeWritten.{merge_left_alone, merge_exported}
use Rattle.merge_c.proofs.merge_to_cells.Goals as goal

pub returns-then-answer-lt4-clause-answered : goal.returns-then-answer-lt4-clause-answered
returns-then-answer-lt4-clause-answered c =
    merge_left_alone _ _ _ _ _ c.if-answer-lt4.true

pub returns-clause-answered : goal.returns-clause-answered
returns-clause-answered c =
    merge_exported _ _ _ _ _ _ _ _ _ c.if-answer-lt4.false c.merge-m.ensures.answered c.put_writing.ensures
