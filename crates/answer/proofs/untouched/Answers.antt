use Rattle.answer.proofs.AnswerLaws.{untouched_numbers_lem}
use Rattle.answer.proofs.untouched.Goals as goal

pub returns : goal.returns
returns c =
    untouched_numbers_lem _ _ c.with_counts.ensures
