-- The first file is refused, or it stands and the second is looked at.
use mathlib.Core.Path.{sym, ◌∙◌}
use Rattle.merge.proofs.Answered.{first_refused_lem, first_stands_lem, second_answered}
use Rattle.merge.proofs.merge_with.Goals as goal

pub returns-in_err-standing-clause-answered : goal.returns-in_err-standing-clause-answered
returns-in_err-standing-clause-answered c =
    first_refused_lem _ _ _ _ c.requires _ _ c.check_with-mine.ensures.answered.checked _ c.from_residual.ensures.1 (sym c.standing.ensures ∙ c.in_err-standing.was)

pub merge_second-requires : goal.merge_second-requires
merge_second-requires c =
    first_stands_lem _ c.args.second.now _ _ c.requires _ _ c.check_with-mine.ensures.answered.checked (sym c.standing.ensures ∙ c.in_ok-standing.was)

pub returns-clause-answered : goal.returns-clause-answered
returns-clause-answered c =
    second_answered _ _ _ _ c.requires _ _ c.check_with-mine.ensures.answered.checked (sym c.standing.ensures ∙ c.in_ok-standing.was) _ _ _ c.merge_second.ensures.answered
