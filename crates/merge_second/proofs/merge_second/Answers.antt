-- The second file is refused, or both stand.
use mathlib.Core.Path.{sym, ◌∙◌}
use Rattle.merge_second.proofs.SecondAnswered.{second_refused_lem, both_stand, both_joined}
use Rattle.merge_second.proofs.merge_second.Goals as goal

pub returns-in_err-standing-clause-answered : goal.returns-in_err-standing-clause-answered
returns-in_err-standing-clause-answered c =
    second_refused_lem _ _ _ _ c.args.mine _ _ c.check_with-theirs.ensures.answered.checked _ c.from_residual.ensures.1 (sym c.standing.ensures ∙ c.in_err-standing.was)

pub join-requires : goal.join-requires
join-requires c =
    both_stand _ _ _ _ _ _ _ c.check_with-theirs.ensures.answered.checked (sym c.standing.ensures ∙ c.in_ok-standing.was) c.requires

pub returns-clause-answered : goal.returns-clause-answered
returns-clause-answered c =
    both_joined _ _ _ _ c.args.mine _ _ c.check_with-theirs.ensures.answered.checked (sym c.standing.ensures ∙ c.in_ok-standing.was) _ _ c.join.ensures
