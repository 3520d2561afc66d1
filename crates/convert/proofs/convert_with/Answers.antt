-- The file is refused, or it stands and is written in the other form.
use mathlib.Core.Path.{sym, ◌∙◌}
use Rattle.convert.proofs.Answered.{file_refused_lem, convertible, file_rewritten}
use Rattle.convert.proofs.convert_with.Goals as goal

pub returns-in_err-standing-clause-answered : goal.returns-in_err-standing-clause-answered
returns-in_err-standing-clause-answered c =
    file_refused_lem _ _ _ c.requires _ _ c.check_with-a.ensures.answered.checked _ c.from_residual.ensures.1 (sym c.standing.ensures ∙ c.in_err-standing.was)

pub rewrite-requires : goal.rewrite-requires
rewrite-requires c =
    convertible _ _ _ c.requires _ _ c.check_with-a.ensures.answered.checked (sym c.standing.ensures ∙ c.in_ok-standing.was)

pub returns-clause-answered : goal.returns-clause-answered
returns-clause-answered c =
    file_rewritten _ _ _ c.requires _ _ c.check_with-a.ensures.answered.checked (sym c.standing.ensures ∙ c.in_ok-standing.was) _ _ c.rewrite.ensures
