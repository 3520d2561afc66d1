-- The three numbers of each case.
use mathlib.Core.Path.{sym, ap}
use Rattle.answer.specs.Given.{verdict_coded}
use Rattle.board_verdict.proofs.opening_answer.Goals as goal

pub returns-in-Open : goal.returns-in-Open
returns-in-Open c =
    sym (ap verdict_coded c.in-Open.is)

pub returns-in-Accepted : goal.returns-in-Accepted
returns-in-Accepted c =
    sym (ap verdict_coded c.in-Accepted.is)

pub returns-in-Refused : goal.returns-in-Refused
returns-in-Refused c =
    sym (ap verdict_coded c.in-Refused.is)
