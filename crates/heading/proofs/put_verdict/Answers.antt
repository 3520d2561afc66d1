use Rattle.heading.proofs.VerdictTexts.{given_written}
use Rattle.answer.specs.declared.Verdict.TheVariants.{Open, Accepted, Refused}
use Rattle.heading.proofs.put_verdict.Goals as goal

pub returns-in-Open : goal.returns-in-Open
returns-in-Open c =
    given_written Open c.in-Open.is c.put_word.ensures

pub returns-in-Accepted : goal.returns-in-Accepted
returns-in-Accepted c =
    given_written (Accepted _) c.in-Accepted.is c.put_accepted.ensures

pub returns-in-Refused : goal.returns-in-Refused
returns-in-Refused c =
    given_written (Refused _ _) c.in-Refused.is c.put_refused.ensures
