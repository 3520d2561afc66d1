use Rattle.answer.proofs.AnswerLaws.{first_found}
use Rattle.standing.proofs.first_accepted.Goals as goal

pub returns-then-is_accepted : goal.returns-then-is_accepted
returns-then-is_accepted c =
    first_found c.args.clauses.now c.args.flags.now _ c.loop-c.invariant _ c.is_accepted.ensures _ c.loop-c-test.true c.if-is_accepted.true
