use native.Mathlib.Omega.{arith}
use Rattle.record.specs.Record.{decoded}
use Rattle.record.specs.Sorts.{is_clause}
use Rattle.placing.proofs.Counting.{at_most_one}
use Rattle.placing.proofs.Numbering.{next_clause_lem}
use Rattle.placing.proofs.clauses_after.Goals as goal

pub overflow_add-result : goal.overflow_add-result
overflow_add-result c =
    omega (arith, at_most_one (is_clause (decoded c.args.part.now)), c.clauses_of.ensures, c.requires)

pub returns : goal.returns
returns c =
    next_clause_lem c.args.n (decoded c.args.part.now) c.clauses_of.ensures
