use native.Mathlib.Omega.{arith}
use Rattle.entry.proofs.NodeLaws.{taken_small}
use Rattle.entry.proofs.rows.taken_literal.Goals as goal

pub overflow_mul-result : goal.overflow_mul-result
overflow_mul-result c =
    omega (arith, taken_small _ c.requires c.args.n (omega arith) c.earliest_of.ensures)

pub overflow_add-result : goal.overflow_add-result
overflow_add-result c =
    omega (arith, taken_small _ c.requires c.args.n (omega arith) c.earliest_of.ensures)
