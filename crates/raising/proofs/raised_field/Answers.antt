use native.Mathlib.Omega.{arith}
use Rattle.record.specs.Record.{decoded}
use Rattle.raising.proofs.Raising.{raised_bound}
use Rattle.raising.proofs.raised_field.Goals as goal

pub overflow_add-result : goal.overflow_add-result
overflow_add-result c =
    let s = c.args in
    omega (arith, raised_bound s.rows s.clauses (decoded s.part.now) s.i)
