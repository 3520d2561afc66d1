use native.Mathlib.Omega.{arith}
use Rattle.outlines.proofs.Walk.{smaller_of}
use Rattle.outlines.proofs.common_arity.Goals as goal

pub returns : goal.returns
returns c =
    (smaller_of c.arity_of.ensures.0 c.arity_of-2.ensures.0 c.min.ensures, omega (arith, c.min.ensures, c.arity_of.ensures.1))
