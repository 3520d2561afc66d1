use native.Mathlib.Omega.{arith}
use Rattle.choosing.proofs.SearchSteps.{fits_not, fits_on}
use Rattle.choosing.proofs.fits_before.Goals as goal

pub returns-then-not-together : goal.returns-then-not-together
returns-then-not-together c =
    fits_not c.args.table.now _ _ _ c.pair_chosen-here.ensures.0 c.pair_chosen-there.ensures.0 c.together.ensures (omega arith) c.loop-j.invariant c.if-not-together.true

pub loop-j-preserved : goal.loop-j-preserved
loop-j-preserved c =
    fits_on c.args.table.now _ _ _ c.pair_chosen-here.ensures.0 c.pair_chosen-there.ensures.0 c.together.ensures (omega arith) c.loop-j.invariant c.if-not-together.false
