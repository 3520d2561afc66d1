use Rattle.std.proofs.Common.{refl}
use Rattle.matching.specs.Pairs.{table_filled}
use Rattle.agreeing.proofs.AgreeSteps.{filled_more}
use Rattle.agreeing.proofs.fill_table.Goals as goal

pub loop-x-init : goal.loop-x-init
unfolding table_filled
loop-x-init c =
    refl

pub loop-x-preserved : goal.loop-x-preserved
loop-x-preserved c =
    filled_more _ _ _ _ _ c.loop-x.invariant c.go_together.ensures
