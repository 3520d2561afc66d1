use mathlib.Core.Path.{refl}
use Rattle.searching.proofs.SearchSteps.{no_step_left, step_here, step_later}
use Rattle.searching.proofs.first_step.Goals as goal

pub loop-k-init : goal.loop-k-init
loop-k-init c =
    refl

pub returns-then-is_step : goal.returns-then-is_step
returns-then-is_step c =
    step_here _ _ c.loop-k.invariant c.loop-k-test.true c.record_part.ensures c.is_step.ensures c.if-is_step.true

pub loop-k-preserved : goal.loop-k-preserved
loop-k-preserved c =
    step_later _ _ c.loop-k.invariant c.loop-k-test.true c.record_part.ensures c.is_step.ensures c.if-is_step.false

pub returns : goal.returns
returns c =
    no_step_left _ _ c.loop-k.invariant c.loop-k-test.false
