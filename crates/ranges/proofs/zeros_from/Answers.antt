use mathlib.Core.Path.{sym, ◌∙◌}
use Rattle.ranges.proofs.RangeLaws.{zeros_stop, zeros_on, zeros_end}
use Rattle.ranges.proofs.zeros_from.Goals as goal

pub returns-then-field-ne0 : goal.returns-then-field-ne0
returns-then-field-ne0 c =
    sym (zeros_stop c.args.part.now c.loop-i.i c.loop-i-test.true c.field.ensures c.if-field-ne0.true) ∙ c.loop-i.invariant

pub loop-i-preserved : goal.loop-i-preserved
loop-i-preserved c =
    sym (zeros_on c.args.part.now c.loop-i.i c.loop-i-test.true c.field.ensures c.if-field-ne0.false) ∙ c.loop-i.invariant

pub returns : goal.returns
returns c =
    sym (zeros_end c.args.part.now c.loop-i.i c.loop-i-test.false) ∙ c.loop-i.invariant
