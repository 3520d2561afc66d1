use Rattle.window_entry.proofs.WindowLaws.{window_over, window_no_input, window_crossed, window_stands}
use Rattle.std.proofs.Common.{ap}
use Rattle.std.proofs.Common.{not}
use Rattle.window_entry.proofs.window_record.Goals as goal

pub returns-then-not-step_in_range : goal.returns-then-not-step_in_range
returns-then-not-step_in_range c =
    window_over _ _ _ c.step_in_range.ensures (ap not c.if-not-step_in_range.true)

pub returns-then-origin_code-ne1 : goal.returns-then-origin_code-ne1
returns-then-origin_code-ne1 c =
    window_no_input _ _ _ c.step_in_range.ensures (ap not c.if-not-step_in_range.false) c.field.ensures c.origin_code.ensures c.if-origin_code-ne1.true

pub returns-then-field : goal.returns-then-field
returns-then-field c =
    window_crossed _ _ _ c.step_in_range.ensures (ap not c.if-not-step_in_range.false) c.field.ensures c.origin_code.ensures c.if-origin_code-ne1.false c.field-2.ensures c.field-3.ensures c.if-field.true

pub returns : goal.returns
returns c =
    window_stands _ _ _ c.step_in_range.ensures (ap not c.if-not-step_in_range.false) c.field.ensures c.origin_code.ensures c.if-origin_code-ne1.false c.field-2.ensures c.field-3.ensures c.if-field.false
