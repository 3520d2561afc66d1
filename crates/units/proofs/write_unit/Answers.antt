-- Each way out is one law of `UnitWriting`.
use native.Mathlib.Omega.{arith}
use Rattle.units.proofs.UnitSizes.{unit_whole}
use Rattle.units.proofs.UnitWriting.{line_ready, other_inside, first_inside, unit_line, unit_heading, unit_both}
use Rattle.units.proofs.write_unit.Goals as goal

pub write_line-requires : goal.write_line-requires
write_line-requires c =
    line_ready _ c.requires.after _ (other_inside c.requires c.if-n-ne0.true) _ _ _ c.requires.text c.requires.numbers

pub returns-then-n-ne0 : goal.returns-then-n-ne0
returns-then-n-ne0 c =
    unit_whole c.requires
    (unit_line c.if-n-ne0.true (other_inside c.requires c.if-n-ne0.true) c.write_line.ensures)

pub returns-then-a-eq0 : goal.returns-then-a-eq0
returns-then-a-eq0 c =
    unit_whole c.requires
    (unit_heading c.if-n-ne0.false c.if-a-eq0.true c.write_verdict-first.ensures (record { nodes = c.requires.after.checked.node_room; values = c.requires.after.checked.values; text = omega arith }))

pub write_line-requires-2 : goal.write_line-requires-2
write_line-requires-2 c =
    line_ready _ c.requires.after _ (first_inside c.requires c.if-n-ne0.false c.if-a-eq0.false) _ _ _ (omega arith) c.requires.numbers

pub returns : goal.returns
returns c =
    unit_whole c.requires
    (unit_both c.if-n-ne0.false (first_inside c.requires c.if-n-ne0.false c.if-a-eq0.false) _ _ c.write_verdict-first.ensures c.write_line-2.ensures)
