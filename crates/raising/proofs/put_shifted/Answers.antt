use native.Mathlib.Omega.{arith}
use lib.ListN.{set, length-set}
use Rattle.raising.proofs.Raising.{tail_room, begun, field_written, all_written}
use Rattle.raising.proofs.put_shifted.Goals as goal

pub loop-i-init : goal.loop-i-init
loop-i-init c =
    (simp length-set c.requires, begun c.args.rest.now c.args.rows c.args.clauses c.args.output.now c.requires c.kind.ensures c.count.ensures)

pub put_number-requires : goal.put_number-requires
put_number-requires c =
    tail_room _ 2 c.loop-i.output (omega (arith, c.loop-i.invariant.0, c.loop-i-test.true))

pub loop-i-preserved : goal.loop-i-preserved
loop-i-preserved c =
    (omega (arith, c.loop-i.invariant.0), field_written c.args.rest.now c.args.rows c.args.clauses (set (set c.args.output.now 0 c.kind.result) 1 c.count.result) c.loop-i.output c.loop-i.i c.loop-i-test.true c.loop-i.invariant.0 c.loop-i.invariant.1 c.raised_field.ensures c.put_number.ensures)

pub returns : goal.returns
returns c =
    all_written c.args.rest.now c.args.rows c.args.clauses c.args.output.now _ c.kind.result c.count.result c.loop-i.i c.loop-i.auto.i-end c.loop-i-test.false c.loop-i.invariant.1
