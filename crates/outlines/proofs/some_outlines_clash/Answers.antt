use Rattle.unification.specs.Nodes.{node_row}
use Rattle.outlines.proofs.Each.{clash_found_here, clash_not_here, no_clash, all_clashes}
use Rattle.outlines.proofs.some_outlines_clash.Goals as goal

pub loop-j-init : goal.loop-j-init
loop-j-init c =
    all_clashes (node_row c.args.nodes.now) c.args.r c.args.listed.now c.args.n

pub returns-then-outlines_clash : goal.returns-then-outlines_clash
returns-then-outlines_clash c =
    clash_found_here (node_row c.args.nodes.now) c.args.r c.args.listed.now c.args.n c.loop-j.j c.loop-j-test.true c.outlines_clash.ensures c.loop-j.invariant c.if-outlines_clash.true

pub loop-j-preserved : goal.loop-j-preserved
loop-j-preserved c =
    clash_not_here (node_row c.args.nodes.now) c.args.r c.args.listed.now c.args.n c.loop-j.j c.loop-j-test.true c.outlines_clash.ensures c.loop-j.invariant c.if-outlines_clash.false

pub returns : goal.returns
returns c =
    no_clash (node_row c.args.nodes.now) c.args.r c.args.listed.now c.args.n c.loop-j.j c.loop-j-test.false c.loop-j.invariant
