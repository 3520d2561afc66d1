use native.Mathlib.Omega.{arith}
use Rattle.images.proofs.ImageSteps.{argument_taken}
use Rattle.images.proofs.images.match_arguments.Goals as goal

pub loop-n-preserved : goal.loop-n-preserved
loop-n-preserved c =
    let s = c.args in
    let l = c.loop-n in
    argument_taken s.nodes.now s.r s.y _ l.images _ c.argument_count-n-end.result l.n _ _ _ l.invariant (omega arith) c.part_at-x.ensures c.part_at-z.ensures c.take_image.ensures c.if-not-take_image.false
