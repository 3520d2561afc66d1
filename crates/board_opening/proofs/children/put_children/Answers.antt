use Rattle.record.specs.Record.{old_file}
use Rattle.board_opening.proofs.FillSteps.{child_more}
use Rattle.board_opening.proofs.children.put_children.Goals as goal

pub loop-n-preserved : goal.loop-n-preserved
loop-n-preserved c =
    child_more (old_file c.args.file.now) c.args.clauses.now c.args.board.now c.loop-n.n c.loop-n.invariant c.put_parents.ensures
