use Rattle.board_opening.proofs.FillSteps.{cell_more}
use Rattle.board_opening.proofs.put_cells.Goals as goal

pub loop-n-preserved : goal.loop-n-preserved
loop-n-preserved c =
    cell_more c.args.flags.now c.args.board.now c.loop-n.n c.loop-n.invariant c.first_cell-x.ensures c.set_cell.ensures
