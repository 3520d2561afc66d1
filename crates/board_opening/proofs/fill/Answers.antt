use Rattle.record.specs.Record.{old_file}
use Rattle.board_opening.proofs.FillSteps.{all_filled}
use Rattle.board_opening.proofs.fill.Goals as goal

pub returns : goal.returns
returns c =
    all_filled c.args.day (old_file c.args.file.now) c.args.clauses.now c.args.flags.now c.args.count c.args.board.now c.clear.ensures c.set_cell.ensures c.put_cells.ensures c.put_children.ensures
