use Rattle.record.specs.Record.{old_file}
use Rattle.board_calls.proofs.CallSteps.{changed_board}
use Rattle.board_calls.proofs.change.Goals as goal

pub returns : goal.returns
returns c =
    changed_board (old_file c.args.file.now) c.args.clauses.now c.args.board.now c.args.n c.args.present c.requires c.cell-x.ensures c.force_cell.ensures c.cell_like-y.ensures c.set_cell.ensures c.child_cell.ensures c.pass.ensures
