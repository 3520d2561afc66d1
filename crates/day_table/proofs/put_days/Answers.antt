-- Two stores.
use Rattle.day_table.proofs.Tabled.{two_cells}
use Rattle.day_table.proofs.put_days.Goals as goal

pub returns : goal.returns
returns c =
    two_cells c.args.n c.args.first c.args.last c.args.days.now _ _ c.set_cell.ensures c.set_cell-2.ensures
