use Rattle.trim_kept.proofs.MarkedThenWritten.{first_marked}
use Rattle.trim_kept.proofs.mark_first.Goals as goal

pub returns : goal.returns
returns c =
    first_marked c.args.clauses.now c.args.n c.args.marks.now _ _ c.clear.ensures c.cell-k.ensures c.set_cell.ensures
