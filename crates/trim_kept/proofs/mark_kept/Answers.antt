use Rattle.trim_kept.proofs.MarkedThenWritten.{all_marked}
use Rattle.trim_kept.proofs.mark_kept.Goals as goal

pub returns : goal.returns
returns c =
    all_marked c.args.symbols.now c.args.rows.now c.args.clauses.now c.args.file.now c.args.n c.args.marks.now c.mark_first.ensures c.mark_down.ensures (c.mark_windows.ensures c.args.symbols.now c.args.rows.now)
