use borrow.Author.Rules.{Fits-under}
use Rattle.trim_kept.proofs.MarkedThenWritten.{kept_written, end_short}
use Rattle.trim_kept.proofs.trim_kept.Goals as goal

pub write_trimmed-end-requires : goal.write_trimmed-end-requires
write_trimmed-end-requires c =
    c.requires

pub overflow_cast-result : goal.overflow_cast-result
overflow_cast-result c =
    Fits-under _ _ 65537 (end_short c.args.symbols.now c.args.rows.now c.args.clauses.now c.args.file.now c.args.n c.args.marks.now c.args.numbers.now c.args.output.now _ _ c.requires (kept_written c.args.symbols.now c.args.rows.now c.args.clauses.now c.args.file.now c.args.n c.args.marks.now c.args.numbers.now c.args.output.now _ _ c.mark_kept.ensures c.write_trimmed-end.ensures)) tt

pub returns : goal.returns
returns c =
    kept_written c.args.symbols.now c.args.rows.now c.args.clauses.now c.args.file.now c.args.n c.args.marks.now c.args.numbers.now c.args.output.now _ _ c.mark_kept.ensures c.write_trimmed-end.ensures
