use Rattle.record.specs.Record.{decoded}
use Rattle.write_trimmed.proofs.GoingOn.{unmarked_written, marked_written}
use Rattle.write_trimmed.proofs.write_marked.Goals as goal

pub returns-then-cell-eq0 : goal.returns-then-cell-eq0
returns-then-cell-eq0 c =
    unmarked_written c.args.symbols.now c.args.rows.now c.args.clauses.now c.args.marks.now (decoded c.args.part.now) c.args.k c.args.place c.args.numbers.now c.args.output.now c.cell.ensures c.if-cell-eq0.true

pub write_record-requires : goal.write_record-requires
write_record-requires c =
    c.requires

pub returns : goal.returns
returns c =
    marked_written c.args.symbols.now c.args.rows.now c.args.clauses.now c.args.marks.now (decoded c.args.part.now) c.args.k c.args.place c.args.numbers.now c.args.output.now c.cell.ensures c.if-cell-eq0.false c.write_record.ensures
