use Rattle.mark_records.proofs.MarkedFields.{names_marked}
use Rattle.mark_records.proofs.mark_named.Goals as goal

pub returns : goal.returns
returns c =
    names_marked c.args.symbols.now c.args.rows.now c.args.clauses.now c.args.part.now c.args.marks.now c.kind.ensures c.if-kind-eq8.false c.mark_fields.ensures
