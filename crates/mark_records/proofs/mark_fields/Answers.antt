use Rattle.mark_records.proofs.MarkedFields.{field_more}
use Rattle.mark_records.proofs.mark_fields.Goals as goal

pub loop-i-preserved : goal.loop-i-preserved
loop-i-preserved c =
    field_more c.args.symbols.now c.args.rows.now c.args.clauses.now c.args.part.now c.args.marks.now c.loop-i.i c.loop-i.marks _ _ c.loop-i-test.true c.loop-i.invariant c.mark_field.ensures
