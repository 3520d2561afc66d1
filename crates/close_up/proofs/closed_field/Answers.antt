use Rattle.marking.specs.Marking.{by_records}
use Rattle.close_up.proofs.ClosedFields.{field_closed}
use Rattle.close_up.proofs.closed_field.Goals as goal

pub returns : goal.returns
returns c =
    field_closed (by_records c.args.symbols.now c.args.rows.now c.args.clauses.now c.args.numbers.now) c.args.part.now c.args.i c.named_in.ensures c.field.ensures c.closed_number.ensures
