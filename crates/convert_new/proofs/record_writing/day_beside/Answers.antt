use Rattle.convert_new.proofs.NewWritten.{input_day, no_day}
use Rattle.convert_new.proofs.record_writing.day_beside.Goals as goal

pub returns-then-kind-eq4 : goal.returns-then-kind-eq4
returns-then-kind-eq4 c =
    input_day c.args.part.now c.args.days.now c.args.at c.kind.ensures c.if-kind-eq4.true c.cell.ensures

pub returns-else-kind-eq4 : goal.returns-else-kind-eq4
returns-else-kind-eq4 c =
    no_day c.args.part.now c.args.days.now c.args.at c.kind.ensures c.if-kind-eq4.false
