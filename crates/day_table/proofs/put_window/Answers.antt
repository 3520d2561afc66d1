use Rattle.day_table.proofs.Tabled.{window_put, no_window_lem}
use Rattle.day_table.proofs.put_window.Goals as goal

pub returns-then-kind-eq8 : goal.returns-then-kind-eq8
returns-then-kind-eq8 c =
    window_put c.args.part.now c.args.days.now c.kind.ensures c.if-kind-eq8.true c.field.ensures c.field-then-kind-eq8.ensures c.field-then-kind-eq8-2.ensures c.put_days.ensures

pub returns-else-kind-eq8 : goal.returns-else-kind-eq8
returns-else-kind-eq8 c =
    no_window_lem c.args.part.now c.args.days.now c.kind.ensures c.if-kind-eq8.false
