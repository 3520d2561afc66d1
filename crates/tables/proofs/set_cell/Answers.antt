-- A store inside is the list's; outside neither changes anything.
use mathlib.Core.Path.{sym}
use lib.Seq.{set_out}
use Rattle.tables.proofs.set_cell.Goals as goal

pub returns-else-at-table : goal.returns-else-at-table
returns-else-at-table c =
    sym (set_out c.args.table.now c.args.at c.args.v c.if-at-table.false)
