-- The test is the one that the definition takes.
use Rattle.units.proofs.UnitWriting.{units_none, units_some}
use Rattle.units.proofs.unit_count.Goals as goal

pub returns-then-clauses-eq0 : goal.returns-then-clauses-eq0
returns-then-clauses-eq0 c =
    units_none _ c.if-clauses-eq0.true

pub returns-else-clauses-eq0 : goal.returns-else-clauses-eq0
returns-else-clauses-eq0 c =
    units_some _ c.if-clauses-eq0.false
