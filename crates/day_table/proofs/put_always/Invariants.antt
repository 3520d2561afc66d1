-- After each turn the clauses below n are always in force.
use mathlib.Core.Path.{◌≡◌}
use Rattle.day_table.specs.DayTable.{always_below}
use Rattle.day_table.proofs.put_always.Given as goal

abbrev pub invariant-loop-n : goal.invariant-loop-n
invariant-loop-n l = l.days ≡ always_below l.n l.initial.days
