-- The first x cells are filled.
use Rattle.std.proofs.Common.{◌≡◌}
use Rattle.matching.specs.Pairs.{table_filled}
use Rattle.agreeing.proofs.fill_table.Given as goal

abbrev pub invariant-loop-x : goal.invariant-loop-x
invariant-loop-x l = l.table ≡ table_filled l.found l.notes l.x l.initial.table
