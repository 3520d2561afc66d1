-- No row so far has the cells.
use mathlib.Core.Path.{◌≡◌}
use mathlib.Core.Option.{none}
use mathlib.Core.List.{◌∷◌}
use Rattle.distinct.specs.Rows.{row_with_cells}
use Rattle.row_scan.proofs.scan_rows.Given as goal

abbrev pub invariant-loop-row : goal.invariant-loop-row
invariant-loop-row l = row_with_cells l.nodes l.row (l.code ∷ l.numbers) ≡ none
