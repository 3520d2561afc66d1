-- What is left of the cells has the same answer as the whole row.
use mathlib.Core.Path.{◌≡◌}
use mathlib.Core.List.{◌∷◌}
use Prim.Native.Nat.{◌*◌}
use lib.ListN.{drop}
use Rattle.unification.specs.Repeated.{equal_lists}
use Rattle.distinct.specs.Rows.{node_at}
use Rattle.distinct.proofs.Cells.{numbers_from}
use Rattle.row_scan.proofs.same_cells.Given as goal

abbrev pub invariant-loop-i : goal.invariant-loop-i
invariant-loop-i l = equal_lists (numbers_from l.nodes (8 * l.r) l.i) (drop l.i l.numbers) ≡ equal_lists (node_at l.nodes l.r) (l.code ∷ l.numbers)
