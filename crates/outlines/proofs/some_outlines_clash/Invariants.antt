-- What is left of the list has the same answer as the whole.
use mathlib.Core.Path.{◌≡◌}
use Prim.Native.Nat.{◌-◌}
use Rattle.unification.specs.Listed.{listed_from}
use Rattle.unification.specs.Nodes.{node_row}
use Rattle.outlines.specs.Comparing.{some_clash}
use Rattle.outlines.proofs.some_outlines_clash.Given as goal

abbrev pub invariant-loop-j : goal.invariant-loop-j
invariant-loop-j l = some_clash (node_row l.nodes) l.r (listed_from l.listed l.j (l.n - l.j)) ≡ some_clash (node_row l.nodes) l.r (listed_from l.listed 0 l.n)
