-- A call takes up one expression, so the measures are 2w for the test of an expression and 2w + 1 for the arguments before the last. What is
-- left of the loop has the same answer as the whole.
use mathlib.Core.Path.{◌≡◌}
use lib.ListN.{length}
use Rattle.following.specs.Walks.{Scanned}
use Rattle.following.proofs.Occurrence.{Sought}
use Prim.Native.Nat.{◌+◌, ◌-◌, ◌*◌, ◌≤◌}
use Rattle.occurrence.proofs.+occurs_in_occurs_in_arguments.Given as goal

abbrev pub decreases-occurs_in_arguments : goal.decreases-occurs_in_arguments
decreases-occurs_in_arguments l = 2 * l.work + 1

abbrev pub decreases-occurs_in : goal.decreases-occurs_in
decreases-occurs_in l = 2 * l.work

abbrev pub invariant-occurs_in_arguments-loop-n : goal.invariant-occurs_in_arguments-loop-n
invariant-occurs_in_arguments-loop-n l = (length l.values ≡ 524416) × (l.left ≤ l.work) × Scanned l.nodes l.initial.values l.values (l.v, l.i) l.r l.k l.work l.n (l.last + 1 - l.n) l.left

abbrev pub invariant-occurs_in-loop-left : goal.invariant-occurs_in-loop-left
invariant-occurs_in-loop-left l = (length l.values ≡ 524416) × (l.left ≤ l.work) × Sought l.nodes l.initial.values l.values (l.v, l.i) (l.t, l.j) l.work (l.row, l.index) l.left

abbrev pub decreases-occurs_in-loop-left : goal.decreases-occurs_in-loop-left
decreases-occurs_in-loop-left l = l.left
