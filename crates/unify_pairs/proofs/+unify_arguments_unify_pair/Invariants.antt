-- A call takes up one pair, so the measures are 2w for a pair and 2w + 1 for the arguments before the last. What is left of the loop has the
-- same outcome as the whole.
use mathlib.Core.Path.{◌≡◌}
use lib.ListN.{length}
use Rattle.unification.specs.Bindings.{Added}
use Rattle.unify.specs.Pairs.{Matched}
use Rattle.unify.proofs.PairWalk.{Pursued}
use Prim.Native.Nat.{◌+◌, ◌-◌, ◌*◌, ◌≤◌}
use Rattle.unify_pairs.proofs.+unify_arguments_unify_pair.Given as goal

abbrev pub decreases-unify_arguments : goal.decreases-unify_arguments
decreases-unify_arguments l = 2 * l.work + 1

abbrev pub decreases-unify_pair : goal.decreases-unify_pair
decreases-unify_pair l = 2 * l.work

abbrev pub invariant-unify_arguments-loop-n : goal.invariant-unify_arguments-loop-n
invariant-unify_arguments-loop-n l = (length l.values ≡ 524416) × (l.left.work ≤ l.work) × Added l.initial.bindings l.bindings l.held l.left.held × Matched l.nodes l.initial.values l.values l.initial.bindings l.bindings l.held l.f l.a l.g l.b l.work l.n (l.last + 1 - l.n) l.left.work l.left.held

abbrev pub invariant-unify_pair-loop-work : goal.invariant-unify_pair-loop-work
invariant-unify_pair-loop-work l = (length l.values ≡ 524416) × (l.work ≤ l.initial.work) × Added l.initial.bindings l.bindings l.initial.held l.held × Pursued l.nodes l.initial.values l.values l.initial.bindings l.bindings l.initial.held (l.initial.l, l.initial.i) (l.initial.r, l.initial.j) l.initial.work (l.l, l.i) (l.r, l.j) l.work l.held

abbrev pub decreases-unify_pair-loop-work : goal.decreases-unify_pair-loop-work
decreases-unify_pair-loop-work l = l.work
