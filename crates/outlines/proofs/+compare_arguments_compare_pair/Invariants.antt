-- The measure is twice the pairs left, and one more for the arguments. Each way out is one law of `Walk`.
use Prim.Native.Nat.{◌+◌, ◌*◌}
use Rattle.outlines.proofs.Walk.{ArgumentsLeft}
use Rattle.outlines.proofs.+compare_arguments_compare_pair.Given as goal

abbrev pub decreases-compare_arguments : goal.decreases-compare_arguments
decreases-compare_arguments l = 2 * l.pairs + 1

abbrev pub decreases-compare_pair : goal.decreases-compare_pair
decreases-compare_pair l = 2 * l.pairs

abbrev pub invariant-compare_arguments-loop-n : goal.invariant-compare_arguments-loop-n
invariant-compare_arguments-loop-n l = ArgumentsLeft l.nodes l.r l.q l.pairs l.most l.left l.n
