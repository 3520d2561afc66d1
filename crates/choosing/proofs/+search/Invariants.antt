-- The measure is how many literals are left. What is left to be tried gives the same as the whole.
use Rattle.std.proofs.Common.{◌≡◌}
use Rattle.matching.specs.Searching.{searched}
use Rattle.choosing.proofs.SearchSteps.{left_to_try}
use Rattle.choosing.proofs.+search.Given as goal

abbrev pub decreases-search : goal.decreases-search
decreases-search l = l.left

abbrev pub invariant-loop-n : goal.invariant-loop-n
invariant-loop-n l = left_to_try l.table l.rights l.left l.i l.n l.choice ≡ searched l.table l.rights l.left l.i l.initial.choice
