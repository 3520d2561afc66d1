-- Each file lies within the pack, behind the one before it. The measure is what is left of the pack.
use Rattle.std.proofs.Common.{length, ◌-◌, ◌≤◌}
use Rattle.cases.proofs.print_files.Given as goal

abbrev pub invariant-loop-file : goal.invariant-loop-file
invariant-loop-file g l = (l.at ≤ length l.pack) × (l.place ≤ l.at)

abbrev pub decreases-loop-file : goal.decreases-loop-file
decreases-loop-file g l = length l.pack - l.at
