-- The files passed so far, and those from the next place on, are the files of the pack.
use Prim.Native.Nat.{◌-◌}
use lib.ListN.{length}
use Rattle.pack.proofs.PackLaws.{Passed}
use Rattle.pack.proofs.count_files.Given as goal

abbrev pub invariant-loop-at : goal.invariant-loop-at
invariant-loop-at l = Passed l.pack l.at l.n

abbrev pub decreases-loop-at : goal.decreases-loop-at
decreases-loop-at l = length l.pack - l.at
