-- What is left, with what is counted, comes to the whole.
use Prim.Native.Nat.{◌≤◌}
use Rattle.record.specs.Record.{old_file}
use Rattle.convert_new.specs.NewFile.{is_kept}
use Rattle.placing.proofs.Counting.{Counted}
use Rattle.convert_new.proofs.new_count.Given as goal

abbrev pub invariant-loop-k : goal.invariant-loop-k
invariant-loop-k l = (l.n ≤ l.k) × Counted (old_file l.file) is_kept 0 l.k l.n
