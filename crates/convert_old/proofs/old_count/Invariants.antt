-- What is left, with what is counted, comes to the whole.
use Prim.Native.Nat.{◌+◌, ◌≤◌}
use Rattle.record.specs.Record.{new_file}
use Rattle.converting.specs.Converting.{is_dated}
use Rattle.placing.proofs.Counting.{Counted}
use Rattle.convert_old.proofs.old_count.Given as goal

abbrev pub invariant-loop-k : goal.invariant-loop-k
invariant-loop-k l = (l.n ≤ l.count + l.k) × Counted (new_file l.file) is_dated l.count l.k l.n
