-- What is left of both files has the same answer as the whole of them.
use mathlib.Core.Path.{◌≡◌}
use Prim.Native.Nat.{◌+◌, ◌-◌, ◌≤◌}
use Rattle.record.specs.Record.{old_file, record_count}
use Rattle.searching.specs.Searching.{others_from}
use Rattle.searching.proofs.first_other.Given as goal

abbrev pub invariant-loop-i : goal.invariant-loop-i
invariant-loop-i l = (l.i ≤ record_count (old_file l.first)) × (l.j ≤ 4096) × (others_from l.first l.second l.i l.j ≡ others_from l.first l.second 0 0)

abbrev pub decreases-loop-i : goal.decreases-loop-i
decreases-loop-i l = (record_count (old_file l.first) + 4096) - (l.i + l.j)
