-- Before field i the fields before it are written.
use mathlib.Core.Path.{◌≡◌}
use mathlib.Core.List.{◌++◌}
use Prim.Native.Nat.{◌+◌, ◌*◌, ◌≤◌}
use lib.ListN.{length, take, drop}
use Rattle.raising.proofs.Raising.{sixteen}
use Rattle.raising.proofs.put_shifted.Given as goal

abbrev pub invariant-loop-i : goal.invariant-loop-i
invariant-loop-i l = (16 ≤ length l.output) × (l.output ≡ take (2 + 2 * l.i) (sixteen l.rest l.rows l.clauses) ++ drop (2 + 2 * l.i) l.initial.output)
