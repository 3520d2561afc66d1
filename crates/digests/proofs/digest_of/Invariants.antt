-- At every turn the length and the hash are those of the pieces so far, and the next piece begins with a later clause.
use mathlib.Core.Path.{◌≡◌}
use Prim.Native.Nat.{◌-◌, ◌*◌, ◌≤◌}
use lib.ListN.{length}
use Rattle.digests.proofs.DigestLaws.{TakenAfter}
use Rattle.digests.proofs.digest_of.Given as goal

abbrev pub invariant-loop-next : goal.invariant-loop-next
invariant-loop-next l = record {
  values : length l.values ≡ 524416;
  output : length l.output ≡ 131072;
  bound : l.clause ≤ 65535;
  few : l.length ≤ 131072 * l.clause;
  taken : TakenAfter l.naming l.clauses l.bindings l.nodes l.origins l.initial.values l.a l.clause l.length l.hash;
}

abbrev pub decreases-loop-next : goal.decreases-loop-next
decreases-loop-next l = 65536 - l.clause
