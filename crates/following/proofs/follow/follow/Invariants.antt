use mathlib.Core.Path.{◌≡◌}
use Prim.Native.Nat.{ℕ, ◌≤◌}
use lib.ListN.{length}
use Rattle.unification.specs.Environment.{Environment}
use Rattle.unification.specs.ValueArray.{Models, InStep}
use Rattle.following.proofs.Halving.{Going}
use Rattle.following.proofs.follow.follow.Given as goal

abbrev pub invariant-loop-links : goal.invariant-loop-links
invariant-loop-links l = (length l.values ≡ 524416) × (l.links ≤ 8193) × ((top : ℕ) (ρ : Environment) → Models l.nodes top l.initial.values ρ → InStep l.nodes top (l.row, l.index) → Going l.nodes top l.values ρ (l.row, l.index) (l.v, l.j) l.links)

abbrev pub decreases-loop-links : goal.decreases-loop-links
decreases-loop-links l = l.links
