-- After k turns the first k bindings are in the array.
use mathlib.Core.Path.{◌≡◌}
use lib.ListN.{length}
use Rattle.unification.specs.Bindings.{bindings_from}
use Rattle.putting.specs.Putting.{put_bindings}
use Rattle.putting.proofs.put_bindings.Given as goal

abbrev pub invariant-loop-k : goal.invariant-loop-k
invariant-loop-k l = (length l.values ≡ 524416) × (l.values ≡ put_bindings l.nodes l.offset (bindings_from l.bindings l.first l.k) l.initial.values)
