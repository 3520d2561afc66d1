-- What is left of the pairs has the same outcome as all of them.
use mathlib.Core.Path.{◌≡◌}
use Prim.Native.Nat.{◌-◌}
use lib.ListN.{length}
use Rattle.unification.specs.Bindings.{Added}
use Rattle.unify.specs.Unifying.{pairs_from}
use Rattle.unify.proofs.Answer.{Remains}
use Rattle.unify_each.proofs.unify_with_each.Given as goal

abbrev pub invariant-loop-j : goal.invariant-loop-j
invariant-loop-j l = (length l.values ≡ 524416) × Added l.initial.bindings l.bindings l.held l.left.held × Remains l.nodes l.initial.values l.values l.bindings l.held (pairs_from (l.l, l.i) l.raised l.rights 0 l.n) (pairs_from (l.l, l.i) l.raised l.rights l.j (l.n - l.j)) l.left.work l.left.held
