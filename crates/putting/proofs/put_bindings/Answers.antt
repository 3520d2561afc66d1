use mathlib.Core.Path.{◌≡◌, refl, ap, ◌∙◌}
use native.Mathlib.Omega.{arith}
use lib.ListN.{length}
use Rattle.putting.proofs.Bindings.{put_one, cells_room, binding_there}
use Rattle.putting.proofs.put_bindings.Goals as goal

pub loop-k-init : goal.loop-k-init
loop-k-init c =
    (c.requires.room, refl)

pub put_binding-requires : goal.put_binding-requires
put_binding-requires c =
    binding_there c.loop-k.k c.requires c.loop-k.invariant.0 c.loop-k-test.true

pub loop-k-preserved : goal.loop-k-preserved
loop-k-preserved c =
    (ap length c.put_binding.ensures ∙ cells_room _ _ _ _ _ c.loop-k.invariant.0, put_one _ _ _ _ _ c.loop-k.k c.loop-k.invariant.1 c.put_binding.ensures)

pub returns : goal.returns
returns c =
    let z : c.loop-k.k ≡ c.args.n = omega (arith, c.loop-k.auto.k-end) in
    record { room = c.loop-k.invariant.0; cells = rw z at c.loop-k.invariant.1 }
