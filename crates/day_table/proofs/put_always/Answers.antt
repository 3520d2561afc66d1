use mathlib.Core.Path.{◌≡◌, ap, ◌∙◌}
use Prim.Native.Nat.{ℕ}
use native.Mathlib.Omega.{arith}
use Rattle.day_table.specs.DayTable.{always_below}
use Rattle.day_table.proofs.Tabled.{none_always, one_always}
use Rattle.day_table.proofs.put_always.Goals as goal

pub loop-n-init : goal.loop-n-init
loop-n-init c =
    none_always c.args.days.now

pub loop-n-preserved : goal.loop-n-preserved
loop-n-preserved c =
    one_always c.loop-n.n c.args.days.now c.loop-n.days _ c.loop-n.invariant c.put_days.ensures

pub returns : goal.returns
returns c =
    let l = c.loop-n in
    let z : l.n ≡ 4096 = omega (arith, l.auto.n-end, c.loop-n-test.false) in
    l.invariant ∙ ap (λ (n : ℕ). always_below n c.args.days.now) z
