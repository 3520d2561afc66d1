use mathlib.Core.Path.{refl}
use native.Mathlib.Omega.{arith}
use Rattle.day_table.proofs.Tabled.{windows_on, windows_end}
use Rattle.day_table.proofs.put_windows.Goals as goal

pub loop-k-init : goal.loop-k-init
loop-k-init c =
    refl

pub loop-k-preserved : goal.loop-k-preserved
loop-k-preserved c =
    windows_on c.args.file.now c.loop-k.k c.loop-k.days _ c.loop-k.invariant (omega (arith, c.record_count-count.ensures, c.loop-k-test.true)) c.record_part.ensures c.put_window.ensures

pub returns : goal.returns
returns c =
    windows_end c.args.file.now c.loop-k.k c.loop-k.days _ c.loop-k.invariant (omega (arith, c.record_count-count.ensures, c.loop-k-test.false))
