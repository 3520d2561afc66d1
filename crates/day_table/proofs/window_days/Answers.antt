use native.Mathlib.Omega.{arith}
use Rattle.day_table.proofs.Tabled.{days_told}
use Rattle.day_table.proofs.window_days.Goals as goal

pub returns : goal.returns
returns c =
    days_told _ _ _ _ (omega arith) c.put_always.ensures c.put_windows.ensures
