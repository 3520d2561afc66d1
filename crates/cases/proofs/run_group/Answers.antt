-- The space is as long as its array says.
use mathlib.Core.Path.{sym}
use Rattle.std.proofs.Common.{ℕ}
use lib.ListN.{length-replicate}
use Rattle.cases.proofs.run_group.Goals as goal

pub slice_bounds-run_in-end : goal.slice_bounds-run_in-end
slice_bounds-run_in-end g c = sym (length-replicate {A = ℕ} 655360 0)
