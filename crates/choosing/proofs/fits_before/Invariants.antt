-- What is left gives the same answer as the whole.
use Rattle.std.proofs.Common.{◌≡◌, ◌-◌}
use Rattle.matching.specs.Searching.{fits, fits_from}
use Rattle.choosing.proofs.fits_before.Given as goal

abbrev pub invariant-loop-j : goal.invariant-loop-j
invariant-loop-j l = fits_from l.table l.choice l.i (l.j-end - l.j) l.j ≡ fits l.table l.choice l.i
