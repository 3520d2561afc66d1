-- The rows that are left give the same answer as all.
use Rattle.std.proofs.Common.{◌≡◌, suc}
use Rattle.images.specs.Matching.{rows_matched}
use Rattle.images.proofs.images.match_rows.Given as goal

abbrev pub invariant-loop-r : goal.invariant-loop-r
invariant-loop-r l = rows_matched l.nodes l.base l.r (l.images, l.notes) ≡ rows_matched l.nodes l.base (suc l.c) (l.initial.images, l.initial.notes)
