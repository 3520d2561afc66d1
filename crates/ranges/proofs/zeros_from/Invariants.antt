-- What is left of the fields has the same answer as the whole.
use mathlib.Core.Path.{◌≡◌}
use lib.ListN.{drop}
use Rattle.record.specs.Record.{fields_of}
use Rattle.verdict.specs.Refusal.{zeros}
use Rattle.ranges.proofs.zeros_from.Given as goal

abbrev pub invariant-loop-i : goal.invariant-loop-i
invariant-loop-i l = zeros (drop l.i (fields_of l.part)) ≡ zeros (drop l.from (fields_of l.part))
