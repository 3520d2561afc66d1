-- What is left gives the same answer as the whole.
use Rattle.std.proofs.Common.{◌≡◌, ◌-◌}
use Rattle.matching.specs.Pairs.{agree_from}
use Rattle.agreeing.proofs.agree.Given as goal

abbrev pub invariant-loop-v : goal.invariant-loop-v
invariant-loop-v l = agree_from l.notes l.p l.q (64 - l.v) l.v ≡ agree_from l.notes l.p l.q 64 0
