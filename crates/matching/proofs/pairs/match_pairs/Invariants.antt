-- The first p pairs are compared.
use Rattle.std.proofs.Common.{◌≡◌}
use Rattle.matching.specs.Pairs.{pairs_matched}
use Rattle.matching.proofs.PairSteps.{pairs_of}
use Rattle.matching.proofs.pairs.match_pairs.Given as goal

abbrev pub invariant-loop-p : goal.invariant-loop-p
invariant-loop-p l = pairs_of l.found l.notes ≡ pairs_matched l.nodes l.origins l.c l.d l.lefts l.rights l.p (pairs_of l.initial.found l.initial.notes)
