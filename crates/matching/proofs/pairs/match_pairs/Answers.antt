use Rattle.std.proofs.Common.{refl}
use Rattle.matching.specs.Pairs.{pairs_matched}
use Rattle.matching.proofs.PairSteps.{pairs_more}
use Rattle.matching.proofs.pairs.match_pairs.Goals as goal

pub loop-p-init : goal.loop-p-init
unfolding pairs_matched
loop-p-init c =
    refl

pub loop-p-preserved : goal.loop-p-preserved
loop-p-preserved c =
    pairs_more _ _ _ _ _ _ _ _ _ _ c.loop-p.invariant c.match_pair.ensures
