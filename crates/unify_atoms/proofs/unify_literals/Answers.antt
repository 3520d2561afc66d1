use Rattle.unification.proofs.Limits.{work_16384}
use Rattle.unify.proofs.Answer.{one_ready, one_answered}
use Rattle.unify_atoms.proofs.unify_literals.Goals as goal

pub unify_pair-requires : goal.unify_pair-requires
unify_pair-requires c = one_ready c.requires

pub returns : goal.returns
returns c =
    one_answered _ _ _ _ _ _ _ _ c.requires 16384 work_16384 _ c.unify_pair.ensures.paired c.unify_pair.ensures.filed.0 c.unify_pair.ensures.filed.2 c.unify_pair.auto.bindings
