use Rattle.std.proofs.Common.{rules}
use Rattle.unification.specs.Bindings.{push}
use Rattle.unify.proofs.bindings.push_binding.Goals as goal

pub returns : goal.returns
unfolding push
returns c = search rules
