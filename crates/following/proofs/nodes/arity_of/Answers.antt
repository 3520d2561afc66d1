use Rattle.std.proofs.Common.{rules}
use Rattle.unification.specs.Nodes.{node_arity}
use Rattle.following.proofs.nodes.arity_of.Goals as goal

pub returns : goal.returns
unfolding node_arity
returns c = search rules
