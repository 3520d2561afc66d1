use Rattle.unification.specs.Nodes.{is_variable}
use Rattle.following.proofs.nodes.is_variable.Goals as goal

pub returns : goal.returns
unfolding is_variable
returns c =
    rw c.node.ensures
