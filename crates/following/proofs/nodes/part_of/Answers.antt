use Rattle.unification.specs.Nodes.{part}
use Rattle.following.proofs.nodes.part_of.Goals as goal

pub returns : goal.returns
unfolding part
returns c =
    c.node.ensures
