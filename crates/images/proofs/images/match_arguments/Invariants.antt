-- The arguments that are left give the same answer as all.
use Rattle.std.proofs.Common.{◌≡◌, ◌-◌}
use Rattle.unification.specs.Nodes.{node_arity}
use Rattle.images.specs.Matching.{arguments_imaged}
use Rattle.images.proofs.images.match_arguments.Given as goal

abbrev pub invariant-loop-n : goal.invariant-loop-n
invariant-loop-n l = arguments_imaged l.nodes l.r l.y (l.n-end - l.n) l.n l.images ≡ arguments_imaged l.nodes l.r l.y (node_arity l.nodes l.r) 1 l.initial.images
