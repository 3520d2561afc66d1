use Rattle.std.proofs.Common.{rules}
use Rattle.unification.specs.ValueArray.{put}
use Rattle.following.proofs.values.write_cells.Goals as goal

pub returns : goal.returns
unfolding put
returns c = search rules
