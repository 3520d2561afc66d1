use Rattle.std.proofs.Common.{ap}
use Rattle.images.specs.Matching.{notes_of}
use Rattle.images.proofs.images.match_atoms.Goals as goal

pub returns : goal.returns
returns c =
    ap notes_of c.match_from.ensures
