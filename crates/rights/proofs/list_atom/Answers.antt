use Rattle.inference.proofs.RightLaws.{atom_listed}
use Rattle.rights.proofs.list_atom.Goals as goal

pub returns : goal.returns
returns c =
    atom_listed _ _ _ _ c.told-listed c.requires
