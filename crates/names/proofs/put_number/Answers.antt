use Rattle.names.proofs.Naming.{number_ready, name_numbered}
use Rattle.names.proofs.put_number.Goals as goal

pub number-n-requires : goal.number-n-requires
number-n-requires c =
    number_ready c.requires

pub returns : goal.returns
returns c =
    name_numbered _ _ _ _ _ _ _ _ _ _ _ c.number-n.ensures _ c.put_lettered-end.ensures c.count_after.ensures
