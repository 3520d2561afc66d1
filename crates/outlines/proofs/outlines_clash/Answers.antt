use Rattle.outlines.proofs.Walk.{compared}
use Rattle.outlines.proofs.outlines_clash.Goals as goal

pub returns : goal.returns
returns c =
    compared _ _ _ _ c.compare_pair.ensures _ c.is_none.ensures
