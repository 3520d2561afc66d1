use Rattle.text.proofs.Positions.{wrote_then}
use Rattle.text.proofs.put_variable.Goals as goal

pub returns : goal.returns
returns c =
    wrote_then _ _ _ _ _ _ _ _ c.put_lettered-dot.ensures (wrote_then _ _ _ _ _ _ _ _ c.put_byte-last.ensures c.put_decimal.ensures)
