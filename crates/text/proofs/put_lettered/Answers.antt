use Rattle.text.proofs.Positions.{wrote_then}
use Rattle.text.proofs.put_lettered.Goals as goal

pub returns : goal.returns
returns c =
    wrote_then _ _ _ _ _ _ _ _ c.put_byte-number.ensures c.put_decimal.ensures
