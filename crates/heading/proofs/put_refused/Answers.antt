use Rattle.text.proofs.Positions.{wrote_then}
use Rattle.heading.proofs.put_refused.Goals as goal

pub returns : goal.returns
returns c =
    wrote_then _ _ _ _ _ _ _ _ (wrote_then _ _ _ _ _ _ _ _ c.put_word-reason.ensures c.put_decimal-after.ensures) (wrote_then _ _ _ _ _ _ _ _ c.put_word-number.ensures c.put_decimal.ensures)
