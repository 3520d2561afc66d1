use Rattle.text.proofs.Positions.{wrote_then}
use Rattle.heading.proofs.write_verdict.Goals as goal

pub returns : goal.returns
returns c =
    wrote_then _ _ _ _ _ _ _ _ c.put_verdict-last.ensures c.put_byte.ensures
