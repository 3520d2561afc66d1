use Rattle.text.proofs.Positions.{wrote_next}
use Rattle.text.proofs.put_word.Goals as goal

pub loop-b-preserved : goal.loop-b-preserved
loop-b-preserved c =
    wrote_next _ _ _ _ _ _ c.loop-b.invariant c.loop-b-test.true _ _ c.put_byte-end.ensures
