use Rattle.mark_records.proofs.GoingDown.{down_none, down_more}
use Rattle.mark_records.proofs.down.go_down.Goals as goal

pub loop-k-preserved : goal.loop-k-preserved
loop-k-preserved g c =
    λ step told. down_more step c.args.file.now c.loop-k.k c.loop-k.marks _ c.loop-k-test.true (c.loop-k.invariant step told) c.record_part.ensures (told _ _ _ _ c.mark.ensures)

pub returns : goal.returns
returns g c =
    λ step told. down_none step c.args.file.now c.loop-k.k _ _ c.loop-k-test.false (c.loop-k.invariant step told)
