use native.Mathlib.Omega.{arith}
use Rattle.convert_new.proofs.NewWritten.{window_dropped, part_placeable, pair_room, next_placed}
use Rattle.convert_new.proofs.record_writing.write_next.Goals as goal

pub returns-then-kind-eq8 : goal.returns-then-kind-eq8
returns-then-kind-eq8 c =
    let s = c.args in
    window_dropped s.part.now s.n s.days.now s.output.now s.at c.kind.ensures c.if-kind-eq8.true

pub put_sixteen-requires : goal.put_sixteen-requires
put_sixteen-requires c =
    let s = c.args in
    part_placeable s.part.now s.n s.days.now s.output.now s.at c.kind.ensures c.requires c.if-kind-eq8.false

pub put_pair-requires : goal.put_pair-requires
put_pair-requires c =
    let s = c.args in
    pair_room s.part.now s.n s.days.now s.output.now s.at c.kind.ensures c.requires c.if-kind-eq8.false _ c.put_sixteen.ensures

pub returns : goal.returns
returns c =
    let s = c.args in
    next_placed s.part.now s.n s.days.now s.output.now s.at c.kind.ensures c.requires c.if-kind-eq8.false (λ i. omega (arith, c.shared_slice_known-1.given i)) c.day_beside-first.ensures c.day_beside-last.ensures c.put_sixteen.ensures c.put_pair.ensures
