-- Four pairs of numbers.
use native.Mathlib.Omega.{arith}
use Rattle.convert_old.proofs.OldWritten.{second_room, third_room, fourth_room, window_placed}
use Rattle.convert_old.proofs.record_writing.put_window.Goals as goal

pub put_pair-requires : goal.put_pair-requires
put_pair-requires c =
    omega (arith, c.requires)

pub put_pair-requires-2 : goal.put_pair-requires-2
put_pair-requires-2 c =
    let s = c.args in
    second_room s.output.now s.at c.requires s.n s.first s.last c.put_pair.ensures

pub put_pair-requires-3 : goal.put_pair-requires-3
put_pair-requires-3 c =
    let s = c.args in
    third_room s.output.now s.at c.requires s.n s.first s.last c.put_pair.ensures c.put_pair-2.ensures

pub put_pair-requires-4 : goal.put_pair-requires-4
put_pair-requires-4 c =
    let s = c.args in
    fourth_room s.output.now s.at c.requires s.n s.first s.last c.put_pair.ensures c.put_pair-2.ensures c.put_pair-3.ensures

pub returns : goal.returns
returns c =
    let s = c.args in
    window_placed s.output.now s.at c.requires s.n s.first s.last c.put_pair.ensures c.put_pair-2.ensures c.put_pair-3.ensures c.put_pair-4.ensures
