use mathlib.Core.Path.{sym, ◌∙◌}
use native.Mathlib.Omega.{arith}
use Rattle.convert_old.proofs.OldWritten.{own_room, part_placeable, alone_placed, both_room, window_room, both_placed}
use Rattle.convert_old.proofs.record_writing.write_next.Goals as goal

pub put_sixteen-requires : goal.put_sixteen-requires
put_sixteen-requires c =
    let s = c.args in
    part_placeable s.part.now s.n s.output.now s.at c.requires

pub overflow_cast-n : goal.overflow_cast-n
overflow_cast-n c =
    omega (arith, c.requires.few)

pub overflow_add-at : goal.overflow_add-at
overflow_add-at c =
    let s = c.args in
    omega (arith, both_room s.part.now s.n s.output.now s.at c.requires (λ i. omega (arith, c.shared_slice_known-1.given i)) c.put_sixteen.ensures (sym c.is_dated.ensures ∙ c.if-is_dated.true))

pub put_window-requires : goal.put_window-requires
put_window-requires c =
    let s = c.args in
    window_room s.part.now s.n s.output.now s.at c.requires (λ i. omega (arith, c.shared_slice_known-1.given i)) c.put_sixteen.ensures (sym c.is_dated.ensures ∙ c.if-is_dated.true)

pub overflow_add-result : goal.overflow_add-result
overflow_add-result c =
    let s = c.args in
    omega (arith, both_room s.part.now s.n s.output.now s.at c.requires (λ i. omega (arith, c.shared_slice_known-1.given i)) c.put_sixteen.ensures (sym c.is_dated.ensures ∙ c.if-is_dated.true))

pub returns-then-is_dated : goal.returns-then-is_dated
returns-then-is_dated c =
    let s = c.args in
    both_placed s.part.now s.n s.output.now s.at c.requires (λ i. omega (arith, c.shared_slice_known-1.given i)) c.put_sixteen.ensures (sym c.is_dated.ensures ∙ c.if-is_dated.true) c.field.ensures c.field-then-is_dated.ensures c.put_window.ensures

pub overflow_add-result-2 : goal.overflow_add-result-2
overflow_add-result-2 c =
    let s = c.args in
    omega (arith, own_room s.part.now s.n s.output.now s.at c.requires)

pub returns : goal.returns
returns c =
    let s = c.args in
    alone_placed s.part.now s.n s.output.now s.at c.requires (λ i. omega (arith, c.shared_slice_known-1.given i)) c.put_sixteen.ensures (sym c.is_dated.ensures ∙ c.if-is_dated.false)
