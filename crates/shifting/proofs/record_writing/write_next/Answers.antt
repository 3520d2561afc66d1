use native.Mathlib.Omega.{arith}
use Rattle.shifting.proofs.Placing.{next_dropped, next_room, next_put}
use Rattle.raising.proofs.Raising.{tail_room}
use Rattle.shifting.proofs.record_writing.write_next.Goals as goal

pub returns-then-is_dropped : goal.returns-then-is_dropped
returns-then-is_dropped c =
    next_dropped c.args.rest.now c.args.s c.args.symbols c.args.rows c.args.clauses _ _ c.is_dropped.ensures c.if-is_dropped.true

pub slice_bounds-put_shifted-count : goal.slice_bounds-put_shifted-count
slice_bounds-put_shifted-count c =
    let s = c.args in
    let h = next_room s.rest.now s.s s.symbols s.rows s.clauses s.output.now s.at c.is_dropped.ensures c.if-is_dropped.false c.requires in
    omega (arith, h)

pub slice_bounds-put_shifted-start : goal.slice_bounds-put_shifted-start
slice_bounds-put_shifted-start c =
    let s = c.args in
    let h = next_room s.rest.now s.s s.symbols s.rows s.clauses s.output.now s.at c.is_dropped.ensures c.if-is_dropped.false c.requires in
    omega (arith, h)

pub put_shifted-requires : goal.put_shifted-requires
put_shifted-requires c =
    let s = c.args in
    tail_room s.at 16 s.output.now (next_room s.rest.now s.s s.symbols s.rows s.clauses s.output.now s.at c.is_dropped.ensures c.if-is_dropped.false c.requires)

pub overflow_add-result : goal.overflow_add-result
overflow_add-result c =
    let s = c.args in
    let h = next_room s.rest.now s.s s.symbols s.rows s.clauses s.output.now s.at c.is_dropped.ensures c.if-is_dropped.false c.requires in
    omega (arith, h)

pub returns : goal.returns
returns c =
    let s = c.args in
    next_put s.rest.now s.s s.symbols s.rows s.clauses s.output.now s.at c.is_dropped.ensures c.if-is_dropped.false c.put_shifted.ensures
