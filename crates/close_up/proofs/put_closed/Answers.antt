use native.Mathlib.Omega.{arith}
use Rattle.marking.specs.Marking.{by_records}
use Rattle.close_up.proofs.SixteenPlaced.{second_room, third_room, fourth_room, record_placed}
use borrow.Author.Rules.{rules}
use Rattle.close_up.proofs.put_closed.Goals as goal

pub put_pair-requires : goal.put_pair-requires
put_pair-requires c =
    let h = c.requires in omega (arith, h)

pub overflow_add-at : goal.overflow_add-at
overflow_add-at c =
    let h = c.requires in omega (arith, h)

pub put_fields-requires : goal.put_fields-requires
put_fields-requires c =
    second_room (by_records c.args.symbols.now c.args.rows.now c.args.clauses.now c.args.numbers.now) c.args.part.now c.args.output.now c.args.at c.requires c.kind.result c.count.result c.closed_field-first.ensures c.put_pair.ensures

pub overflow_add-at-2 : goal.overflow_add-at-2
overflow_add-at-2 c =
    let h = c.requires in omega (arith, h)

pub put_fields-requires-2 : goal.put_fields-requires-2
put_fields-requires-2 c =
    third_room (by_records c.args.symbols.now c.args.rows.now c.args.clauses.now c.args.numbers.now) c.args.part.now c.args.output.now c.args.at c.requires c.kind.result c.count.result c.closed_field-first.ensures c.put_pair.ensures c.put_fields.ensures

pub overflow_add-at-3 : goal.overflow_add-at-3
overflow_add-at-3 c =
    let h = c.requires in let k = c.well_formed in omega (arith, h, k)

pub put_fields-requires-3 : goal.put_fields-requires-3
put_fields-requires-3 c =
    fourth_room (by_records c.args.symbols.now c.args.rows.now c.args.clauses.now c.args.numbers.now) c.args.part.now c.args.output.now c.args.at c.requires c.kind.result c.count.result c.closed_field-first.ensures c.put_pair.ensures c.put_fields.ensures c.put_fields-2.ensures

pub returns : goal.returns
returns c =
    record_placed (by_records c.args.symbols.now c.args.rows.now c.args.clauses.now c.args.numbers.now) c.args.part.now c.args.output.now c.args.at c.requires c.kind.result c.count.result c.closed_field-first.ensures c.put_pair.ensures c.put_fields.ensures c.put_fields-2.ensures (search rules) c.kind.ensures c.count.ensures c.put_fields-3.ensures
