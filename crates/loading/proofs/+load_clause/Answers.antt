use native.Mathlib.Omega.{arith}
use Rattle.loading.proofs.Putting.{input_loaded, own_puttable, to_parent, factor_loaded, to_left, left_loaded, to_right, both_loaded}
use Rattle.loading.proofs.+load_clause.Goals as goal

pub returns-then-code-eq1 : goal.returns-then-code-eq1
returns-then-code-eq1 t c =
    input_loaded c.requires c.origin_code-code.ensures c.if-code-eq1.true

pub put_bindings-requires : goal.put_bindings-requires
put_bindings-requires t c =
    own_puttable c.requires c.origin_code-code.ensures c.first_cell-first.ensures c.bindings_cell-n.ensures

pub load_clause-requires : goal.load_clause-requires
load_clause-requires t c =
    let d = to_parent c.requires c.origin_code-code.ensures c.first_cell-first.ensures c.bindings_cell-n.ensures c.put_bindings.ensures c.part_of-left.ensures c.if-code-eq2.true in
    (omega (arith, c.decreases, d.0), d.1)

pub returns-then-code-eq2 : goal.returns-then-code-eq2
returns-then-code-eq2 t c =
    factor_loaded c.requires c.origin_code-code.ensures c.first_cell-first.ensures c.bindings_cell-n.ensures c.put_bindings.ensures c.part_of-left.ensures c.if-code-eq2.true c.load_clause.ensures

pub load_clause-requires-then-origin_code-eq1 : goal.load_clause-requires-then-origin_code-eq1
load_clause-requires-then-origin_code-eq1 t c =
    let d = to_left c.requires c.origin_code-code.ensures c.first_cell-first.ensures c.bindings_cell-n.ensures c.put_bindings.ensures c.part_of-left.ensures c.if-code-eq1.false c.if-code-eq2.false in
    (omega (arith, c.decreases, d.0), d.1)

pub returns-then-origin_code-eq1 : goal.returns-then-origin_code-eq1
returns-then-origin_code-eq1 t c =
    left_loaded c.requires c.origin_code-code.ensures c.first_cell-first.ensures c.bindings_cell-n.ensures c.put_bindings.ensures c.part_of-left.ensures c.if-code-eq1.false c.if-code-eq2.false c.part_of-right.ensures c.origin_code.ensures c.if-origin_code-eq1.true c.load_clause-then-origin_code-eq1.ensures

pub load_clause-requires-2 : goal.load_clause-requires-2
load_clause-requires-2 t c =
    let d = to_left c.requires c.origin_code-code.ensures c.first_cell-first.ensures c.bindings_cell-n.ensures c.put_bindings.ensures c.part_of-left.ensures c.if-code-eq1.false c.if-code-eq2.false in
    (omega (arith, c.decreases, d.0), d.1)

pub overflow_add-above : goal.overflow_add-above
overflow_add-above t c =
    omega (arith, (to_right c.requires c.origin_code-code.ensures c.first_cell-first.ensures c.bindings_cell-n.ensures c.put_bindings.ensures c.part_of-left.ensures c.if-code-eq1.false c.if-code-eq2.false c.part_of-right.ensures c.index_cell.ensures c.load_clause-2.ensures).1.fits)

pub load_clause-requires-3 : goal.load_clause-requires-3
load_clause-requires-3 t c =
    let d = to_right c.requires c.origin_code-code.ensures c.first_cell-first.ensures c.bindings_cell-n.ensures c.put_bindings.ensures c.part_of-left.ensures c.if-code-eq1.false c.if-code-eq2.false c.part_of-right.ensures c.index_cell.ensures c.load_clause-2.ensures in
    (omega (arith, c.decreases, d.0), d.1)

pub returns : goal.returns
returns t c =
    both_loaded c.requires c.origin_code-code.ensures c.first_cell-first.ensures c.bindings_cell-n.ensures c.put_bindings.ensures c.part_of-left.ensures c.if-code-eq1.false c.if-code-eq2.false c.part_of-right.ensures c.index_cell.ensures c.load_clause-2.ensures c.load_clause-3.ensures
