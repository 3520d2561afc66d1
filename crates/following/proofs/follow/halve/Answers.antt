use Rattle.following.proofs.Halving.{halved_not, halved_free, halved_put}
use Rattle.following.proofs.follow.halve.Goals as goal

pub returns-then-q-ne0 : goal.returns-then-q-ne0
returns-then-q-ne0 c =
    let a = c.args in
    halved_put a.nodes.now a.values.now a.at a.t a.k _ _ _ _ c.is_variable.ensures c.if-is_variable.true c.slot_of-next.ensures.0 c.cell-q.ensures c.if-q-ne0.true c.cell-j.ensures _ c.write_cells.ensures

pub returns-else-q-ne0 : goal.returns-else-q-ne0
returns-else-q-ne0 c =
    let a = c.args in
    halved_free a.nodes.now a.values.now a.at a.t a.k _ _ _ c.is_variable.ensures c.if-is_variable.true c.slot_of-next.ensures.0 c.cell-q.ensures c.if-q-ne0.false

pub returns-else-is_variable : goal.returns-else-is_variable
returns-else-is_variable c =
    let a = c.args in
    halved_not a.nodes.now a.values.now a.at a.t a.k _ c.is_variable.ensures c.if-is_variable.false
