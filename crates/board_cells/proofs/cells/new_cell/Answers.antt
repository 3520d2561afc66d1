use Rattle.record.specs.Record.{old_file}
use Rattle.board_cells.proofs.CellSteps.{own_cell, parents_cell}
use Rattle.board_cells.proofs.cells.new_cell.Goals as goal

pub returns-then-k-eq4 : goal.returns-then-k-eq4
returns-then-k-eq4 c =
    own_cell (old_file c.args.file.now) c.args.clauses.now c.args.board.now c.args.n c.cell.ensures c.record_part-part.ensures c.kind-k.ensures c.if-k-eq4.true c.cell-own.ensures

pub returns-else-k-eq4 : goal.returns-else-k-eq4
returns-else-k-eq4 c =
    parents_cell (old_file c.args.file.now) c.args.clauses.now c.args.board.now c.args.n c.cell.ensures c.record_part-part.ensures c.kind-k.ensures c.if-k-eq4.false c.cell-own.ensures c.field.ensures c.cell-left.ensures c.right_parent.ensures c.cell-right.ensures c.from_parents-new.ensures
