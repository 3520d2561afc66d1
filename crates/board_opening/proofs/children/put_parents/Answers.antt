use mathlib.Core.Path.{ap, ◌∙◌}
use lib.ListN.{length}
use Rattle.record.specs.Record.{old_file}
use Rattle.board_opening.proofs.FillSteps.{child_length, no_parents, one_parent, two_parents}
use Rattle.board_opening.proofs.children.put_parents.Goals as goal

pub returns-then-k-eq4 : goal.returns-then-k-eq4
returns-then-k-eq4 c =
    no_parents (old_file c.args.file.now) c.args.clauses.now c.args.board.now c.args.n c.cell.ensures c.record_part-part.ensures c.kind-k.ensures c.if-k-eq4.true

pub shape_of-board-then-k-eq6 : goal.shape_of-board-then-k-eq6
shape_of-board-then-k-eq6 c =
    ap length c.put_child.ensures ∙ child_length _ _ _

pub returns-then-k-eq6 : goal.returns-then-k-eq6
returns-then-k-eq6 c =
    one_parent (old_file c.args.file.now) c.args.clauses.now c.args.board.now c.args.n c.cell.ensures c.record_part-part.ensures c.kind-k.ensures c.if-k-eq6.true c.field.ensures c.put_child.ensures

pub shape_of-board : goal.shape_of-board
shape_of-board c =
    ap length c.put_child-2.ensures ∙ child_length _ _ _ ∙ ap length c.put_child.ensures ∙ child_length _ _ _

pub returns : goal.returns
returns c =
    two_parents (old_file c.args.file.now) c.args.clauses.now c.args.board.now c.args.n c.cell.ensures c.record_part-part.ensures c.kind-k.ensures c.if-k-eq4.false c.if-k-eq6.false c.field.ensures c.put_child.ensures c.field-2.ensures c.put_child-2.ensures
