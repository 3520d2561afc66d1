use Rattle.board_cells.proofs.CellSteps.{small_byte, with_bytes}
use borrow.Author.Rules.{rules}
use Rattle.board_cells.proofs.cells.cell_like.Goals as goal

pub overflow_mul-result-2 : goal.overflow_mul-result-2
overflow_mul-result-2 c =
    let h = small_byte c.args.force in search rules

pub overflow_add-result-2 : goal.overflow_add-result-2
overflow_add-result-2 c =
    let h = small_byte c.args.force in search rules

pub overflow_add-result-3 : goal.overflow_add-result-3
overflow_add-result-3 c =
    let h = small_byte c.args.force in
    let i = small_byte c.args.stands in
    search rules

pub returns : goal.returns
returns c =
    with_bytes c.args.x c.args.force c.args.stands
