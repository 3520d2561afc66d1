use mathlib.Core.Bool.{not}
use lib.Dec.{eqb}
use Rattle.board_cells.proofs.PassSteps.{product_small, last_moves}
use borrow.Author.Rules.{rules}
use Rattle.board_cells.proofs.passing.last_after.Goals as goal

pub overflow_mul-changed : goal.overflow_mul-changed
overflow_mul-changed c =
    let h = product_small (not (eqb c.args.before c.args.after)) c.child_cell.result in search rules

pub returns : goal.returns
returns c =
    last_moves c.args.last c.args.before c.args.after c.child_cell.ensures c.larger_of.ensures
