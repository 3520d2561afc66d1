use mathlib.Core.Path.{ap, ◌∙◌}
use mathlib.Core.List.{List}
use Prim.Native.Nat.{ℕ}
use Rattle.record.specs.Record.{old_file}
use Rattle.answer.specs.Given.{all_set}
use Rattle.board_opening.specs.Filling.{filled_board}
use Rattle.board_opening.proofs.open_cells.Goals as goal

pub returns : goal.returns
unfolding all_set
returns c =
    c.fill.ensures ∙ ap (λ (L : List ℕ). filled_board c.args.day (old_file c.args.file.now) c.args.clauses.now L c.args.count c.args.board.now) c.in_force.ensures
