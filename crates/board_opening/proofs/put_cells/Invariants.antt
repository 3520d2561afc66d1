use Rattle.std.proofs.Common.{◌≡◌}
use Rattle.board_opening.specs.Filling.{cells_put}
use Rattle.board_opening.proofs.put_cells.Given as goal

abbrev pub invariant-loop-n : goal.invariant-loop-n
invariant-loop-n l = l.board ≡ cells_put l.flags l.n l.initial.board
