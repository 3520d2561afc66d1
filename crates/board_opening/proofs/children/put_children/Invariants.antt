use Rattle.std.proofs.Common.{◌≡◌}
use Rattle.record.specs.Record.{old_file}
use Rattle.board_opening.specs.Filling.{children_put}
use Rattle.board_opening.proofs.children.put_children.Given as goal

abbrev pub invariant-loop-n : goal.invariant-loop-n
invariant-loop-n l = l.board ≡ children_put (old_file l.file) l.clauses l.n l.initial.board
