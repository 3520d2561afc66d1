-- What is left of the pass does the same as the whole.
use Rattle.std.proofs.Common.{◌≡◌, ◌-◌}
use Rattle.record.specs.Record.{old_file}
use Rattle.boards.specs.Cells.{passed}
use Rattle.board_cells.proofs.passing.pass.Given as goal

abbrev pub invariant-loop-n : goal.invariant-loop-n
invariant-loop-n l = passed (old_file l.file) l.clauses (4096 - l.n) l.n l.last l.board ≡ passed (old_file l.file) l.clauses (4096 - l.from) l.from l.child l.initial.board
