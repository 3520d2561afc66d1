use mathlib.Core.Path.{sym, ◌∙◌}
use Rattle.record.specs.Record.{old_file}
use Rattle.board_cells.proofs.PassSteps.{pass_ends, pass_goes, pass_done}
use Rattle.board_cells.proofs.passing.pass.Goals as goal

pub returns-then-last-n : goal.returns-then-last-n
returns-then-last-n c =
    sym (pass_ends (old_file c.args.file.now) c.args.clauses.now 4096 _ c.loop-n.n c.loop-n.last c.loop-n-test.true c.if-last-n.true) ∙ c.loop-n.invariant

pub loop-n-preserved : goal.loop-n-preserved
loop-n-preserved c =
    sym (pass_goes (old_file c.args.file.now) c.args.clauses.now 4096 _ c.loop-n.n c.loop-n.last c.loop-n-test.true c.if-last-n.false c.cell-before.ensures c.new_cell-after.ensures c.set_cell.ensures c.last_after-last.ensures) ∙ c.loop-n.invariant

pub returns : goal.returns
returns c =
    sym (pass_done (old_file c.args.file.now) c.args.clauses.now 4096 _ c.loop-n.n c.loop-n.last c.loop-n-test.false) ∙ c.loop-n.invariant
