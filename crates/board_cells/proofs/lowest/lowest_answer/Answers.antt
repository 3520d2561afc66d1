use Rattle.board_cells.proofs.AnswerSteps.{found, not_found, nothing}
use Rattle.board_cells.proofs.lowest.lowest_answer.Goals as goal

pub returns-then-is_answer : goal.returns-then-is_answer
returns-then-is_answer c =
    found c.args.clauses.now c.args.board.now 4096 c.loop-n.n c.loop-n-test.true c.is_answer.ensures c.if-is_answer.true c.loop-n.invariant

pub loop-n-preserved : goal.loop-n-preserved
loop-n-preserved c =
    not_found c.args.clauses.now c.args.board.now 4096 c.loop-n.n c.loop-n-test.true c.is_answer.ensures c.if-is_answer.false c.loop-n.invariant

pub returns : goal.returns
returns c =
    nothing c.args.clauses.now c.args.board.now 4096 c.loop-n.n c.loop-n-test.false c.loop-n.invariant
