-- What is left from n on finds what the whole does.
use Rattle.board_cells.proofs.AnswerSteps.{Same}
use Rattle.board_cells.proofs.lowest.lowest_answer.Given as goal

abbrev pub invariant-loop-n : goal.invariant-loop-n
invariant-loop-n l = Same l.clauses l.board 4096 l.n
