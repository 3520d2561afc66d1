-- What is left of the file has the same first step as the whole.
use Rattle.searching.proofs.SearchSteps.{Same}
use Rattle.searching.proofs.first_step.Given as goal

abbrev pub invariant-loop-k : goal.invariant-loop-k
invariant-loop-k l = Same l.file l.k
