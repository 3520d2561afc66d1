-- The literals so far exist and are listed.
use Rattle.inference.proofs.RightLaws.{SoFar}
use Rattle.rights.proofs.named_rights.Given as goal

abbrev pub invariant-loop-j : goal.invariant-loop-j
invariant-loop-j l = SoFar l.origins l.clauses l.c l.numbers l.listed l.positive l.opposite l.j
