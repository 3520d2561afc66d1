-- A parent has a smaller number, so the measure is the clause's number. Each way out is one law of `CollectedLiterals`.
use Rattle.collecting.proofs.literals.+collect.Given as goal

abbrev pub decreases-collect : goal.decreases-collect
decreases-collect l = l.c
