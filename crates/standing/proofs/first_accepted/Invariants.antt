use mathlib.Core.Path.{◌≡◌}
use mathlib.Core.Option.{none}
use Rattle.answer.specs.Given.{first_accepted}
use Rattle.standing.proofs.first_accepted.Given as goal

abbrev pub invariant-loop-c : goal.invariant-loop-c
invariant-loop-c l = first_accepted l.clauses l.flags l.c ≡ none
