-- After n turns the first n fields of the record are in the list.
use Rattle.collecting.proofs.CollectedLiterals.{FieldsPlaced}
use Rattle.collecting.proofs.literals.collect_input.Given as goal

abbrev pub invariant-loop-n : goal.invariant-loop-n
invariant-loop-n l = FieldsPlaced l.initial.list l.list l.origins l.c l.base l.offset l.n
