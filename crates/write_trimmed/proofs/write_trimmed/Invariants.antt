-- The marked records that are left, written behind what is, come to the same as all.
use Rattle.write_trimmed.proofs.GoingOn.{Going}
use Rattle.write_trimmed.proofs.write_trimmed.Given as goal

abbrev pub invariant-loop-k : goal.invariant-loop-k
invariant-loop-k l = Going l.symbols l.rows l.clauses l.marks l.file l.initial.numbers l.initial.output l.numbers l.output l.place l.k
