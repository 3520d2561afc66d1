-- What is left of the second file, placed in what is written, comes to the same as the whole placed in the output.
use Rattle.shifting.proofs.Placing.{Reached}
use Rattle.shifting.proofs.record_writing.write_second.Given as goal

abbrev pub invariant-loop-k : goal.invariant-loop-k
invariant-loop-k l = Reached l.second l.symbols l.rows l.clauses l.initial.output l.at l.output l.k l.next l.s
