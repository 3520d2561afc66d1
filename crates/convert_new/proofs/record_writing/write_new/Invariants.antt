-- What is left of the file, placed behind what is written, comes to the same as the whole.
use Rattle.convert_new.proofs.NewWritten.{NewGoing}
use Rattle.convert_new.proofs.record_writing.write_new.Given as goal

abbrev pub invariant-loop-k : goal.invariant-loop-k
invariant-loop-k l = NewGoing l.file l.initial.output l.output l.next l.n l.k
