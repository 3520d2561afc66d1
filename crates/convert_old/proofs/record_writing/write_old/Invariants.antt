-- What is left of the file, placed behind what is written, comes to the same as the whole.
use Rattle.convert_old.proofs.OldWritten.{OldGoing}
use Rattle.convert_old.proofs.record_writing.write_old.Given as goal

abbrev pub invariant-loop-k : goal.invariant-loop-k
invariant-loop-k l = OldGoing l.file l.initial.output l.output l.next l.n l.k
