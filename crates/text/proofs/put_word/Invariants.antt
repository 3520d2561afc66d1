use lib.ListN.{take}
use Rattle.text.specs.Buffer.{Wrote}
use Rattle.text.proofs.put_word.Given as goal

abbrev pub invariant-loop-b : goal.invariant-loop-b
invariant-loop-b l = Wrote l.initial.text l.text l.at l.end (take l.b-index l.word)
