-- The array and the buffer keep their lengths.
use Rattle.std.proofs.Common.{◌≡◌, length}
use Rattle.line_printing.proofs.write_lines.Given as goal

abbrev pub invariant-loop-n : goal.invariant-loop-n
invariant-loop-n g l = record { values : length l.values ≡ 524416; text : length l.text ≡ 131072 }
