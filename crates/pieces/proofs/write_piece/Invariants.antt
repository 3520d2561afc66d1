-- At every turn the output has some units of the piece, and the rest of the piece is what fits of those left.
use mathlib.Core.Path.{◌≡◌}
use lib.ListN.{length}
use Rattle.pieces.proofs.PieceWriting.{Written}
use Rattle.pieces.proofs.write_piece.Given as goal

abbrev pub invariant-loop-n : goal.invariant-loop-n
invariant-loop-n l = record {
  values : length l.values ≡ 524416;
  text : length l.text ≡ 131072;
  written : Written l.naming l.clauses l.bindings l.nodes l.origins l.initial.values l.a l.begin l.initial.output l.output l.n l.written;
}
