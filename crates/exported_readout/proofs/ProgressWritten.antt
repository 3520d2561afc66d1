-- The three cells of a progress, and the contract of the exported readout from that of a piece.
use mathlib.Core.Path.{◌≡◌, refl, ap, ◌∙◌}
use mathlib.Core.List.{List, ◌++◌}
use Prim.Native.Nat.{ℕ, ◌<◌, ◌≤◌}
use native.Mathlib.Omega.{arith}
use lib.ListN.{length, drop}
use Rattle.record.specs.Record.{File}
use Rattle.verdict.specs.Tables.{Tables, lengths_of}
use Rattle.readout.specs.Contract.{PieceWritten}
use Rattle.verdict.specs.Readout.{LineWriter}
use Rattle.units.specs.Pieces.{Progress, progress}
use Rattle.pieces.specs.Placed.{rest_given}
use Rattle.pieces.specs.declared.Piece.{Piece}
use Rattle.exported_readout.specs.ExportedReadout.{progress_numbers, piece_numbers, ExportedReadout}

-- The numbers of an answered piece are those of its definition.
numbered : (line : LineWriter) (day : ℕ) (F : File) (t : Tables) (clause : ℕ) (O : List ℕ) (p : Piece) (here : Tables) (O' : List ℕ) → PieceWritten line day F t clause O p here O' → progress_numbers (rest_given p.rest) p.written ≡ piece_numbers line day F t clause (length O)
numbered line day F t clause O p here O' W =
    ap (λ (r : Progress). progress_numbers r p.written) W.piece.rest
    ∙ ap (progress_numbers (progress line day F (lengths_of t) clause (length O))) W.piece.written

-- The two ways that the exported readout can go.
pub left_alone : (line : LineWriter) (day : ℕ) (F : File) (t : Tables) (clause : ℕ) (O P : List ℕ) → length P < 3 → ExportedReadout line day F t clause O P t O P
left_alone line day F t clause O P l = record {
  progress_left = λ m. refl;
  output_left = λ m. refl;
  symbols_left = λ m. refl;
  rows_left = λ m. refl;
  clauses_left = λ m. refl;
  bindings_left = λ m. refl;
  numbers = λ m. absurd (omega arith);
  output = λ m. absurd (omega arith);
  symbols = λ m. absurd (omega arith);
  rows = λ m. absurd (omega arith);
  clauses = λ m. absurd (omega arith);
  bindings = λ m. absurd (omega arith);
  pieces = λ m. absurd (omega arith);
}

pub piece_exported : (line : LineWriter) (day : ℕ) (F : File) (t : Tables) (clause : ℕ) (O P : List ℕ) (p : Piece) (here : Tables) (O' P' : List ℕ) → 3 ≤ length P → PieceWritten line day F t clause O p here O' → P' ≡ progress_numbers (rest_given p.rest) p.written ++ drop 3 P → ExportedReadout line day F t clause O P here O' P'
piece_exported line day F t clause O P p here O' P' l W q = record {
  progress_left = λ m. absurd (omega arith);
  output_left = λ m. absurd (omega arith);
  symbols_left = λ m. absurd (omega arith);
  rows_left = λ m. absurd (omega arith);
  clauses_left = λ m. absurd (omega arith);
  bindings_left = λ m. absurd (omega arith);
  numbers = λ m. q ∙ ap (λ (v : List ℕ). v ++ drop 3 P) (numbered line day F t clause O p here O' W);
  output = λ m. W.piece.bytes;
  symbols = λ m. W.symbols;
  rows = λ m. W.rows;
  clauses = λ m. W.clauses;
  bindings = λ m. W.bindings;
  pieces = λ m. W.pieces;
}
