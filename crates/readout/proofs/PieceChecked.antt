-- A piece written after the check of the file is what the contract says.
use mathlib.Core.List.{List}
use Prim.Native.Nat.{ℕ}
use Rattle.record.specs.Record.{File}
use Rattle.verdict.specs.Tables.{Tables, lengths_of}
use Rattle.checker.specs.Contract.{Workspace, workspace_with, CheckedWith}
use Rattle.entry.specs.Progress.{tables_with}
use Rattle.numbering.specs.Numbering.{line_of}
use Rattle.numbering.specs.declared.Naming.{Naming}
use Rattle.answer.specs.declared.Answer.{Answer}
use Rattle.readout.specs.Contract.{PieceWritten}
use Rattle.pieces.specs.Placed.{PieceOf}
use Rattle.pieces.specs.declared.Piece.{Piece}
use Rattle.units.proofs.UnitSizes.{pieces_always}

pub piece_written : (naming : Naming) (day : ℕ) (F : File) (t : Tables) (clause : ℕ) (out out' : List ℕ) (p : Piece) (a : Answer) (w : Workspace) (s r C B N O A A' : List ℕ) → CheckedWith day F t w a (tables_with s r C B) (workspace_with N O A) → PieceOf naming C B N O A A' a clause out out' p → PieceWritten (line_of naming) day F t clause out p (tables_with s r C B) out'
piece_written naming day F t clause out out' p a w s r C B N O A A' X P = record {
  piece = P.piece (record { day = day; file = F; before = t; lent = w; symbols = s; rows = r; checked = X });
  symbols = X.checked.symbols;
  rows = X.checked.rows;
  clauses = X.checked.clauses;
  bindings = X.checked.bindings;
  pieces = pieces_always naming day F (lengths_of t);
}
