-- The contracts of a piece of a readout: what `readout_piece` and `canonical_piece` promise of every day, every file, every four tables, every clause to begin with
-- and every output, with no condition on the call. `readout_piece` is by `clause_line`.
use Rattle.std.specs.Prelude.{◌≡◌, List, ℕ}
use Rattle.record.specs.Record.{File}
use Rattle.verdict.specs.Tables.{Tables, lengths_of, tables_after}
use Rattle.verdict.specs.Readout.{LineWriter}
use Rattle.appearance.specs.Appearance.{canonical_line}
use Rattle.canonical.specs.SameClause.{SameClauseSameLine}
use Rattle.units.specs.Pieces.{PiecesHold}
use Rattle.pieces.specs.Placed.{PieceAt}
use Rattle.pieces.specs.declared.Piece.{Piece}

pub record PieceWritten (line : LineWriter) (day : ℕ) (file : File) (before : Tables) (clause : ℕ) (output : List ℕ) (p : Piece) (after : Tables) (output' : List ℕ) : Type 0 where
  -- The bytes at the start of the output are those of the piece, the rest of it is untouched; and the two numbers that are answered.
  pub piece : PieceAt line day file (lengths_of before) clause output output' p
  -- Each table, cell by cell, as the check leaves it.
  pub symbols : after.symbols ≡ (tables_after file before).symbols
  pub rows : after.rows ≡ (tables_after file before).rows
  pub clauses : after.clauses ≡ (tables_after file before).clauses
  pub bindings : after.bindings ≡ (tables_after file before).bindings
  -- Pieces put together are the readout, and each moves on or says why not.
  pub pieces : PiecesHold line day file (lengths_of before)

-- Document 02, Q-10: the second readout, and what it is for.
pub record CanonicalWritten (day : ℕ) (file : File) (before : Tables) (clause : ℕ) (output : List ℕ) (p : Piece) (after : Tables) (output' : List ℕ) : Type 0 where
  pub written : PieceWritten canonical_line day file before clause output p after output'
  pub same_line : SameClauseSameLine
