-- The contracts of the functions that write a piece. What a piece is stands in `Pieces` of the crate units, and what is promised of it in `Contract` of the crate
-- readout. In that contract stands `PieceAt` with `rest_given`; the rest only says how the parts of the program fit together.
use Rattle.std.specs.Prelude.{◌≡◌, List, ◌++◌, ℕ, eqb, length, drop}
use Rattle.record.specs.Record.{pick, File}
use Rattle.verdict.specs.Tables.{lengths_of}
use Rattle.verdict.specs.Verdict.{Lengths}
use Rattle.verdict.specs.Readout.{LineWriter}
use Rattle.numbering.specs.Numbering.{line_of, NumberRoom}
use Rattle.numbering.specs.declared.Naming.{Naming}
use Rattle.answer.specs.declared.Answer.{Answer}
use Rattle.units.specs.Pieces.{Progress, complete, goOnWith, tooShortFor, piece_bytes, progress}
use Rattle.pieces.specs.declared.Piece.{Piece}
use Rattle.pieces.specs.declared.Rest.{Rest}
use Rattle.pieces.specs.declared.Rest.TheVariants.{Complete, GoOn, TooShort}
use Rattle.units.specs.Units.{AfterCheck}

-- What comes after a piece, as the program says it; and where one that began with a clause stopped before clause n.
abbrev pub rest_given : Rest → Progress
rest_given Complete = complete
rest_given (GoOn n) = goOnWith n
rest_given (TooShort n) = tooShortFor n

abbrev pub stopped_at : ℕ → ℕ → Progress
stopped_at begin n = pick (eqb n begin) (tooShortFor begin) (goOnWith n)

-- The bytes of a piece at the start of an output, and the rest of it as it was.
pub record PieceAt (line : LineWriter) (day : ℕ) (file : File) (lengths : Lengths) (begin : ℕ) (output output' : List ℕ) (p : Piece) : Type 0 where
  pub written : p.written ≡ length (piece_bytes line day file lengths begin (length output))
  pub rest : rest_given p.rest ≡ progress line day file lengths begin (length output)
  pub bytes : output' ≡ piece_bytes line day file lengths begin (length output) ++ drop (length (piece_bytes line day file lengths begin (length output))) output

-- What writing a piece asks: what a check left, and room for numbers where variables are numbered.
pub record PieceReady (naming : Naming) (C B N O A K L : List ℕ) (a : Answer) : Type 0 where
  pub after : AfterCheck C B N O A a
  pub numbers : NumberRoom naming K L

-- What it says, whichever tables there were before the check. The array keeps its length, so that the next piece can be written.
pub record PieceOf (naming : Naming) (C B N O A A' : List ℕ) (a : Answer) (begin : ℕ) (output output' : List ℕ) (p : Piece) : Type 0 where
  pub piece : (R : AfterCheck C B N O A a) → PieceAt (line_of naming) R.day R.file (lengths_of R.before) begin output output' p
  pub values : length A' ≡ 524416
