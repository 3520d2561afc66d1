-- The contracts of the exported readouts: what `checker_readout`, by `clause_line`, and `checker_canonical_readout` promise of every day, every file, every four tables, every clause to begin with, every
-- output and every progress slice, with no condition on the call.
use Rattle.std.specs.Prelude.{◌≡◌, List, [], ◌∷◌, ◌++◌, ℕ, ◌<◌, ◌≤◌, length, drop}
use Rattle.record.specs.Record.{File}
use Rattle.verdict.specs.Tables.{Tables, lengths_of, tables_after}
use Rattle.verdict.specs.Readout.{LineWriter}
use Rattle.appearance.specs.Appearance.{canonical_line}
use Rattle.canonical.specs.SameClause.{SameClauseSameLine}
use Rattle.units.specs.Pieces.{Progress, complete, goOnWith, tooShortFor, piece_bytes, progress, PiecesHold}

-- The three numbers of a piece that wrote so many bytes: 0 and no clause where all is written, 1 and the clause to go on with, 2 and the
-- clause whose line there was no room for.
abbrev pub progress_numbers : Progress → ℕ → List ℕ
progress_numbers complete written = 0 ∷ written ∷ 0 ∷ []
progress_numbers (goOnWith n) written = 1 ∷ written ∷ n ∷ []
progress_numbers (tooShortFor n) written = 2 ∷ written ∷ n ∷ []

-- The same for the piece of a file, on a day, from a clause on, with so much room.
abbrev pub piece_numbers : LineWriter → ℕ → File → Tables → ℕ → ℕ → List ℕ
piece_numbers line day file before clause room =
    progress_numbers (progress line day file (lengths_of before) clause room) (length (piece_bytes line day file (lengths_of before) clause room))

-- An output with the bytes of that piece at its start, and the rest of it as it was.
abbrev pub output_with : LineWriter → ℕ → File → Tables → ℕ → List ℕ → List ℕ
output_with line day file before clause output =
    piece_bytes line day file (lengths_of before) clause (length output) ++ drop (length (piece_bytes line day file (lengths_of before) clause (length output))) output

pub record ExportedReadout (line : LineWriter) (day : ℕ) (file : File) (before : Tables) (clause : ℕ) (outputBefore progressBefore : List ℕ) (after : Tables) (outputAfter progressAfter : List ℕ) : Type 0 where
  -- A progress slice of fewer than three cells: it, the output and every table are left as they were.
  pub progress_left : length progressBefore < 3 → progressAfter ≡ progressBefore
  pub output_left : length progressBefore < 3 → outputAfter ≡ outputBefore
  pub symbols_left : length progressBefore < 3 → after.symbols ≡ before.symbols
  pub rows_left : length progressBefore < 3 → after.rows ≡ before.rows
  pub clauses_left : length progressBefore < 3 → after.clauses ≡ before.clauses
  pub bindings_left : length progressBefore < 3 → after.bindings ≡ before.bindings
  -- Otherwise the three numbers of the piece, and the cells past the third as they were.
  pub numbers : 3 ≤ length progressBefore → progressAfter ≡ piece_numbers line day file before clause (length outputBefore) ++ drop 3 progressBefore
  -- Every byte of the output.
  pub output : 3 ≤ length progressBefore → outputAfter ≡ output_with line day file before clause outputBefore
  -- And each table, cell by cell, as the check leaves it.
  pub symbols : 3 ≤ length progressBefore → after.symbols ≡ (tables_after file before).symbols
  pub rows : 3 ≤ length progressBefore → after.rows ≡ (tables_after file before).rows
  pub clauses : 3 ≤ length progressBefore → after.clauses ≡ (tables_after file before).clauses
  pub bindings : 3 ≤ length progressBefore → after.bindings ≡ (tables_after file before).bindings
  -- Pieces put together are the readout, and each moves on or says why not.
  pub pieces : 3 ≤ length progressBefore → PiecesHold line day file (lengths_of before)

-- Document 02, Q-10: the second readout, and what it is for.
pub record ExportedCanonical (day : ℕ) (file : File) (before : Tables) (clause : ℕ) (outputBefore progressBefore : List ℕ) (after : Tables) (outputAfter progressAfter : List ℕ) : Type 0 where
  pub exported : ExportedReadout canonical_line day file before clause outputBefore progressBefore after outputAfter progressAfter
  pub same_line : SameClauseSameLine
