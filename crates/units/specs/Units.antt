-- The contracts of the functions that write what a piece is made of. What that is stands in `Pieces`. In the contract of `write_unit`, by which the programs
-- print, stand `UnitWritten` with `unit_at` and `AfterCheck`; the rest only says how the parts of the program fit together.
use Rattle.std.specs.Prelude.{◌≡◌, List, [], ℕ, ◌<◌, length, get_or, take}
use Rattle.record.specs.Record.{File}
use Rattle.verdict.specs.Tables.{Tables, lengths_of}
use Rattle.verdict.specs.Verdict.{Lengths}
use Rattle.checker.specs.Contract.{Workspace, workspace_with, CheckedWith}
use Rattle.entry.specs.Progress.{tables_with}
use Rattle.answer.specs.declared.Answer.{Answer}
use Rattle.verdict.specs.Readout.{LineWriter, readout_lines}
use Rattle.units.specs.Pieces.{units, units_within}
use Rattle.numbering.specs.Numbering.{line_of, NumberRoom}
use Rattle.numbering.specs.declared.Naming.{Naming}
use Rattle.terms.specs.Writing.{Sized}

-- Unit n of a file.
unfoldable pub unit_at : LineWriter → ℕ → File → Lengths → ℕ → List ℕ
unit_at line day file lengths n = get_or (units (readout_lines line day file lengths)) n []

-- What is there after a check of some file: its answer, for some tables before it, with the workspace that it left.
pub record AfterCheck (C B N O A : List ℕ) (a : Answer) : Type 0 where
  pub day : ℕ
  pub file : File
  pub before : Tables
  pub lent : Workspace
  pub symbols : List ℕ
  pub rows : List ℕ
  pub checked : CheckedWith day file before lent a (tables_with symbols rows C B) (workspace_with N O A)

-- What writing unit n at the start of the buffer asks.
pub record UnitReady (naming : Naming) (C B N O A T K L : List ℕ) (a : Answer) (n : ℕ) : Type 0 where
  pub after : AfterCheck C B N O A a
  pub inside : n < units_within a.clauses
  pub text : length T ≡ 131072
  pub numbers : NumberRoom naming K L

-- What it says, whichever file was checked and whichever tables there were before: the unit stands whole at the start of the buffer, and `end` is its length.
-- Nothing is said of the bytes from `end` on.
pub record UnitWritten (naming : Naming) (C B N O A A' T' : List ℕ) (a : Answer) (n end : ℕ) : Type 0 where
  pub size : (R : AfterCheck C B N O A a) → end ≡ length (unit_at (line_of naming) R.day R.file (lengths_of R.before) n)
  pub whole : (R : AfterCheck C B N O A a) → take end T' ≡ unit_at (line_of naming) R.day R.file (lengths_of R.before) n
  pub sized : Sized N A' T'
