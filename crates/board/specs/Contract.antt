-- The contract of opening a board: what it promises of every day, file, four tables and board, with no condition on the call. That of a call is `Called` of the
-- crate board_calls.
use Rattle.std.specs.Prelude.{◌≡◌, List, ℕ, ◌≤◌, length}
use Rattle.record.specs.Record.{File}
use Rattle.demands.specs.Conditions.{TableShort}
use Rattle.verdict.specs.State.{State}
use Rattle.verdict.specs.Tables.{Tables}
use Rattle.verdict.specs.Verdict.{Stands}
use Rattle.boards.specs.Board.{answer_numbers}
use Rattle.boards.specs.Opening.{opening_answer, board_opened, tables_opened}
use Rattle.boards.specs.Promised.{BoardPromised}
use Rattle.board_cells.specs.Given.{board_given}
use Rattle.board_cells.specs.declared.lowest.BoardAnswer.{BoardAnswer}

pub record BoardOpened (day : ℕ) (file : File) (before : Tables) (boardBefore : List ℕ) (a : BoardAnswer) (after : Tables) (board_after : List ℕ) : Type 0 where
  -- The three numbers of the answer, each table, cell by cell, and the board.
  pub answer : board_given a ≡ answer_numbers (opening_answer day file before (length boardBefore))
  pub symbols : after.symbols ≡ (tables_opened file before (length boardBefore)).symbols
  pub rows : after.rows ≡ (tables_opened file before (length boardBefore)).rows
  pub clauses : after.clauses ≡ (tables_opened file before (length boardBefore)).clauses
  pub bindings : after.bindings ≡ (tables_opened file before (length boardBefore)).bindings
  pub board : board_after ≡ board_opened day file before boardBefore
  -- For a file that stands: what is shown of the board and of all calls after the opening.
  pub promised : (S : State) → Stands file S → ¬ TableShort before → 4097 ≤ length boardBefore → BoardPromised day file before boardBefore S
