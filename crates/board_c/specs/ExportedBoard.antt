-- The contracts of the exported board: what `checker_board_open`, `checker_board_withdraw` and `checker_board_return` promise of every argument, with no condition on
-- the call.
use Rattle.std.specs.Prelude.{◌≡◌, Bool, List, ◌++◌, ℕ, ◌<◌, ◌≤◌, length, drop}
use Rattle.record.specs.Record.{File}
use Rattle.demands.specs.Conditions.{TableShort}
use Rattle.verdict.specs.State.{State}
use Rattle.verdict.specs.Tables.{Tables}
use Rattle.verdict.specs.Verdict.{Stands}
use Rattle.boards.specs.Board.{answer_numbers}
use Rattle.boards.specs.Cells.{call_answer, board_after}
use Rattle.boards.specs.Opening.{opening_answer, board_opened, tables_opened}
use Rattle.boards.specs.Promised.{BoardPromised}

pub record ExportedOpening (day : ℕ) (file : File) (before : Tables) (board answerBefore : List ℕ) (after : Tables) (left answerAfter : List ℕ) : Type 0 where
  -- An answer slice of fewer than three cells: it, the board and every table are left as they were.
  pub answer_left : length answerBefore < 3 → answerAfter ≡ answerBefore
  pub board_kept : length answerBefore < 3 → left ≡ board
  pub tables_kept : length answerBefore < 3 → after ≡ before
  -- Otherwise the three numbers of the answer, and the cells past the third as they were.
  pub answer : 3 ≤ length answerBefore → answerAfter ≡ answer_numbers (opening_answer day file before (length board)) ++ drop 3 answerBefore
  -- Each table and the board, cell by cell.
  pub tables : 3 ≤ length answerBefore → after ≡ tables_opened file before (length board)
  pub board_left : 3 ≤ length answerBefore → left ≡ board_opened day file before board
  -- For a file that stands: what is shown of the board and of all calls after the opening.
  pub promised : (S : State) → Stands file S → ¬ TableShort before → 4097 ≤ length board → BoardPromised day file before board S

-- A call: clause n is withdrawn, or returned and then present.
pub record ExportedCall (file : File) (clauses board : List ℕ) (n : ℕ) (present : Bool) (answerBefore left answerAfter : List ℕ) : Type 0 where
  pub answer_left : length answerBefore < 3 → answerAfter ≡ answerBefore
  pub board_kept : length answerBefore < 3 → left ≡ board
  pub answer : 3 ≤ length answerBefore → answerAfter ≡ answer_numbers (call_answer file clauses board n present) ++ drop 3 answerBefore
  pub board_left : 3 ≤ length answerBefore → left ≡ board_after file clauses board n present
