-- Document 02, Q-9: opening a board, for every day, file, four tables and board.
use Rattle.std.specs.Prelude.{true, false, List, ℕ, ltb, length}
use Rattle.record.specs.Record.{File}
use Rattle.verdict.specs.Refusal.{reason_number}
use Rattle.verdict.specs.State.{State}
use Rattle.verdict.specs.Tables.{Tables, lengths_of, tables_after}
use Rattle.verdict.specs.Verdict.{Verdict, accepted, open', refusal, check, reading, state_given}
use Rattle.boards.specs.Board.{all_present, answer_afresh, Answer, answered, refused_with}
use Rattle.boards.specs.Cells.{board_of}

-- The state that the check of a file leaves.
abbrev pub state_left : File → Tables → State
state_left file tables = state_given (reading file (lengths_of tables))

-- A file that its check refuses gets that refusal, and no board.
abbrev pub unless_refused : Verdict → Answer → Answer
unless_refused (refusal reason k) next = refused_with (reason_number reason) k
unless_refused (accepted n) next = next
unless_refused open' next = next

abbrev pub board_unless_refused : Verdict → List ℕ → List ℕ → List ℕ
board_unless_refused (refusal reason k) before next = before
board_unless_refused (accepted n) before next = next
board_unless_refused open' before next = next

-- The answer: 2 at record 0 for a board of fewer than 4,097 cells, before all else; the refusal of the file's check; and else that of all input clauses present.
unfoldable pub opening_answer : ℕ → File → Tables → ℕ → Answer
opening_answer day file tables room =
    elim (ltb room 4097) [
      | true ↦ refused_with 2 0
      | false ↦ unless_refused (check day file (lengths_of tables)).verdict (answered (answer_afresh day (state_left file tables) all_present))
    ]

-- The board: that of all input clauses present, or as it was where the answer is a refusal.
unfoldable pub board_opened : ℕ → File → Tables → List ℕ → List ℕ
board_opened day file tables board =
    elim (ltb (length board) 4097) [
      | true ↦ board
      | false ↦ board_unless_refused (check day file (lengths_of tables)).verdict board (board_of day (state_left file tables) all_present board)
    ]

-- The tables: untouched where the board is too short, and else as the check leaves them.
unfoldable pub tables_opened : File → Tables → ℕ → Tables
tables_opened file tables room = elim (ltb room 4097) [ true ↦ tables | false ↦ tables_after file tables ]
