-- Document 02, Q-9: what is shown of a board that was opened and then changed by calls alone, while nobody else writes board, file or tables.
use Rattle.std.specs.Prelude.{◌≡◌, true, List, [], ◌∷◌, ◌++◌, ℕ, length, get_or}
use Rattle.std.proofs.Math.Option.{some}
use Rattle.record.specs.Record.{File}
use Rattle.derivation.specs.Derivation.{Derivation, Use, uses}
use Rattle.demands.specs.Conditions.{OneOf}
use Rattle.demands.specs.Demands.{UsesInForce, Refutation}
use Rattle.verdict.specs.Refusal.{is_input}
use Rattle.verdict.specs.State.{State, clause_of}
use Rattle.verdict.specs.Tables.{Tables, tables_after}
use Rattle.boards.specs.Board.{Presence, all_present, stands_with, answer_afresh, answered, Call, after_calls, answer_to_call}
use Rattle.boards.specs.Cells.{board_of, board_after, call_answer}
use Rattle.boards.specs.Opening.{opening_answer, board_opened}

-- All input clauses that a derivation uses are present.
abbrev pub UsesPresent : Presence → Derivation → Type 0
UsesPresent P c = (u : Use) → OneOf u (uses c) → P u.0 ≡ true

-- A derivation uses clause n.
abbrev pub UsesClause : Derivation → ℕ → Type 0
UsesClause c n = (u : Use) × OneOf u (uses c) × (u.0 ≡ n)

-- The board after calls, one after another.
abbrev pub board_after_calls : File → List ℕ → List ℕ → List Call → List ℕ
board_after_calls F C B [] = B
board_after_calls F C B (call ∷ calls) = board_after_calls F C (board_after F C B call.clause call.present) calls

-- S is what the file leaves, and the tables are as its check left them.
pub record BoardPromised (day : ℕ) (file : File) (tables : Tables) (board : List ℕ) (S : State) : Type 0 where
  -- The board that is opened is that of all input clauses present, and its answer is the one worked out afresh.
  pub opened : board_opened day file tables board ≡ board_of day S all_present board
  pub first : opening_answer day file tables (length board) ≡ answered (answer_afresh day S all_present)
  -- After whatever calls the board is that of the input clauses now present,
  pub cells : (calls : List Call) → board_after_calls file (tables_after file tables).clauses (board_opened day file tables board) calls ≡ board_of day S (after_calls S all_present calls) board
  -- so that calls in any order that come to the same present clauses come to the same board.
  pub same_board : (calls others : List Call) → ((n : ℕ) → is_input (clause_of S n) ≡ true → after_calls S all_present calls n ≡ after_calls S all_present others n)
      → board_after_calls file (tables_after file tables).clauses (board_opened day file tables board) calls ≡ board_after_calls file (tables_after file tables).clauses (board_opened day file tables board) others
  -- Each answer is the one worked out afresh from the clauses present before the call.
  pub answers : (calls : List Call) (call : Call)
      → call_answer file (tables_after file tables).clauses (board_after_calls file (tables_after file tables).clauses (board_opened day file tables board) calls) call.clause call.present
      ≡ answer_to_call day S (after_calls S all_present calls) call
  -- A call about one clause alters no clause that does not use it: neither its standing nor its cell.
  pub other_clauses : (calls : List Call) (call : Call) (m : ℕ) (c : Derivation) → clause_of S m ≡ some c → ¬ UsesClause c call.clause
      → (stands_with (after_calls S all_present (calls ++ (call ∷ []))) c ≡ stands_with (after_calls S all_present calls) c)
      × (get_or (board_after_calls file (tables_after file tables).clauses (board_opened day file tables board) (calls ++ (call ∷ []))) m 0
      ≡ get_or (board_after_calls file (tables_after file tables).clauses (board_opened day file tables board) calls) m 0)
  -- The clause answered has demand 3, and its instances are of present clauses in force on the day.
  pub refuted : (P : Presence) (n : ℕ) → answer_afresh day S P ≡ some n → Refutation (λ c. UsesInForce file day c × UsesPresent P c) file tables S n
