-- The contracts of the exported functions of a board from their own.
use mathlib.Core.Path.{◌≡◌, refl, ap, ◌∙◌}
use mathlib.Core.Bool.{Bool}
use mathlib.Core.List.{List, ◌++◌}
use Prim.Native.Nat.{ℕ, ◌<◌, ◌≤◌}
use native.Mathlib.Omega.{arith}
use lib.ListN.{length, drop}
use Rattle.record.specs.Record.{File}
use Rattle.verdict.specs.Tables.{Tables}
use Rattle.boards.proofs.BoardShown.{board_promised}
use Rattle.board_cells.specs.Given.{board_given}
use Rattle.board_cells.specs.declared.lowest.BoardAnswer.{BoardAnswer}
use Rattle.board_calls.specs.Called.{BoardCalled}
use Rattle.board.specs.Contract.{BoardOpened}
use Rattle.board_c.specs.ExportedBoard.{ExportedOpening, ExportedCall}

-- The two ways that each exported function can go.
pub opening_left_alone : (day : ℕ) (file : File) (t : Tables) (B A : List ℕ) → length A < 3 → ExportedOpening day file t B A t B A
opening_left_alone day file t B A l = record {
  answer_left = λ m. refl;
  board_kept = λ m. refl;
  tables_kept = λ m. refl;
  answer = λ m. absurd (omega arith);
  tables = λ m. absurd (omega arith);
  board_left = λ m. absurd (omega arith);
  promised = λ S st s m. board_promised day file t B S st s m;
}

pub opening_exported : (day : ℕ) (file : File) (t : Tables) (B A : List ℕ) (a : BoardAnswer) (here : Tables) (B' A' : List ℕ) → 3 ≤ length A → BoardOpened day file t B a here B' → A' ≡ board_given a ++ drop 3 A → ExportedOpening day file t B A here B' A'
opening_exported day file t B A a here B' A' l K q = record {
  answer_left = λ x. absurd (omega arith);
  board_kept = λ x. absurd (omega arith);
  tables_kept = λ x. absurd (omega arith);
  answer = λ x. q ∙ ap (λ (v : List ℕ). v ++ drop 3 A) K.answer;
  tables = λ x.
      let s = K.symbols in
      let r = K.rows in
      let c = K.clauses in
      let b = K.bindings in
      λ i. record { symbols = s i; rows = r i; clauses = c i; bindings = b i };
  board_left = λ x. K.board;
  promised = K.promised;
}

pub call_left_alone : (F : File) (C B : List ℕ) (n : ℕ) (present : Bool) (A : List ℕ) → length A < 3 → ExportedCall F C B n present A B A
call_left_alone F C B n present A l = record {
  answer_left = λ m. refl;
  board_kept = λ m. refl;
  answer = λ m. absurd (omega arith);
  board_left = λ m. absurd (omega arith);
}

pub call_exported : (F : File) (C B : List ℕ) (n : ℕ) (present : Bool) (A : List ℕ) (a : BoardAnswer) (B' A' : List ℕ) → 3 ≤ length A → BoardCalled F C B n present a B' → A' ≡ board_given a ++ drop 3 A → ExportedCall F C B n present A B' A'
call_exported F C B n present A a B' A' l K q = record {
  answer_left = λ x. absurd (omega arith);
  board_kept = λ x. absurd (omega arith);
  answer = λ x. q ∙ ap (λ (v : List ℕ). v ++ drop 3 A) K.answer;
  board_left = λ x. K.board;
}
