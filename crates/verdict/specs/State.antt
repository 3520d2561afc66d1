-- Document 01, "The file": what the records read so far have declared. Every list has the newest first, so number 0 is its last.
use Rattle.std.proofs.Math.Option.{Option, none, some}
use Rattle.std.specs.Prelude.{List, [], ◌∷◌, map, ℕ, ◌+◌, eqb, length}
use Rattle.record.specs.Record.{pick}
use Rattle.unification.specs.Repeated.{earliest_equal, or_same, earliest_row}
use Rattle.unification.specs.Row.{Row, row_at, term_at}
use Rattle.unification.specs.Term.{Term}
use Rattle.derivation.specs.Derivation.{Derivation, own_bindings}

-- Document 02, Q-6: the window of an input clause, by the clause's number: its first and its last day.
pub record Window : Type 0 where
  pub clause : ℕ
  pub first : ℕ
  pub last : ℕ

-- Symbols with their arities, rows, and clauses, each with the number of its record; a repeated row with that of the earliest equal one. Of
-- document 02: the running total of bindings, which goes from record to record (Q-4), and the windows (Q-6).
pub record State : Type 0 where
  pub symbols : List (ℕ × ℕ)
  pub rows : List (ℕ × Row)
  pub clauses : List (ℕ × Derivation)
  pub total : ℕ
  pub windows : List Window

-- Before any record.
abbrev pub empty_state : State
empty_state = record { symbols = []; rows = []; clauses = []; total = 0; windows = [] }

abbrev pub with_symbol : State → ℕ → ℕ → State
with_symbol S k arity = record { symbols = (k, arity) ∷ S.symbols; rows = S.rows; clauses = S.clauses; total = S.total; windows = S.windows }

abbrev pub with_row : State → ℕ → Row → State
with_row S k row = record { symbols = S.symbols; rows = (k, row) ∷ S.rows; clauses = S.clauses; total = S.total; windows = S.windows }

-- A clause. The total grows by the bindings that its step has made, which for an input clause are none; no other record adds to it.
abbrev pub with_clause : State → ℕ → Derivation → State
with_clause S k c = record { symbols = S.symbols; rows = S.rows; clauses = (k, c) ∷ S.clauses; total = S.total + length (own_bindings c); windows = S.windows }

-- A window. No symbol, row, clause or binding comes of it.
abbrev pub with_window : State → Window → State
with_window S w = record { symbols = S.symbols; rows = S.rows; clauses = S.clauses; total = S.total; windows = w ∷ S.windows }

-- Document 02, Q-11: the days beside an input clause, if there are any, are its window.
abbrev pub windows_with : ℕ → Option (ℕ × ℕ) → List Window → List Window
windows_with n none ws = ws
windows_with n (some days) ws = record { clause = n; first = days.0; last = days.1 } ∷ ws

abbrev pub with_days_beside : State → ℕ → Option (ℕ × ℕ) → State
with_days_beside S n days = record { symbols = S.symbols; rows = S.rows; clauses = S.clauses; total = S.total; windows = windows_with n days S.windows }

-- The element numbered n of a list that has the newest first.
abbrev pub entry {ℓ} : {A : Type ℓ} → List A → ℕ → Option A
entry [] n = none
entry (x ∷ xs) n = pick (eqb n (length xs)) (some x) (entry xs n)

-- Each without its record's number.
abbrev pub arities : State → List ℕ
arities S = map (λ s. s.1) S.symbols

abbrev pub rows_of : State → List Row
rows_of S = map (λ w. w.1) S.rows

abbrev pub derivations : State → List Derivation
derivations S = map (λ c. c.1) S.clauses

-- The arity of a symbol and the clause of a number, if they exist; the row of a number, and its term.
abbrev pub arity_of : State → ℕ → Option ℕ
arity_of S s = entry (arities S) s

abbrev pub clause_of : State → ℕ → Option Derivation
clause_of S n = entry (derivations S) n

-- The number that the next clause gets.
abbrev pub next_clause : State → ℕ
next_clause S = length (derivations S)

abbrev pub row_of : State → ℕ → Row
row_of S r = row_at (rows_of S) r

abbrev pub term_of : State → ℕ → Term ℕ
term_of S r = term_at (rows_of S) r

-- Document 02, Q-2: a row is taken as the earliest equal one, wherever it is named; and the record that the table of rows has for a new row, that of
-- the earliest equal one or, where there is none, its own.
abbrev pub earliest_of : State → ℕ → ℕ
earliest_of S r = earliest_row (rows_of S) r

abbrev pub record_of_row : State → ℕ → Row → ℕ
record_of_row S k w = elim (earliest_equal w (rows_of S)) [ none ↦ k | some q ↦ or_same k (entry (map (λ u. u.0) S.rows) q) ]
