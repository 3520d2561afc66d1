-- Document 01, "Verdict, tables and refusals": the four tables as the check leaves them.
use Rattle.std.specs.Prelude.{List, [], ◌∷◌, ◌++◌, map, reverse, ℕ, ◌+◌, ◌-◌, length, drop, replicate}
use Rattle.record.specs.Record.{File}
use Rattle.unification.specs.Environment.{Binding}
use Rattle.derivation.specs.Derivation.{literals, Derivation, maximum_index, own_bindings}
use Rattle.verdict.specs.State.{State, derivations}
use Rattle.verdict.specs.Step.{state_of}
use Rattle.verdict.specs.Verdict.{Lengths, least_lengths, Reading, untouched, read_to, reading}

-- The tables, as lists of cells.
pub record Tables : Type 0 where
  pub symbols : List ℕ
  pub rows : List ℕ
  pub clauses : List ℕ
  pub bindings : List ℕ

abbrev pub lengths_of : Tables → Lengths
lengths_of t = record { symbols = length t.symbols; rows = length t.rows; clauses = length t.clauses; bindings = length t.bindings }

-- The record of each symbol and of each row; for a repeated row, that of the earliest equal one.
abbrev pub symbol_cells : State → List ℕ
symbol_cells S = reverse (map (λ s. s.0) S.symbols)

abbrev pub row_cells : State → List ℕ
row_cells S = reverse (map (λ w. w.0) S.rows)

-- The bindings of some clauses, counted: where those of the next clause begin.
abbrev pub bindings_of : List Derivation → ℕ
bindings_of [] = 0
bindings_of (c ∷ cs) = bindings_of cs + length (own_bindings c)

-- Five cells a clause: record, literal count, maximum index, first binding, number of bindings.
abbrev pub cells_of_clause : ℕ → ℕ → Derivation → List ℕ
cells_of_clause k first c = k ∷ length (literals c) ∷ maximum_index c ∷ first ∷ length (own_bindings c) ∷ []

abbrev pub clause_cells : List (ℕ × Derivation) → List ℕ
clause_cells [] = []
clause_cells (c ∷ cs) = clause_cells cs ++ cells_of_clause c.0 (bindings_of (map (λ d. d.1) cs)) c.1

-- Four cells a binding: variable row, its index, term row, its index; in the order in which they were added.
abbrev pub cells_of_bindings : List Binding → List ℕ
cells_of_bindings [] = []
cells_of_bindings (b ∷ bs) = cells_of_bindings bs ++ (b.0.0 ∷ b.0.1 ∷ b.1.0 ∷ b.1.1 ∷ [])

abbrev pub binding_cells : List Derivation → List ℕ
binding_cells [] = []
binding_cells (c ∷ cs) = binding_cells cs ++ cells_of_bindings (own_bindings c)

-- A table whose named part of n cells is cleared and then filled from its start; cells past the named part are as they were.
abbrev pub filled : ℕ → List ℕ → List ℕ → List ℕ
filled n cells table = cells ++ (replicate (n - length cells) 0 ++ drop n table)

abbrev pub filled_tables : State → Tables → Tables
filled_tables S t = record {
  symbols = filled least_lengths.symbols (symbol_cells S) t.symbols;
  rows = filled least_lengths.rows (row_cells S) t.rows;
  clauses = filled least_lengths.clauses (clause_cells S.clauses) t.clauses;
  bindings = filled least_lengths.bindings (binding_cells (derivations S)) t.bindings;
}

-- The tables after the check: untouched where no record was read, else filled with what the records read have left.
abbrev pub tables_given : Reading → Tables → Tables
tables_given (untouched reason) t = t
tables_given (read_to e) t = filled_tables (state_of e) t

unfoldable pub tables_after : File → Tables → Tables
tables_after file t = tables_given (reading file (lengths_of t)) t
