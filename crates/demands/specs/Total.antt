-- Document 02, Q-4: bindings already held.
use Rattle.std.specs.Prelude.{◌≡◌, true, List, ℕ, zero, suc, ◌+◌, ◌*◌, length, get_or, take}
use Rattle.record.specs.Record.{File, records}
use Rattle.verdict.specs.State.{State, empty_state}
use Rattle.verdict.specs.Step.{read, state_of}
use Rattle.verdict.specs.Tables.{Tables, lengths_of, filled_tables, tables_after}
use Rattle.verdict.specs.Verdict.{check, long_enough, fitting}

-- What the first k records of a file leave, read one after another: where one is refused, what those before it left.
abbrev pub state_after : File → ℕ → State
state_after file k = state_of (read empty_state 0 (take k (records file)))

-- The running total after k records: a step that stands adds the bindings that it has made, every other record and a refused one adds nothing.
-- Reason 13 is given by this total.
abbrev pub total_after : File → ℕ → ℕ
total_after file k = (state_after file k).total

-- The sum, over the first n clauses of a table, of the fifth cell: the number of bindings.
abbrev pub fifth_cells : List ℕ → ℕ → ℕ
fifth_cells C zero = 0
fifth_cells C (suc n) = fifth_cells C n + get_or C (5 * n + 4) 0

pub record BindingsHeld (day : ℕ) (file : File) (tables : Tables) : Type 0 where
  -- After each record, a refused one too, the total is the sum over the clauses then held, off the table that has them.
  pub after_each : (k : ℕ) → total_after file k ≡ fifth_cells (filled_tables (state_after file k) tables).clauses (length (state_after file k).clauses)
  -- The count in the answer is the total at the end; it is the sum over the table that the check leaves.
  pub at_end : fitting file ≡ true → long_enough (lengths_of tables) ≡ true → (check day file (lengths_of tables)).bindings ≡ total_after file (length (records file))
  pub in_table : (check day file (lengths_of tables)).bindings ≡ fifth_cells (tables_after file tables).clauses (check day file (lengths_of tables)).clauses
