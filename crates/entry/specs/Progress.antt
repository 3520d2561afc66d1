-- The program's own tables for a state: the contracts of its inner functions. No demand needs this file. In the contracts of `check_with` and of what goes on after
-- it stand `tables_with`, `node_table_of` with the three definitions before it, and `ReadTo` with `Kept` and `counts_of`.
use Rattle.std.specs.Prelude.{◌≡◌, true, List, [], ◌∷◌, ◌++◌, ℕ, suc, ◌+◌, ◌-◌, ◌*◌, ◌≤◌, ◌<◌, length, take, replicate, Ok, Err}
use Rattle.std.proofs.Math.Option.{none, some}
use Rattle.record.specs.Record.{File, records, record_count, record_part, decoded, record_at}
use Rattle.unification.specs.Repeated.{earliest_equal}
use Rattle.unification.specs.Row.{variable, Row, application}
use Rattle.derivation.specs.Stored.{origin_table_of}
use Rattle.reasons.specs.Reasons.{meant}
use Rattle.verdict.specs.State.{State, empty_state, rows_of, derivations}
use Rattle.verdict.specs.Step.{stands, refused, step, read, all_stand}
use Rattle.tables.specs.declared.lent.LentTables.{LentTables}
use Rattle.verdict.specs.Tables.{Tables, lengths_of, filled_tables}
use Rattle.demands.specs.Total.{fifth_cells}
use Rattle.verdict.specs.Verdict.{long_enough, fitting}
use Rattle.entry.specs.Program.{repeat_cells, Entered}
use Rattle.entry.specs.declared.entry.Counts.{Counts}

-- The eight cells of a row, by itself and after the rows ws; the cells of all rows, row 0 first; and the node table with zeros after them.
abbrev pub cells_of_row : Row → List ℕ
cells_of_row (variable v) = 1 ∷ v ∷ 0 ∷ 0 ∷ 0 ∷ 0 ∷ 0 ∷ 0 ∷ []
cells_of_row (application s xs) = (2 + length xs) ∷ s ∷ (xs ++ replicate (6 - length xs) 0)

abbrev pub cells_after : List Row → Row → List ℕ
cells_after ws w = elim (earliest_equal w ws) [ none ↦ cells_of_row w | some q ↦ repeat_cells q ]

abbrev pub node_list : List Row → List ℕ
node_list [] = []
node_list (w ∷ ws) = node_list ws ++ cells_after ws w

abbrev pub node_table_of : List Row → List ℕ
node_table_of ws = node_list ws ++ replicate (32768 - 8 * length ws) 0

-- The counts of a state.
abbrev pub counts_of : State → Counts
counts_of S = record { symbols = length S.symbols; rows = length S.rows; clauses = length S.clauses; bindings = S.total }

-- The four tables.
abbrev pub tables_with : List ℕ → List ℕ → List ℕ → List ℕ → Tables
tables_with symbols rows C B = record { symbols = symbols; rows = rows; clauses = C; bindings = B }

-- The same off the tables that a caller lends.
abbrev pub tables_of : LentTables → Tables
tables_of t = tables_with t.symbols.now t.rows.now t.clauses.now t.bindings.now

-- What the program has after k records of the file F, begun on the tables t: the counts, tables, node table and table of origins of the
-- state that these records leave. What the array of values holds between steps does not matter. Document 02, Q-4: the bindings counted, the
-- running total of the state, are the sum over the clauses held, off the table.
pub record Kept (F : File) (t : Tables) (k : ℕ) (S : State) (n : Counts) (here : Tables) (N O A : List ℕ) : Type 0 where
  pub fit : fitting F ≡ true
  pub long : long_enough (lengths_of t) ≡ true
  pub before : read empty_state 0 (take k (records F)) ≡ all_stand S
  pub counts : n ≡ counts_of S
  pub held : n.bindings ≡ fifth_cells here.clauses n.clauses
  pub tables : here ≡ filled_tables S t
  pub nodes : N ≡ node_table_of (rows_of S)
  pub origins : O ≡ origin_table_of (derivations S)
  pub values : length A ≡ 524416

-- The days beside record k do not matter to its step, which is that of the record without them (document 02, Q-11): so of every record but an input clause, once its
-- days are known to be zero.
abbrev pub Plain : File → ℕ → Type 0
Plain F k = (S : State) → step S k (record_at F k) ≡ step S k (decoded (record_part F k))

-- What a function on record k asks: the state for some tables before, and that the record is inside the file.
pub record Reading (F : File) (k : ℕ) (n : Counts) (here : Tables) (N O A : List ℕ) : Type 0 where
  pub inside : k < record_count F
  pub tables_before : Tables
  pub state : State
  pub kept : Kept F tables_before k state n here N O A

-- What it answers: a record that stands leaves what belongs to the next state; a refused one its reason, and all tables as they were.
abbrev pub Next : File → Tables → ℕ → State → Tables → List ℕ → List ℕ → List ℕ → Entered → Type 0
Next F t k S here N O A (Ok n) = (T : State) × (step S k (record_at F k) ≡ stands T) × Kept F t (suc k) T n here N O A
Next F t k S here N O A (Err r) = (step S k (record_at F k) ≡ refused (meant r)) × (here ≡ filled_tables S t) × (N ≡ node_table_of (rows_of S)) × (O ≡ origin_table_of (derivations S)) × (length A ≡ 524416)

pub record RecordRead (F : File) (k : ℕ) (n : Counts) (here : Tables) (N O A : List ℕ) (e : Entered) (here' : Tables) (N' O' A' : List ℕ) : Type 0 where
  pub next : (t : Tables) (S : State) → Kept F t k S n here N O A → Next F t k S here' N' O' A' e

-- What is left when reading has ended: what the program keeps of the state S that some number of records leave.
pub record ReadTo (F : File) (t : Tables) (S : State) (here : Tables) (N O A : List ℕ) : Type 0 where
  pub count : ℕ
  pub few : count ≤ record_count F
  pub counts : Counts
  pub kept : Kept F t count S counts here N O A
