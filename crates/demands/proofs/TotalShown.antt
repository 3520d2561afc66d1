-- The running total is the sum of the table's fifth cells, after each record and at the end.
use mathlib.Core.Path.{◌≡◌, refl, sym, ap, ◌∙◌}
use mathlib.Core.Bool.{Bool, true, false}
use mathlib.Core.List.{List}
use Prim.Native.Nat.{ℕ, ◌+◌}
use lib.ListN.{length, take}
use lib.Seq.{take-length}
use Rattle.record.specs.Record.{File, Record, records}
use Rattle.record.proofs.Records.{records_shaped}
use Rattle.verdict.specs.State.{State, empty_state}
use Rattle.verdict.specs.Step.{read, state_of}
use Rattle.verdict.specs.Tables.{Tables, lengths_of, filled_tables, tables_after}
use Rattle.demands.specs.Total.{state_after, total_after, fifth_cells, BindingsHeld}
use Rattle.verdict.specs.Verdict.{check, Answer, long_enough, fitting, ending}
use Rattle.demands.proofs.Demanded.{check_length, check_tables, check_reads, tables_read}
use Rattle.demands.proofs.Reading.{read_ok, start_ok, shaped_take}
use Rattle.demands.proofs.Standing.{StateOk}
use Rattle.demands.proofs.TableCells.{fifth_sum}

-- A state in order has the sum for its total.
pub total_sum : (n : ℕ) (S : State) → StateOk n S → (t : Tables) → S.total ≡ fifth_cells (filled_tables S t).clauses (length S.clauses)
total_sum n S H t = H.total_ok ∙ sym (fifth_sum S.clauses _)

module _ (day : ℕ) (file : File) (tables : Tables) where
  after_ok : (k : ℕ) → StateOk (0 + length (take k (records file))) (state_after file k)
  after_ok k = read_ok 0 empty_state 0 (take k (records file)) (shaped_take k (records file) (records_shaped file)) start_ok

  after_each_lem : (k : ℕ) → total_after file k ≡ fifth_cells (filled_tables (state_after file k) tables).clauses (length (state_after file k).clauses)
  after_each_lem k = total_sum (0 + length (take k (records file))) (state_after file k) (after_ok k) tables

  -- After all records reading has ended.
  after_all : state_after file (length (records file)) ≡ state_of (ending file)
  unfolding ending
  after_all = ap (λ (rs : List Record). state_of (read empty_state 0 rs)) (take-length (records file))

  at_end_lem : fitting file ≡ true → long_enough (lengths_of tables) ≡ true → (check day file (lengths_of tables)).bindings ≡ total_after file (length (records file))
  at_end_lem f l = ap (λ (a : Answer). a.bindings) (check_reads day file tables f l) ∙ ap (λ (S : State). S.total) (sym after_all)

  in_table_lem : (check day file (lengths_of tables)).bindings ≡ fifth_cells (tables_after file tables).clauses (check day file (lengths_of tables)).clauses
  in_table_lem = try (fitting file) refl (long_enough (lengths_of tables)) refl
    where
      try : (b : Bool) → fitting file ≡ b → (d : Bool) → long_enough (lengths_of tables) ≡ d
          → (check day file (lengths_of tables)).bindings ≡ fifth_cells (tables_after file tables).clauses (check day file (lengths_of tables)).clauses
      try false f d l = rw (check_length day file tables f) refl
      try true f false l = rw (check_tables day file tables f l) refl
      try true f true l = rw (check_reads day file tables f l, tables_read file tables f l, ← after_all) (after_each_lem (length (records file)))

pub bindings_held_lem : (day : ℕ) (file : File) (tables : Tables) → BindingsHeld day file tables
bindings_held_lem day file tables = record { after_each = after_each_lem day file tables; at_end = at_end_lem day file tables; in_table = in_table_lem day file tables }
