-- Reading all records in the program: the contracts of its inner functions. No demand needs this file.
use Rattle.std.specs.Prelude.{◌≡◌, true, List, [], ℕ, length, replicate, Ok, Err}
use Rattle.record.specs.Record.{File}
use Rattle.answer.specs.Given.{answer_given, Ended}
use Rattle.derivation.specs.Stored.{origin_table_of}
use Rattle.entry.specs.Progress.{node_table_of, counts_of, ReadTo}
use Rattle.verdict.specs.State.{State, empty_state}
use Rattle.verdict.specs.Step.{all_stand, refused_at, state_of}
use Rattle.verdict.specs.Tables.{Tables, lengths_of, filled_tables}
use Rattle.verdict.specs.Verdict.{answer_numbers, verdict_of, answer_of, long_enough, fitting, ending}
use Rattle.answer.specs.declared.Answer.{Answer}
use Rattle.reasons.specs.Reasons.{meant}

-- Before the first record: the length fits, the named parts of the tables `tables_before` are cleared, and the node table and the table of origins are empty.
pub record Begun (F : File) (here : Tables) (N O A : List ℕ) : Type 0 where
  pub tables_before : Tables
  pub fit : fitting F ≡ true
  pub long : long_enough (lengths_of tables_before) ≡ true
  pub cleared : here ≡ filled_tables empty_state tables_before
  pub nodes : N ≡ node_table_of []
  pub origins : O ≡ origin_table_of []
  pub values : length A ≡ 524416

-- How reading ended, by the definition, with the state S.
abbrev pub EndsAs : File → State → Ended → Type 0
EndsAs F S (Ok n) = (n ≡ counts_of S) × (ending F ≡ all_stand S)
EndsAs F S (Err r) = (r.counts ≡ counts_of S) × (ending F ≡ refused_at S (meant r.reason) r.number)

pub record EndedWith (F : File) (t : Tables) (e : Ended) (here : Tables) (N O A : List ℕ) : Type 0 where
  pub state : State
  pub ended : EndsAs F state e
  pub left : ReadTo F t state here N O A

pub record RecordsRead (F : File) (here : Tables) (N O A : List ℕ) (e : Ended) (here' : Tables) (N' O' A' : List ℕ) : Type 0 where
  pub read : (B : Begun F here N O A) → EndedWith F B.tables_before e here' N' O' A'

-- A node table and a table of origins in which nothing is written yet, and an array of values, whatever it holds.
pub record Unwritten (N O A : List ℕ) : Type 0 where
  pub nodes : N ≡ node_table_of []
  pub origins : O ≡ origin_table_of []
  pub values : length A ≡ 524416

-- A table of eight cells a row or a clause, cleared, whatever it held.
unfoldable pub clear_table : List ℕ
clear_table = replicate 32768 0

-- A file and tables that can be read, and what is read of them: the answer's numbers and the tables.
pub record Readable (F : File) (t : Tables) : Type 0 where
  pub fit : fitting F ≡ true
  pub long : long_enough (lengths_of t) ≡ true

-- The same with a node table and a table of origins in which nothing is written yet, and an array of values.
pub record ReadableWith (F : File) (t : Tables) (N O A : List ℕ) : Type 0 where
  pub readable : Readable F t
  pub empty : Unwritten N O A

pub record FileRead (day : ℕ) (F : File) (t : Tables) (a : Answer) (here : Tables) : Type 0 where
  pub numbers : answer_given a ≡ answer_numbers (answer_of (verdict_of day (ending F)) (state_of (ending F)))
  pub tables : here ≡ filled_tables (state_of (ending F)) t

-- What is read of them with these tables and an array: what the program keeps of the state that reading ended with.
pub record FileReadWith (day : ℕ) (F : File) (t : Tables) (a : Answer) (here : Tables) (N O A : List ℕ) : Type 0 where
  pub file : FileRead day F t a here
  pub left : ReadTo F t (state_of (ending F)) here N O A
