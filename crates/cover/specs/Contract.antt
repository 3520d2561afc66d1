-- The contract of `covers`: what it promises of every file, every four tables and every two clause numbers, with no condition on the call.
use Rattle.std.specs.Prelude.{◌≡◌, ℕ}
use Rattle.record.specs.Record.{File}
use Rattle.verdict.specs.Tables.{Tables, tables_after}
use Rattle.coverings.specs.Answering.{Answer, ten_numbers, AnswerPromised}
use Rattle.comparing.specs.Given.{Covering, covering_given}

pub record CoversAnswered (file : File) (before : Tables) (c d : ℕ) (r : Covering) (after : Tables) : Type 0 where
  -- The answer, by its ten numbers, and what is promised of it.
  pub answer : Answer
  pub numbers : covering_given r ≡ ten_numbers answer
  pub promised : AnswerPromised file before c d answer
  -- Of no other answer is all that true: every number is decided.
  pub only : (other : Answer) → AnswerPromised file before c d other → other ≡ answer
  -- Each table, cell by cell, as the check leaves it.
  pub symbols : after.symbols ≡ (tables_after file before).symbols
  pub rows : after.rows ≡ (tables_after file before).rows
  pub clauses : after.clauses ≡ (tables_after file before).clauses
  pub bindings : after.bindings ≡ (tables_after file before).bindings
