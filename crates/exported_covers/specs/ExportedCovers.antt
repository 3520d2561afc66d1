-- The contract of the exported `covers`: what `checker_covers` promises of every file, every two clause numbers, every four tables and every answer
-- slice, with no condition on the call.
use Rattle.std.specs.Prelude.{◌≡◌, List, ◌++◌, ℕ, ◌<◌, ◌≤◌, length, drop}
use Rattle.record.specs.Record.{File}
use Rattle.verdict.specs.Tables.{Tables, tables_after}
use Rattle.coverings.specs.Answering.{Answer, ten_numbers, AnswerPromised}

-- The ten numbers of an answer of which all is true that is promised, and the cells past the tenth as they were.
pub record AnswerIn (file : File) (before : Tables) (c d : ℕ) (answerBefore answerAfter : List ℕ) : Type 0 where
  pub answer : Answer
  pub numbers : answerAfter ≡ ten_numbers answer ++ drop 10 answerBefore
  pub promised : AnswerPromised file before c d answer
  pub only : (other : Answer) → AnswerPromised file before c d other → other ≡ answer

pub record ExportedCovers (file : File) (before : Tables) (c d : ℕ) (answerBefore : List ℕ) (after : Tables) (answerAfter : List ℕ) : Type 0 where
  -- An answer slice of fewer than ten cells: it and every table are left as they were.
  pub answer_left : length answerBefore < 10 → answerAfter ≡ answerBefore
  pub symbols_left : length answerBefore < 10 → after.symbols ≡ before.symbols
  pub rows_left : length answerBefore < 10 → after.rows ≡ before.rows
  pub clauses_left : length answerBefore < 10 → after.clauses ≡ before.clauses
  pub bindings_left : length answerBefore < 10 → after.bindings ≡ before.bindings
  -- Otherwise the answer.
  pub answer : 10 ≤ length answerBefore → AnswerIn file before c d answerBefore answerAfter
  -- And each table, cell by cell, as the check leaves it.
  pub symbols : 10 ≤ length answerBefore → after.symbols ≡ (tables_after file before).symbols
  pub rows : 10 ≤ length answerBefore → after.rows ≡ (tables_after file before).rows
  pub clauses : 10 ≤ length answerBefore → after.clauses ≡ (tables_after file before).clauses
  pub bindings : 10 ≤ length answerBefore → after.bindings ≡ (tables_after file before).bindings
