-- The contract of the exported check: what `checker_check` promises of every day, every file, every four tables and every answer slice, with no
-- condition on the call.
use Rattle.std.specs.Prelude.{◌≡◌, List, ◌++◌, ℕ, ◌<◌, ◌≤◌, length, drop}
use Rattle.record.specs.Record.{File}
use Rattle.verdict.specs.Tables.{Tables, lengths_of, tables_after}
use Rattle.verdict.specs.Verdict.{check, answer_numbers}

pub record Exported (day : ℕ) (file : File) (before : Tables) (answerBefore : List ℕ) (after : Tables) (answerAfter : List ℕ) : Type 0 where
  -- An answer slice of fewer than seven cells: it and every table are left as they were.
  pub answer_left : length answerBefore < 7 → answerAfter ≡ answerBefore
  pub symbols_left : length answerBefore < 7 → after.symbols ≡ before.symbols
  pub rows_left : length answerBefore < 7 → after.rows ≡ before.rows
  pub clauses_left : length answerBefore < 7 → after.clauses ≡ before.clauses
  pub bindings_left : length answerBefore < 7 → after.bindings ≡ before.bindings
  -- Otherwise the seven numbers of the check's answer, and the cells past the seventh as they were.
  pub answer : 7 ≤ length answerBefore → answerAfter ≡ answer_numbers (check day file (lengths_of before)) ++ drop 7 answerBefore
  -- And each table, cell by cell, as the check leaves it.
  pub symbols : 7 ≤ length answerBefore → after.symbols ≡ (tables_after file before).symbols
  pub rows : 7 ≤ length answerBefore → after.rows ≡ (tables_after file before).rows
  pub clauses : 7 ≤ length answerBefore → after.clauses ≡ (tables_after file before).clauses
  pub bindings : 7 ≤ length answerBefore → after.bindings ≡ (tables_after file before).bindings
