-- The contract of `trim`: what it promises of every day, every file, every four tables and every output, with no condition on the call.
use Rattle.std.specs.Prelude.{◌≡◌, List, ℕ, length, Result}
use Rattle.verdict.specs.Tables.{Tables}
use Rattle.writing.specs.Writing.{writing_numbers, output_left}
use Rattle.writing_answer.specs.Given.{writing_given}
use Rattle.writing_answer.specs.declared.NotWritten.{NotWritten}
use Rattle.trimming.specs.Answer.{trim_answer, tables_left}
use Rattle.trimming.specs.Promised.{TrimPromised}
use Rattle.trimming.specs.Trimming.{trimmed_file}

pub record TrimAnswered (day : ℕ) (file : List ℕ) (before : Tables) (outputBefore : List ℕ) (m : Result ℕ NotWritten) (after : Tables) (outputAfter : List ℕ) : Type 0 where
  -- The four numbers of the answer, each table, cell by cell, and every byte of the output.
  pub answer : writing_given m ≡ writing_numbers (trim_answer day file before (length outputBefore))
  pub symbols : after.symbols ≡ (tables_left file before (length outputBefore)).symbols
  pub rows : after.rows ≡ (tables_left file before (length outputBefore)).rows
  pub clauses : after.clauses ≡ (tables_left file before (length outputBefore)).clauses
  pub bindings : after.bindings ≡ (tables_left file before (length outputBefore)).bindings
  pub output : outputAfter ≡ output_left (trim_answer day file before (length outputBefore)) (trimmed_file day file) outputBefore
  -- When each answer is given, and what the trimmed file is.
  pub promised : TrimPromised day file before (length outputBefore)
