-- The contract of `merge`: what it promises of every two files, every four tables and every output, with no condition on the call.
use Rattle.std.specs.Prelude.{◌≡◌, List, length, ℕ, Result}
use Rattle.verdict.specs.Tables.{Tables}
use Rattle.writing.specs.Writing.{writing_numbers, output_left}
use Rattle.merging.specs.Answer.{merge_answer, tables_left}
use Rattle.merging.specs.Merging.{merged_file}
use Rattle.merging.specs.Promised.{MergePromised}
use Rattle.writing_answer.specs.Given.{writing_given}
use Rattle.writing_answer.specs.declared.NotWritten.{NotWritten}

pub record MergeAnswered (first second : List ℕ) (before : Tables) (outputBefore : List ℕ) (m : Result ℕ NotWritten) (after : Tables) (outputAfter : List ℕ) : Type 0 where
  -- The four numbers of the answer, each table, cell by cell, and every byte of the output.
  pub answer : writing_given m ≡ writing_numbers (merge_answer first second before (length outputBefore))
  pub symbols : after.symbols ≡ (tables_left first second before (length outputBefore)).symbols
  pub rows : after.rows ≡ (tables_left first second before (length outputBefore)).rows
  pub clauses : after.clauses ≡ (tables_left first second before (length outputBefore)).clauses
  pub bindings : after.bindings ≡ (tables_left first second before (length outputBefore)).bindings
  pub output : outputAfter ≡ output_left (merge_answer first second before (length outputBefore)) (merged_file first second) outputBefore
  -- When each answer is given, and what the merged file is.
  pub promised : MergePromised first second before (length outputBefore)
