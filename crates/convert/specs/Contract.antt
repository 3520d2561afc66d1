-- The contract of `to_new` and `to_old`: what they promise of every file of the one form and the other, every four tables and every output, with no condition on
-- the call.
use Rattle.std.specs.Prelude.{◌≡◌, List, ℕ, length, Result}
use Rattle.record.specs.Record.{File}
use Rattle.verdict.specs.Tables.{Tables}
use Rattle.writing.specs.Writing.{writing_numbers, output_left}
use Rattle.converting.specs.Answer.{conversion_answer, tables_left}
use Rattle.converting.specs.Converting.{converted_file}
use Rattle.converting.specs.Promised.{ConversionPromised}
use Rattle.writing_answer.specs.Given.{writing_given}
use Rattle.writing_answer.specs.declared.NotWritten.{NotWritten}

pub record ConversionAnswered (file : File) (before : Tables) (outputBefore : List ℕ) (m : Result ℕ NotWritten) (after : Tables) (outputAfter : List ℕ) : Type 0 where
  -- The four numbers of the answer, each table, cell by cell, and every byte of the output.
  pub answer : writing_given m ≡ writing_numbers (conversion_answer file before (length outputBefore))
  pub symbols : after.symbols ≡ (tables_left file before (length outputBefore)).symbols
  pub rows : after.rows ≡ (tables_left file before (length outputBefore)).rows
  pub clauses : after.clauses ≡ (tables_left file before (length outputBefore)).clauses
  pub bindings : after.bindings ≡ (tables_left file before (length outputBefore)).bindings
  pub output : outputAfter ≡ output_left (conversion_answer file before (length outputBefore)) (converted_file file).bytes outputBefore
  -- When each answer is given, and what the converted file is.
  pub promised : ConversionPromised file before (length outputBefore)
