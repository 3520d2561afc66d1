-- The contract of the exported conversions: what `checker_to_new` promises of every old file and `checker_to_old` of every new one, every four tables, every output
-- and every answer slice, with no condition on the call.
use Rattle.std.specs.Prelude.{◌≡◌, List, ◌++◌, ℕ, ◌<◌, ◌≤◌, length, drop}
use Rattle.record.specs.Record.{File}
use Rattle.verdict.specs.Tables.{Tables}
use Rattle.writing.specs.Writing.{writing_numbers, output_left}
use Rattle.converting.specs.Answer.{conversion_answer, tables_left}
use Rattle.converting.specs.Converting.{converted_file}
use Rattle.converting.specs.Promised.{ConversionPromised}

pub record ExportedConversion (file : File) (before : Tables) (outputBefore answerBefore : List ℕ) (after : Tables) (outputAfter answerAfter : List ℕ) : Type 0 where
  -- An answer slice of fewer than four cells: it, the output and every table are left as they were.
  pub answer_left : length answerBefore < 4 → answerAfter ≡ answerBefore
  pub output_kept : length answerBefore < 4 → outputAfter ≡ outputBefore
  pub tables_kept : length answerBefore < 4 → after ≡ before
  -- Otherwise the four numbers of the answer, and the cells past the fourth as they were.
  pub answer : 4 ≤ length answerBefore → answerAfter ≡ writing_numbers (conversion_answer file before (length outputBefore)) ++ drop 4 answerBefore
  -- Each table, cell by cell, and every byte of the output.
  pub tables : 4 ≤ length answerBefore → after ≡ tables_left file before (length outputBefore)
  pub output : 4 ≤ length answerBefore → outputAfter ≡ output_left (conversion_answer file before (length outputBefore)) (converted_file file).bytes outputBefore
  -- When each answer is given, and what the converted file is.
  pub promised : 4 ≤ length answerBefore → ConversionPromised file before (length outputBefore)
