-- The contract of the exported `merge`: what `checker_merge` promises of every two files, every four tables, every output and every answer slice, with no
-- condition on the call.
use Rattle.std.specs.Prelude.{◌≡◌, List, ◌++◌, ℕ, ◌<◌, ◌≤◌, length, drop}
use Rattle.verdict.specs.Tables.{Tables}
use Rattle.writing.specs.Writing.{writing_numbers, output_left}
use Rattle.merging.specs.Answer.{merge_answer, tables_left}
use Rattle.merging.specs.Merging.{merged_file}
use Rattle.merging.specs.Promised.{MergePromised}

pub record ExportedMerge (first second : List ℕ) (before : Tables) (outputBefore answerBefore : List ℕ) (after : Tables) (outputAfter answerAfter : List ℕ) : Type 0 where
  -- An answer slice of fewer than four cells: it, the output and every table are left as they were.
  pub answer_left : length answerBefore < 4 → answerAfter ≡ answerBefore
  pub output_kept : length answerBefore < 4 → outputAfter ≡ outputBefore
  pub tables_kept : length answerBefore < 4 → after ≡ before
  -- Otherwise the four numbers of the answer, and the cells past the fourth as they were.
  pub answer : 4 ≤ length answerBefore → answerAfter ≡ writing_numbers (merge_answer first second before (length outputBefore)) ++ drop 4 answerBefore
  -- Each table, cell by cell, and every byte of the output.
  pub tables : 4 ≤ length answerBefore → after ≡ tables_left first second before (length outputBefore)
  pub output : 4 ≤ length answerBefore → outputAfter ≡ output_left (merge_answer first second before (length outputBefore)) (merged_file first second) outputBefore
  -- When each answer is given, and what the merged file is.
  pub promised : 4 ≤ length answerBefore → MergePromised first second before (length outputBefore)
