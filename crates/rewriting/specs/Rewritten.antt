-- How the program writes a file in the other form: the contracts of its functions. No promise needs this file.
use Rattle.std.specs.Prelude.{◌≡◌, true, List, ℕ, ◌≤◌, length, Result}
use Rattle.record.specs.Record.{File}
use Rattle.verdict.specs.Verdict.{fitting}
use Rattle.writing.specs.Writing.{writing_numbers, output_left}
use Rattle.converting.specs.Answer.{room_for}
use Rattle.converting.specs.Converting.{converted_file}
use Rattle.writing_answer.specs.Given.{writing_given}
use Rattle.writing_answer.specs.declared.NotWritten.{NotWritten}

-- A file of a length that its form allows, and an output with room for every file.
pub record Convertible (file : File) (output : List ℕ) : Type 0 where
  pub fits : fitting file ≡ true
  pub room : 65536 ≤ length output

-- The answer where the check does not refuse the file, and the output.
pub record Rewritten (file : File) (output : List ℕ) (m : Result ℕ NotWritten) (left : List ℕ) : Type 0 where
  pub answer : writing_given m ≡ writing_numbers (room_for file)
  pub bytes : left ≡ output_left (room_for file) (converted_file file).bytes output
