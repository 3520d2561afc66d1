-- What the program checks: the file in what it has read, on the day that stands before it (document 02, Q-6).
use Rattle.std.specs.Prelude.{◌≡◌, List, ℕ, ◌≤◌, length, take}
use Rattle.record.specs.Record.{old_file}
use Rattle.verdict.specs.Tables.{Tables}
use Rattle.checker.specs.Contract.{Workspace, CheckedWith}
use Rattle.program_input.specs.Input.{day_of, file_in}
use Rattle.answer.specs.declared.Answer.{Answer}

-- A space holds n bytes of input at its start. It has room for a day, the longest file and one byte more, so that a longer input is noticed.
pub record Holds (space : List ℕ) (n : ℕ) : Type 0 where
  pub inside : n ≤ length space
  pub room : length space ≡ 65539

pub record InputChecked (space : List ℕ) (n : ℕ) (before : Tables) (lent : Workspace) (a : Answer) (after : Tables) (left : Workspace) : Type 0 where
  pub checked : CheckedWith (day_of (take n space)) (old_file (file_in space n)) before lent a after left
