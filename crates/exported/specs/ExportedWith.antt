-- The contract of the exported check for services: what `checker_check_with` promises of every day, every file, every four tables, every answer slice and
-- every workspace, whatever it holds, with no condition on the call.
use Rattle.std.specs.Prelude.{◌≡◌, List, ℕ, ◌<◌, ◌≤◌, length}
use Rattle.record.specs.Record.{File}
use Rattle.verdict.specs.Refusal.{Reason}
use Rattle.verdict.specs.Tables.{Tables, lengths_of}
use Rattle.verdict.specs.Verdict.{reading, untouched}
use Rattle.checker.specs.Contract.{Workspace, nodes_given, origins_given}
use Rattle.exported.specs.Exported.{Exported}

pub record ExportedWith (day : ℕ) (file : File) (before : Tables) (lent : Workspace) (answerBefore : List ℕ) (after : Tables) (left : Workspace) (answerAfter : List ℕ) : Type 0 where
  -- The answer and the tables as `checker_check` leaves them.
  pub exported : Exported day file before answerBefore after answerAfter
  -- An answer slice of fewer than seven cells: the workspace is left as it was.
  pub workspace_left : length answerBefore < 7 → left ≡ lent
  -- Otherwise its node table and its table of origins as the check leaves them. What its array of values holds is left to the program where
  -- records were read; for reasons 1 and 2 it is untouched.
  pub nodes : 7 ≤ length answerBefore → left.nodes ≡ nodes_given (reading file (lengths_of before)) lent.nodes
  pub origins : 7 ≤ length answerBefore → left.origins ≡ origins_given (reading file (lengths_of before)) lent.origins
  pub values : 7 ≤ length answerBefore → length left.values ≡ 524416
  pub values_left : 7 ≤ length answerBefore → (reason : Reason) → reading file (lengths_of before) ≡ untouched reason → left.values ≡ lent.values
