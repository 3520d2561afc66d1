-- The contract of the exported check that is told a form (document 02, Q-11): what `checker_check_form` promises of every number for a form, every day, every file, every four tables and
-- every answer slice, with no condition on the call. A form goes by the length of its records.
use Rattle.std.specs.Prelude.{◌≡◌, List, ℕ}
use Rattle.record.specs.Record.{old_file, new_file}
use Rattle.verdict.specs.Tables.{Tables}
use Rattle.exported.specs.Exported.{Exported}

pub record ExportedForm (number day : ℕ) (bytes : List ℕ) (before : Tables) (answerBefore : List ℕ) (after : Tables) (answerAfter : List ℕ) : Type 0 where
  -- 16: the old form, and 20: the new one.
  pub old : number ≡ 16 → Exported day (old_file bytes) before answerBefore after answerAfter
  pub new : number ≡ 20 → Exported day (new_file bytes) before answerBefore after answerAfter
  -- Another number: the answer slice and every table are left as they were.
  pub answer_left : ¬ (number ≡ 16) → ¬ (number ≡ 20) → answerAfter ≡ answerBefore
  pub tables_left : ¬ (number ≡ 16) → ¬ (number ≡ 20) → after ≡ before
