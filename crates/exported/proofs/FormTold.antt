-- The check that is told a form by a number that is of none.
use mathlib.Core.Path.{◌≡◌, refl}
use mathlib.Core.List.{List}
use Prim.Native.Nat.{ℕ}
use Rattle.verdict.specs.Tables.{Tables}
use Rattle.exported.specs.ExportedForm.{ExportedForm}

pub told_none : (number day : ℕ) (bytes : List ℕ) (before : Tables) (answerBefore : List ℕ) → ¬ (number ≡ 16) → ¬ (number ≡ 20) → ExportedForm number day bytes before answerBefore before answerBefore
told_none number day bytes before answerBefore n m = record { old = λ z. absurd (n z); new = λ z. absurd (m z); answer_left = λ a b. refl; tables_left = λ a b. refl }
