-- The contract of the exported trim from that of the trim.
use mathlib.Core.Path.{◌≡◌, refl, ap, ◌∙◌}
use mathlib.Core.List.{List, ◌++◌}
use Prim.Native.Nat.{ℕ, ◌<◌, ◌≤◌}
use native.Mathlib.Omega.{arith}
use lib.ListN.{length, drop}
use Rattle.verdict.specs.Tables.{Tables}
use Rattle.writing_answer.specs.Given.{writing_given}
use Rattle.writing_answer.specs.declared.NotWritten.{NotWritten}
use Rattle.std.specs.Prelude.{Result}
use Rattle.trim.specs.Contract.{TrimAnswered}
use Rattle.exported_trim.specs.ExportedTrim.{ExportedTrim}

-- The two ways that the exported function can go.
pub trim_left_alone : (day : ℕ) (file : List ℕ) (t : Tables) (O A : List ℕ) → length A < 4 → ExportedTrim day file t O A t O A
trim_left_alone day file t O A l = record {
  answer_left = λ m. refl;
  output_kept = λ m. refl;
  tables_kept = λ m. refl;
  answer = λ m. absurd (omega arith);
  tables = λ m. absurd (omega arith);
  output = λ m. absurd (omega arith);
  promised = λ m. absurd (omega arith);
}

pub trim_exported : (day : ℕ) (file : List ℕ) (t : Tables) (O A : List ℕ) (m : Result ℕ NotWritten) (here : Tables) (O' A' : List ℕ) → 4 ≤ length A → TrimAnswered day file t O m here O' → A' ≡ writing_given m ++ drop 4 A → ExportedTrim day file t O A here O' A'
trim_exported day file t O A m here O' A' l K q = record {
  answer_left = λ x. absurd (omega arith);
  output_kept = λ x. absurd (omega arith);
  tables_kept = λ x. absurd (omega arith);
  answer = λ x. q ∙ ap (λ (v : List ℕ). v ++ drop 4 A) K.answer;
  tables = λ x.
      let s = K.symbols in
      let r = K.rows in
      let c = K.clauses in
      let b = K.bindings in
      λ i. record { symbols = s i; rows = r i; clauses = c i; bindings = b i };
  output = λ x. K.output;
  promised = λ x. K.promised;
}
