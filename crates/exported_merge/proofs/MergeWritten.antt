-- The contract of the exported `merge` from its own.
use mathlib.Core.Path.{◌≡◌, refl, ap, ◌∙◌}
use mathlib.Core.List.{List, ◌++◌}
use Prim.Native.Nat.{ℕ, ◌<◌, ◌≤◌}
use native.Mathlib.Omega.{arith}
use lib.ListN.{length, drop}
use Rattle.verdict.specs.Tables.{Tables}
use Rattle.merge.specs.Contract.{MergeAnswered}
use Rattle.writing_answer.specs.Given.{writing_given}
use Rattle.writing_answer.specs.declared.NotWritten.{NotWritten}
use Rattle.std.specs.Prelude.{Result}
use Rattle.exported_merge.specs.ExportedMerge.{ExportedMerge}

-- The two ways that the exported function can go.
pub merge_left_alone : (first second : List ℕ) (t : Tables) (O A : List ℕ) → length A < 4 → ExportedMerge first second t O A t O A
merge_left_alone first second t O A l = record {
  answer_left = λ m. refl;
  output_kept = λ m. refl;
  tables_kept = λ m. refl;
  answer = λ m. absurd (omega arith);
  tables = λ m. absurd (omega arith);
  output = λ m. absurd (omega arith);
  promised = λ m. absurd (omega arith);
}

pub merge_exported : (first second : List ℕ) (t : Tables) (O A : List ℕ) (m : Result ℕ NotWritten) (here : Tables) (O' A' : List ℕ) → 4 ≤ length A → MergeAnswered first second t O m here O' → A' ≡ writing_given m ++ drop 4 A → ExportedMerge first second t O A here O' A'
merge_exported first second t O A m here O' A' l K q = record {
  answer_left = λ x. absurd (omega arith);
  output_kept = λ x. absurd (omega arith);
  tables_kept = λ x. absurd (omega arith);
  answer = λ x. q ∙ ap (λ (v : List ℕ). v ++ drop 4 A) K.answer;
  tables = λ x.
      let s = K.symbols in
      let r = K.rows in
      let c = K.clauses in
      let b = K.bindings in
      λ i. record { symbols = s i; rows = r i; clauses = c i; bindings = b i };
  output = λ x. K.output;
  promised = λ x. K.promised;
}
