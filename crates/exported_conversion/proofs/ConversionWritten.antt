-- The contract of the exported conversions from that of the conversions.
use mathlib.Core.Path.{◌≡◌, refl, ap, ◌∙◌}
use mathlib.Core.List.{List, ◌++◌}
use Prim.Native.Nat.{ℕ, ◌<◌, ◌≤◌}
use native.Mathlib.Omega.{arith}
use lib.ListN.{length, drop}
use Rattle.record.specs.Record.{File}
use Rattle.verdict.specs.Tables.{Tables}
use Rattle.writing_answer.specs.Given.{writing_given}
use Rattle.writing_answer.specs.declared.NotWritten.{NotWritten}
use Rattle.std.specs.Prelude.{Result}
use Rattle.convert.specs.Contract.{ConversionAnswered}
use Rattle.exported_conversion.specs.ExportedConversion.{ExportedConversion}

-- The two ways that an exported function can go.
pub conversion_left_alone : (file : File) (t : Tables) (O A : List ℕ) → length A < 4 → ExportedConversion file t O A t O A
conversion_left_alone file t O A l = record {
  answer_left = λ m. refl;
  output_kept = λ m. refl;
  tables_kept = λ m. refl;
  answer = λ m. absurd (omega arith);
  tables = λ m. absurd (omega arith);
  output = λ m. absurd (omega arith);
  promised = λ m. absurd (omega arith);
}

pub conversion_exported : (file : File) (t : Tables) (O A : List ℕ) (m : Result ℕ NotWritten) (here : Tables) (O' A' : List ℕ) → 4 ≤ length A → ConversionAnswered file t O m here O' → A' ≡ writing_given m ++ drop 4 A → ExportedConversion file t O A here O' A'
conversion_exported file t O A m here O' A' l K q = record {
  answer_left = λ x. absurd (omega arith);
  output_kept = λ x. absurd (omega arith);
  tables_kept = λ x. absurd (omega arith);
  answer = λ x. q ∙ ap (λ (v : List ℕ). v ++ drop 4 A) K.answer;
  tables = λ x.
      let s = K.symbols in
      let r = K.rows in
      let c = K.clauses in
      let b = K.bindings in
      λ i. record { symbols = s i; rows = r i; clauses = c i; bindings = b i };
  output = λ x. K.output;
  promised = λ x. K.promised;
}
