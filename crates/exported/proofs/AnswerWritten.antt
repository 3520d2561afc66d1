-- The contract of the exported check from that of the check.
use mathlib.Core.Path.{◌≡◌, refl, ap, ◌∙◌}
use mathlib.Core.List.{List, [], ◌∷◌, ◌++◌}
use Prim.Native.Nat.{ℕ, ◌<◌, ◌≤◌}
use native.Mathlib.Omega.{arith}
use lib.ListN.{length, drop, set}
use Rattle.record.specs.Record.{File}
use Rattle.checker.specs.Contract.{Checked, Workspace, CheckedWith}
use Rattle.answer.specs.Given.{verdict_coded, answer_given}
use Rattle.verdict.specs.Tables.{Tables}
use Rattle.answer.specs.declared.Answer.{Answer}
use Rattle.exported.specs.Exported.{Exported}
use Rattle.exported.specs.ExportedWith.{ExportedWith}

-- The two ways that the exported check can go.
pub left_alone : (day : ℕ) (F : File) (t : Tables) (A : List ℕ) → length A < 7 → Exported day F t A t A
left_alone day F t A l = record {
  answer_left = λ m. refl;
  symbols_left = λ m. refl;
  rows_left = λ m. refl;
  clauses_left = λ m. refl;
  bindings_left = λ m. refl;
  answer = λ m. absurd (omega arith);
  symbols = λ m. absurd (omega arith);
  rows = λ m. absurd (omega arith);
  clauses = λ m. absurd (omega arith);
  bindings = λ m. absurd (omega arith);
}

pub answered : (day : ℕ) (F : File) (t : Tables) (A : List ℕ) (a : Answer) (here : Tables) (B : List ℕ) → 7 ≤ length A → Checked day F t a here → B ≡ answer_given a ++ drop 7 A → Exported day F t A here B
answered day F t A a here B l C q = record {
  answer_left = λ m. absurd (omega arith);
  symbols_left = λ m. absurd (omega arith);
  rows_left = λ m. absurd (omega arith);
  clauses_left = λ m. absurd (omega arith);
  bindings_left = λ m. absurd (omega arith);
  answer = λ m. q ∙ ap (λ (v : List ℕ). v ++ drop 7 A) C.answer;
  symbols = λ m. C.symbols;
  rows = λ m. C.rows;
  clauses = λ m. C.clauses;
  bindings = λ m. C.bindings;
}

-- The same with a workspace.
pub left_alone_with : (day : ℕ) (file : File) (before : Tables) (w : Workspace) (answer : List ℕ) → length answer < 7 → ExportedWith day file before w answer before w answer
left_alone_with day file before w answer l = record {
  exported = left_alone day file before answer l;
  workspace_left = λ _. refl;
  nodes = λ m. absurd (omega arith);
  origins = λ m. absurd (omega arith);
  values = λ m. absurd (omega arith);
  values_left = λ m reason q. absurd (omega arith);
}

pub answered_with : (day : ℕ) (file : File) (before : Tables) (w : Workspace) (answer : List ℕ) (a : Answer) (after : Tables) (left : Workspace) (answer' : List ℕ) → 7 ≤ length answer → CheckedWith day file before w a after left → answer' ≡ answer_given a ++ drop 7 answer
    → ExportedWith day file before w answer after left answer'
answered_with day file before w answer a after left answer' l X q = record {
  exported = answered day file before answer a after answer' l X.checked q;
  workspace_left = λ m. absurd (omega arith);
  nodes = λ _. X.nodes;
  origins = λ _. X.origins;
  values = λ _. X.values;
  values_left = λ _. X.values_left;
}
