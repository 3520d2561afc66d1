-- What the check leaves is what comparing asks for.
use mathlib.Core.List.{List}
use Prim.Native.Nat.{ℕ}
use Rattle.record.specs.Record.{File}
use Rattle.entry.specs.Progress.{tables_with}
use Rattle.checker.specs.Contract.{workspace_with, CheckedWith}
use Rattle.answer.specs.declared.Answer as answer
use Rattle.comparing.specs.Comparing.{Compared}
use Rattle.cover.specs.Contract.{CoversAnswered}
use Rattle.comparing.specs.Given.{Covering}
use Rattle.coverings.proofs.OneAnswer.{one_answer}

pub covers_answered : (day : ℕ) (F : File) (s₀ r₀ C₀ B₀ N₀ O₀ A₀ s₁ r₁ C₁ B₁ N₁ O₁ A₁ : List ℕ) (a : answer.Answer) (c d : ℕ) (r : Covering) → CheckedWith day F (tables_with s₀ r₀ C₀ B₀) (workspace_with N₀ O₀ A₀) a (tables_with s₁ r₁ C₁ B₁) (workspace_with N₁ O₁ A₁)
    → Compared C₁ N₁ O₁ a c d r → CoversAnswered F (tables_with s₀ r₀ C₀ B₀) c d r (tables_with s₁ r₁ C₁ B₁)
covers_answered day F s₀ r₀ C₀ B₀ N₀ O₀ A₀ s₁ r₁ C₁ B₁ N₁ O₁ A₁ a c d r K G =
    let X = G.covering (record { day = day; file = F; before = tables_with s₀ r₀ C₀ B₀; lent = workspace_with N₀ O₀ A₀; symbols = s₁; rows = r₁; bindings = B₁; values = A₁; checked = K }) in
    record {
      answer = X.answer;
      numbers = X.numbers;
      promised = X.promised;
      only = λ other A. one_answer F (tables_with s₀ r₀ C₀ B₀) c d other X.answer A X.promised;
      symbols = K.checked.symbols;
      rows = K.checked.rows;
      clauses = K.checked.clauses;
      bindings = K.checked.bindings;
    }
