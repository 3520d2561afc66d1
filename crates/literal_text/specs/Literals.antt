-- The contract of the function that writes a literal into the buffer. What its text is stands in `Text` of the crate verdict; this file only says how the parts of
-- the program fit together.
use Rattle.std.specs.Prelude.{Bool, List, ◌∷◌, ℕ}
use Rattle.unification.specs.Environment.{Environment}
use Rattle.unification.specs.Row.{Row, Expression, Variable, written_out}
use Rattle.unification.specs.Term.{Term}
use Rattle.unification.specs.ValueArray.{Models}
use Rattle.verdict.specs.Text.{literal_text}
use Rattle.appearance.specs.Appearance.{shown}
use Rattle.text.specs.Buffer.{Wrote}
use Rattle.numbering.specs.Numbering.{name_of, Numbered}
use Rattle.appearance.specs.Growing.{Longer}
use Rattle.numbering.specs.declared.Naming.{Naming}
use Rattle.names.specs.declared.Place.{Place}
use Rattle.terms.specs.Writing.{Writable}

-- A text was written, in every line that goes on from the variables seen after it; these have numbers, and the array still stands for ρ.
pub record PartWritten (naming : Naming) (N : List ℕ) (top : ℕ) (A : List ℕ) (ρ : Environment) (row : ℕ → Row) (T T' K L : List ℕ) (at : ℕ) (text : (Variable → List ℕ) → List ℕ) (after : List Variable) (p : Place) : Type 0 where
  pub models : Models N top A ρ
  pub numbered : Numbered naming N K L p.count after
  pub wrote : (all : List Variable) → Longer after all → Wrote T T' at p.end (text (name_of naming row all))

-- A literal with an expression for its atom: a blank, and its text.
abbrev pub WritesLiteral : Naming → List ℕ → List ℕ → List ℕ → List ℕ → List ℕ → List ℕ → List ℕ → List ℕ → List ℕ → ℕ → ℕ → Bool → Expression → Place → Type 0
WritesLiteral naming N A A' T T' K K' L L' count at positive e p =
    (top : ℕ) (ρ : Environment) (row : ℕ → Row) (term : ℕ → Term ℕ) (σ : Variable → Term Variable) → Writable N top A ρ row term σ e
    → (seen : List Variable) → Numbered naming N K L count seen
    → PartWritten naming N top A' ρ row T T' K' L' at (λ name. 32 ∷ literal_text name (positive, written_out term σ e)) (shown seen (positive, written_out term σ e)) p
