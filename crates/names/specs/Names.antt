-- The contracts of the functions that write a variable with its name. This file only says how the parts of the program fit together.
use Rattle.std.specs.Prelude.{◌≡◌, List, ◌∷◌, ℕ, suc, ◌≤◌, ◌<◌, length}
use Rattle.unification.specs.Nodes.{part, NodesOk}
use Rattle.unification.specs.Row.{Row, Variable}
use Rattle.appearance.specs.Appearance.{noted}
use Rattle.verdict.specs.Text.{variable_number}
use Rattle.text.specs.Buffer.{Wrote}
use Rattle.numbering.specs.Numbering.{name_of, Numberable, Numbered}
use Rattle.appearance.specs.Growing.{Longer}
use Rattle.numbering.specs.declared.Naming.{Naming}
use Rattle.names.specs.declared.Place.{Place}

-- What writing a variable asks: the node table in order, numbers for some variables where they are numbered, and room for one more.
pub record NameReady (naming : Naming) (N K L : List ℕ) (count : ℕ) (x : Variable) : Type 0 where
  pub table : NodesOk N
  pub numberable : Numberable N x
  pub seen : List Variable
  pub numbered : Numbered naming N K L count seen
  pub room : count < 8192

-- What it says: whichever variables were seen, the variable is one of them now, and in every line that goes on from there this is its name.
pub record WritesName (naming : Naming) (N T T' : List ℕ) (at : ℕ) (K K' L L' : List ℕ) (count : ℕ) (x : Variable) (w : Place) : Type 0 where
  pub numbered : (seen : List Variable) → Numbered naming N K L count seen → Numbered naming N K' L' w.count (noted seen x)
  pub wrote : (row : ℕ → Row) → variable_number (row x.0) ≡ part N x.0 0 → (seen : List Variable) → Numbered naming N K L count seen
      → (all : List Variable) → Longer (noted seen x) all → Wrote T T' at w.end (118 ∷ name_of naming row all x)
  pub room : length T' ≡ length T
  pub most : w.count ≤ suc count
