-- The contracts of the functions that number a line's variables. What their numbers are stands in `Appearance` of the crate appearance. In the contract of `write_unit`,
-- by which both programs print, stands `line_of`; the rest only says how the parts of the program fit together.
use Rattle.std.specs.Prelude.{◌≡◌, Bool, true, false, List, [], ◌∷◌, ℕ, suc, ◌+◌, ◌*◌, ◌≤◌, ◌<◌, eqb, ltb, length, get_or}
use Rattle.record.specs.Record.{pick}
use Rattle.unification.specs.Nodes.{is_variable, part, HasRow, NodesOk}
use Rattle.unification.specs.Row.{Row, Variable}
use Rattle.verdict.specs.Text.{number_and_index}
use Rattle.verdict.specs.Readout.{LineWriter, clause_line}
use Rattle.appearance.specs.Appearance.{position, noted, number_in, canonical_line}
use Rattle.numbering.specs.declared.Naming.{Naming}
use Rattle.numbering.specs.declared.Naming.TheVariants.{ByIndex, ByAppearance}

-- The line of a clause, by how variables are named; and how a variable is named, where `all` are those that the line shows.
abbrev pub line_of : Naming → LineWriter
line_of ByIndex = clause_line
line_of ByAppearance = canonical_line

abbrev pub name_of : Naming → (ℕ → Row) → List Variable → Variable → List ℕ
name_of ByIndex row all = number_and_index row
name_of ByAppearance row all = number_in all

-- The cell of a variable: 64 for each index.
abbrev pub number_cell : List ℕ → Variable → ℕ
number_cell N x = 64 * x.1 + part N x.0 0

-- Variables that get numbers: rows of the table, at an index of a step.
pub record Numberable (N : List ℕ) (x : Variable) : Type 0 where
  pub row : HasRow N x.0
  pub variable : is_variable N x.0 ≡ true
  pub index : x.1 ≤ 4096

-- A variable has the number i: its cell holds it, and the list has the cell there. The same for several, numbered from i on.
pub record NumberAt (N K L : List ℕ) (i : ℕ) (x : Variable) : Type 0 where
  pub numberable : Numberable N x
  pub cell : get_or K (number_cell N x) 0 ≡ i
  pub listed : get_or L i 0 ≡ number_cell N x

abbrev pub NumbersFrom : List ℕ → List ℕ → List ℕ → ℕ → List Variable → Type 0
NumbersFrom N K L i [] = Unit {0}
NumbersFrom N K L i (x ∷ xs) = NumberAt N K L i x × NumbersFrom N K L (suc i) xs

-- Room for the cells of all variables, and for a list of all that a line can show. By number and index none is needed.
pub record RoomForNumbers (K L : List ℕ) : Type 0 where
  pub cells : length K ≡ 262208
  pub list : length L ≡ 8192

abbrev pub NumberRoom : Naming → List ℕ → List ℕ → Type 0
NumberRoom ByIndex K L = Unit {0}
NumberRoom ByAppearance K L = RoomForNumbers K L

-- The variables seen so far have the numbers from 0 on.
pub record Numbers (N K L : List ℕ) (count : ℕ) (seen : List Variable) : Type 0 where
  pub room : RoomForNumbers K L
  pub counted : count ≡ length seen
  pub each : NumbersFrom N K L 0 seen

abbrev pub Numbered : Naming → List ℕ → List ℕ → List ℕ → ℕ → List Variable → Type 0
Numbered ByIndex N K L count seen = Unit {0}
Numbered ByAppearance N K L count seen = Numbers N K L count seen

-- Whether the list has a cell at a number below the count; and the count after a number was taken.
abbrev pub has_number : List ℕ → ℕ → ℕ → ℕ → Bool
has_number L count n cell = pick (ltb n count) (eqb (get_or L n 0) cell) false

abbrev pub count_after : ℕ → ℕ → ℕ
count_after count n = pick (eqb n count) (suc count) count

-- What numbering a variable asks: the node table in order, numbers for some variables, and room for one more.
pub record NumberReady (N K L : List ℕ) (count : ℕ) (x : Variable) : Type 0 where
  pub table : NodesOk N
  pub numberable : Numberable N x
  pub seen : List Variable
  pub numbers : Numbers N K L count seen
  pub room : count < 8192

-- What it says, whichever variables have numbers: the variable has its own among them and is one of them now.
abbrev pub TakesNumber : List ℕ → List ℕ → List ℕ → List ℕ → List ℕ → ℕ → Variable → ℕ → Type 0
TakesNumber N K K' L L' count x n =
    (seen : List Variable) → Numbers N K L count seen → (n ≡ position seen x) × Numbers N K' L' (count_after count n) (noted seen x)
