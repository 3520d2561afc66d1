-- The array of values (document 000, section 8): two cells for each variable number and index, as the program keeps them while it
-- works on a step. They hold a row, plus 1, and an index; 0 is a free cell.
use Rattle.std.specs.Prelude.{◌≡◌, true, List, ℕ, suc, ◌+◌, ◌*◌, ◌≤◌, length, get_or, set}
use Rattle.std.proofs.Math.Option.{none, some}
use Rattle.unification.specs.Environment.{follow, Environment, Ends}
use Rattle.unification.specs.Nodes.{is_variable, part, HasRow, node_row, NodesOk}
use Rattle.unification.specs.Row.{Expression}
use Rattle.unification.specs.Unification.{most_links}

-- The cells of a variable at an index.
abbrev pub slot : List ℕ → ℕ → ℕ → ℕ
slot N r i = 128 * i + 2 * part N r 0

-- Two cells written.
unfoldable pub put : List ℕ → ℕ → ℕ → ℕ → List ℕ
put A at a b = set (set A at a) (at + 1) b

abbrev pub cell_of : List ℕ → List ℕ → Expression → ℕ
cell_of N A e = get_or A (slot N e.0 e.1) 0

abbrev pub index_of : List ℕ → List ℕ → Expression → ℕ
index_of N A e = get_or A (slot N e.0 e.1 + 1) 0

-- An expression of the table at an index up to the step's maximum index.
pub record InStep (N : List ℕ) (top : ℕ) (e : Expression) : Type 0 where
  pub row : HasRow N e.0
  pub low : 1 ≤ e.1
  pub high : e.1 ≤ top

-- d is reached from e over links of ρ, one at least.
pub data Onward (N : List ℕ) (ρ : Environment) : Expression → Expression → Type 0 where
  one_link : {e d : Expression} → is_variable N e.0 ≡ true → ρ e ≡ some d → Onward N ρ e d
  more_links : {e d c : Expression} → is_variable N e.0 ≡ true → ρ e ≡ some d → Onward N ρ d c → Onward N ρ e c

-- The array stands for ρ: a cell is free where ρ has nothing, and a full one holds what a chain of ρ leads to. Which of the
-- equivalent links a cell holds is left to the program, so that chains can be shortened on the way.
pub record Models (N : List ℕ) (top : ℕ) (A : List ℕ) (ρ : Environment) : Type 0 where
  pub table : NodesOk N
  pub fits : top ≤ 4096
  pub room : length A ≡ 524416
  pub free : (e : Expression) → InStep N top e → is_variable N e.0 ≡ true → cell_of N A e ≡ 0 → ρ e ≡ none
  pub full : (e : Expression) (t : ℕ) → InStep N top e → is_variable N e.0 ≡ true → cell_of N A e ≡ suc t → Onward N ρ e (t, index_of N A e)
  pub kept : (e d : Expression) → ρ e ≡ some d → InStep N top e → InStep N top d
  pub ends : (e : Expression) → HasRow N e.0 → Ends (follow (node_row N) most_links ρ e)
