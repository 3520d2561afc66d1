-- Bindings put into document 000's array of values, with their indices raised by an offset, as on the way back from a right parent.
use Rattle.std.specs.Prelude.{◌≡◌, true, List, [], ◌∷◌, ℕ, ◌+◌, ◌≤◌, ◌<◌, length, get_or}
use Rattle.unification.specs.Bindings.{bindings_from}
use Rattle.unification.specs.Environment.{Binding}
use Rattle.unification.specs.Nodes.{is_variable, part, NodesOk}
use Rattle.unification.specs.ValueArray.{slot, put, InStep}

-- A binding put into the array, its indices raised by o; and several, the oldest first.
abbrev pub put_binding : List ℕ → ℕ → Binding → List ℕ → List ℕ
put_binding N o b A = put A (slot N b.0.0 (o + b.0.1)) (b.1.0 + 1) (o + b.1.1)

abbrev pub put_bindings : List ℕ → ℕ → List Binding → List ℕ → List ℕ
put_bindings N o [] A = A
put_bindings N o (b ∷ bs) A = put_binding N o b (put_bindings N o bs A)

-- A binding of a clause whose maximum index is m: of a variable of the table, to an expression of the table, at indices from 1 to m.
pub record BindingIn (N : List ℕ) (m : ℕ) (b : Binding) : Type 0 where
  pub bound : InStep N m b.0
  pub of_variable : is_variable N b.0.0 ≡ true
  pub value : InStep N m b.1

abbrev pub AllIn : List ℕ → ℕ → List Binding → Type 0
AllIn N m [] = Unit {0}
AllIn N m (b ∷ bs) = BindingIn N m b × AllIn N m bs

-- What putting n bindings of the table into the array asks, from the first on at offset o: they are in range; and what it says.
pub record Puttable (B N A : List ℕ) (first n o : ℕ) : Type 0 where
  pub nodes : NodesOk N
  pub node_room : length N ≡ 32768
  pub room : length A ≡ 524416
  pub top : ℕ
  pub all : AllIn N top (bindings_from B first n)
  pub fits : o + top ≤ 4096

pub record BindingsPut (B N A A' : List ℕ) (first n o : ℕ) : Type 0 where
  pub room : length A' ≡ 524416
  pub cells : A' ≡ put_bindings N o (bindings_from B first n) A

-- What putting the binding at cell `at` asks: its four cells are inside the table, and it is in range at offset o; and the array that it leaves.
pub record BindingThere (B N A : List ℕ) (at o : ℕ) : Type 0 where
  pub node_room : length N ≡ 32768
  pub room : length A ≡ 524416
  pub inside : at + 3 < length B
  pub variable : get_or B at 0 < 4096
  pub number : part N (get_or B at 0) 0 < 64
  pub index : o + get_or B (at + 1) 0 ≤ 4096
  pub row : get_or B (at + 2) 0 < 4096
  pub value : o + get_or B (at + 3) 0 ≤ 4096

unfoldable pub put_cells : List ℕ → List ℕ → List ℕ → ℕ → ℕ → List ℕ
put_cells B N A at o = put A (slot N (get_or B at 0) (o + get_or B (at + 1) 0)) (get_or B (at + 2) 0 + 1) (o + get_or B (at + 3) 0)
