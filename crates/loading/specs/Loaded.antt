-- Document 01, "Indices and bindings", by document 000's array of values: every binding that looking up in a clause can find is put
-- into the array, a clause's own before those of its parents, with indices raised as on the way back from a right parent.
use Rattle.std.specs.Prelude.{◌≡◌, true, List, [], ◌∷◌, ℕ, zero, suc, ◌+◌, ◌-◌, ◌≤◌, leb, length}
use Rattle.std.proofs.Math.Option.{Option, none, some}
use Rattle.record.specs.Record.{pick}
use Rattle.unification.specs.Environment.{Binding, Environment}
use Rattle.unification.specs.Nodes.{is_variable, NodesOk}
use Rattle.unification.specs.Repeated.{or_else}
use Rattle.unification.specs.Row.{Expression, Variable}
use Rattle.unification.specs.ValueArray.{cell_of, index_of, InStep}
use Rattle.derivation.specs.Derivation.{input, Derivation, resolve, factor, maximum_index, raise_answer, joined, lookup}
use Rattle.derivation.specs.Stored.{Stored}
use Rattle.putting.specs.Putting.{put_bindings, AllIn}

-- What the array holds for a variable at an index: nothing where the cell is free.
abbrev pub held_value : ℕ → ℕ → Option Expression
held_value zero i = none
held_value (suc r) i = some (r, i)

abbrev pub read_cell : List ℕ → List ℕ → Environment
read_cell N A x = held_value (cell_of N A x) (index_of N A x)

-- An environment moved up by o: an index above o is lowered by o, looked up, and the answer raised again. `within` has nothing past
-- the m indices that follow o.
abbrev pub above : ℕ → Environment → Environment
above o ρ x = pick (leb x.1 o) none (raise_answer o (ρ (x.0, x.1 - o)))

abbrev pub within : ℕ → ℕ → Environment → Environment
within o m ρ x = pick (leb x.1 (o + m)) (above o ρ x) none

-- All bindings of a derivation put into the array: its own, then those of its parents, the right one's raised by the left maximum index.
abbrev pub put_clause : List ℕ → ℕ → Derivation → List ℕ → List ℕ
put_clause N o (input number ls) A = A
put_clause N o (resolve number l a r ns bs) A = put_clause N (o + maximum_index l) r (put_clause N o l (put_bindings N o bs A))
put_clause N o (factor number d a b bs) A = put_clause N o d (put_bindings N o bs A)

-- The variables bound are free in ρ.
abbrev pub AllFree : Environment → List Binding → Type 0
AllFree ρ [] = Unit {0}
AllFree ρ (b ∷ bs) = (ρ b.0 ≡ none) × AllFree ρ bs

-- All bindings of a derivation are in range, each in the clause that owns it, and of a variable that its parents do not bind.
abbrev pub BindingsIn : List ℕ → Derivation → Type 0
BindingsIn N (input number ls) = Unit {0}
BindingsIn N (resolve number l a r ns bs) =
    BindingsIn N l × BindingsIn N r × AllIn N (maximum_index l + maximum_index r) bs × AllFree (joined (maximum_index l) (lookup l) (lookup r)) bs
BindingsIn N (factor number d a b bs) = BindingsIn N d × AllIn N (maximum_index d) bs × AllFree (lookup d) bs

-- What loading clause c at offset o asks: the lengths of node table N, table of origins O and array A, and a derivation that is clause c of the tables, whose
-- bindings are in range and whose indices, raised by o, are within document 01's limit.
pub record Loadable (O C B N A : List ℕ) (c o : ℕ) : Type 0 where
  pub nodes : NodesOk N
  pub node_room : length N ≡ 32768
  pub origin_room : length O ≡ 32768
  pub room : length A ≡ 524416
  pub derivation : Derivation
  pub stored : Stored O C B c derivation
  pub bindings : BindingsIn N derivation
  pub fits : o + maximum_index derivation ≤ 4096

-- What it says of the array A' left: every cell, by its definition; and what a variable reads: what is looked up in the clause, and else
-- what was read before.
pub record Loaded (O C B N A A' : List ℕ) (c o : ℕ) : Type 0 where
  pub room : length A' ≡ 524416
  pub cells : (d : Derivation) → Stored O C B c d → A' ≡ put_clause N o d A
  pub reads : (d : Derivation) → Stored O C B c d → (x : Variable) → InStep N 4096 x → is_variable N x.0 ≡ true
      → read_cell N A' x ≡ or_else (within o (maximum_index d) (lookup d) x) (read_cell N A x)
