-- Environments over the node table: what is looked up in a derivation with bindings in range is in range.
use mathlib.Core.Path.{◌≡◌, refl, sym, subst}
use mathlib.Core.Bool.{Bool, true, false}
use mathlib.Core.Option.{Option, none, some}
use mathlib.Core.List.{List, [], ◌∷◌}
use Prim.Native.Nat.{ℕ, ◌+◌, ◌-◌, ◌≤◌, ◌<◌}
use native.Mathlib.Omega.{arith}
use lib.Dec.{leb}
use Rattle.record.specs.Record.{pick}
use Rattle.unification.specs.Environment.{Binding, Environment, extend}
use Rattle.unification.specs.Nodes.{is_variable}
use Rattle.unification.specs.Row.{Expression, Variable, same}
use Rattle.unification.specs.ValueArray.{InStep}
use Rattle.unification.proofs.Ranges.{Kept}
use Rattle.unification.proofs.Tests.{same_eq, some_not_none, some_injective}
use Rattle.derivation.specs.Derivation.{input, Derivation, resolve, factor, raise, maximum_index, raise_answer, joined, lookup}
use Rattle.loading.specs.Loaded.{BindingsIn}
use Rattle.putting.specs.Putting.{AllIn}
use borrow.Author.Tests.{leb-false}

-- A variable of the table at an index from 1 to m; and an environment between such variables and expressions of the table.
abbrev pub VariableIn : List ℕ → ℕ → Variable → Type 0
VariableIn N m x = InStep N m x × (is_variable N x.0 ≡ true)

abbrev pub KeptIn : List ℕ → ℕ → Environment → Type 0
KeptIn N m ρ = Kept (VariableIn N m) (InStep N m) ρ

-- An expression of a step is one of any larger step.
pub in_larger : {N : List ℕ} {m n : ℕ} {e : Expression} → m ≤ n → InStep N m e → InStep N n e
in_larger l g = let h = g.high in record { row = g.row; low = g.low; high = omega arith }

pub in_raised : {N : List ℕ} {n : ℕ} {e : Expression} (m : ℕ) → InStep N n e → InStep N (m + n) (raise m e)
in_raised m g = let l = g.low in let h = g.high in record { row = g.row; low = omega arith; high = omega arith }

pub extend_in : (N : List ℕ) (m : ℕ) (ρ : Environment) (bs : List Binding) → AllIn N m bs → KeptIn N m ρ → KeptIn N m (extend ρ bs)
extend_in N m ρ [] K h x e q = h x e q
extend_in N m ρ (b ∷ bs) K h x e q = try (same x b.0) refl q (λ p. extend_in N m ρ bs K.1 h x e p)
  where
    try : (s : Bool) → same x b.0 ≡ s → pick s (some b.1) (extend ρ bs x) ≡ some e → (extend ρ bs x ≡ some e → VariableIn N m x × InStep N m e) → VariableIn N m x × InStep N m e
    try true s p k = (subst (VariableIn N m) (sym (same_eq x b.0 s)) (K.0.bound, K.0.of_variable), subst (InStep N m) (some_injective p) K.0.value)
    try false s p k = k p

pub joined_in : (N : List ℕ) (m n : ℕ) (ρ ρ' : Environment) → KeptIn N m ρ → KeptIn N n ρ' → KeptIn N (m + n) (joined m ρ ρ')
joined_in N m n ρ ρ' h h' x e q = try (leb x.1 m) refl q
  where
    above_left : m < x.1 → (o : Option Expression) → ρ' (x.0, x.1 - m) ≡ o → raise_answer m o ≡ some e → VariableIn N (m + n) x × InStep N (m + n) e
    above_left l none p q = absurd (some_not_none refl q)
    above_left l (some d) p q =
        let z = h' (x.0, x.1 - m) d p in
        let k = z.0.0.high in
        ((record { row = z.0.0.row; low = omega arith; high = omega arith }, z.0.1), subst (InStep N (m + n)) (some_injective q) (in_raised m z.1))

    try : (b : Bool) → leb x.1 m ≡ b → pick b (ρ x) (raise_answer m (ρ' (x.0, x.1 - m))) ≡ some e → VariableIn N (m + n) x × InStep N (m + n) e
    try true p q = let z = h x e q in ((in_larger (omega arith) z.0.0, z.0.1), in_larger (omega arith) z.1)
    try false p q = above_left (leb-false x.1 m p) (ρ' (x.0, x.1 - m)) refl q

-- Looking up keeps to the table and to the maximum index.
pub lookup_in_step : (N : List ℕ) (d : Derivation) → BindingsIn N d → KeptIn N (maximum_index d) (lookup d)
lookup_in_step N (input number ls) K x e q = absurd (some_not_none refl q)
lookup_in_step N (resolve number l a r ns bs) K x e q =
    extend_in N (maximum_index l + maximum_index r) (joined (maximum_index l) (lookup l) (lookup r)) bs K.2
    (joined_in N (maximum_index l) (maximum_index r) (lookup l) (lookup r) (lookup_in_step N l K.0) (lookup_in_step N r K.1)) x e q
lookup_in_step N (factor number d a b bs) K x e q = extend_in N (maximum_index d) (lookup d) bs K.1 (lookup_in_step N d K.0) x e q
