-- Two cells written: the array stands for the same environment, or for one with a binding more.
use mathlib.Core.Path.{◌≡◌, refl, sym, ap, ◌∙◌, subst}
use mathlib.Core.Bool.{Bool, true, false}
use mathlib.Core.Option.{none, some}
use mathlib.Core.List.{List}
use Prim.Native.Nat.{ℕ, suc, ◌+◌, ◌≤◌, ◌<◌}
use native.Mathlib.Omega.{arith}
use lib.Dec.{eqb}
use lib.ListN.{length, set, length-set}
use lib.Seq.{get_or-set_same, get_or-set_other}
use borrow.Author.Tests.{eqb-true, eqb-false}
use Rattle.record.specs.Record.{pick}
use Rattle.unification.specs.Environment.{follow, Environment, Ends}
use Rattle.unification.specs.Nodes.{is_variable, part, HasRow, node_row, NodesOk}
use Rattle.unification.specs.Row.{Expression, same}
use Rattle.unification.specs.Unification.{most_links}
use Rattle.unification.specs.ValueArray.{slot, put, cell_of, index_of, InStep, Onward, one_link, more_links, Models}
use Rattle.unification.proofs.Meaning.{with}
use Rattle.unification.proofs.Tests.{same_eq, same_refl, some_not_none, some_injective}

-- The cells of a variable are its own, and inside the array.
module _ (N : List ℕ) (top : ℕ) (T : NodesOk N) (fits : top ≤ 4096) (x : Expression) (gx : InStep N top x) (vx : is_variable N x.0 ≡ true) where
  pub slot_in : slot N x.0 x.1 + 1 < 524416
  slot_in = let p = T.number x.0 gx.row vx in let h = gx.high in omega arith

  pub slot_eq : (y : Expression) → InStep N top y → is_variable N y.0 ≡ true → slot N y.0 y.1 ≡ slot N x.0 x.1 → y ≡ x
  slot_eq y gy vy h =
      let a = T.number x.0 gx.row vx in
      let b = T.number y.0 gy.row vy in
      let p : part N y.0 0 ≡ part N x.0 0 = omega arith in
      let q : y.1 ≡ x.1 = omega arith in
      let o = T.once y.0 x.0 gy.row gx.row vy vx p in
      λ i. (o i, q i)

  module _ (A : List ℕ) (room : length A ≡ 524416) (a b : ℕ) where
    pub put_cell : cell_of N (put A (slot N x.0 x.1) a b) x ≡ a
    unfolding put
    put_cell =
        let l = slot_in in
        get_or-set_other (set A (slot N x.0 x.1) a) (slot N x.0 x.1 + 1) (slot N x.0 x.1) b 0 (λ h. omega arith)
        ∙ get_or-set_same A (slot N x.0 x.1) a 0 (omega arith)

    pub put_index : index_of N (put A (slot N x.0 x.1) a b) x ≡ b
    unfolding put
    put_index =
        let l = slot_in in
        get_or-set_same (set A (slot N x.0 x.1) a) (slot N x.0 x.1 + 1) b 0 (simp length-set (omega arith))

  module _ (A : List ℕ) (a b : ℕ) (y : Expression) (d : slot N y.0 y.1 ≡ slot N x.0 x.1 → ⊥) where
    pub put_cell_other : cell_of N (put A (slot N x.0 x.1) a b) y ≡ cell_of N A y
    unfolding put
    put_cell_other =
        get_or-set_other (set A (slot N x.0 x.1) a) (slot N x.0 x.1 + 1) (slot N y.0 y.1) b 0 (λ h. omega arith)
        ∙ get_or-set_other A (slot N x.0 x.1) (slot N y.0 y.1) a 0 d

    pub put_index_other : index_of N (put A (slot N x.0 x.1) a b) y ≡ index_of N A y
    unfolding put
    put_index_other =
        get_or-set_other (set A (slot N x.0 x.1) a) (slot N x.0 x.1 + 1) (slot N y.0 y.1 + 1) b 0 (λ h. d (omega arith))
        ∙ get_or-set_other A (slot N x.0 x.1) (slot N y.0 y.1 + 1) a 0 (λ h. omega arith)

pub length_put : (A : List ℕ) (at a b : ℕ) → length (put A at a b) ≡ length A
unfolding put
length_put A at a b = length-set (set A at a) (at + 1) b ∙ length-set A at a

-- Following ends.
abbrev pub Endings : List ℕ → Environment → Type 0
Endings N ρ = (e : Expression) → HasRow N e.0 → Ends (follow (node_row N) most_links ρ e)

module _ (N : List ℕ) (top : ℕ) (A : List ℕ) (ρ : Environment) (M : Models N top A ρ) (x : Expression) (gx : InStep N top x) (vx : is_variable N x.0 ≡ true) (t k : ℕ) where
  -- The new value serves an environment that has what ρ has, but at x.
  models_with : (ρ' : Environment) → ((y : Expression) → ¬ (y ≡ x) → ρ y ≡ none → ρ' y ≡ none) → ((y d : Expression) → Onward N ρ y d → Onward N ρ' y d) → Onward N ρ' x (t, k) → ((e d : Expression) → ρ' e ≡ some d → InStep N top e → InStep N top d) → Endings N ρ' → Models N top (put A (slot N x.0 x.1) (suc t) k) ρ'
  models_with ρ' out still o kept ends = record { table = M.table; fits = M.fits; room = rw length_put M.room; free = λ y gy vy h. free' y gy vy (eqb (slot N y.0 y.1) (slot N x.0 x.1)) refl h; full = λ y s gy vy h. full' y s gy vy (eqb (slot N y.0 y.1) (slot N x.0 x.1)) refl h; kept = kept; ends = ends }
    where
      A' : List ℕ
      A' = put A (slot N x.0 x.1) (suc t) k

      free' : (y : Expression) → InStep N top y → is_variable N y.0 ≡ true → (b : Bool) → eqb (slot N y.0 y.1) (slot N x.0 x.1) ≡ b → cell_of N (put A (slot N x.0 x.1) (suc t) k) y ≡ 0 → ρ' y ≡ none
      free' y gy vy true q h =
          let e = slot_eq N top M.table M.fits x gx vx y gy vy (eqb-true _ _ q) in
          let z = put_cell N top M.table M.fits x gx vx A M.room (suc t) k in
          let z' : suc t ≡ 0 = sym z ∙ ap (λ (u : Expression). cell_of N (put A (slot N x.0 x.1) (suc t) k) u) (sym e) ∙ h in
          absurd (omega arith)
      free' y gy vy false q h =
          let d = eqb-false (slot N y.0 y.1) (slot N x.0 x.1) q in
          out y (λ e. d (ap (λ (u : Expression). slot N u.0 u.1) e)) (M.free y gy vy (sym (put_cell_other N top M.table M.fits x gx vx A (suc t) k y d) ∙ h))

      full' : (y : Expression) (s : ℕ) → InStep N top y → is_variable N y.0 ≡ true → (b : Bool) → eqb (slot N y.0 y.1) (slot N x.0 x.1) ≡ b → cell_of N (put A (slot N x.0 x.1) (suc t) k) y ≡ suc s → Onward N ρ' y (s, index_of N (put A (slot N x.0 x.1) (suc t) k) y)
      full' y s gy vy true q h =
          let e = slot_eq N top M.table M.fits x gx vx y gy vy (eqb-true _ _ q) in
          let z = put_cell N top M.table M.fits x gx vx A M.room (suc t) k in
          let w = put_index N top M.table M.fits x gx vx A M.room (suc t) k in
          let z' : suc t ≡ suc s = sym z ∙ ap (λ (u : Expression). cell_of N (put A (slot N x.0 x.1) (suc t) k) u) (sym e) ∙ h in
          let p : t ≡ s = omega arith in
          let w' : k ≡ index_of N (put A (slot N x.0 x.1) (suc t) k) y = sym w ∙ ap (λ (u : Expression). index_of N (put A (slot N x.0 x.1) (suc t) k) u) (sym e) in
          subst (λ (u : Expression × Expression). Onward N ρ' u.0 u.1) (λ i. (sym e i, (p i, w' i))) o
      full' y s gy vy false q h =
          let d = eqb-false (slot N y.0 y.1) (slot N x.0 x.1) q in
          let f = M.full y s gy vy (sym (put_cell_other N top M.table M.fits x gx vx A (suc t) k y d) ∙ h) in
          still y _ (subst (λ (j : ℕ). Onward N ρ y (s, j)) (sym (put_index_other N top M.table M.fits x gx vx A (suc t) k y d)) f)

  -- A shorter way along the same chain.
  pub models_put : Onward N ρ x (t, k) → Models N top (put A (slot N x.0 x.1) (suc t) k) ρ
  models_put o = models_with ρ (λ y d p. p) (λ y d p. p) o M.kept M.ends

with_some : (ρ : Environment) (x : Expression) (e : Expression) → ρ x ≡ none → (y d : Expression) → ρ y ≡ some d → with ρ x e y ≡ some d
with_some ρ x e f y d p = try (same y x) refl
  where
    try : (b : Bool) → same y x ≡ b → pick b (some e) (ρ y) ≡ some d
    try true q = absurd (some_not_none (ap ρ (same_eq y x q) ∙ f) p)
    try false q = p

with_none : (ρ : Environment) (x : Expression) (e : Expression) (y : Expression) → ¬ (y ≡ x) → ρ y ≡ none → with ρ x e y ≡ none
with_none ρ x e y d p = try (same y x) refl
  where
    try : (b : Bool) → same y x ≡ b → pick b (some e) (ρ y) ≡ none
    try true q = absurd (d (same_eq y x q))
    try false q = p

onward_with : (N : List ℕ) (ρ : Environment) (x : Expression) (e : Expression) → ρ x ≡ none → (y d : Expression) → Onward N ρ y d → Onward N (with ρ x e) y d
onward_with N ρ x e f y d (one_link v p) = one_link v (with_some ρ x e f y d p)
onward_with N ρ x e f y d (more_links {d = c} v p o) = more_links v (with_some ρ x e f y c p) (onward_with N ρ x e f c d o)

-- A new binding.
pub models_bind : (N : List ℕ) (top : ℕ) (A : List ℕ) (ρ : Environment) → Models N top A ρ → (x : Expression) → InStep N top x → is_variable N x.0 ≡ true → (t k : ℕ) → ρ x ≡ none → InStep N top (t, k) → Endings N (with ρ x (t, k)) → Models N top (put A (slot N x.0 x.1) (suc t) k) (with ρ x (t, k))
models_bind N top A ρ M x gx vx t k f g ends = models_with N top A ρ M x gx vx t k (with ρ x (t, k)) (with_none ρ x (t, k)) (onward_with N ρ x (t, k) f) (one_link vx (rw same_refl)) kept ends
  where
    kept : (e d : Expression) → with ρ x (t, k) e ≡ some d → InStep N top e → InStep N top d
    kept e d p ge = try (same e x) p
      where
        try : (b : Bool) → pick b (some (t, k)) (ρ e) ≡ some d → InStep N top d
        try true q = subst (InStep N top) (some_injective q) g
        try false q = M.kept e d q ge
