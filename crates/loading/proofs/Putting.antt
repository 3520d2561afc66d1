-- Loading a clause and its parents, in the numbers of the code.
use mathlib.Core.Path.{◌≡◌, refl, sym, ap, ap₂, ◌∙◌, subst}
use mathlib.Core.Bool.{true}
use mathlib.Core.List.{List}
use Prim.Native.Nat.{ℕ, ◌+◌, ◌≤◌, ◌<◌}
use native.Mathlib.Omega.{arith}
use lib.ListN.{length}
use Rattle.unification.specs.Bindings.{bindings_from}
use Rattle.unification.specs.Environment.{Binding}
use Rattle.unification.specs.Nodes.{is_variable, part}
use Rattle.unification.specs.Repeated.{or_else}
use Rattle.unification.specs.Row.{Variable}
use Rattle.unification.specs.ValueArray.{InStep}
use Rattle.derivation.specs.Derivation.{input, Derivation, resolve, factor, maximum_index, own_bindings, lookup}
use Rattle.loading.specs.Loaded.{read_cell, within, put_clause, BindingsIn, Loadable, Loaded}
use Rattle.putting.specs.Putting.{put_bindings, AllIn, Puttable, BindingsPut}
use Rattle.derivation.specs.Stored.{index_cell, first_cell, bindings_cell, origin_code, Stored, stored_input, stored_resolve, stored_factor}
use Rattle.loading.proofs.LoadedModels.{stored_once}
use Rattle.loading.proofs.Loading.{clause_read}
use Rattle.named_literals.proofs.Origins.{stored_cells}

-- The array's cells decide what a variable reads.
module _ {O C B N A A₂ : List ℕ} {c o : ℕ} (L : Loadable O C B N A c o) where
  all_loaded : length A₂ ≡ 524416 → ((d : Derivation) → Stored O C B c d → A₂ ≡ put_clause N o d A) → Loaded O C B N A A₂ c o
  all_loaded room cells = record { room = room; cells = cells; reads = reads }
    where
      reads : (d : Derivation) → Stored O C B c d → (x : Variable) → InStep N 4096 x → is_variable N x.0 ≡ true
          → read_cell N A₂ x ≡ or_else (within o (maximum_index d) (lookup d) x) (read_cell N A x)
      reads d s x g v =
          let e : L.derivation ≡ d = stored_once L.stored s in
          ap (λ (y : List ℕ). read_cell N y x) (cells d s)
          ∙ clause_read N L.nodes d (subst (BindingsIn N) e L.bindings) o (subst (λ (k : Derivation). o + maximum_index k ≤ 4096) e L.fits) A L.room x g v

-- An input clause has no bindings.
pub input_loaded : {O C B N A : List ℕ} {c o u : ℕ} → Loadable O C B N A c o → u ≡ origin_code O c → u ≡ 1 → Loaded O C B N A A c o
input_loaded {O} {C} {B} {N} {A} {c} {o} L pu one = all_loaded L L.room cells
  where
    cells : (d : Derivation) → Stored O C B c d → A ≡ put_clause N o d A
    cells d (stored_input k q s) = refl
    cells d (stored_resolve k k₁ k₂ la sa qa lb sb qb s) = absurd (omega arith)
    cells d (stored_factor k l t qa qb s) = absurd (omega arith)

own_all : (N : List ℕ) (d : Derivation) → BindingsIn N d → AllIn N (maximum_index d) (own_bindings d)
own_all N (input number ls) K = tt
own_all N (resolve number l a r ns bs) K = K.2
own_all N (factor number d a b bs) K = K.1

-- A clause's own bindings are put first; then its parents can be loaded.
module _ {O C B N A : List ℕ} {c o u first n : ℕ} (L : Loadable O C B N A c o) (pu : u ≡ origin_code O c) (pf : first ≡ first_cell C c) (pn : n ≡ bindings_cell C c) where
  own_is : {f : Derivation} → Stored O C B c f → bindings_from B first n ≡ own_bindings f
  own_is s = ap₂ (bindings_from B) pf pn ∙ (stored_cells s).own

  pub own_puttable : Puttable B N A first n o
  own_puttable = record {
    nodes = L.nodes;
    node_room = L.node_room;
    room = L.room;
    top = maximum_index L.derivation;
    all = subst (AllIn N (maximum_index L.derivation)) (sym (own_is L.stored)) (own_all N L.derivation L.bindings);
    fits = L.fits;
  }

  module _ {A₁ : List ℕ} (G : BindingsPut B N A A₁ first n o) {p : ℕ} (pp : p ≡ part O c 0) where
    own_put : {f : Derivation} → Stored O C B c f → A₁ ≡ put_bindings N o (own_bindings f) A
    own_put s = G.cells ∙ ap (λ (bs : List Binding). put_bindings N o bs A) (own_is s)

    -- A factor's only parent.
    pub to_parent : u ≡ 2 → (p < c) × Loadable O C B N A₁ p o
    to_parent two = try L.derivation L.stored L.bindings L.fits
      where
        try : (d : Derivation) → Stored O C B c d → BindingsIn N d → o + maximum_index d ≤ 4096 → (p < c) × Loadable O C B N A₁ p o
        try d (stored_input k q s) K fits = absurd (omega arith)
        try d (stored_resolve k k₁ k₂ la sa qa lb sb qb s) K fits = absurd (omega arith)
        try d (stored_factor {d = e} k l t qa qb s) K fits =
            (omega arith, record { nodes = L.nodes; node_room = L.node_room; origin_room = L.origin_room; room = G.room; derivation = e; stored = subst (λ (k : ℕ). Stored O C B k e) (sym pp) t; bindings = K.0; fits = fits })

    pub factor_loaded : {A₂ : List ℕ} → u ≡ 2 → Loaded O C B N A₁ A₂ p o → Loaded O C B N A A₂ c o
    factor_loaded {A₂} two P = all_loaded L P.room cells
      where
        cells : (d : Derivation) → Stored O C B c d → A₂ ≡ put_clause N o d A
        cells d (stored_input k q s) = absurd (omega arith)
        cells d (stored_resolve k k₁ k₂ la sa qa lb sb qb s) = absurd (omega arith)
        cells d (stored_factor {d = e} k l t qa qb s) = P.cells e (subst (λ (k : ℕ). Stored O C B k e) (sym pp) t) ∙ ap (put_clause N o e) (own_put (stored_factor k l t qa qb s))

    -- The left parent of a resolvent.
    pub to_left : (u ≡ 1 → ⊥) → (u ≡ 2 → ⊥) → (p < c) × Loadable O C B N A₁ p o
    to_left no₁ no₂ = try L.derivation L.stored L.bindings L.fits
      where
        try : (d : Derivation) → Stored O C B c d → BindingsIn N d → o + maximum_index d ≤ 4096 → (p < c) × Loadable O C B N A₁ p o
        try d (stored_input k q s) K fits = absurd (no₁ (pu ∙ k))
        try d (stored_factor k l t qa qb s) K fits = absurd (no₂ (pu ∙ k))
        try d (stored_resolve {l = l} {r = r} k k₁ k₂ la sa qa lb sb qb s) K fits =
            (omega arith, record { nodes = L.nodes; node_room = L.node_room; origin_room = L.origin_room; room = G.room; derivation = l; stored = subst (λ (k : ℕ). Stored O C B k l) (sym pp) sa; bindings = K.0; fits = omega arith })

    module _ {q : ℕ} (no₁ : u ≡ 1 → ⊥) (no₂ : u ≡ 2 → ⊥) (pq : q ≡ part O c 2) where
      -- It is the last one to be loaded where the right one is an input clause.
      pub left_loaded : {t : ℕ} {A₂ : List ℕ} → t ≡ origin_code O q → t ≡ 1 → Loaded O C B N A₁ A₂ p o → Loaded O C B N A A₂ c o
      left_loaded {t} {A₂} pt one P = all_loaded L P.room cells
        where
          none : (r : Derivation) → Stored O C B q r → (k : ℕ) (y : List ℕ) → put_clause N k r y ≡ y
          none r (stored_input k q₁ s) i y = refl
          none r (stored_resolve k k₁ k₂ la sa qa lb sb qb s) i y = absurd (omega arith)
          none r (stored_factor k l t qa qb s) i y = absurd (omega arith)

          cells : (d : Derivation) → Stored O C B c d → A₂ ≡ put_clause N o d A
          cells d (stored_input k q₁ s) = absurd (no₁ (pu ∙ k))
          cells d (stored_factor k l t qa qb s) = absurd (no₂ (pu ∙ k))
          cells d (stored_resolve {l = l} {r = r} k k₁ k₂ la sa qa lb sb qb s) =
              P.cells l (subst (λ (k : ℕ). Stored O C B k l) (sym pp) sa) ∙ ap (put_clause N o l) (own_put (stored_resolve k k₁ k₂ la sa qa lb sb qb s))
              ∙ sym (none r (subst (λ (k : ℕ). Stored O C B k r) (sym pq) sb) (o + maximum_index l) (put_clause N o l (put_bindings N o (own_bindings d) A)))

      -- Else the right one comes after it, above its maximum index.
      module _ {m : ℕ} (pm : m ≡ index_cell C p) {A₂ : List ℕ} (P : Loaded O C B N A₁ A₂ p o) where
        left_index : {l : Derivation} → Stored O C B (part O c 0) l → m ≡ maximum_index l
        left_index {l} t = pm ∙ (stored_cells (subst (λ (k : ℕ). Stored O C B k l) (sym pp) t)).index

        pub to_right : (q < c) × Loadable O C B N A₂ q (o + m)
        to_right = try L.derivation L.stored L.bindings L.fits
          where
            try : (d : Derivation) → Stored O C B c d → BindingsIn N d → o + maximum_index d ≤ 4096 → (q < c) × Loadable O C B N A₂ q (o + m)
            try d (stored_input k q₁ s) K fits = absurd (no₁ (pu ∙ k))
            try d (stored_factor k l t qa qb s) K fits = absurd (no₂ (pu ∙ k))
            try d (stored_resolve {l = l} {r = r} k k₁ k₂ la sa qa lb sb qb s) K fits =
                let y = left_index sa in
                (omega arith, record { nodes = L.nodes; node_room = L.node_room; origin_room = L.origin_room; room = P.room; derivation = r; stored = subst (λ (k : ℕ). Stored O C B k r) (sym pq) sb; bindings = K.1; fits = omega arith })

        pub both_loaded : {A₃ : List ℕ} → Loaded O C B N A₂ A₃ q (o + m) → Loaded O C B N A A₃ c o
        both_loaded {A₃} R = all_loaded L R.room cells
          where
            cells : (d : Derivation) → Stored O C B c d → A₃ ≡ put_clause N o d A
            cells d (stored_input k q₁ s) = absurd (no₁ (pu ∙ k))
            cells d (stored_factor k l t qa qb s) = absurd (no₂ (pu ∙ k))
            cells d (stored_resolve {l = l} {r = r} k k₁ k₂ la sa qa lb sb qb s) =
                R.cells r (subst (λ (k : ℕ). Stored O C B k r) (sym pq) sb)
                ∙ ap₂ (λ (k : ℕ) (y : List ℕ). put_clause N (o + k) r y) (left_index sa) (P.cells l (subst (λ (k : ℕ). Stored O C B k l) (sym pp) sa) ∙ ap (put_clause N o l) (own_put (stored_resolve k k₁ k₂ la sa qa lb sb qb s)))
