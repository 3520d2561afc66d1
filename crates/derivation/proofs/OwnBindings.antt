-- The bindings of a clause, its own and its parents': of variable rows that are there, with indices up to the maximum index, and of
-- variables that its parents do not bind.
use mathlib.Core.Path.{◌≡◌, refl}
use mathlib.Core.Option.{none}
use mathlib.Core.List.{List, [], ◌∷◌}
use Prim.Native.Nat.{ℕ, ◌+◌}
use Rattle.unification.specs.Environment.{Binding, Environment}
use Rattle.unification.specs.Row.{variable, Row, application, Expression}
use Rattle.unification.specs.Unification.{most_work, most_links, unified, Pair, unifying, no_room}
use Rattle.unification.proofs.Lists.{Each, each_more}
use Rattle.unification.proofs.NewBindings.{NewBinding, NewEnd, new_run}
use Rattle.unification.proofs.Ranges.{KeptPairs, KeptArguments, IndicesKept, IndicesKeptPairs}
use Rattle.derivation.specs.Derivation.{literals, input, Derivation, resolve, factor, pairs_with, maximum_index, joined, lookup}
use Rattle.derivation.proofs.Known.{Known, KnownRows, KnownEnvironment, known_numbered, known_pairs, known_joined, known_lookup}
use Rattle.derivation.proofs.Literals.{In, each_numbered, LiteralIn, literals_in_lem}
use Rattle.derivation.proofs.Validity.{Unified, Valid, kept_joined, resolve_in, lookup_in}

-- A binding over rows of which P holds, with indices from 1 to m.
pub record BindingThere (row : ℕ → Row) (P : ℕ → Type 0) (m : ℕ) (b : Binding) : Type 0 where
  pub number : ℕ
  pub is_variable : row b.0.0 ≡ variable number
  pub variable_row : P b.0.0
  pub variable_index : In m b.0.1
  pub term_row : P b.1.0
  pub term_index : In m b.1.1

-- The variable bound is free in ρ.
abbrev pub FreeIn : Environment → Binding → Type 0
FreeIn ρ b = ρ b.0 ≡ none

abbrev pub BindingsThere : (ℕ → Row) → (ℕ → Type 0) → Derivation → Type 0
BindingsThere row P (input number ls) = Unit {0}
BindingsThere row P (resolve number l a r ns bs) =
    BindingsThere row P l × BindingsThere row P r × (Each (BindingThere row P (maximum_index l + maximum_index r)) bs × Each (FreeIn (joined (maximum_index l) (lookup l) (lookup r))) bs)
BindingsThere row P (factor number d a b bs) = BindingsThere row P d × (Each (BindingThere row P (maximum_index d)) bs × Each (FreeIn (lookup d)) bs)

module _ (P : ℕ → Type 0) (row : ℕ → Row) (below : (r s : ℕ) (xs : List ℕ) → row r ≡ application s xs → P r → Each P xs) where
  -- What a step's expressions keep to.
  abbrev InRange : ℕ → Expression → Type 0
  InRange m e = P e.0 × In m e.1

  arguments_in : (m : ℕ) (xs : List ℕ) (i : ℕ) → Each P xs → In m i → KeptArguments (InRange m) (InRange m) xs i
  arguments_in m [] i h k = tt
  arguments_in m (a ∷ xs) i h k = ((h.0, k), arguments_in m xs i h.1 k)

  pairs_in : (m : ℕ) (ps : List Pair) → KeptPairs (Known P) (Known P) ps → IndicesKeptPairs (In m) ps → KeptPairs (InRange m) (InRange m) ps
  pairs_in m [] h k = tt
  pairs_in m (p ∷ ps) h k = ((h.0, k.0), (h.1, k.1), pairs_in m ps h.2 k.2)

  pub unified_bindings : (m : ℕ) (base : Environment) (ps : List Pair) (bs : List Binding) → Unified row base ps bs → KnownEnvironment P base → IndicesKept (In m) base → KeptPairs (Known P) (Known P) ps → IndicesKeptPairs (In m) ps
      → Each (BindingThere row P m) bs × Each (FreeIn base) bs
  unified_bindings m base ps bs u h k rows indices =
      let z : NewEnd (InRange m) (InRange m) row (λ e v q g. g) (λ e s xs q g. arguments_in m xs e.1 (below e.0 s xs q g.0) g.1) most_links (no_room u.0) base (unified bs u.1)
      = rw u.2 at (new_run (InRange m) (InRange m) row (λ e v q g. g) (λ e s xs q g. arguments_in m xs e.1 (below e.0 s xs q g.0) g.1) most_links (no_room u.0) base most_work (unifying [] ps)
      (λ x c p. (((h x c p).0, (k x c p).0), ((h x c p).1, (k x c p).1)), pairs_in m ps rows indices) tt) in (
        each_more (NewBinding (InRange m) (InRange m) row (λ e v q g. g) (λ e s xs q g. arguments_in m xs e.1 (below e.0 s xs q g.0) g.1) most_links (no_room u.0) base) (BindingThere row P m)
            (λ b n. record { number = n.number; is_variable = n.is_variable; variable_row = n.variable_kept.0; variable_index = n.variable_kept.1; term_row = n.expression_kept.0; term_index = n.expression_kept.1 }) bs z,
        each_more (NewBinding (InRange m) (InRange m) row (λ e v q g. g) (λ e s xs q g. arguments_in m xs e.1 (below e.0 s xs q g.0) g.1) most_links (no_room u.0) base) (FreeIn base) (λ b n. n.free) bs z,
      )

  pub bindings_there : (c : Derivation) → Valid row c → KnownRows P c → BindingsThere row P c
  bindings_there (input number ls) K h = tt
  bindings_there (resolve number l a r ns bs) K h =
      let c = K.2 in (
        bindings_there l K.0 h.0,
        bindings_there r K.1 h.1,
        unified_bindings (maximum_index l + maximum_index r) (joined (maximum_index l) (lookup l) (lookup r)) (pairs_with (maximum_index l) c.1 c.2) bs c.6
            (known_joined P (maximum_index l) (lookup l) (lookup r) (known_lookup P row row (λ r l. refl) below l K.0 h.0) (known_lookup P row row (λ r l. refl) below r K.1 h.1))
            (kept_joined (maximum_index l) (maximum_index r) (lookup l) (lookup r) (lookup_in row l K.0) (lookup_in row r K.1))
            (known_pairs P l r a ns c.0 c.1 c.2 h.0 h.1 c.3 c.4) (resolve_in l r a ns c.0 c.1 c.2 c.3 c.4),
      )
  bindings_there (factor number d a b bs) K h =
      let c = K.1 in (
        bindings_there d K.0 h,
        unified_bindings (maximum_index d) (lookup d) ((c.1, c.2) ∷ []) bs c.6 (known_lookup P row row (λ r l. refl) below d K.0 h) (lookup_in row d K.0)
            (known_numbered P d h a (c.0, c.1) c.3, known_numbered P d h b (c.0, c.2) c.4, tt)
            (each_numbered (LiteralIn (maximum_index d)) (literals d) a (c.0, c.1) c.3 (literals_in_lem d), each_numbered (LiteralIn (maximum_index d)) (literals d) b (c.0, c.2) c.4 (literals_in_lem d), tt),
      )
