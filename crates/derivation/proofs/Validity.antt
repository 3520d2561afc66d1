-- Derivations whose bindings are those of unification, and that these keep indices in range.
use mathlib.Core.Path.{◌≡◌, refl, sym, ap, ◌∙◌}
use mathlib.Core.Bool.{Bool, true, false, not}
use mathlib.Core.Option.{Option, none, some}
use mathlib.Core.List.{List, [], ◌∷◌, map}
use Prim.Native.Nat.{ℕ, ◌+◌, ◌-◌}
use native.Mathlib.Omega.{arith}
use lib.Dec.{leb}
use Rattle.record.specs.Record.{pick}
use Rattle.unification.specs.Environment.{Binding, Environment, extend, Respects}
use Rattle.unification.specs.Row.{Row, Expression, Variable}
use Rattle.unification.specs.Term.{Term}
use Rattle.unification.specs.Unification.{unify, most_work, most_links, unified, Pair, unifying, no_room}
use Rattle.unification.proofs.Lists.{Each, each_more}
use Rattle.unification.proofs.Ranges.{KeptPairs, IndicesKept, IndicesKeptPairs, indices_kept_run}
use Rattle.unification.proofs.Tests.{some_not_none, some_injective}
use Rattle.derivation.specs.Derivation.{literals, input, Literal, Derivation, resolve, factor, numbered, numbered_all, StrictlyRising, raise, pairs_with, maximum_index, raise_answer, joined, lookup}
use Rattle.derivation.proofs.Literals.{In, each_numbered, each_numbered_all, LiteralIn, literals_in_lem, joined_left, joined_right}

-- The bindings are what unification of the pairs adds.
abbrev pub Unified : (ℕ → Row) → Environment → List Pair → List Binding → Type 0
Unified row ρ ps bs = (held : ℕ) × (n : ℕ) × (unify row held ρ ps ≡ unified bs n)

-- Atoms with one sign, as literals.
abbrev pub signed : Bool → List Expression → List Literal
signed s ds = map (λ d. (s, d)) ds

-- Each step names literals of fitting signs, and its bindings are their unification's.
abbrev pub Valid : (ℕ → Row) → Derivation → Type 0
Valid row (input number ls) = Unit {0}
Valid row (resolve number l a r ns bs) =
    Valid row l × Valid row r × ((s : Bool) × (e : Expression) × (ds : List Expression) × (numbered (literals l) a ≡ some (s, e)) × (numbered_all (literals r) ns ≡ some (signed (not s) ds)) × StrictlyRising ns × Unified row (joined (maximum_index l) (lookup l) (lookup r)) (pairs_with (maximum_index l) e ds) bs)
Valid row (factor number c a b bs) = Valid row c × ((s : Bool) × (e d : Expression) × (numbered (literals c) a ≡ some (s, e)) × (numbered (literals c) b ≡ some (s, d)) × (¬ (a ≡ b)) × Unified row (lookup c) ((e, d) ∷ []) bs)

pub kept_joined : (m n : ℕ) (ρ ρ' : Environment) → IndicesKept (In m) ρ → IndicesKept (In n) ρ' → IndicesKept (In (m + n)) (joined m ρ ρ')
kept_joined m n ρ ρ' h k x e p = try (leb x.1 m) refl p
  where
    up_to : (o : Option Expression) → ρ' (x.0, x.1 - m) ≡ o → raise_answer m o ≡ some e → leb x.1 m ≡ false → In (m + n) x.1 × In (m + n) e.1
    up_to none q r f = absurd (some_not_none refl r)
    up_to (some d) q r f =
        let z = k (x.0, x.1 - m) d q in
        let w : e.1 ≡ m + d.1 = ap (λ (u : Expression). u.1) (sym (some_injective r)) in
        omega arith

    try : (b : Bool) → leb x.1 m ≡ b → pick b (ρ x) (raise_answer m (ρ' (x.0, x.1 - m))) ≡ some e → In (m + n) x.1 × In (m + n) e.1
    try true q r = let z = h x e r in omega arith
    try false q r = up_to (ρ' (x.0, x.1 - m)) refl r q

-- What holds of literals with one sign holds of their atoms.
pub each_signed : (P : Literal → Type 0) (s : Bool) (ds : List Expression) → Each P (signed s ds) → Each (λ d. P (s, d)) ds
each_signed P s [] h = tt
each_signed P s (d ∷ ds) h = (h.0, each_signed P s ds h.1)

-- What holds of the left atom and of each right one, raised, holds of the pairs of a resolve.
pub pairs_kept : (variableOk ok : Expression → Type 0) (m : ℕ) (e : Expression) (ds : List Expression) → ok e → Each (λ d. ok (raise m d)) ds → KeptPairs variableOk ok (pairs_with m e ds)
pairs_kept variableOk ok m e [] h k = tt
pairs_kept variableOk ok m e (d ∷ ds) h k = (h, k.0, pairs_kept variableOk ok m e ds h k.1)

pub right_in : (r : Derivation) (ns : List ℕ) (s : Bool) (ds : List Expression) → numbered_all (literals r) ns ≡ some (signed s ds) → Each (λ d. In (maximum_index r) d.1) ds
right_in r ns s ds q = each_signed (LiteralIn (maximum_index r)) s ds (each_numbered_all (LiteralIn (maximum_index r)) (literals r) ns (signed s ds) q (literals_in_lem r))

-- The indices of a resolve's pairs are in range.
pub resolve_in : (l r : Derivation) (a : ℕ) (ns : List ℕ) (s : Bool) (e : Expression) (ds : List Expression) → numbered (literals l) a ≡ some (s, e) → numbered_all (literals r) ns ≡ some (signed (not s) ds)
    → IndicesKeptPairs (In (maximum_index l + maximum_index r)) (pairs_with (maximum_index l) e ds)
resolve_in l r a ns s e ds p q =
    let h = each_numbered (LiteralIn (maximum_index l)) (literals l) a (s, e) p (literals_in_lem l) in
    pairs_kept (λ x. In (maximum_index l + maximum_index r) x.1) (λ x. In (maximum_index l + maximum_index r) x.1) (maximum_index l) e ds (omega arith)
    (each_more (λ (d : Expression). In (maximum_index r) d.1) (λ (d : Expression). In (maximum_index l + maximum_index r) (maximum_index l + d.1)) (λ d k. omega arith) ds (right_in r ns (not s) ds q))

module _ (row : ℕ → Row) where
  pub unified_kept : (good : ℕ → Type 0) (base : Environment) (ps : List Pair) (bs : List Binding) → Unified row base ps bs → IndicesKept good base → IndicesKeptPairs good ps → IndicesKept good (extend base bs)
  unified_kept good base ps bs u h k = rw u.2 at (indices_kept_run good row most_links (no_room u.0) base most_work (unifying [] ps) (h, k))

  pub lookup_in : (c : Derivation) → Valid row c → IndicesKept (In (maximum_index c)) (lookup c)
  lookup_in (input number ls) K = λ x e p. absurd (some_not_none refl p)
  lookup_in (resolve number l a r ns bs) K =
      let c = K.2 in
      unified_kept (In (maximum_index l + maximum_index r)) (joined (maximum_index l) (lookup l) (lookup r)) (pairs_with (maximum_index l) c.1 c.2) bs c.6
      (kept_joined (maximum_index l) (maximum_index r) (lookup l) (lookup r) (lookup_in l K.0) (lookup_in r K.1)) (resolve_in l r a ns c.0 c.1 c.2 c.3 c.4)
  lookup_in (factor number t a b bs) K =
      let c = K.1 in
      unified_kept (In (maximum_index t)) (lookup t) ((c.1, c.2) ∷ []) bs c.6 (lookup_in t K.0)
      (each_numbered (LiteralIn (maximum_index t)) (literals t) a (c.0, c.1) c.3 (literals_in_lem t), each_numbered (LiteralIn (maximum_index t)) (literals t) b (c.0, c.2) c.4 (literals_in_lem t), tt)

-- What respects the joined environment respects each parent's, the right one's with indices raised.
module _ (term : ℕ → Term ℕ) {Y : Type 0} (γ : Variable → Term Y) (m n : ℕ) (ρ ρ' : Environment) (R : Respects term γ (joined m ρ ρ')) where
  pub respects_left : IndicesKept (In m) ρ → Respects term γ ρ
  respects_left h x e p = R x e (joined_left m ρ ρ' x (h x e p).0.1 ∙ p)

  pub respects_right : IndicesKept (In n) ρ' → Respects term (λ x. γ (raise m x)) ρ'
  respects_right h x e p = R (raise m x) (raise m e) (joined_right m ρ ρ' x.0 x.1 (h x e p).0.0 ∙ ap (raise_answer m) p)
