-- The clause that a step makes is the textbook's resolvent or factor of its parents, which are standardized apart.
use mathlib.Core.Path.{◌≡◌, refl, sym, ap, ap₂, ◌∙◌, subst}
use mathlib.Core.Logic.{◌⊎◌}
use mathlib.Core.Bool.{Bool, not}
use mathlib.Core.Option.{none, some}
use mathlib.Core.List.{List, [], ◌∷◌, ◌++◌, map}
use Prim.Native.Nat.{ℕ, ◌+◌, ◌≤◌, ◌<◌}
use native.Mathlib.Omega.{arith}
use lib.ListN.{length}
use Rattle.unification.specs.Environment.{Binding, Environment}
use Rattle.unification.specs.Row.{Row, application, Expression, Variable, row_term, written_out}
use Rattle.unification.specs.Substitution.{composed}
use Rattle.unification.specs.Term.{Term, apply}
use Rattle.unification.specs.Unification.{unify, clash, occurs, failed}
use Rattle.unification.specs.Unifier.{TermPair, NoUnifier, MostGeneralUnifier}
use Rattle.unification.proofs.Lists.{Each, map_each, map_map, map_append}
use Rattle.unification.proofs.Ranges.{IndicesKept, IndicesKeptPairs}
use Rattle.unification.proofs.Solved.{Solved, unbound_at}
use Rattle.unification.proofs.Terms.{variables_more, variables_apply}
use Rattle.derivation.specs.Derivation.{literals, Literal, Derivation, resolve, factor, numbered, without, numbered_all, without_all, StrictlyRising, raise, pairs_with, raise_literal, maximum_index, joined, lookup}
use Rattle.derivation.specs.Textbook.{instantiated, Resolvent, Factor, ClauseVariables, StandardizedApart}
use Rattle.derivation.specs.Written.{written, Clause, substitution, renamed, joined_substitution, written_literal}
use Rattle.derivation.proofs.Literals.{In, map_without, map_numbered, map_without_all, map_numbered_all, each_numbered, each_without, each_without_all, LiteralIn, literals_in_lem}
use Rattle.derivation.proofs.Remaining.{all_out, named_out}
use Rattle.derivation.proofs.Substitutions.{written_left, written_right, solved_joined, lookup_solved}
use Rattle.derivation.proofs.Unifiers.{written_pairs, unifier, no_unifier_lem, value_after, most_general_lem}
use Rattle.derivation.proofs.Validity.{Unified, Valid, signed, kept_joined, right_in, resolve_in, lookup_in}

-- Literals written out by two substitutions.
module _ (term : ℕ → Term ℕ) where
  written_then : (σ μ θ : Variable → Term Variable) (m : ℕ) → ((e : Expression) → In m e.1 → written_out term μ e ≡ apply θ (written_out term σ e)) → (ls : List Literal) → Each (LiteralIn m) ls
      → map (written_literal term μ) ls ≡ instantiated θ (map (written_literal term σ) ls)
  written_then σ μ θ m h ls k =
      map_each (LiteralIn m) (written_literal term μ) (λ l. (l.0, apply θ (written_out term σ l.1))) (λ l o. ap (λ (t : Term Variable). (l.0, t)) (h l.1 o)) ls k
      ∙ sym (map_map (λ (l : Bool × Term Variable). (l.0, apply θ l.1)) (written_literal term σ) ls)

  written_same : (σ τ : Variable → Term Variable) (m : ℕ) → ((e : Expression) → In m e.1 → written_out term σ e ≡ written_out term τ e) → (ls : List Literal) → Each (LiteralIn m) ls
      → map (written_literal term σ) ls ≡ map (written_literal term τ) ls
  written_same σ τ m h ls k = map_each (LiteralIn m) (written_literal term σ) (written_literal term τ) (λ l o. ap (λ (t : Term Variable). (l.0, t)) (h l.1 o)) ls k

  written_raised : (σ μ ren : Variable → Term Variable) (m n : ℕ) → ((e : Expression) → In n e.1 → written_out term μ (raise m e) ≡ apply ren (written_out term σ e)) → (ls : List Literal) → Each (LiteralIn n) ls
      → map (written_literal term μ) (map (raise_literal m) ls) ≡ instantiated ren (map (written_literal term σ) ls)
  written_raised σ μ ren m n h ls k =
      map_map (written_literal term μ) (raise_literal m) ls
      ∙ map_each (LiteralIn n) (λ l. written_literal term μ (raise_literal m l)) (λ l. (l.0, apply ren (written_out term σ l.1))) (λ l o. ap (λ (t : Term Variable). (l.0, t)) (h l.1 o)) ls k
      ∙ sym (map_map (λ (l : Bool × Term Variable). (l.0, apply ren l.1)) (written_literal term σ) ls)

module _ (row : ℕ → Row) (term : ℕ → Term ℕ) (termLaw : (r : ℕ) → term r ≡ row_term term r (row r)) where
  -- The variables of a written-out clause have indices up to its maximum index.
  pub clause_in_lem : (c : Derivation) → Valid row c → (ls : List Literal) → Each (LiteralIn (maximum_index c)) ls → ClauseVariables (λ x. In (maximum_index c) x.1) (map (written_literal term (substitution term c)) ls)
  clause_in_lem c K [] h = tt
  clause_in_lem c K (l ∷ ls) h = (
    variables_more (λ y. In (maximum_index c) y.1 × (lookup c y ≡ none)) (λ y. In (maximum_index c) y.1) (λ y p. p.0) (written_out term (substitution term c) l.1)
        (unbound_at (In (maximum_index c)) term (lookup c) (substitution term c) (lookup_solved row term termLaw c K) l.1 h.0),
    clause_in_lem c K ls h.1,
  )

  below : (n : ℕ) (C : Clause) → ClauseVariables (λ x. In n x.1) C → ClauseVariables (λ x. x.1 ≤ n) C
  below n [] h = tt
  below n (l ∷ C) h = (variables_more (λ x. In n x.1) (λ x. x.1 ≤ n) (λ x p. p.1) l.1 h.0, below n C h.1)

  above : (m n : ℕ) (C : Clause) → ClauseVariables (λ x. In n x.1) C → ClauseVariables (λ x. m < x.1) (instantiated (renamed m) C)
  above m n [] h = tt
  above m n (l ∷ C) h = (
    variables_apply (λ x. m < x.1) (renamed m) l.1 (variables_more (λ x. In n x.1) (λ x. m < m + x.1) (λ x p. let k = p.0 in omega arith) l.1 h.0),
    above m n C h.1,
  )

  raise_back : (m : ℕ) (x y : Variable) → raise m x ≡ raise m y → x ≡ y
  raise_back m x y p =
      let a : x.0 ≡ y.0 = ap (λ (z : Variable). z.0) p in
      let q : m + x.1 ≡ m + y.1 = ap (λ (z : Variable). z.1) p in
      let b : x.1 ≡ y.1 = omega arith in
      λ i. (a i, b i)

  standardized_apart : (l r : Derivation) → Valid row l → Valid row r → StandardizedApart (renamed (maximum_index l)) (written term l) (written term r)
  standardized_apart l r Kl Kr = record {
    renamed_to = raise (maximum_index l);
    is_renaming = λ x. refl;
    one_to_one = raise_back (maximum_index l);
    bound = maximum_index l;
    left_below = below (maximum_index l) (written term l) (clause_in_lem l Kl (literals l) (literals_in_lem l));
    right_above = above (maximum_index l) (maximum_index r) (written term r) (clause_in_lem r Kr (literals r) (literals_in_lem r));
  }

  -- The parents of a resolvent, their values and environments as one.
  module _ (l r : Derivation) (Kl : Valid row l) (Kr : Valid row r) where
    abbrev m : ℕ
    m = maximum_index l

    abbrev n : ℕ
    n = maximum_index r

    abbrev base : Environment
    base = joined (maximum_index l) (lookup l) (lookup r)

    abbrev both : Variable → Term Variable
    both = joined_substitution (maximum_index l) (substitution term l) (substitution term r)

    kl : IndicesKept (In m) (lookup l)
    kl = lookup_in row l Kl

    kr : IndicesKept (In n) (lookup r)
    kr = lookup_in row r Kr

    sl : Solved (In m) term (lookup l) (substitution term l)
    sl = lookup_solved row term termLaw l Kl

    sr : Solved (In n) term (lookup r) (substitution term r)
    sr = lookup_solved row term termLaw r Kr

    S : Solved (In (m + n)) term base both
    S = solved_joined term m n (lookup l) (lookup r) kl kr (substitution term l) (substitution term r) sl sr

    κ : IndicesKept (In (m + n)) base
    κ = kept_joined m n (lookup l) (lookup r) kl kr

    lefts : (e : Expression) → In m e.1 → written_out term both e ≡ written_out term (substitution term l) e
    lefts e o = written_left term m n (lookup l) (lookup r) kl kr (substitution term l) (substitution term r) sl sr e o.1

    rights : (e : Expression) → In n e.1 → written_out term both (raise m e) ≡ apply (renamed m) (written_out term (substitution term r) e)
    rights e o = written_right term m n (lookup l) (lookup r) kl kr (substitution term l) (substitution term r) sl sr e o.0

    module _ (a : ℕ) (ns : List ℕ) (s : Bool) (e : Expression) (ds : List Expression) (p : numbered (literals l) a ≡ some (s, e)) (q : numbered_all (literals r) ns ≡ some (signed (not s) ds)) where
      oe : In m e.1
      oe = each_numbered (LiteralIn m) (literals l) a (s, e) p (literals_in_lem l)

      -- The pairs, written out: the left atom with each right one, renamed apart.
      written_pairs_lem : (cs : List Expression) → Each (λ c. In n c.1) cs → written_pairs term both (pairs_with m e cs) ≡ map (λ t. (written_out term (substitution term l) e, t)) (map (λ c. apply (renamed m) (written_out term (substitution term r) c)) cs)
      written_pairs_lem [] h = refl
      written_pairs_lem (c ∷ cs) h = ap₂ (λ (x : TermPair) (xs : List TermPair). x ∷ xs) (ap₂ (λ (x y : Term Variable). (x, y)) (lefts e oe) (rights c h.0)) (written_pairs_lem cs h.1)

      pairs_written : written_pairs term both (pairs_with m e ds) ≡ map (λ t. (written_out term (substitution term l) e, t)) (map (λ c. apply (renamed m) (written_out term (substitution term r) c)) ds)
      pairs_written = written_pairs_lem ds (right_in r ns (not s) ds q)

      -- A clash or an occurrence: the atoms, written out and apart, have no unifier.
      pub no_resolvent : (Y : Type 0) (held : ℕ) → (unify row held (joined (maximum_index l) (lookup l) (lookup r)) (pairs_with (maximum_index l) e ds) ≡ failed clash) ⊎ (unify row held (joined (maximum_index l) (lookup l) (lookup r)) (pairs_with (maximum_index l) e ds) ≡ failed occurs)
          → NoUnifier Y (map (λ t. (written_out term (substitution term l) e, t)) (map (λ c. apply (renamed (maximum_index l)) (written_out term (substitution term r) c)) ds))
      no_resolvent Y held f = subst (NoUnifier Y) pairs_written (no_unifier_lem row term termLaw (In (m + n)) base both S Y held (pairs_with m e ds) f)

      module _ (arities : (r q s : ℕ) (xs ys : List ℕ) → row r ≡ application s xs → row q ≡ application s ys → length xs ≡ length ys)
          (rise : StrictlyRising ns) (bs : List Binding) (u : Unified row (joined (maximum_index l) (lookup l) (lookup r)) (pairs_with (maximum_index l) e ds) bs) where
        κp : IndicesKeptPairs (In (m + n)) (pairs_with m e ds)
        κp = resolve_in l r a ns s e ds p q

        abbrev θ : Variable → Term Variable
        θ = unifier row term termLaw (In (m + n)) base both S arities (pairs_with m e ds) bs u κ κp

        left_part : map (written_literal term both) (without (literals l) a) ≡ without (written term l) a
        left_part = written_same term both (substitution term l) m lefts (without (literals l) a) (each_without (LiteralIn m) (literals l) a (literals_in_lem l)) ∙ map_without (written_literal term (substitution term l)) (literals l) a

        right_part : map (written_literal term both) (map (raise_literal m) (without_all (literals r) ns)) ≡ without_all (instantiated (renamed m) (written term r)) ns
        right_part =
            written_raised term (substitution term r) both (renamed m) m n rights (without_all (literals r) ns) (each_without_all (LiteralIn n) (literals r) ns (literals_in_lem r))
            ∙ ap (instantiated (renamed m)) (map_without_all (written_literal term (substitution term r)) (literals r) ns)
            ∙ map_without_all (λ (x : Bool × Term Variable). (x.0, apply (renamed m) x.1)) (written term r) ns

        right_literals_lem : (cs : List Expression) → map (λ (x : Bool × Term Variable). (x.0, apply (renamed m) x.1)) (map (written_literal term (substitution term r)) (signed (not s) cs)) ≡ map {B = Bool × Term Variable} (λ t. (not s, t)) (map (λ c. apply (renamed m) (written_out term (substitution term r) c)) cs)
        right_literals_lem [] = refl
        right_literals_lem (c ∷ cs) = ap (λ (xs : Clause). (not s, apply (renamed m) (written_out term (substitution term r) c)) ∷ xs) (right_literals_lem cs)

        pub is_resolvent : (Y : Type 0) (number : ℕ) → Resolvent Y (renamed (maximum_index l)) (written term l) a (written term r) ns (written term (resolve number l a r ns bs))
        is_resolvent Y number = record {
          apart = standardized_apart l r Kl Kr;
          sign = s;
          left = written_out term (substitution term l) e;
          rights = map (λ c. apply (renamed m) (written_out term (substitution term r) c)) ds;
          rising = rise;
          is_left = map_numbered (written_literal term (substitution term l)) (literals l) a (s, e) p;
          are_right = map_numbered_all (λ (x : Bool × Term Variable). (x.0, apply (renamed m) x.1)) (written term r) ns (map (written_literal term (substitution term r)) (signed (not s) ds))
              (map_numbered_all (written_literal term (substitution term r)) (literals r) ns (signed (not s) ds) q)
              ∙ ap some (right_literals_lem ds);
          unifier = θ;
          most_general = subst (MostGeneralUnifier Y θ) pairs_written (most_general_lem row term termLaw (In (m + n)) base both S arities (pairs_with m e ds) bs u κ κp Y);
          result = written_then term both (composed term both bs) θ (m + n) (value_after row term termLaw (In (m + n)) base both S arities (pairs_with m e ds) bs u κ κp) (literals (resolve number l a r ns bs)) (literals_in_lem (resolve number l a r ns bs))
              ∙ ap (instantiated θ) (map_append (written_literal term both) (without (literals l) a) (map (raise_literal m) (without_all (literals r) ns)) ∙ ap₂ (λ (x y : Clause). x ++ y) (left_part ∙ named_out (written term l) a) (right_part ∙ all_out (instantiated (renamed m) (written term r)) ns rise));
        }

  module _ (c : Derivation) (K : Valid row c) (a b : ℕ) (s : Bool) (e d : Expression) (p : numbered (literals c) a ≡ some (s, e)) (q : numbered (literals c) b ≡ some (s, d)) where
    abbrev N : ℕ
    N = maximum_index c

    Sc : Solved (In N) term (lookup c) (substitution term c)
    Sc = lookup_solved row term termLaw c K

    κc : IndicesKept (In N) (lookup c)
    κc = lookup_in row c K

    ie : In N e.1
    ie = each_numbered (LiteralIn N) (literals c) a (s, e) p (literals_in_lem c)

    id : In N d.1
    id = each_numbered (LiteralIn N) (literals c) b (s, d) q (literals_in_lem c)

    pub no_factor : (Y : Type 0) (held : ℕ) → (unify row held (lookup c) ((e, d) ∷ []) ≡ failed clash) ⊎ (unify row held (lookup c) ((e, d) ∷ []) ≡ failed occurs)
        → NoUnifier Y ((written_out term (substitution term c) e, written_out term (substitution term c) d) ∷ [])
    no_factor Y held f = no_unifier_lem row term termLaw (In N) (lookup c) (substitution term c) Sc Y held ((e, d) ∷ []) f

    module _ (arities : (r q s : ℕ) (xs ys : List ℕ) → row r ≡ application s xs → row q ≡ application s ys → length xs ≡ length ys)
        (bs : List Binding) (u : Unified row (lookup c) ((e, d) ∷ []) bs) (differ : ¬ (a ≡ b)) where
      abbrev φ : Variable → Term Variable
      φ = unifier row term termLaw (In N) (lookup c) (substitution term c) Sc arities ((e, d) ∷ []) bs u κc (ie, id, tt)

      pub is_factor_lem : (Y : Type 0) (number : ℕ) → Factor Y (written term c) a b (written term (factor number c a b bs))
      is_factor_lem Y number = record {
        sign = s;
        left = written_out term (substitution term c) e;
        right = written_out term (substitution term c) d;
        is_left = map_numbered (written_literal term (substitution term c)) (literals c) a (s, e) p;
        is_right = map_numbered (written_literal term (substitution term c)) (literals c) b (s, d) q;
        different = differ;
        unifier = φ;
        most_general = most_general_lem row term termLaw (In N) (lookup c) (substitution term c) Sc arities ((e, d) ∷ []) bs u κc (ie, id, tt) Y;
        result = written_then term (substitution term c) (composed term (substitution term c) bs) φ N (value_after row term termLaw (In N) (lookup c) (substitution term c) Sc arities ((e, d) ∷ []) bs u κc (ie, id, tt)) (without (literals c) b) (each_without (LiteralIn N) (literals c) b (literals_in_lem c))
            ∙ ap (instantiated φ) (map_without (written_literal term (substitution term c)) (literals c) b ∙ named_out (written term c) b);
      }
