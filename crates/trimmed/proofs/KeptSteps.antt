-- A kept step stands beside the kept records before it: it names the same literals, renumbered, and makes the same bindings.
use mathlib.Core.Path.{◌≡◌, refl, sym, ap, ap₂, ◌∙◌, subst}
use mathlib.Core.Bool.{Bool, true, ◌&&◌, not}
use mathlib.Core.Option
use mathlib.Core.Option.{Option, none, some}
use mathlib.Core.List.{List, [], ◌∷◌, map}
use Prim.Native.Nat.{ℕ}
use lib.Dec.{eqb, leb}
use Rattle.record.specs.Record.{Record, Kind, factorKind, field_a, field_b, field_c}
use Rattle.unification.specs.Environment.{Binding}
use Rattle.unification.specs.Row.{Expression}
use Rattle.unification.specs.Unification.{unify, unified}
use Rattle.unification.proofs.Lists.{Each}
use Rattle.derivation.specs.Derivation.{literals, Literal, Derivation, resolve, factor, numbered, numbered_all, pairs_with, maximum_index, joined, lookup}
use Rattle.renumbering.proofs.Inside.{Renumbers, InsideDerivation, InsideBinding, RenumbersEnvironment}
use Rattle.renumbering.specs.Renumbering.{Renumbering}
use Rattle.renumbering.proofs.Renumbered.{renumbered_expression, renumbered_pair, renumbered_literal, renumbered_binding, renumbered_derivation}
use Rattle.renumbering.proofs.Derivations.{maximum_index_renumbered, literal_count_renumbered, literal_renumbered, named_literals_renumbered, pairs_renumbered, pairs_inside, literal_inside, named_literals_inside, AtomInside}
use Rattle.renumbering.proofs.Looking.{joined_renumbers, lookup_renumbers}
use Rattle.renumbering.proofs.Machine.{unify_renumbered}
use Rattle.renumbering.proofs.Outlines.{outlines_renumbered}
use Rattle.verdict.specs.Refusal.{tests, outline_tests, in_range, literal_in, literal_named, left_of, right_numbers, literals_in, right_of, deleted_of, both_there, rising, all_opposite, equal_signs, on_both, most_literals, most_index, result_fits, outlines_agree, resolve_tests, outlines_of_resolve}
use Rattle.verdict.specs.State.{State, with_clause, entry, row_of, derivations, clause_of, next_clause}
use Rattle.verdict.specs.Step.{stands, add_clause, atoms, unify_resolve, unify_factor, on_named, enter_resolvent, enter}
use Rattle.demands.proofs.Inversions.{AllPass, PassedResolve, PassedFactor}
use Rattle.demands.proofs.Shared.{Shared}
use Rattle.demands.proofs.Sources.{Sourced, number_of}
use Rattle.trimming.specs.Kept.{Kept}
use Rattle.trimming.specs.Trimming.{kept_below, closed_up, dated_in}
use Rattle.trimmed.proofs.Additions.{clause_kept_lem}
use Rattle.trimmed.proofs.Closed.{KeptClosed}
use Rattle.trimmed.proofs.Grown.{Grown}
use Rattle.trimmed.proofs.Keeping.{keeping_entry}
use Rattle.trimmed.proofs.Related.{RowKept, SymbolKept, Trims, renumbers, next_number}

-- A clause that is there, with literals that it has, is what a step names.
pub names_literal : (X : State) (c n : ℕ) (d : Derivation) (l : Literal) → clause_of X c ≡ some d → numbered (literals d) n ≡ some l → literal_named X c n ≡ some (d, l)
names_literal X c n d l p q = ap (literal_in n) p ∙ ap (λ (o : Option Literal). elim o [ some m ↦ some (d, m) | none ↦ none ]) q

pub names_literals : (X : State) (c : ℕ) (ns : List ℕ) (d : Derivation) (ls : List Literal) → clause_of X c ≡ some d → numbered_all (literals d) ns ≡ some ls → literals_in ns (clause_of X c) ≡ some (d, ls)
names_literals X c ns d ls p q = ap (literals_in ns) p ∙ ap (λ (o : Option (List Literal)). elim o [ some ms ↦ some (d, ms) | none ↦ none ]) q

module _ {S : State} {K : Kept} (C : KeptClosed S K) {A B : State} {r : Record} {rs : List Record} (G : Grown A S) (H : Shared A) (D : Sourced (derivations A)) (R : Trims S K A B (r ∷ rs)) where
  abbrev N : Renumbering
  N = closed_up S K

  abbrev Inside : ℕ → Type 0
  Inside = RowKept S K A

  abbrev rows : Renumbers N (RowKept S K A) (SymbolKept S K) (row_of A) (row_of B)
  rows = renumbers C G H R

  -- ── What is named ──
  pub clause_there : (n : ℕ) (d : Derivation) → K.clause n ≡ true → clause_of A n ≡ some d → clause_of B (N.clause n) ≡ some (renumbered_derivation N d)
  clause_there n d h q = ap (λ (ds : List Derivation). entry ds (kept_below K.clause n)) R.clauses ∙ keeping_entry K.clause (renumbered_derivation N) (derivations A) n d h q

  literal_there : (n i : ℕ) (d : Derivation) (l : Literal) → K.clause n ≡ true → clause_of A n ≡ some d → numbered (literals d) i ≡ some l → literal_named B (N.clause n) i ≡ some (renumbered_derivation N d, renumbered_literal N l)
  literal_there n i d l h q p =
      names_literal B (N.clause n) i (renumbered_derivation N d) (renumbered_literal N l) (clause_there n d h q) (literal_renumbered N d i ∙ ap (Option.map (renumbered_literal N)) p)

  literals_there : (n : ℕ) (ns : List ℕ) (d : Derivation) (ls : List Literal) → K.clause n ≡ true → clause_of A n ≡ some d → numbered_all (literals d) ns ≡ some ls → literals_in ns (clause_of B (N.clause n)) ≡ some (renumbered_derivation N d, map (renumbered_literal N) ls)
  literals_there n ns d ls h q p =
      names_literals B (N.clause n) ns (renumbered_derivation N d) (map (renumbered_literal N) ls) (clause_there n d h q) (named_literals_renumbered N d ns ∙ ap (Option.map (map (renumbered_literal N))) p)

  -- ── Tests ──
  opposite_same : (s : Bool) (ls : List Literal) → all_opposite s (map (renumbered_literal N) ls) ≡ all_opposite s ls
  opposite_same s [] = refl
  opposite_same s (l ∷ ls) = ap (λ (b : Bool). not (equal_signs s l.0) && b) (opposite_same s ls)

  fits_same : (c : Derivation) → result_fits (renumbered_derivation N c) ≡ result_fits c
  fits_same c = ap₂ (λ (m n : ℕ). leb m most_literals && leb n most_index) (literal_count_renumbered N c) (maximum_index_renumbered N c)

  outlines_same : (l : Literal) (ls : List Literal) → Inside l.1.0 → Each (AtomInside Inside) ls → outlines_agree (row_of B) (renumbered_literal N l) (map (renumbered_literal N) ls) ≡ outlines_agree (row_of A) l ls
  outlines_same l [] i h = refl
  outlines_same l (m ∷ ms) i h = ap₂ (λ (b c : Bool). not b && c) (outlines_renumbered rows l.1.0 m.1.0 i h.0) (outlines_same l ms i h.1)

  atoms_renumbered : (ls : List Literal) → atoms (map (renumbered_literal N) ls) ≡ map (renumbered_expression N) (atoms ls)
  atoms_renumbered [] = refl
  atoms_renumbered (l ∷ ls) = ap (λ (es : List Expression). renumbered_expression N l.1 ∷ es) (atoms_renumbered ls)

  atoms_inside : (ls : List Literal) → Each (AtomInside Inside) ls → Each (λ (e : Expression). Inside e.0) (atoms ls)
  atoms_inside [] h = tt
  atoms_inside (l ∷ ls) h = (h.0, atoms_inside ls h.1)

  -- ── Resolvents ──
  module _ (same : (n : ℕ) → dated_in (r ∷ rs) n ≡ dated_in rs n) (k j : ℕ) (h : K.clause (next_clause A) ≡ true) where
    -- A record that names the same, renumbered.
    pub record SameResolve (kind : Kind) (r' : Record) : Type 0 where
      pub left : field_a r' ≡ N.clause (field_a r)
      pub left_literal : field_b r' ≡ field_b r
      pub right : field_c r' ≡ N.clause (field_c r)
      pub right_literals : right_numbers kind r' ≡ right_numbers kind r
      pub range : in_range kind r' ≡ in_range kind r

    pub record Resolves (kind : Kind) (r' : Record) (A' : State) : Type 0 where
      pub next : State
      pub tested : AllPass (resolve_tests B kind r')
      pub outlined : AllPass (outlines_of_resolve B kind r')
      pub enters : enter_resolvent B j kind r' ≡ stands next
      pub trims : Trims S K A' next rs

    module _ (kind : Kind) (r' : Record) (E : SameResolve kind r') (p : PassedResolve A kind r) (x : Derivation × Literal) (y : Derivation × List Literal) (bs : List Binding) (n : ℕ)
        (is_left : clause_of A (field_a r) ≡ some x.0) (leftNamed : numbered (literals x.0) (field_b r) ≡ some x.1) (is_right : clause_of A (field_c r) ≡ some y.0) (rightNamed : numbered_all (literals y.0) (right_numbers kind r) ≡ some y.1)
        (there : clause_of S (next_clause A) ≡ some (resolve (next_clause A) x.0 (field_b r) y.0 (right_numbers kind r) bs)) where
      abbrev x' : Derivation × Literal
      x' = (renumbered_derivation N x.0, renumbered_literal N x.1)

      abbrev y' : Derivation × List Literal
      y' = (renumbered_derivation N y.0, map (renumbered_literal N) y.1)

      left_kept : K.clause (field_a r) ≡ true
      left_kept = ap K.clause (sym (number_of (derivations A) D (field_a r) x.0 is_left)) ∙ C.lefts (next_clause A) (next_clause A) (field_b r) x.0 y.0 (right_numbers kind r) bs h there

      right_kept : K.clause (field_c r) ≡ true
      right_kept = ap K.clause (sym (number_of (derivations A) D (field_c r) y.0 is_right)) ∙ C.rights (next_clause A) (next_clause A) (field_b r) x.0 y.0 (right_numbers kind r) bs h there

      left_there : left_of B r' ≡ some x'
      left_there = ap₂ (literal_named B) E.left E.left_literal ∙ literal_there (field_a r) (field_b r) x.0 x.1 left_kept is_left leftNamed

      right_there : right_of B kind r' ≡ some y'
      right_there = ap₂ (λ (ns : List ℕ) (m : ℕ). literals_in ns (clause_of B m)) E.right_literals E.right ∙ literals_there (field_c r) (right_numbers kind r) y.0 y.1 right_kept is_right rightNamed

      left_here : left_of A r ≡ some x
      left_here = names_literal A (field_a r) (field_b r) x.0 x.1 is_left leftNamed

      right_here : right_of A kind r ≡ some y
      right_here = names_literals A (field_c r) (right_numbers kind r) y.0 y.1 is_right rightNamed

      left_inside : InsideDerivation Inside x.0
      left_inside = R.inside (field_a r) x.0 left_kept is_left

      right_inside : InsideDerivation Inside y.0
      right_inside = R.inside (field_c r) y.0 right_kept is_right

      atom_inside : Inside x.1.1.0
      atom_inside = literal_inside Inside x.0 left_inside (field_b r) x.1 leftNamed

      all_inside : Each (AtomInside Inside) y.1
      all_inside = named_literals_inside Inside y.0 right_inside (right_numbers kind r) y.1 rightNamed

      -- A test of both sides, on what each names.
      both_there_lem : (f : Derivation × Literal → Derivation × List Literal → Bool) → on_both f (left_of B r') (right_of B kind r') ≡ f x' y'
      both_there_lem f = ap₂ (on_both f) left_there right_there

      both_here : (f : Derivation × Literal → Derivation × List Literal → Bool) → on_both f (left_of A r) (right_of A kind r) ≡ f x y
      both_here f = ap₂ (on_both f) left_here right_here

      abbrev clause_in : ℕ → ℕ → List ℕ → Derivation × Literal → Derivation × List Literal → Bool
      clause_in m a ns u v = result_fits (resolve m u.0 a v.0 ns [])

      resolve_tested : AllPass (resolve_tests B kind r')
      resolve_tested = (
        E.range ∙ p.ranged,
        (
          ap₂ both_there left_there right_there,
          (
            ap rising E.right_literals ∙ p.rises,
            (
              both_there_lem (λ u v. all_opposite u.1.0 v.1) ∙ opposite_same x.1.0 y.1 ∙ sym (both_here (λ u v. all_opposite u.1.0 v.1)) ∙ p.signs,
              (
                both_there_lem (clause_in (next_clause B) (field_b r') (right_numbers kind r')) ∙ ap₂ (λ (a : ℕ) (ns : List ℕ). clause_in (next_clause B) a ns x' y') E.left_literal E.right_literals
                    ∙ fits_same (resolve (next_clause A) x.0 (field_b r) y.0 (right_numbers kind r) []) ∙ sym (both_here (clause_in (next_clause A) (field_b r) (right_numbers kind r))) ∙ p.limits,
                tt,
              ),
            ),
          ),
        ),
      )

      resolve_outlined : AllPass (outlines_of_resolve A kind r) → AllPass (outlines_of_resolve B kind r')
      resolve_outlined o = (
        both_there_lem (λ u v. outlines_agree (row_of B) u.1 v.1) ∙ outlines_same x.1 y.1 atom_inside all_inside ∙ sym (both_here (λ u v. outlines_agree (row_of A) u.1 v.1)) ∙ o.0,
        tt,
      )

      environment : RenumbersEnvironment N Inside (joined (maximum_index x.0) (lookup x.0) (lookup y.0)) (joined (maximum_index x.0) (lookup x'.0) (lookup y'.0))
      environment =
          joined_renumbers N Inside (maximum_index x.0) (lookup x.0) (lookup x'.0) (lookup y.0) (lookup y'.0) (lookup_renumbers N Inside rows.one_row x.0 left_inside) (lookup_renumbers N Inside rows.one_row y.0 right_inside)

      module _ (u : unify_resolve A x y ≡ unified bs n) where
        unifies : (unify (row_of B) B.total (joined (maximum_index x.0) (lookup x'.0) (lookup y'.0)) (map (renumbered_pair N) (pairs_with (maximum_index x.0) x.1.1 (atoms y.1))) ≡ unified (map (renumbered_binding N) bs) n) × Each (InsideBinding Inside) bs
        unifies = unify_renumbered rows environment A.total B.total R.total (pairs_with (maximum_index x.0) x.1.1 (atoms y.1)) (pairs_inside Inside (maximum_index x.0) x.1.1 (atoms y.1) atom_inside (atoms_inside y.1 all_inside)) bs n u

        unified_there : unify_resolve B x' y' ≡ unified (map (renumbered_binding N) bs) n
        unified_there =
            ap (λ (m : ℕ). unify (row_of B) B.total (joined m (lookup x'.0) (lookup y'.0)) (pairs_with m x'.1.1 (atoms y'.1))) (maximum_index_renumbered N x.0)
            ∙ ap (unify (row_of B) B.total (joined (maximum_index x.0) (lookup x'.0) (lookup y'.0))) (ap (pairs_with (maximum_index x.0) x'.1.1) (atoms_renumbered y.1) ∙ pairs_renumbered N (maximum_index x.0) x.1.1 (atoms y.1))
            ∙ unifies.0

        abbrev made : Derivation
        made = resolve (next_clause A) x.0 (field_b r) y.0 (right_numbers kind r) bs

        resolve_enters : enter_resolvent B j kind r' ≡ stands (with_clause B j (renumbered_derivation N made))
        unfolding add_clause
        resolve_enters =
            ap₂ (on_named (λ u v. add_clause B j (resolve (next_clause B) u.0 (field_b r') v.0 (right_numbers kind r')) (unify_resolve B u v))) left_there right_there
            ∙ ap (add_clause B j (resolve (next_clause B) x'.0 (field_b r') y'.0 (right_numbers kind r'))) unified_there
            ∙ (λ i. stands (with_clause B j (resolve (next_number C G H R i) x'.0 (E.left_literal i) y'.0 (E.right_literals i) (map (renumbered_binding N) bs))))

        pub resolves : (A' : State) → AllPass (outlines_of_resolve A kind r) → with_clause A k made ≡ A' → Resolves kind r' A'
        resolves A' o q = record {
          next = with_clause B j (renumbered_derivation N made);
          tested = resolve_tested;
          outlined = resolve_outlined o;
          enters = resolve_enters;
          trims = subst (λ (X : State). Trims S K X (with_clause B j (renumbered_derivation N made)) rs) q (clause_kept_lem R same k j made h (left_inside, right_inside, unifies.1));
        }

    -- ── Factors ──
    pub record SameFactor (r' : Record) : Type 0 where
      pub parent : field_a r' ≡ N.clause (field_a r)
      pub kept : field_b r' ≡ field_b r
      pub deleted : field_c r' ≡ field_c r
      pub factor_range : in_range factorKind r' ≡ in_range factorKind r

    pub record Factors (r' : Record) (A' : State) : Type 0 where
      pub factored : State
      pub factor_tested : AllPass (tests B factorKind r')
      pub factor_outlined : AllPass (outline_tests B factorKind r')
      pub factor_enters : enter B j factorKind r' ≡ stands factored
      pub factor_trims : Trims S K A' factored rs

    module _ (r' : Record) (E : SameFactor r') (p : PassedFactor A r) (x y : Derivation × Literal) (bs : List Binding) (n : ℕ) (is_parent : clause_of A (field_a r) ≡ some x.0) (keptNamed : numbered (literals x.0) (field_b r) ≡ some x.1)
        (is_deleted : clause_of A (field_a r) ≡ some y.0) (deletedNamed : numbered (literals y.0) (field_c r) ≡ some y.1) (there : clause_of S (next_clause A) ≡ some (factor (next_clause A) x.0 (field_b r) (field_c r) bs)) where
      abbrev fx : Derivation × Literal
      fx = (renumbered_derivation N x.0, renumbered_literal N x.1)

      abbrev fy : Derivation × Literal
      fy = (renumbered_derivation N y.0, renumbered_literal N y.1)

      parent_kept : K.clause (field_a r) ≡ true
      parent_kept = ap K.clause (sym (number_of (derivations A) D (field_a r) x.0 is_parent)) ∙ C.factored (next_clause A) (next_clause A) (field_b r) (field_c r) x.0 bs h there

      kept_there : left_of B r' ≡ some fx
      kept_there = ap₂ (literal_named B) E.parent E.kept ∙ literal_there (field_a r) (field_b r) x.0 x.1 parent_kept is_parent keptNamed

      deleted_there : deleted_of B r' ≡ some fy
      deleted_there = ap₂ (literal_named B) E.parent E.deleted ∙ literal_there (field_a r) (field_c r) y.0 y.1 parent_kept is_deleted deletedNamed

      kept_here : left_of A r ≡ some x
      kept_here = names_literal A (field_a r) (field_b r) x.0 x.1 is_parent keptNamed

      deleted_here : deleted_of A r ≡ some y
      deleted_here = names_literal A (field_a r) (field_c r) y.0 y.1 is_deleted deletedNamed

      parent_inside : InsideDerivation Inside x.0
      parent_inside = R.inside (field_a r) x.0 parent_kept is_parent

      kept_inside : Inside x.1.1.0
      kept_inside = literal_inside Inside x.0 parent_inside (field_b r) x.1 keptNamed

      deleted_inside : Inside y.1.1.0
      deleted_inside = literal_inside Inside y.0 (R.inside (field_a r) y.0 parent_kept is_deleted) (field_c r) y.1 deletedNamed

      pair_there : (f : Derivation × Literal → Derivation × Literal → Bool) → on_both f (left_of B r') (deleted_of B r') ≡ f fx fy
      pair_there f = ap₂ (on_both f) kept_there deleted_there

      pair_here : (f : Derivation × Literal → Derivation × Literal → Bool) → on_both f (left_of A r) (deleted_of A r) ≡ f x y
      pair_here f = ap₂ (on_both f) kept_here deleted_here

      abbrev signs : Derivation × Literal → Derivation × Literal → Bool
      signs u v = equal_signs u.1.0 v.1.0

      abbrev factor_fit : ℕ → ℕ → ℕ → Derivation × Literal → Derivation × Literal → Bool
      factor_fit m a b u v = result_fits (factor m u.0 a b [])

      factor_tested_lem : AllPass (tests B factorKind r')
      factor_tested_lem = (
        E.factor_range ∙ p.ranged,
        (
          ap₂ both_there kept_there deleted_there,
          (
            ap₂ (λ (b : Bool) (m : ℕ). b && not (eqb m (field_c r'))) (pair_there signs ∙ sym (pair_here signs)) E.kept ∙ ap (λ (m : ℕ). on_both signs (left_of A r) (deleted_of A r) && not (eqb (field_b r) m)) E.deleted ∙ p.signs,
            (
              pair_there (factor_fit (next_clause B) (field_b r') (field_c r')) ∙ ap₂ (λ (a b : ℕ). factor_fit (next_clause B) a b fx fy) E.kept E.deleted ∙ fits_same (factor (next_clause A) x.0 (field_b r) (field_c r) [])
                  ∙ sym (pair_here (factor_fit (next_clause A) (field_b r) (field_c r))) ∙ p.limits,
              tt,
            ),
          ),
        ),
      )

      factor_outlined_lem : AllPass (outline_tests A factorKind r) → AllPass (outline_tests B factorKind r')
      factor_outlined_lem o = (
        pair_there (λ u v. outlines_agree (row_of B) u.1 (v.1 ∷ [])) ∙ outlines_same x.1 (y.1 ∷ []) kept_inside (deleted_inside, tt) ∙ sym (pair_here (λ u v. outlines_agree (row_of A) u.1 (v.1 ∷ []))) ∙ o.0,
        tt,
      )

      module _ (u : unify_factor A x y ≡ unified bs n) where
        factor_unifies : (unify_factor B fx fy ≡ unified (map (renumbered_binding N) bs) n) × Each (InsideBinding Inside) bs
        factor_unifies = unify_renumbered rows (lookup_renumbers N Inside rows.one_row x.0 parent_inside) A.total B.total R.total ((x.1.1, y.1.1) ∷ []) ((kept_inside, deleted_inside), tt) bs n u

        abbrev factored_clause_lem : Derivation
        factored_clause_lem = factor (next_clause A) x.0 (field_b r) (field_c r) bs

        factor_enters_lem : enter B j factorKind r' ≡ stands (with_clause B j (renumbered_derivation N factored_clause_lem))
        unfolding add_clause
        factor_enters_lem =
            ap₂ (on_named (λ u v. add_clause B j (factor (next_clause B) u.0 (field_b r') (field_c r')) (unify_factor B u v))) kept_there deleted_there
            ∙ ap (add_clause B j (factor (next_clause B) fx.0 (field_b r') (field_c r'))) factor_unifies.0
            ∙ (λ i. stands (with_clause B j (factor (next_number C G H R i) fx.0 (E.kept i) (E.deleted i) (map (renumbered_binding N) bs))))

        pub factors : (A' : State) → AllPass (outline_tests A factorKind r) → with_clause A k factored_clause_lem ≡ A' → Factors r' A'
        factors A' o q = record {
          factored = with_clause B j (renumbered_derivation N factored_clause_lem);
          factor_tested = factor_tested_lem;
          factor_outlined = factor_outlined_lem o;
          factor_enters = factor_enters_lem;
          factor_trims = subst (λ (X : State). Trims S K X (with_clause B j (renumbered_derivation N factored_clause_lem)) rs) q (clause_kept_lem R same k j factored_clause_lem h (parent_inside, factor_unifies.1));
        }
