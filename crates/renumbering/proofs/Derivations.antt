-- A clause renumbered: its maximum index, literals, bindings and uses are those of the clause, renumbered; and its literals are inside.
use mathlib.Core.Path.{◌≡◌, refl, sym, ap, ap₂, ◌∙◌}
use mathlib.Core.Option
use mathlib.Core.Option.{Option, none, some}
use mathlib.Core.List.{List, [], ◌∷◌, ◌++◌, map}
use Prim.Native.Nat.{ℕ, zero, suc, ◌+◌}
use lib.ListN.{length, length-map}
use Rattle.unification.specs.Row.{Expression}
use Rattle.unification.proofs.Lists.{Each, each_append, each_map, map_append, map_map}
use Rattle.derivation.specs.Derivation.{literals, input, Literal, RowLiteral, Derivation, resolve, factor, clause_number, numbered, without, numbered_all, without_all, raise, raise_literal, pairs_with, maximum_index, own_bindings, uses, Use}
use Rattle.derivation.proofs.Literals.{map_without, map_without_all, each_numbered, each_without, each_numbered_all, each_without_all}
use Rattle.renumbering.proofs.Inside.{InsideExpression, InsidePair, InsideBinding, InsideLiteral, InsideDerivation}
use Rattle.renumbering.specs.Renumbering.{Renumbering, renumbered_row_literal}
use Rattle.renumbering.proofs.Renumbered.{renumbered_expression, renumbered_pair, renumbered_binding, renumbered_literal, renumbered_derivation}

-- The literals of numbers in a list that a function was applied to. What is left without them is in the crate derivation: `map_without`, `map_without_all`.
module _ {A B : Type 0} (f : A → B) where
  pub numbered_map : (xs : List A) (n : ℕ) → numbered (map f xs) n ≡ Option.map f (numbered xs n)
  numbered_map [] n = refl
  numbered_map (x ∷ xs) zero = refl
  numbered_map (x ∷ xs) (suc zero) = refl
  numbered_map (x ∷ xs) (suc (suc n)) = numbered_map xs (suc n)

  pub numbered_all_map : (xs : List A) (ns : List ℕ) → numbered_all (map f xs) ns ≡ Option.map (map f) (numbered_all xs ns)
  numbered_all_map xs [] = refl
  numbered_all_map xs (n ∷ ns) =
      ap₂ (λ (o : Option B) (p : Option (List B)). elim o [ none ↦ none | some l ↦ elim p [ none ↦ none | some ms ↦ some (l ∷ ms) ] ]) (numbered_map xs n) (numbered_all_map xs ns) ∙ try (numbered xs n) (numbered_all xs ns)
    where
      try : (o : Option A) (p : Option (List A)) → elim (Option.map f o) [ none ↦ none | some l ↦ elim (Option.map (map f) p) [ none ↦ none | some ms ↦ some (l ∷ ms) ] ]
          ≡ Option.map (map f) (elim o [ none ↦ none | some l ↦ elim p [ none ↦ none | some ms ↦ some (l ∷ ms) ] ])
      try none p = refl
      try (some l) none = refl
      try (some l) (some ms) = refl

module _ (N : Renumbering) where
  pub maximum_index_renumbered : (d : Derivation) → maximum_index (renumbered_derivation N d) ≡ maximum_index d
  maximum_index_renumbered (input number ls) = refl
  maximum_index_renumbered (resolve number l a r ns bs) = ap₂ ◌+◌ (maximum_index_renumbered l) (maximum_index_renumbered r)
  maximum_index_renumbered (factor number c a b bs) = maximum_index_renumbered c

  pub clause_number_renumbered : (d : Derivation) → clause_number (renumbered_derivation N d) ≡ N.clause (clause_number d)
  clause_number_renumbered (input number ls) = refl
  clause_number_renumbered (resolve number l a r ns bs) = refl
  clause_number_renumbered (factor number c a b bs) = refl

  pub own_bindings_renumbered : (d : Derivation) → own_bindings (renumbered_derivation N d) ≡ map (renumbered_binding N) (own_bindings d)
  own_bindings_renumbered (input number ls) = refl
  own_bindings_renumbered (resolve number l a r ns bs) = refl
  own_bindings_renumbered (factor number c a b bs) = refl

  -- An index raised, and literals taken out, before or after.
  raised_renumbered : (m : ℕ) (ls : List Literal) → map (raise_literal m) (map (renumbered_literal N) ls) ≡ map (renumbered_literal N) (map (raise_literal m) ls)
  raised_renumbered m ls = map_map (raise_literal m) (renumbered_literal N) ls ∙ sym (map_map (renumbered_literal N) (raise_literal m) ls)

  without_renumbered : (ls ms : List Literal) (n : ℕ) → ls ≡ map (renumbered_literal N) ms → without ls n ≡ map (renumbered_literal N) (without ms n)
  without_renumbered ls ms n q = ap (λ (xs : List Literal). without xs n) q ∙ sym (map_without (renumbered_literal N) ms n)

  without_all_renumbered : (ls ms : List Literal) (ns : List ℕ) → ls ≡ map (renumbered_literal N) ms → without_all ls ns ≡ map (renumbered_literal N) (without_all ms ns)
  without_all_renumbered ls ms ns q = ap (λ (xs : List Literal). without_all xs ns) q ∙ sym (map_without_all (renumbered_literal N) ms ns)

  pub literals_renumbered : (d : Derivation) → literals (renumbered_derivation N d) ≡ map (renumbered_literal N) (literals d)
  literals_renumbered (input number ls) =
      map_map (λ (l : RowLiteral). (l.0, (l.1, 1))) (renumbered_row_literal N) ls ∙ sym (map_map (renumbered_literal N) (λ (l : RowLiteral). (l.0, (l.1, 1))) ls)
  literals_renumbered (resolve number l a r ns bs) =
      let left = without_renumbered (literals (renumbered_derivation N l)) (literals l) a (literals_renumbered l) in
      let right = without_all_renumbered (literals (renumbered_derivation N r)) (literals r) ns (literals_renumbered r) in
      ap₂ (λ (xs ys : List Literal). xs ++ ys) left
      (ap₂ (λ (m : ℕ) (xs : List Literal). map (raise_literal m) xs) (maximum_index_renumbered l) right ∙ raised_renumbered (maximum_index l) (without_all (literals r) ns))
      ∙ sym (map_append (renumbered_literal N) (without (literals l) a) (map (raise_literal (maximum_index l)) (without_all (literals r) ns)))
  literals_renumbered (factor number c a b bs) = without_renumbered (literals (renumbered_derivation N c)) (literals c) b (literals_renumbered c)

  pub literal_count_renumbered : (d : Derivation) → length (literals (renumbered_derivation N d)) ≡ length (literals d)
  literal_count_renumbered d = ap length (literals_renumbered d) ∙ length-map (literals d) (renumbered_literal N)

  -- The literals that a step names.
  pub literal_renumbered : (d : Derivation) (n : ℕ) → numbered (literals (renumbered_derivation N d)) n ≡ Option.map (renumbered_literal N) (numbered (literals d) n)
  literal_renumbered d n = ap (λ (ls : List Literal). numbered ls n) (literals_renumbered d) ∙ numbered_map (renumbered_literal N) (literals d) n

  pub named_literals_renumbered : (d : Derivation) (ns : List ℕ) → numbered_all (literals (renumbered_derivation N d)) ns ≡ Option.map (map (renumbered_literal N)) (numbered_all (literals d) ns)
  named_literals_renumbered d ns = ap (λ (ls : List Literal). numbered_all ls ns) (literals_renumbered d) ∙ numbered_all_map (renumbered_literal N) (literals d) ns

  abbrev pub renumbered_use : Use → Use
  renumbered_use u = (N.clause u.0, map (renumbered_row_literal N) u.1)

  pub uses_renumbered : (d : Derivation) → uses (renumbered_derivation N d) ≡ map renumbered_use (uses d)
  uses_renumbered (input number ls) = refl
  uses_renumbered (resolve number l a r ns bs) = ap₂ (λ (us vs : List Use). us ++ vs) (uses_renumbered l) (uses_renumbered r) ∙ sym (map_append renumbered_use (uses l) (uses r))
  uses_renumbered (factor number c a b bs) = uses_renumbered c

  pub pairs_renumbered : (m : ℕ) (e : Expression) (ds : List Expression) → pairs_with m (renumbered_expression N e) (map (renumbered_expression N) ds) ≡ map (renumbered_pair N) (pairs_with m e ds)
  pairs_renumbered m e ds = map_map (λ (d : Expression). (renumbered_expression N e, raise m d)) (renumbered_expression N) ds ∙ sym (map_map (renumbered_pair N) (λ (d : Expression). (e, raise m d)) ds)

-- What is inside. (`Each` is `Each` of the crate unification, whose laws serve here.)
module _ (I : ℕ → Type 0) where
  abbrev pub AtomInside : Literal → Type 0
  AtomInside l = I l.1.0

  abbrev pub UseInside : Use → Type 0
  UseInside u = Each (InsideLiteral I) u.1

  pub literals_inside : (d : Derivation) → InsideDerivation I d → Each AtomInside (literals d)
  literals_inside (input number ls) h = each_map (InsideLiteral I) AtomInside (λ (l : RowLiteral). (l.0, (l.1, 1))) (λ l k. k) ls h
  literals_inside (resolve number l a r ns bs) h =
      each_append AtomInside (without (literals l) a) (map (raise_literal (maximum_index l)) (without_all (literals r) ns))
      (each_without AtomInside (literals l) a (literals_inside l h.0))
      (each_map AtomInside AtomInside (raise_literal (maximum_index l)) (λ l k. k) (without_all (literals r) ns) (each_without_all AtomInside (literals r) ns (literals_inside r h.1)))
  literals_inside (factor number c a b bs) h = each_without AtomInside (literals c) b (literals_inside c h.0)

  pub literal_inside : (d : Derivation) → InsideDerivation I d → (n : ℕ) (l : Literal) → numbered (literals d) n ≡ some l → I l.1.0
  literal_inside d h n l q = each_numbered AtomInside (literals d) n l q (literals_inside d h)

  pub named_literals_inside : (d : Derivation) → InsideDerivation I d → (ns : List ℕ) (ls : List Literal) → numbered_all (literals d) ns ≡ some ls → Each AtomInside ls
  named_literals_inside d h ns ls q = each_numbered_all AtomInside (literals d) ns ls q (literals_inside d h)

  pub pairs_inside : (m : ℕ) (e : Expression) (ds : List Expression) → I e.0 → Each (InsideExpression I) ds → Each (InsidePair I) (pairs_with m e ds)
  pairs_inside m e ds h k = each_map (InsideExpression I) (InsidePair I) (λ (d : Expression). (e, raise m d)) (λ d q. (h, q)) ds k

  pub own_bindings_inside : (d : Derivation) → InsideDerivation I d → Each (InsideBinding I) (own_bindings d)
  own_bindings_inside (input number ls) h = tt
  own_bindings_inside (resolve number l a r ns bs) h = h.2
  own_bindings_inside (factor number c a b bs) h = h.1

  pub uses_inside : (d : Derivation) → InsideDerivation I d → Each UseInside (uses d)
  uses_inside (input number ls) h = (h, tt)
  uses_inside (resolve number l a r ns bs) h = each_append UseInside (uses l) (uses r) (uses_inside l h.0) (uses_inside r h.1)
  uses_inside (factor number c a b bs) h = uses_inside c h.0
