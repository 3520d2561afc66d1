-- The values and instances of a clause renumbered are those of the clause, with other symbols.
use mathlib.Core.Path.{◌≡◌, refl, sym, ap, ap₂, ◌∙◌}
use mathlib.Core.List.{List, [], ◌∷◌, map}
use Prim.Native.Nat.{ℕ, suc}
use Rattle.unification.specs.Row.{Variable, written_out}
use Rattle.unification.specs.Term.{Term, apply}
use Rattle.unification.proofs.Lists.{Each, map_each, map_map}
use Rattle.unification.proofs.Terms.{variables_all}
use Rattle.derivation.specs.Derivation.{RowLiteral, Derivation, uses, Use}
use Rattle.derivation.specs.Ground.{Ground, extra_constant, value_in, GroundLiteral, instance_at, instances}
use Rattle.derivation.specs.Written.{substitution}
use Rattle.renumbering.proofs.Inside.{InsideLiteral, InsideDerivation, RenumbersTerms}
use Rattle.renumbering.specs.Renumbering.{Renumbering, renumbered_row_literal, with_symbols, literal_with_symbols}
use Rattle.renumbering.proofs.Renumbered.{renumbered_expression, renumbered_derivation}
use Rattle.renumbering.proofs.Derivations.{renumbered_use, uses_renumbered, UseInside, uses_inside}
use Rattle.renumbering.proofs.Looking.{OneRow}
use Rattle.renumbering.proofs.WrittenOut.{apply_renamed, written_out_renamed, substitution_renumbered}

module _ (N : Renumbering) (I : ℕ → Type 0) (term term' : ℕ → Term ℕ) (terms : RenumbersTerms N I term term') where
  -- Instances by values that agree on what is inside, up to the symbols.
  module _ (γ γ' : Variable → Ground) (agree : (x : Variable) → I x.0 → γ' (renumbered_expression N x) ≡ with_symbols N.symbol (γ x)) where
    pub instance_renumbered : (k : ℕ) (ls : List RowLiteral) → Each (InsideLiteral I) ls → instance_at term' γ' k (map (renumbered_row_literal N) ls) ≡ map (literal_with_symbols N.symbol) (instance_at term γ k ls)
    instance_renumbered k ls h =
        map_map (λ (l : RowLiteral). (l.0, written_out term' γ' (l.1, k))) (renumbered_row_literal N) ls
        ∙ map_each (InsideLiteral I) (λ (l : RowLiteral). (l.0, written_out term' γ' (N.row l.1, k))) (λ (l : RowLiteral). (l.0, with_symbols N.symbol (written_out term γ (l.1, k))))
        (λ l j. ap (λ (t : Ground). (l.0, t)) (written_out_renamed N I term term' terms (λ x. x) γ γ' agree (l.1, k) j)) ls h
        ∙ sym (map_map (literal_with_symbols N.symbol) (λ (l : RowLiteral). (l.0, written_out term γ (l.1, k))) ls)

    pub instances_of_uses : (k : ℕ) (us : List Use) → Each (UseInside I) us → instances term' γ' k (map (renumbered_use N) us) ≡ map (map (literal_with_symbols N.symbol)) (instances term γ k us)
    instances_of_uses k [] h = refl
    instances_of_uses k (u ∷ us) h = ap₂ (λ (x : List GroundLiteral) (xs : List (List GroundLiteral)). x ∷ xs) (instance_renumbered k u.1 h.0) (instances_of_uses (suc k) us h.1)

  module _ (one : OneRow N I) (d : Derivation) (inside : InsideDerivation I d) where
    pub value_renumbered : (x : Variable) → I x.0 → value_in term' (renumbered_derivation N d) (renumbered_expression N x) ≡ with_symbols N.symbol (value_in term d x)
    value_renumbered x h =
        ap (apply (λ _. extra_constant)) (substitution_renumbered N I term term' terms one d inside x h)
        ∙ apply_renamed N.symbol (renumbered_expression N) (λ c. c) (λ _. extra_constant) (λ _. extra_constant) (substitution term d x)
        (variables_all (λ (y : Variable). extra_constant ≡ extra_constant) (λ y. refl) (substitution term d x))

    pub instances_renumbered : (k : ℕ) → instances term' (value_in term' (renumbered_derivation N d)) k (uses (renumbered_derivation N d)) ≡ map (map (literal_with_symbols N.symbol)) (instances term (value_in term d) k (uses d))
    instances_renumbered k =
        ap (instances term' (value_in term' (renumbered_derivation N d)) k) (uses_renumbered N d)
        ∙ instances_of_uses (value_in term d) (value_in term' (renumbered_derivation N d)) value_renumbered k (uses d) (uses_inside I d inside)
