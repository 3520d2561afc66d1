-- A clause that covers another is at least as strong: where all its variable-free instances are true, all those of the other are.
use mathlib.Core.Path.{◌≡◌, refl, sym, ap, ◌∙◌, subst}
use mathlib.Core.Logic.{inl, inr}
use mathlib.Core.Option.{Option, some}
use mathlib.Core.List.{List, [], ◌∷◌}
use Prim.Native.Nat.{ℕ, zero, suc}
use Rattle.unification.specs.Term.{Term, apply}
use Rattle.unification.proofs.Terms.{apply_apply}
use Rattle.unification.proofs.Tests.{some_not_none, some_injective}
use Rattle.derivation.specs.Derivation.{RowLiteral, numbered}
use Rattle.derivation.specs.Ground.{Ground, WellFormed, Assignment, SomeTrue}
use Rattle.coverings.specs.Covering.{Substitution, Works, instance_by, AllInstancesTrue}

-- A term that is variable-free, over symbols that exist at their arities, once its variables have such values.
abbrev pub Formed : (ℕ → Option ℕ) → Term ℕ → Type 0
Formed arity t = (γ : ℕ → Ground) → ((v : ℕ) → WellFormed arity (γ v)) → WellFormed arity (apply γ t)

module _ (term : ℕ → Term ℕ) (A : Assignment) where
  -- A true literal makes an instance true.
  numbered_true : (γ : ℕ → Ground) (D : List RowLiteral) (n : ℕ) (m : RowLiteral) → numbered D n ≡ some m → A (apply γ (term m.1)) ≡ m.0 → SomeTrue A (instance_by term γ D)
  numbered_true γ [] n m q t = absurd (some_not_none refl q)
  numbered_true γ (l ∷ D) zero m q t = absurd (some_not_none refl q)
  numbered_true γ (l ∷ D) (suc zero) m q t = inl (subst (λ (x : RowLiteral). A (apply γ (term x.1)) ≡ x.0) (sym (some_injective q)) t)
  numbered_true γ (l ∷ D) (suc (suc n)) m q t = inr (numbered_true γ D (suc n) m q t)

  -- An instance of C by the substitution makes the instance of D true.
  turned_true : (σ : Substitution) (γ : ℕ → Ground) (C D : List RowLiteral) (ns : List ℕ) → Works term σ C D ns → SomeTrue A (instance_by term (λ v. apply γ (σ v)) C) → SomeTrue A (instance_by term γ D)
  turned_true σ γ [] D ns h t = absurd t
  turned_true σ γ (l ∷ C) D [] h t = absurd h
  turned_true σ γ (l ∷ C) D (n ∷ ns) h (inl t) =
      let w = h.0 in
      numbered_true γ D n w.0 w.1 (ap A (ap (apply γ) (sym w.2.1) ∙ apply_apply γ σ (term l.1)) ∙ t ∙ w.2.0)
  turned_true σ γ (l ∷ C) D (n ∷ ns) h (inr t) = turned_true σ γ C D ns h.1 t

  -- What σ gives is a term of the file: with variable-free values for its variables it is one too.
  pub covered_true : (arity : ℕ → Option ℕ) (σ : Substitution) (C D : List RowLiteral) (ns : List ℕ) → Works term σ C D ns → ((v : ℕ) → Formed arity (σ v)) → AllInstancesTrue term arity A C → AllInstancesTrue term arity A D
  covered_true arity σ C D ns h f all γ w = turned_true σ γ C D ns h (all (λ v. apply γ (σ v)) (λ v. f v γ w))
