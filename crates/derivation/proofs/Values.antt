-- Values exist, are unique, and are what the clause's substitution gives; and an empty clause refutes its uses.
use mathlib.Core.Path.{◌≡◌, refl, sym, ap, ◌∙◌, subst}
use mathlib.Core.Option.{Option, none, some}
use mathlib.Core.List.{List, []}
use Prim.Native.Nat.{ℕ}
use lib.ListN.{length}
use Rattle.unification.specs.Environment.{Respects}
use Rattle.unification.specs.Row.{Row, application, Expression, Variable, row_term}
use Rattle.unification.specs.Term.{Term, apply}
use Rattle.unification.proofs.Solved.{Solved, agree}
use Rattle.unification.proofs.Terms.{apply_apply}
use Rattle.derivation.specs.Derivation.{literals, Derivation, maximum_index, lookup, uses}
use Rattle.derivation.specs.Ground.{instances, Ground, extra_constant, Values, value_in, Assignment, AllTrue}
use Rattle.derivation.specs.Written.{substitution, WritesOut}
use Rattle.derivation.proofs.Literals.{In}
use Rattle.derivation.proofs.Substitutions.{lookup_solved}
use Rattle.derivation.proofs.Truth.{SomeHolds, sound}
use Rattle.derivation.proofs.Validity.{Valid, lookup_in}

module _ (row : ℕ → Row) (term : ℕ → Term ℕ) (termLaw : (r : ℕ) → term r ≡ row_term term r (row r)) (c : Derivation) (K : Valid row c) where
  solved : Solved (In (maximum_index c)) term (lookup c) (substitution term c)
  solved = lookup_solved row term termLaw c K

  pub writes_out : WritesOut term (lookup c) (substitution term c)
  writes_out = record { unbound = solved.free; bound = solved.respects }

  -- Two assignments of terms to variables that respect the bindings and agree on unbound variables agree.
  same_values : {Y : Type 0} (γ δ : Variable → Term Y) → Respects term γ (lookup c) → Respects term δ (lookup c) → ((x : Variable) → lookup c x ≡ none → γ x ≡ δ x) → (x : Variable) → γ x ≡ δ x
  same_values γ δ G D h x = try (lookup c x) refl
    where
      try : (o : Option Expression) → lookup c x ≡ o → γ x ≡ δ x
      try none p = h x p
      try (some e) p = sym (solved.factors γ G x) ∙ agree (In (maximum_index c)) term (lookup c) (substitution term c) solved γ δ (λ y oy q. h y q) x (lookup_in row c K x e p).0 ∙ solved.factors δ D x

  pub writes_out_unique : (τ : Variable → Term Variable) → WritesOut term (lookup c) τ → (x : Variable) → substitution term c x ≡ τ x
  writes_out_unique τ W x = same_values (substitution term c) τ solved.respects W.bound (λ y p. solved.free y p ∙ sym (W.unbound y p)) x

  pub values_exist : Values term (lookup c) (value_in term c)
  values_exist = record {
    unbound = λ x p. ap (apply (λ _. extra_constant)) (solved.free x p);
    bound = λ x e p. ap (apply (λ _. extra_constant)) (solved.respects x e p) ∙ apply_apply (λ _. extra_constant) (λ v. substitution term c (v, e.1)) (term e.0);
  }

  pub values_unique_lem : (γ : Variable → Ground) → Values term (lookup c) γ → (x : Variable) → value_in term c x ≡ γ x
  values_unique_lem γ G x = same_values (value_in term c) γ values_exist.bound G.bound (λ y p. values_exist.unbound y p ∙ sym (G.unbound y p)) x

  module _ (arities : (r q s : ℕ) (xs ys : List ℕ) → row r ≡ application s xs → row q ≡ application s ys → length xs ≡ length ys) where
    pub refutes : literals c ≡ [] → (γ : Variable → Ground) → Values term (lookup c) γ → (A : Assignment) → ¬ AllTrue A (instances term γ 1 (uses c))
    refutes q γ v A h = subst (SomeHolds term A γ) q (sound row term termLaw arities A c K γ v.bound h)
