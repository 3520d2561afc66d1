-- Solved environments: a substitution that gives every variable its value, and that it stays one with one more binding.
use mathlib.Core.Path.{◌≡◌, refl, sym, ap, ◌∙◌}
use mathlib.Core.Bool.{Bool, true, false}
use mathlib.Core.Option.{none, some}
use Prim.Native.Nat.{ℕ}
use Rattle.record.specs.Record.{pick}
use Rattle.unification.specs.Environment.{Environment, Respects}
use Rattle.unification.specs.Row.{Expression, Variable, same, written_out}
use Rattle.unification.specs.Substitution.{single}
use Rattle.unification.specs.Term.{Term, var, apply, Variables}
use Rattle.unification.proofs.Meaning.{with, respects_out, respects_new}
use Rattle.unification.proofs.Terms.{apply_ext, apply_apply, apply_var, apply_agree, variables_more, variables_both, variables_all, variables_apply}
use Rattle.unification.proofs.Tests.{same_eq, same_refl, some_not_none, some_injective}

-- σ gives each variable its value in ρ: it respects the bindings, leaves unbound variables alone, every γ that respects ρ factors
-- through it, and a value has only unbound variables. `good` says which indices are in use.
pub record Solved (good : ℕ → Type 0) (term : ℕ → Term ℕ) (ρ : Environment) (σ : Variable → Term Variable) : Type 1 where
  pub respects : Respects term σ ρ
  pub free : (x : Variable) → ρ x ≡ none → σ x ≡ var x
  pub factors : {Y : Type 0} (γ : Variable → Term Y) → Respects term γ ρ → (x : Variable) → apply γ (σ x) ≡ γ x
  pub unbound_only : (x : Variable) → good x.1 → Variables (λ y. good y.1 × (ρ y ≡ none)) (σ x)

-- The term has no x.
abbrev pub Without : Variable → Term Variable → Type 0
Without x t = Variables (λ y. ¬ (y ≡ x)) t

module _ (good : ℕ → Type 0) (term : ℕ → Term ℕ) (ρ : Environment) (σ : Variable → Term Variable) (S : Solved good term ρ σ) where
  pub factors_at : {Y : Type 0} (γ : Variable → Term Y) → Respects term γ ρ → (e : Expression) → apply γ (written_out term σ e) ≡ written_out term γ e
  factors_at γ h e = apply_apply γ (λ v. σ (v, e.1)) (term e.0) ∙ apply_ext (term e.0) (λ v. S.factors γ h (v, e.1))

  pub unbound_at : (e : Expression) → good e.1 → Variables (λ y. good y.1 × (ρ y ≡ none)) (written_out term σ e)
  unbound_at e o = variables_apply (λ y. good y.1 × (ρ y ≡ none)) (λ v. σ (v, e.1)) (term e.0) (variables_all (λ v. Variables (λ y. good y.1 × (ρ y ≡ none)) (σ (v, e.1))) (λ v. S.unbound_only (v, e.1) o) (term e.0))

  -- Substitutions that agree on the unbound variables in use agree on every value.
  abbrev Agree : {Y : Type 0} → (Variable → Term Y) → (Variable → Term Y) → Type 0
  Agree γ δ = (y : Variable) → good y.1 → ρ y ≡ none → γ y ≡ δ y

  agree_unbound : {Y : Type 0} (γ δ : Variable → Term Y) → Agree γ δ → (t : Term Variable) → Variables (λ y. good y.1 × (ρ y ≡ none)) t → apply γ t ≡ apply δ t
  agree_unbound γ δ h t v = apply_agree γ δ t (variables_more (λ y. good y.1 × (ρ y ≡ none)) (λ y. γ y ≡ δ y) (λ y p. h y p.0 p.1) t v)

  pub agree : {Y : Type 0} (γ δ : Variable → Term Y) → ((y : Variable) → good y.1 → ρ y ≡ none → γ y ≡ δ y) → (x : Variable) → good x.1 → apply γ (σ x) ≡ apply δ (σ x)
  agree γ δ h x o = agree_unbound γ δ h (σ x) (S.unbound_only x o)

  pub agree_at_lem : {Y : Type 0} (γ δ : Variable → Term Y) → ((y : Variable) → good y.1 → ρ y ≡ none → γ y ≡ δ y) → (e : Expression) → good e.1 → apply γ (written_out term σ e) ≡ apply δ (written_out term σ e)
  agree_at_lem γ δ h e o = agree_unbound γ δ h (written_out term σ e) (unbound_at e o)

  -- One more binding, of an unbound variable x to an expression e in whose value x does not occur.
  module _ (x : Variable) (e : Expression) (f : ρ x ≡ none) (oe : good e.1) (off : Without x (written_out term σ e)) where
    abbrev value : Term Variable
    value = written_out term σ e

    abbrev more : Variable → Term Variable
    more y = apply (single x value) (σ y)

    single_other : (y : Variable) → ¬ (y ≡ x) → single x value y ≡ var y
    single_other y n = try (same y x) refl
      where
        try : (b : Bool) → same y x ≡ b → pick b value (var y) ≡ var y
        try true q = absurd (n (same_eq y x q))
        try false q = refl

    single_value : apply (single x value) value ≡ value
    single_value = apply_agree (single x value) var value (variables_more (λ y. ¬ (y ≡ x)) (λ y. single x value y ≡ var y) single_other value off) ∙ apply_var value

    written_more : (d : Expression) → written_out term more d ≡ apply (single x value) (written_out term σ d)
    written_more d = sym (apply_apply (single x value) (λ v. σ (v, d.1)) (term d.0))

    respects_more : Respects term more (with ρ x e)
    respects_more y d p = try (same y x) refl p
      where
        try : (b : Bool) → same y x ≡ b → pick b (some e) (ρ y) ≡ some d → more y ≡ written_out term more d
        try true q r =
            let h : more x ≡ value = ap (apply (single x value)) (S.free x f) ∙ rw same_refl in
            ap more (same_eq y x q) ∙ h ∙ sym single_value ∙ sym (written_more e) ∙ ap (written_out term more) (some_injective r)
        try false q r = ap (apply (single x value)) (S.respects y d r) ∙ sym (written_more d)

    free_more : (y : Variable) → with ρ x e y ≡ none → more y ≡ var y
    free_more y p = try (same y x) refl p
      where
        try : (b : Bool) → same y x ≡ b → pick b (some e) (ρ y) ≡ none → more y ≡ var y
        try true q r = absurd (some_not_none r refl)
        try false q r = ap (apply (single x value)) (S.free y r) ∙ rw q

    factors_more : {Y : Type 0} (γ : Variable → Term Y) → Respects term γ (with ρ x e) → (y : Variable) → apply γ (more y) ≡ γ y
    factors_more {Y} γ h y = apply_apply γ (single x value) (σ y) ∙ apply_ext (σ y) same_γ ∙ S.factors γ k y
      where
        k : Respects term γ ρ
        k = respects_out term γ ρ x e f h

        try : (z : Variable) (b : Bool) → same z x ≡ b → apply γ (pick b value (var z)) ≡ γ z
        try z true q = factors_at γ k e ∙ sym (respects_new term γ ρ x e h) ∙ ap γ (sym (same_eq z x q))
        try z false q = refl

        same_γ : (z : Variable) → apply γ (single x value z) ≡ γ z
        same_γ z = try z (same z x) refl

    abbrev Unbound : Variable → Type 0
    Unbound y = good y.1 × (with ρ x e y ≡ none)

    unbound_other : (y : Variable) → ((good y.1 × (ρ y ≡ none)) × ¬ (y ≡ x)) → Unbound y
    unbound_other y p = (p.0.0, try (same y x) refl)
      where
        try : (b : Bool) → same y x ≡ b → pick b (some e) (ρ y) ≡ none
        try true q = absurd (p.1 (same_eq y x q))
        try false q = p.0.1

    unbound_value : Variables Unbound value
    unbound_value = variables_more (λ y. (good y.1 × (ρ y ≡ none)) × ¬ (y ≡ x)) Unbound unbound_other value (variables_both (λ y. good y.1 × (ρ y ≡ none)) (λ y. ¬ (y ≡ x)) value (unbound_at e oe) off)

    unbound_single : (z : Variable) → good z.1 × (ρ z ≡ none) → Variables Unbound (single x value z)
    unbound_single z p = try (same z x) refl
      where
        try : (b : Bool) → same z x ≡ b → Variables Unbound (pick b value (var z))
        try true q = unbound_value
        try false q = (p.0, rw q p.1)

    unbound_more : (y : Variable) → good y.1 → Variables Unbound (more y)
    unbound_more y o = variables_apply Unbound (single x value) (σ y) (variables_more (λ z. good z.1 × (ρ z ≡ none)) (λ z. Variables Unbound (single x value z)) unbound_single (σ y) (S.unbound_only y o))

    pub solved_with : Solved good term (with ρ x e) (λ y. apply (single x (written_out term σ e)) (σ y))
    solved_with = record { respects = respects_more; free = free_more; factors = factors_more; unbound_only = unbound_more }

-- Values do not depend on how they were found: whatever respects the bindings and leaves unbound variables alone is σ.
pub solved_unique : (good : ℕ → Type 0) (term : ℕ → Term ℕ) (ρ : Environment) (σ τ : Variable → Term Variable) → Solved good term ρ σ → Respects term τ ρ → ((x : Variable) → ρ x ≡ none → τ x ≡ var x) → (x : Variable) → good x.1 → σ x ≡ τ x
solved_unique good term ρ σ τ S R F x o = sym (apply_var (σ x)) ∙ agree good term ρ σ S var τ (λ y oy p. sym (F y p)) x o ∙ S.factors τ R x
