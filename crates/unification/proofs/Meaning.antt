-- What an expression means under an assignment of terms to variables, and that following keeps it.
use mathlib.Core.Path.{◌≡◌, refl, ap, ◌∙◌}
use mathlib.Core.Bool.{Bool, true, false}
use mathlib.Core.Option.{Option, none, some}
use mathlib.Core.List.{List}
use Prim.Native.Nat.{ℕ, zero, suc}
use Rattle.record.specs.Record.{pick}
use Rattle.unification.specs.Environment.{follow, Environment, unbound, link, View, applied, view_variable, view_row, onward, Respects}
use Rattle.unification.specs.Row.{variable, Row, application, Expression, Variable, same, argument_terms, row_term, written_out}
use Rattle.unification.specs.Term.{Term, Terms, app, apply, apply_all}
use Rattle.unification.proofs.Tests.{same_eq, same_refl, some_not_none, some_injective}

-- the pattern of each row, in variable numbers
module _ (term : ℕ → Term ℕ) {Y : Type 0} (γ : Variable → Term Y) where
  -- The arguments of an application at an index, written out.
  abbrev pub written_arguments : List ℕ → ℕ → Terms Y
  written_arguments xs i = apply_all (λ v. γ (v, i)) (argument_terms term xs)

  abbrev pub written_view : View → Term Y
  written_view (unbound v e) = γ e
  written_view (applied s xs e) = app s (written_arguments xs e.1)
  written_view (link e) = written_out term γ e

abbrev pub expression_of : View → Expression
expression_of (unbound v e) = e
expression_of (applied s xs e) = e
expression_of (link e) = e

-- where following ends
abbrev pub Ended : (ℕ → Row) → Environment → View → Type 0
Ended row ρ (unbound v e) = (row e.0 ≡ variable v) × (ρ e ≡ none)
Ended row ρ (applied s xs e) = row e.0 ≡ application s xs
Ended row ρ (link e) = Unit {0}

module _ (row : ℕ → Row) (term : ℕ → Term ℕ) (termLaw : (r : ℕ) → term r ≡ row_term term r (row r)) where
  module _ {Y : Type 0} (γ : Variable → Term Y) where
    pub written_row : (e : Expression) (w : Row) → row e.0 ≡ w → written_out term γ e ≡ apply (λ v. γ (v, e.1)) (row_term term e.0 w)
    written_row e w q = ap (λ t. apply (λ v. γ (v, e.1)) t) (termLaw e.0 ∙ ap (row_term term e.0) q)

    pub written_ended : (ρ : Environment) (w : View) → Ended row ρ w → written_out term γ (expression_of w) ≡ written_view term γ w
    written_ended ρ (unbound v e) h = written_row e (variable v) h.0
    written_ended ρ (applied s xs e) h = written_row e (application s xs) h
    written_ended ρ (link e) h = refl

    written_view_variable : (ρ : Environment) → Respects term γ ρ → (v : ℕ) (e : Expression) (o : Option Expression) → ρ e ≡ o → γ e ≡ written_view term γ (view_variable o v e)
    written_view_variable ρ h v e none q = refl
    written_view_variable ρ h v e (some d) q = h e d q

    written_view_row : (ρ : Environment) → Respects term γ ρ → (e : Expression) (w : Row) → row e.0 ≡ w → written_out term γ e ≡ written_view term γ (view_row w ρ e)
    written_view_row ρ h e (variable v) q = written_row e (variable v) q ∙ written_view_variable ρ h v e (ρ e) refl
    written_view_row ρ h e (application s xs) q = written_row e (application s xs) q

    pub written_follow : (n : ℕ) (ρ : Environment) → Respects term γ ρ → (e : Expression) → written_out term γ e ≡ written_view term γ (follow row n ρ e)
    written_follow zero ρ h e = written_view_row ρ h e (row e.0) refl
    written_follow (suc n) ρ h e = further (λ d. written_follow n ρ h d) (view_row (row e.0) ρ e) (written_view_row ρ h e (row e.0) refl)
      where
        further : ((d : Expression) → written_out term γ d ≡ written_view term γ (follow row n ρ d)) → (w : View) → written_out term γ e ≡ written_view term γ w → written_out term γ e ≡ written_view term γ (onward (λ d. follow row n ρ d) w)
        further ih (unbound v d) q = q
        further ih (applied s xs d) q = q
        further ih (link d) q = q ∙ ih d

module _ (row : ℕ → Row) where
  ended_view_variable : (ρ : Environment) (v : ℕ) (e : Expression) → row e.0 ≡ variable v → (o : Option Expression) → ρ e ≡ o → Ended row ρ (view_variable o v e)
  ended_view_variable ρ v e q none p = (q, p)
  ended_view_variable ρ v e q (some d) p = tt

  ended_view_row : (ρ : Environment) (e : Expression) (w : Row) → row e.0 ≡ w → Ended row ρ (view_row w ρ e)
  ended_view_row ρ e (variable v) q = ended_view_variable ρ v e q (ρ e) refl
  ended_view_row ρ e (application s xs) q = q

  pub follow_ends : (n : ℕ) (ρ : Environment) (e : Expression) → Ended row ρ (follow row n ρ e)
  follow_ends zero ρ e = ended_view_row ρ e (row e.0) refl
  follow_ends (suc n) ρ e = further (λ d. follow_ends n ρ d) (view_row (row e.0) ρ e) (ended_view_row ρ e (row e.0) refl)
    where
      further : ((d : Expression) → Ended row ρ (follow row n ρ d)) → (w : View) → Ended row ρ w → Ended row ρ (onward (λ d. follow row n ρ d) w)
      further ih (unbound v d) q = q
      further ih (applied s xs d) q = q
      further ih (link d) q = ih d

  -- what following ended link is followed written_out once
  peek_unb : (ρ : Environment) (v : ℕ) (e : Expression) → row e.0 ≡ variable v → ρ e ≡ none → view_row (row e.0) ρ e ≡ unbound v e
  peek_unb ρ v e q p = ap (λ w. view_row w ρ e) q ∙ ap (λ o. view_variable o v e) p

  pub follow_unb : (n : ℕ) (ρ : Environment) (v : ℕ) (e : Expression) → row e.0 ≡ variable v → ρ e ≡ none → follow row n ρ e ≡ unbound v e
  follow_unb zero ρ v e q p = peek_unb ρ v e q p
  follow_unb (suc n) ρ v e q p = ap (λ (w : View). onward (λ d. follow row n ρ d) w) (peek_unb ρ v e q p)

  pub follow_appl : (n : ℕ) (ρ : Environment) (s : ℕ) (xs : List ℕ) (e : Expression) → row e.0 ≡ application s xs → follow row n ρ e ≡ applied s xs e
  follow_appl zero ρ s xs e q = ap (λ w. view_row w ρ e) q
  follow_appl (suc n) ρ s xs e q = ap (λ (w : View). onward (λ d. follow row n ρ d) w) (ap (λ w. view_row w ρ e) q)

-- An environment with one more binding.
abbrev pub with : Environment → Variable → Expression → Environment
with ρ x e y = pick (same y x) (some e) (ρ y)

module _ (term : ℕ → Term ℕ) {Y : Type 0} (γ : Variable → Term Y) (ρ : Environment) (x : Variable) (e : Expression) where
  pub respects_in : Respects term γ ρ → γ x ≡ written_out term γ e → Respects term γ (with ρ x e)
  respects_in h q y d p = try (same y x) refl p
    where
      try : (b : Bool) → same y x ≡ b → pick b (some e) (ρ y) ≡ some d → γ y ≡ written_out term γ d
      try true s p' = ap γ (same_eq y x s) ∙ q ∙ ap (written_out term γ) (some_injective p')
      try false s p' = h y d p'

  pub respects_out : ρ x ≡ none → Respects term γ (with ρ x e) → Respects term γ ρ
  respects_out f h y d p = try (same y x) refl (λ k. h y d k)
    where
      try : (b : Bool) → same y x ≡ b → (pick b (some e) (ρ y) ≡ some d → γ y ≡ written_out term γ d) → γ y ≡ written_out term γ d
      try true s k = absurd (some_not_none (ap ρ (same_eq y x s) ∙ f) p)
      try false s k = k p

  pub respects_new : Respects term γ (with ρ x e) → γ x ≡ written_out term γ e
  respects_new h = h x e (rw same_refl)
