-- Document 01, "Indices and bindings": bindings, environments, and what following an expression ends on.
use Rattle.std.specs.Prelude.{◌≡◌, List, [], ◌∷◌, ℕ, zero, suc}
use Rattle.std.proofs.Math.Option.{Option, none, some}
use Rattle.record.specs.Record.{pick}
use Rattle.unification.specs.Row.{variable, Row, application, Expression, Variable, same, written_out}
use Rattle.unification.specs.Term.{Term}

-- A binding of a variable to an expression.
abbrev pub Binding : Type 0
Binding = Variable × Expression

-- An environment says what a variable is bound to, if anything.
abbrev pub Environment : Type 0
Environment = Variable → Option Expression

-- An environment with more bindings, the newest first.
abbrev pub extend : Environment → List Binding → Environment
extend ρ [] x = ρ x
extend ρ (b ∷ bs) x = pick (same x b.0) (some b.1) (extend ρ bs x)

-- What an expression is in an environment: an unbound variable (its number), an application (its symbol and argument rows), each
-- with its row and index; or a bound variable, which links to another expression.
pub data View : Type 0 where
  unbound : ℕ → Expression → View
  applied : ℕ → List ℕ → Expression → View
  link : Expression → View

-- It is no link.
abbrev pub Ends : View → Type 0
Ends (unbound v e) = Unit {0}
Ends (applied s xs e) = Unit {0}
Ends (link e) = ⊥

abbrev pub view_variable : Option Expression → ℕ → Expression → View
view_variable none v e = unbound v e
view_variable (some d) v e = link d

abbrev pub view_row : Row → Environment → Expression → View
view_row (variable v) ρ e = view_variable (ρ e) v e
view_row (application s xs) ρ e = applied s xs e

abbrev pub onward : (Expression → View) → View → View
onward next (unbound v e) = unbound v e
onward next (applied s xs e) = applied s xs e
onward next (link e) = next e

-- Following an expression over at most n links. It ends on an unbound variable or an application; that n is never too small
-- in a file is shown (`following_ends` of demand 2 for clauses that stand, `stated_numbers` for what a step does).
module _ (row : ℕ → Row) where
  abbrev pub follow : ℕ → Environment → Expression → View
  follow zero ρ e = view_row (row e.0) ρ e
  follow (suc n) ρ e = onward (λ d. follow n ρ d) (view_row (row e.0) ρ e)

-- γ respects an environment: a bound variable gets what it is bound to, written out with what γ gives the variables in it.
module _ (term : ℕ → Term ℕ) {Y : Type 0} (γ : Variable → Term Y) where
  abbrev pub Respects : Environment → Type 0
  Respects ρ = (x : Variable) (e : Expression) → ρ x ≡ some e → γ x ≡ written_out term γ e
