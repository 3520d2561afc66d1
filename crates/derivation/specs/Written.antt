-- A clause written out, as the textbook has it: literals with terms for atoms, no indices followed and no bindings left.
use Rattle.std.specs.Prelude.{◌≡◌, Bool, List, map, ℕ, ◌-◌, leb}
use Rattle.std.proofs.Math.Option.{none}
use Rattle.record.specs.Record.{pick}
use Rattle.unification.specs.Environment.{Environment, Respects}
use Rattle.unification.specs.Row.{Variable, written_out}
use Rattle.unification.specs.Substitution.{composed}
use Rattle.unification.specs.Term.{Term, var, apply}
use Rattle.derivation.specs.Derivation.{literals, input, Literal, Derivation, resolve, factor, raise, maximum_index}

-- A clause of terms.
abbrev pub Clause : Type 0
Clause = List (Bool × Term Variable)

-- Both parents' substitutions as one: the right one's, with every index raised by the left maximum index m.
abbrev pub renamed : ℕ → Variable → Term Variable
renamed m y = var (raise m y)

abbrev pub joined_substitution : ℕ → (Variable → Term Variable) → (Variable → Term Variable) → Variable → Term Variable
joined_substitution m left right x = pick (leb x.1 m) (left x) (apply (renamed m) (right (x.0, x.1 - m)))

-- The substitution of a clause: the parents' with the clause's own bindings composed into it, oldest first. It gives every variable
-- the value that looking up gives, written out (`WritesOut` below is what that means; that it is so, and of no other substitution, is `written_by_lookup` of demand 2).
module _ (term : ℕ → Term ℕ) where
  abbrev pub substitution : Derivation → Variable → Term Variable
  substitution (input number ls) x = var x
  substitution (resolve number l a r ns bs) x = composed term (joined_substitution (maximum_index l) (substitution l) (substitution r)) bs x
  substitution (factor number c a b bs) x = composed term (substitution c) bs x

  -- Literals written out by a substitution.
  abbrev pub written_literal : (Variable → Term Variable) → Literal → Bool × Term Variable
  written_literal σ l = (l.0, written_out term σ l.1)

  abbrev pub written : Derivation → Clause
  written c = map (written_literal (substitution c)) (literals c)

  -- σ gives every variable its value in the environment: itself where it is unbound, and otherwise what it is bound to.
  pub record WritesOut (ρ : Environment) (σ : Variable → Term Variable) : Type 0 where
    pub unbound : (x : Variable) → ρ x ≡ none → σ x ≡ var x
    pub bound : Respects term σ ρ
