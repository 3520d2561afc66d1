-- Unifiers and most general unifiers of a list of pairs of terms, as the textbooks have them.
use Rattle.std.specs.Prelude.{◌≡◌, List, [], ◌∷◌}
use Rattle.unification.specs.Row.{Variable}
use Rattle.unification.specs.Term.{Term, apply}

-- Two terms that are to be made equal.
abbrev pub TermPair : Type 0
TermPair = Term Variable × Term Variable

-- τ makes the two terms of every pair equal.
abbrev pub Unifies : {Y : Type 0} → (Variable → Term Y) → List TermPair → Type 0
Unifies τ [] = Unit {0}
Unifies τ (p ∷ ps) = (apply τ p.0 ≡ apply τ p.1) × Unifies τ ps

-- No substitution whose values are terms over Y does. The theorems hold for every Y.
abbrev pub NoUnifier : Type 0 → List TermPair → Type 0
NoUnifier Y ps = (τ : Variable → Term Y) → ¬ Unifies τ ps

-- θ unifies, and every unifier whose values are terms over Y is θ followed by that unifier. The theorems hold for every Y.
pub record MostGeneralUnifier (Y : Type 0) (θ : Variable → Term Variable) (ps : List TermPair) : Type 0 where
  pub unifies : Unifies θ ps
  pub general : (τ : Variable → Term Y) → Unifies τ ps → (x : Variable) → τ x ≡ apply τ (θ x)
