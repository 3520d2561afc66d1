-- Document 02, Q-5: when an input clause covers another. Literals are written out as terms over variable numbers.
use Rattle.std.specs.Prelude.{◌≡◌, ◌⊎◌, List, [], ◌∷◌, map, ℕ, ◌<◌}
use Rattle.std.proofs.Math.Option.{Option, some}
use Rattle.unification.specs.Term.{Term, apply}
use Rattle.derivation.specs.Derivation.{RowLiteral, numbered}
use Rattle.derivation.specs.Ground.{Ground, GroundLiteral, WellFormed, Assignment, SomeTrue}

-- A substitution for the variables of C, by their numbers. What it gives are terms over the variables of D, which stand as constants: they are
-- never replaced, so that a variable of C with the number of one of D is another one.
abbrev pub Substitution : Type 0
Substitution = ℕ → Term ℕ

-- What it is to cover, given the terms of rows.
module _ (term : ℕ → Term ℕ) where
  -- σ turns literal l of C into literal m of D, signs included.
  abbrev pub Turns : Substitution → RowLiteral → RowLiteral → Type 0
  Turns σ l m = (l.0 ≡ m.0) × (apply σ (term l.1) ≡ term m.1)

  -- A choice has a literal number of D for each literal of C. It works with σ if σ turns every literal of C into the one chosen for it. Two literals
  -- of C may go to one of D.
  abbrev pub Works : Substitution → List RowLiteral → List RowLiteral → List ℕ → Type 0
  Works σ [] D [] = Unit {0}
  Works σ [] D (n ∷ ns) = ⊥
  Works σ (l ∷ C) D [] = ⊥
  Works σ (l ∷ C) D (n ∷ ns) = ((m : RowLiteral) × (numbered D n ≡ some m) × Turns σ l m) × Works σ C D ns

  -- The instance of a clause in which every variable has the value that γ gives it; and that all variable-free instances are true: those by values over
  -- symbols that exist, each with as many arguments as its arity, and the extra constant (document 01, "Uses, values and instances").
  abbrev pub instance_by : (ℕ → Ground) → List RowLiteral → List GroundLiteral
  instance_by γ C = map (λ l. (l.0, apply γ (term l.1))) C

  abbrev pub AllInstancesTrue : (ℕ → Option ℕ) → Assignment → List RowLiteral → Type 0
  AllInstancesTrue arity A C = (γ : ℕ → Ground) → ((v : ℕ) → WellFormed arity (γ v)) → SomeTrue A (instance_by γ C)

-- One choice is not after another, compared from the first literal of C on.
abbrev pub NotAfter : List ℕ → List ℕ → Type 0
NotAfter [] ms = Unit {0}
NotAfter (n ∷ ns) [] = ⊥
NotAfter (n ∷ ns) (m ∷ ms) = (n < m) ⊎ ((n ≡ m) × NotAfter ns ms)
