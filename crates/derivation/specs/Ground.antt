-- Document 01, "Uses, values and instances": variable-free terms, values, instances and assignments.
use Rattle.std.specs.Prelude.{◌≡◌, ◌⊎◌, Bool, List, [], ◌∷◌, map, ℕ, suc}
use Rattle.std.proofs.Math.Option.{Option, none, some}
use Rattle.unification.specs.Environment.{Environment, Respects}
use Rattle.unification.specs.Row.{Variable, written_out}
use Rattle.unification.specs.Term.{Term, Terms, var, app, nil, cons, apply}
use Rattle.derivation.specs.Derivation.{RowLiteral, Derivation, Use}
use Rattle.derivation.specs.Written.{substitution}

-- A variable-free term. The one thing that stands where a variable might is the extra constant.
abbrev pub Ground : Type 0
Ground = Term (Unit {0})

abbrev pub extra_constant : Ground
extra_constant = var tt

-- Values: an unbound variable has the extra constant; a bound one has what it is bound to, written out, with each variable in it
-- replaced by its own value. That there is one such γ in the accepted clause, and only one, is part of demand 3.
pub record Values (term : ℕ → Term ℕ) (ρ : Environment) (γ : Variable → Ground) : Type 0 where
  pub unbound : (x : Variable) → ρ x ≡ none → γ x ≡ extra_constant
  pub bound : Respects term γ ρ

-- The values in a clause, computed: its substitution, with the extra constant for every variable that is left.
abbrev pub value_in : (ℕ → Term ℕ) → Derivation → Variable → Ground
value_in term c x = apply (λ _. extra_constant) (substitution term c x)

-- A literal whose atom is variable-free.
abbrev pub GroundLiteral : Type 0
GroundLiteral = Bool × Ground

-- The instance of an input clause as the k-th use, and the instances of uses from the k-th on.
abbrev pub instance_at : (ℕ → Term ℕ) → (Variable → Ground) → ℕ → List RowLiteral → List GroundLiteral
instance_at term γ k ls = map (λ l. (l.0, written_out term γ (l.1, k))) ls

abbrev pub instances : (ℕ → Term ℕ) → (Variable → Ground) → ℕ → List Use → List (List GroundLiteral)
instances term γ k [] = []
instances term γ k (u ∷ us) = instance_at term γ k u.1 ∷ instances term γ (suc k) us

-- A term of symbols that exist, each with as many arguments as its arity, and of the extra constant.
module _ (arity : ℕ → Option ℕ) where
  abbrev pub argument_count : {X : Type 0} → Terms X → ℕ
  argument_count nil = 0
  argument_count (cons t ts) = suc (argument_count ts)

  abbrev mutual
    pub WellFormed : Ground → Type 0
    WellFormed (var x) = Unit {0}
    WellFormed (app s ts) = (arity s ≡ some (argument_count ts)) × AllWellFormed ts

    pub AllWellFormed : Terms (Unit {0}) → Type 0
    AllWellFormed nil = Unit {0}
    AllWellFormed (cons t ts) = WellFormed t × AllWellFormed ts

  abbrev pub WellFormedInstance : List GroundLiteral → Type 0
  WellFormedInstance [] = Unit {0}
  WellFormedInstance (l ∷ ls) = WellFormed l.1 × WellFormedInstance ls

  abbrev pub WellFormedInstances : List (List GroundLiteral) → Type 0
  WellFormedInstances [] = Unit {0}
  WellFormedInstances (u ∷ us) = WellFormedInstance u × WellFormedInstances us

-- An assignment of true or false to variable-free atoms; a literal is true if its atom has its sign, an instance if some literal is.
abbrev pub Assignment : Type 0
Assignment = Ground → Bool

abbrev pub SomeTrue : Assignment → List GroundLiteral → Type 0
SomeTrue A [] = ⊥
SomeTrue A (l ∷ ls) = (A l.1 ≡ l.0) ⊎ SomeTrue A ls

abbrev pub AllTrue : Assignment → List (List GroundLiteral) → Type 0
AllTrue A [] = Unit {0}
AllTrue A (u ∷ us) = SomeTrue A u × AllTrue A us
