-- Document 02, Q-7: nothing is lost by staying general, against any variable-free instances of a step's parents.
use Rattle.std.specs.Prelude.{◌≡◌, List, [], ◌∷◌, ℕ}
use Rattle.std.proofs.Math.Option.{some}
use Rattle.record.specs.Record.{File, Record, field_a, field_b, field_c}
use Rattle.unification.specs.Row.{Variable}
use Rattle.derivation.specs.Derivation.{Derivation}
use Rattle.derivation.specs.Ground.{Ground}
use Rattle.derivation.specs.Lifting.{GroundClause, ground_instance, InstanceOf, GroundResolvent, GroundFactor}
use Rattle.derivation.specs.Written.{written}
use Rattle.demands.specs.Conditions.{OneOf, RightLiterals}
use Rattle.demands.specs.Demands.{Reached}
use Rattle.verdict.specs.Refusal.{Reason, reason_number}
use Rattle.verdict.specs.State.{State, with_clause, clause_of, term_of}
use Rattle.verdict.specs.Step.{stands, refused, step}

-- What a step keeps of E, a resolvent or factor of its parents' instances.
pub record NotLost (S : State) (k : ℕ) (r : Record) (E : GroundClause) : Type 0 where
  -- The step is not refused with 10 or 11.
  pub not_refused : (reason : Reason) → step S k r ≡ refused reason → ¬ OneOf (reason_number reason) (10 ∷ 11 ∷ [])
  -- If it stands, E is an instance of the clause that it makes.
  pub instance_made : (T : State) → step S k r ≡ stands T → (clause : Derivation) × (T ≡ with_clause S k clause) × InstanceOf E (written (term_of S) clause)

-- Of every file, every record that reading comes to, and any values for the parents' variables.
pub record NothingLost (file : File) : Type 0 where
  -- If two parents have variable-free instances, with values of their own each, that resolve on the named literals, in kind 7 on all of them.
  pub resolvents : (k : ℕ) (S : State) (r : Record) (ns : List ℕ) (left right : Derivation) → Reached file k S r → RightLiterals r ns
      → clause_of S (field_a r) ≡ some left → clause_of S (field_c r) ≡ some right → (γ δ : Variable → Ground) (E : GroundClause)
      → GroundResolvent (ground_instance γ (written (term_of S) left)) (field_b r) (ground_instance δ (written (term_of S) right)) ns E → NotLost S k r E
  -- The same for factors.
  pub factors : (k : ℕ) (S : State) (r : Record) (parent : Derivation) → Reached file k S r → r.kind ≡ 6
      → clause_of S (field_a r) ≡ some parent → (γ : Variable → Ground) (E : GroundClause)
      → GroundFactor (ground_instance γ (written (term_of S) parent)) (field_b r) (field_c r) E → NotLost S k r E
