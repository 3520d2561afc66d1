-- Document 02, Q-7: variable-free instances of clauses, and resolvents and factors of such. No unifier comes in: atoms are equal as they stand.
use Rattle.std.specs.Prelude.{◌≡◌, Bool, not, List, [], ◌∷◌, ◌++◌, map, ℕ}
use Rattle.std.proofs.Math.Option.{some}
use Rattle.unification.specs.Row.{Variable}
use Rattle.unification.specs.Term.{apply}
use Rattle.derivation.specs.Derivation.{numbered, numbered_all}
use Rattle.derivation.specs.Ground.{Ground, GroundLiteral}
use Rattle.derivation.specs.Textbook.{remaining}
use Rattle.derivation.specs.Written.{Clause}

-- A clause without variables.
abbrev pub GroundClause : Type 0
GroundClause = List GroundLiteral

-- The instance of a clause in which every variable has the value that γ gives it: a term over any symbols and the extra constant.
abbrev pub ground_instance : (Variable → Ground) → Clause → GroundClause
ground_instance γ C = map (λ l. (l.0, apply γ l.1)) C

-- G is an instance of C: one substitution for the variables of C gives G, literal by literal.
abbrev pub InstanceOf : GroundClause → Clause → Type 0
InstanceOf G C = (γ : Variable → Ground) × (G ≡ ground_instance γ C)

-- G and H resolve on the literal numbered a of G and all literals numbered bs of H, which have one atom and opposite signs; E has the literals
-- that remain, in order. Only named literals go: others with the same atom stay.
pub record GroundResolvent (G : GroundClause) (a : ℕ) (H : GroundClause) (bs : List ℕ) (E : GroundClause) : Type 0 where
  pub sign : Bool
  pub atom : Ground
  pub is_left : numbered G a ≡ some (sign, atom)
  pub are_right : numbered_all H bs ≡ some (map (λ b. (not sign, atom)) bs)
  pub result : E ≡ remaining 1 (a ∷ []) G ++ remaining 1 bs H

-- The literals numbered a and b of G have one atom and one sign; E is G without the latter.
pub record GroundFactor (G : GroundClause) (a b : ℕ) (E : GroundClause) : Type 0 where
  pub sign : Bool
  pub atom : Ground
  pub is_kept : numbered G a ≡ some (sign, atom)
  pub is_deleted : numbered G b ≡ some (sign, atom)
  pub different : ¬ (a ≡ b)
  pub result : E ≡ remaining 1 (b ∷ []) G
