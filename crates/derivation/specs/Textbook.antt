-- Resolution and factoring as document 004 has them, for either sign: the remaining literals, in order, under a most general unifier.
use Rattle.std.specs.Prelude.{◌≡◌, Bool, false, ◌||◌, not, List, [], ◌∷◌, ◌++◌, map, ℕ, suc, ◌≤◌, ◌<◌, eqb}
use Rattle.std.proofs.Math.Option.{some}
use Rattle.record.specs.Record.{pick}
use Rattle.unification.specs.Row.{Variable}
use Rattle.unification.specs.Term.{Term, var, apply, Variables}
use Rattle.unification.specs.Unifier.{MostGeneralUnifier}
use Rattle.derivation.specs.Derivation.{numbered, numbered_all, StrictlyRising}
use Rattle.derivation.specs.Written.{Clause}

-- The remaining literals, in order: the literals of a list are gone through, the first of them with number n, and each whose number is among ns goes. It
-- does not go by `without` and `without_all`, by which the literals of a derivation are defined.
abbrev pub among : ℕ → List ℕ → Bool
among n [] = false
among n (m ∷ ns) = eqb n m || among n ns

abbrev pub remaining {ℓ} : {A : Type ℓ} → ℕ → List ℕ → List A → List A
remaining n ns [] = []
remaining n ns (l ∷ ls) = pick (among n ns) (remaining (suc n) ns ls) (l ∷ remaining (suc n) ns ls)

-- A substitution applied to a clause.
abbrev pub instantiated : (Variable → Term Variable) → Clause → Clause
instantiated τ c = map (λ l. (l.0, apply τ l.1)) c

-- Every variable of a clause has the property P.
abbrev pub ClauseVariables : (Variable → Type 0) → Clause → Type 0
ClauseVariables P [] = Unit {0}
ClauseVariables P (l ∷ ls) = Variables P l.1 × ClauseVariables P ls

-- Two clauses are standardized apart by renaming the second one's variables: each gets a variable, no two the same, and the first
-- clause's variables have indices up to a bound that those of the renamed clause exceed, so that they share none.
pub record StandardizedApart (rename : Variable → Term Variable) (C D : Clause) : Type 0 where
  pub renamed_to : Variable → Variable
  pub is_renaming : (x : Variable) → rename x ≡ var (renamed_to x)
  pub one_to_one : (x y : Variable) → renamed_to x ≡ renamed_to y → x ≡ y
  pub bound : ℕ
  pub left_below : ClauseVariables (λ x. x.1 ≤ bound) C
  pub right_above : ClauseVariables (λ x. bound < x.1) (instantiated rename D)

-- E is the resolvent of C and D on the literal numbered a and the literals numbered bs, where D's variables have been renamed apart from C's:
-- the rule RIF, and with one number the binary rule. The unifier is most general among those whose values are terms over Y; the theorems hold for
-- every Y.
pub record Resolvent (Y : Type 0) (rename : Variable → Term Variable) (C : Clause) (a : ℕ) (D : Clause) (bs : List ℕ) (E : Clause) : Type 0 where
  pub apart : StandardizedApart rename C D
  pub sign : Bool
  pub left : Term Variable
  pub rights : List (Term Variable)
  pub rising : StrictlyRising bs
  pub is_left : numbered C a ≡ some (sign, left)
  pub are_right : numbered_all (instantiated rename D) bs ≡ some (map (λ t. (not sign, t)) rights)
  pub unifier : Variable → Term Variable
  pub most_general : MostGeneralUnifier Y unifier (map (λ t. (left, t)) rights)
  pub result : E ≡ instantiated unifier (remaining 1 (a ∷ []) C ++ remaining 1 bs (instantiated rename D))

-- E is the factor of C that keeps literal a and deletes literal b, with the unifier as in a resolvent.
pub record Factor (Y : Type 0) (C : Clause) (a b : ℕ) (E : Clause) : Type 0 where
  pub sign : Bool
  pub left : Term Variable
  pub right : Term Variable
  pub is_left : numbered C a ≡ some (sign, left)
  pub is_right : numbered C b ≡ some (sign, right)
  pub different : ¬ (a ≡ b)
  pub unifier : Variable → Term Variable
  pub most_general : MostGeneralUnifier Y unifier ((left, right) ∷ [])
  pub result : E ≡ instantiated unifier (remaining 1 (b ∷ []) C)
