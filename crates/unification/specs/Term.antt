-- Terms and substitutions, as the textbooks have them. Predicates and functions are not told apart (document 01, "The file").
use Rattle.std.specs.Prelude.{ℕ, suc, ◌+◌}

-- A term over a type of variables: a variable, or a symbol's number with its arguments.
mutual
  pub data Term (X : Type 0) : Type 0 where
    var : X → Term X
    app : ℕ → Terms X → Term X

  pub data Terms (X : Type 0) : Type 0 where
    nil : Terms X
    cons : Term X → Terms X → Terms X

-- A substitution applied to a term: every variable is replaced at once.
module _ {X Y : Type 0} (γ : X → Term Y) where
  abbrev mutual
    pub apply : Term X → Term Y
    apply (var x) = γ x
    apply (app s ts) = app s (apply_all ts)

    pub apply_all : Terms X → Terms Y
    apply_all nil = nil
    apply_all (cons t ts) = cons (apply t) (apply_all ts)

-- Every variable that occurs in a term has the property P.
module _ {X : Type 0} (P : X → Type 0) where
  abbrev mutual
    pub Variables : Term X → Type 0
    Variables (var x) = P x
    Variables (app s ts) = AllVariables ts

    pub AllVariables : Terms X → Type 0
    AllVariables nil = Unit {0}
    AllVariables (cons t ts) = Variables t × AllVariables ts

-- How many occurrences of variables and symbols a term has.
abbrev mutual
  pub occurrences : {X : Type 0} → Term X → ℕ
  occurrences (var x) = 1
  occurrences (app s ts) = suc (all_occurrences ts)

  pub all_occurrences : {X : Type 0} → Terms X → ℕ
  all_occurrences nil = 0
  all_occurrences (cons t ts) = occurrences t + all_occurrences ts
