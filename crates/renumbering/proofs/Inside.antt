-- Which rows and symbols a renumbering is about: those inside.
use mathlib.Core.Path.{◌≡◌}
use mathlib.Core.Option.{Option, none, some}
use mathlib.Core.List.{List}
use Prim.Native.Nat.{ℕ}
use Rattle.unification.specs.Environment.{Binding, Environment}
use Rattle.unification.specs.Row.{Row, application, Expression, Variable}
use Rattle.unification.specs.Term.{Term, Variables}
use Rattle.unification.specs.Unification.{Pair}
use Rattle.unification.proofs.Lists.{Each}
use Rattle.derivation.specs.Derivation.{input, RowLiteral, Derivation, resolve, factor}
use Rattle.renumbering.specs.Renumbering.{Renumbering, renamed_term}
use Rattle.renumbering.proofs.Renumbered.{renumbered_row, renumbered_expression}

-- The rows inside have the rows below them and their symbols inside; each is renumbered to a row of its own, which is that row renumbered.
pub record Renumbers (N : Renumbering) (rowInside symbolInside : ℕ → Type 0) (row row' : ℕ → Row) : Type 0 where
  pub rows : (r : ℕ) → rowInside r → row' (N.row r) ≡ renumbered_row N (row r)
  pub arguments : (r s : ℕ) (xs : List ℕ) → rowInside r → row r ≡ application s xs → Each rowInside xs
  pub symbols : (r s : ℕ) (xs : List ℕ) → rowInside r → row r ≡ application s xs → symbolInside s
  pub one_row : (r q : ℕ) → rowInside r → rowInside q → N.row r ≡ N.row q → r ≡ q
  pub one_symbol : (s t : ℕ) → symbolInside s → symbolInside t → N.symbol s ≡ N.symbol t → s ≡ t

module _ (rowInside : ℕ → Type 0) where
  abbrev pub InsideExpression : Expression → Type 0
  InsideExpression e = rowInside e.0

  abbrev pub InsidePair : Pair → Type 0
  InsidePair p = rowInside p.0.0 × rowInside p.1.0

  abbrev pub InsideBinding : Binding → Type 0
  InsideBinding b = rowInside b.0.0 × rowInside b.1.0

  abbrev pub InsideLiteral : RowLiteral → Type 0
  InsideLiteral l = rowInside l.1

  -- Each rows of a clause's literals and bindings, and of those in its derivation.
  abbrev pub InsideDerivation : Derivation → Type 0
  InsideDerivation (input number ls) = Each InsideLiteral ls
  InsideDerivation (resolve number l a r ns bs) = InsideDerivation l × InsideDerivation r × Each InsideBinding bs
  InsideDerivation (factor number c a b bs) = InsideDerivation c × Each InsideBinding bs

abbrev pub renumbered_answer : Renumbering → Option Expression → Option Expression
renumbered_answer N none = none
renumbered_answer N (some e) = some (renumbered_expression N e)

-- Two environments that agree on what is inside, up to the renumbering; the first one stays inside.
pub record RenumbersEnvironment (N : Renumbering) (rowInside : ℕ → Type 0) (ρ ρ' : Environment) : Type 0 where
  pub answers : (x : Variable) → rowInside x.0 → ρ' (renumbered_expression N x) ≡ renumbered_answer N (ρ x)
  pub stays : (x : Variable) (e : Expression) → rowInside x.0 → ρ x ≡ some e → rowInside e.0

-- The same of the terms of rows: a row's term is the renumbered row's term, renumbered, and its variables are inside.
pub record RenumbersTerms (N : Renumbering) (rowInside : ℕ → Type 0) (term term' : ℕ → Term ℕ) : Type 0 where
  pub terms : (r : ℕ) → rowInside r → term' (N.row r) ≡ renamed_term N.symbol N.row (term r)
  pub variables : (r : ℕ) → rowInside r → Variables rowInside (term r)
