-- Document 02, Q-12: numbers close up. Symbols, rows and clauses get other numbers, in whatever names them; variable numbers, literal numbers and indices stay.
use Rattle.std.specs.Prelude.{Bool, ℕ}
use Rattle.unification.specs.Term.{Term, Terms, var, app, nil, cons}
use Rattle.derivation.specs.Derivation.{RowLiteral}

pub record Renumbering : Type 0 where
  pub symbol : ℕ → ℕ
  pub row : ℕ → ℕ
  pub clause : ℕ → ℕ

-- A literal of an input clause with another row.
abbrev pub renumbered_row_literal : Renumbering → RowLiteral → RowLiteral
renumbered_row_literal N l = (l.0, N.row l.1)

-- A term with other symbol numbers and other variables.
module _ {X Y : Type 0} (symbol : ℕ → ℕ) (name : X → Y) where
  abbrev mutual
    pub renamed_term : Term X → Term Y
    renamed_term (var x) = var (name x)
    renamed_term (app s ts) = app (symbol s) (renamed_terms ts)

    pub renamed_terms : Terms X → Terms Y
    renamed_terms nil = nil
    renamed_terms (cons t ts) = cons (renamed_term t) (renamed_terms ts)

-- A term and a literal with other symbol numbers and the same variables.
abbrev pub with_symbols : {X : Type 0} → (ℕ → ℕ) → Term X → Term X
with_symbols symbol t = renamed_term symbol (λ x. x) t

abbrev pub literal_with_symbols : {X : Type 0} → (ℕ → ℕ) → Bool × Term X → Bool × Term X
literal_with_symbols symbol l = (l.0, with_symbols symbol l.1)
