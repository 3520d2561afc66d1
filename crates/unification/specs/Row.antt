-- Document 01, "The file" and "Indices and bindings": the table of rows, expressions, and the terms that they stand for.
use Rattle.std.specs.Prelude.{Bool, ◌&&◌, List, [], ◌∷◌, ℕ, eqb, length}
use Rattle.record.specs.Record.{pick}
use Rattle.unification.specs.Term.{Term, Terms, var, app, nil, cons, apply}

-- A row: a variable with its number, or a symbol applied to argument rows.
pub data Row : Type 0 where
  variable : ℕ → Row
  application : ℕ → List ℕ → Row

-- An expression is a row with an index. A variable at an index is one whose row is a variable: two rows are two variables (repeated rows are in no
-- expression), and one row at two indices is two variables as well.
abbrev pub Expression : Type 0
Expression = ℕ × ℕ

abbrev pub Variable : Type 0
Variable = Expression

abbrev pub same : Expression → Expression → Bool
same x y = eqb x.0 y.0 && eqb x.1 y.1

-- A symbol number that no file has: every symbol's number is below 4,096.
abbrev pub no_symbol : ℕ
no_symbol = 65536

-- A list of rows has the newest first, so row 0 is its last element. A row that is not there is an application of no symbol.
abbrev pub row_at : List Row → ℕ → Row
row_at [] r = application no_symbol []
row_at (w ∷ ws) r = pick (eqb r (length ws)) w (row_at ws r)

-- A row written out as a term over rows that are variables, given the terms of the rows before it.
abbrev pub argument_terms : (ℕ → Term ℕ) → List ℕ → Terms ℕ
argument_terms before [] = nil
argument_terms before (a ∷ xs) = cons (before a) (argument_terms before xs)

abbrev pub row_term : (ℕ → Term ℕ) → ℕ → Row → Term ℕ
row_term before r (variable v) = var r
row_term before r (application s xs) = app s (argument_terms before xs)

abbrev pub term_at : List Row → ℕ → Term ℕ
term_at [] r = app no_symbol nil
term_at (w ∷ ws) r = pick (eqb r (length ws)) (row_term (term_at ws) r w) (term_at ws r)

-- An expression written out as a term: its row's term, with each variable at the expression's index replaced by what γ gives it.
module _ (term : ℕ → Term ℕ) {Y : Type 0} (γ : Variable → Term Y) where
  abbrev pub written_out : Expression → Term Y
  written_out e = apply (λ v. γ (v, e.1)) (term e.0)
