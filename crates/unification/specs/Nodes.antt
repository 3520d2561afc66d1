-- The node table: the rows of a file, decoded into eight cells a row, as the program keeps them. Cell 0 is 0 for no row and for a repeated
-- one, 1 for a variable, and 2 more than the number of arguments for an application; cell 1 is the variable's number or the symbol; then the
-- arguments.
use Rattle.std.specs.Prelude.{◌≡◌, Bool, true, false, List, [], ◌∷◌, ℕ, zero, suc, ◌+◌, ◌-◌, ◌*◌, ◌<◌, eqb, get_or}
use Rattle.unification.specs.Row.{variable, Row, application}

unfoldable pub is_variable : List ℕ → ℕ → Bool
is_variable N r = eqb (get_or N (8 * r) 0) 1

-- Part 0 is the variable's number or the symbol, and the parts from 1 on are the arguments.
unfoldable pub part : List ℕ → ℕ → ℕ → ℕ
part N r n = get_or N (8 * r + 1 + n) 0

unfoldable pub node_arity : List ℕ → ℕ → ℕ
node_arity N r = get_or N (8 * r) 0 - 2

-- The row is there.
pub data HasRow (N : List ℕ) (r : ℕ) : Type 0 where
  has_row : 0 < get_or N (8 * r) 0 → HasRow N r

-- m arguments from argument n on.
abbrev pub arguments_from : List ℕ → ℕ → ℕ → ℕ → List ℕ
arguments_from N r zero n = []
arguments_from N r (suc m) n = part N r n ∷ arguments_from N r m (suc n)

-- The row that the table holds.
abbrev pub node_row_if : List ℕ → ℕ → Bool → Row
node_row_if N r true = variable (part N r 0)
node_row_if N r false = application (part N r 0) (arguments_from N r (node_arity N r) 1)

abbrev pub node_row : List ℕ → ℕ → Row
node_row N r = node_row_if N r (is_variable N r)

-- What holds of the table while a file is read: rows and variable numbers in range, one row for each variable number, arguments
-- that are there, and one number of arguments for each symbol.
pub record NodesOk (N : List ℕ) : Type 0 where
  pub room : (r : ℕ) → HasRow N r → r < 4096
  pub number : (r : ℕ) → HasRow N r → is_variable N r ≡ true → part N r 0 < 64
  pub once : (r q : ℕ) → HasRow N r → HasRow N q → is_variable N r ≡ true → is_variable N q ≡ true → part N r 0 ≡ part N q 0 → r ≡ q
  pub arguments : (r n : ℕ) → HasRow N r → is_variable N r ≡ false → n < node_arity N r → HasRow N (part N r (suc n))
  pub alike : (r q : ℕ) → HasRow N r → HasRow N q → is_variable N r ≡ false → is_variable N q ≡ false → part N r 0 ≡ part N q 0 → node_arity N r ≡ node_arity N q
