-- Expressions that the program has listed in an array, two cells for each: its row and its index.
use Rattle.std.specs.Prelude.{List, [], ◌∷◌, ℕ, zero, suc, ◌+◌, ◌*◌, get_or}
use Rattle.unification.specs.Row.{Expression}

-- The expression numbered j, from 0, and n expressions from number j on.
abbrev pub listed_at : List ℕ → ℕ → Expression
listed_at cells j = (get_or cells (2 * j) 0, get_or cells (2 * j + 1) 0)

abbrev pub listed_from : List ℕ → ℕ → ℕ → List Expression
listed_from cells j zero = []
listed_from cells j (suc n) = listed_at cells j ∷ listed_from cells (suc j) n
