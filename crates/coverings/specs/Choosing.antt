-- How the program chooses literals of one clause for those of another, in numbers. No promise needs this file.
use Rattle.std.specs.Prelude.{Bool, true, false, List, [], ◌∷◌, ℕ, zero, suc, get_or, replicate}
use Rattle.matching.specs.Pairs.{pairs_matched, table_filled}
use Rattle.matching.specs.Searching.{searched}

-- k numbers of a list, from i on.
abbrev pub numbers_from : List ℕ → ℕ → ℕ → List ℕ
numbers_from X i zero = []
numbers_from X i (suc k) = get_or X i 0 ∷ numbers_from X (suc i) k

-- What the search has come to, in numbers.
abbrev pub comparison_numbers : Bool × List ℕ → List ℕ
comparison_numbers (true, X) = 1 ∷ 0 ∷ 0 ∷ numbers_from X 0 7
comparison_numbers (false, X) = 0 ∷ 0 ∷ 0 ∷ replicate 7 0

-- The pairs matched, the table filled and searched, begun on tables that are lent; and on clear ones.
abbrev pub comparison_from : List ℕ → List ℕ → ℕ → ℕ → ℕ → ℕ → List Bool → List ℕ → List Bool → List ℕ → Bool × List ℕ
comparison_from N O c d lefts rights F W T X =
    let P = pairs_matched N O c d lefts rights 64 (record { found = F; notes = W }) in
    searched (table_filled P.found P.notes 4096 T) rights lefts 0 X

unfoldable pub comparison : List ℕ → List ℕ → ℕ → ℕ → ℕ → ℕ → Bool × List ℕ
comparison N O c d lefts rights = comparison_from N O c d lefts rights (replicate 64 false) (replicate 4096 0) (replicate 4096 false) (replicate 8 0)
