-- The pairs of a literal of C and one of D, as the program numbers and compares them. No promise of the crate cover needs this file.
use Rattle.std.specs.Prelude.{Bool, true, false, ◌&&◌, List, ℕ, zero, suc, ◌+◌, ◌-◌, ◌*◌, ◌/◌, ◌%◌, eqb, leb, ltb, get_or, set}
use Rattle.record.specs.Record.{pick}
use Rattle.unification.specs.Nodes.{part}
use Rattle.images.specs.Matching.{atoms_matched}

-- Pair 8 × i + n has literal i of C, from 0, and literal n of D, from 1. Whether it is one, where C has `lefts` literals and D has `rights`.
abbrev pub is_pair : ℕ → ℕ → ℕ → Bool
is_pair lefts rights p = ltb (p / 8) lefts && (leb 1 (p % 8) && leb (p % 8) rights)

-- The two literals of a pair, as the table of origins has them: 2 × row, plus 1 if positive.
abbrev pub left_number : List ℕ → ℕ → ℕ → ℕ
left_number O c p = part O c (p / 8)

abbrev pub right_number : List ℕ → ℕ → ℕ → ℕ
right_number O d p = part O d (p % 8 - 1)

-- Literals of one sign are matched, and what is noted of their variables stands in 64 cells from 64 × p on.
abbrev pub numbers_matched : List ℕ → ℕ → ℕ → ℕ → List ℕ → Bool × List ℕ
numbers_matched N p x z W = pick (eqb (x % 2) (z % 2)) (atoms_matched N (64 * p) (x / 2) (z / 2) W) (false, W)

-- The same of a pair by its number; what is none is not matched.
abbrev pub pair_matched : List ℕ → List ℕ → ℕ → ℕ → ℕ → ℕ → ℕ → List ℕ → Bool × List ℕ
pair_matched N O c d lefts rights p W = pick (is_pair lefts rights p) (numbers_matched N p (left_number O c p) (right_number O d p) W) (false, W)

-- The first k pairs: for each whether it is matched, and the notes.
pub record Pairs : Type 0 where
  pub found : List Bool
  pub notes : List ℕ

-- What came of pair p, noted.
abbrev pub found_pair : ℕ → List Bool → Bool × List ℕ → Pairs
found_pair p F X = record { found = set F p X.0; notes = X.1 }

unfoldable pub pairs_matched : List ℕ → List ℕ → ℕ → ℕ → ℕ → ℕ → ℕ → Pairs → Pairs
pairs_matched N O c d lefts rights zero P = P
pairs_matched N O c d lefts rights (suc p) P =
    found_pair p (pairs_matched N O c d lefts rights p P).found (pair_matched N O c d lefts rights p (pairs_matched N O c d lefts rights p P).notes)

-- The notes of two pairs agree at the m variables from v on: no variable has two images.
abbrev pub agree_at : ℕ → ℕ → Bool
agree_at x y = pick (eqb x 0) true (pick (eqb y 0) true (eqb x y))

abbrev pub agree_from : List ℕ → ℕ → ℕ → ℕ → ℕ → Bool
agree_from W p q zero v = true
agree_from W p q (suc m) v = agree_at (get_or W (64 * p + v) 0) (get_or W (64 * q + v) 0) && agree_from W p q m (suc v)

-- Pairs p and q go together: both are matched, and their notes agree.
abbrev pub go_together : List Bool → List ℕ → ℕ → ℕ → Bool
go_together F W p q = get_or F p false && (get_or F q false && agree_from W p q 64 0)

-- The table of that: cell 64 × p + q; the first k cells of it are filled.
unfoldable pub table_filled : List Bool → List ℕ → ℕ → List Bool → List Bool
table_filled F W zero T = T
table_filled F W (suc x) T = set (table_filled F W x T) x (go_together F W (x / 64) (x % 64))
