-- The search for the earliest choice in the table of pairs. No promise of the crate cover needs this file.
use Rattle.std.specs.Prelude.{Bool, true, false, ◌&&◌, List, ℕ, zero, suc, ◌+◌, ◌*◌, ◌<◌, get_or, set}
use Rattle.record.specs.Record.{pick}

-- A choice is a list with literal i's number in cell i; its pair is 8 × i + that number.
abbrev pub pair_chosen : List ℕ → ℕ → ℕ
pair_chosen X i = 8 * i + get_or X i 0

-- The pair chosen for literal i goes with those of the m literals from j on.
abbrev pub fits_from : List Bool → List ℕ → ℕ → ℕ → ℕ → Bool
fits_from T X i zero j = true
fits_from T X i (suc m) j = get_or T (64 * pair_chosen X j + pair_chosen X i) false && fits_from T X i m (suc j)

-- It goes with itself, so that it is matched, and with all before it.
abbrev pub fits : List Bool → List ℕ → ℕ → Bool
fits T X i = fits_from T X i (suc i) 0

-- What came of a number: the choice is complete; or the next number is tried.
abbrev pub or_next : Bool × List ℕ → (List ℕ → Bool × List ℕ) → Bool × List ℕ
or_next (true, X) next = (true, X)
or_next (false, X) next = next X

-- The m numbers from n on are tried for literal i, each with what comes after it.
abbrev pub tried : List Bool → ℕ → (List ℕ → Bool × List ℕ) → ℕ → ℕ → List ℕ → Bool × List ℕ
tried T i after zero n X = (false, X)
tried T i after (suc m) n X =
    or_next (pick (fits T (set X i n) i) (after (set X i n)) (false, set X i n)) (λ Y. tried T i after m (suc n) Y)

-- The k literals from i on get numbers of D's literals, `rights` of them, the earliest that fit.
abbrev pub searched : List Bool → ℕ → ℕ → ℕ → List ℕ → Bool × List ℕ
searched T rights zero i X = (true, X)
searched T rights (suc k) i X = tried T i (λ Y. searched T rights k (suc i) Y) rights 1 X

-- What the search asks for the `left` literals from i on: at most seven literals on either side.
pub record Searchable (rights left i : ℕ) : Type 0 where
  pub room : i + left < 9
  pub few : rights < 8
