-- Document 02, Q-2: equal rows, and the earliest row that equals a row.
use Rattle.std.specs.Prelude.{◌≡◌, Bool, true, false, ◌&&◌, List, [], ◌∷◌, ℕ, ◌<◌, eqb, ltb, length}
use Rattle.std.proofs.Math.Option.{Option, none, some}
use Rattle.record.specs.Record.{pick}
use Rattle.unification.specs.Row.{variable, Row, application, row_at}

-- Rows are equal if they are the same variable, or the same symbol applied to the same rows in order.
abbrev pub equal_lists : List ℕ → List ℕ → Bool
equal_lists [] [] = true
equal_lists [] (y ∷ ys) = false
equal_lists (x ∷ xs) [] = false
equal_lists (x ∷ xs) (y ∷ ys) = eqb x y && equal_lists xs ys

abbrev pub equal_rows : Row → Row → Bool
equal_rows (variable v) (variable w) = eqb v w
equal_rows (variable v) (application t ys) = false
equal_rows (application s xs) (variable w) = false
equal_rows (application s xs) (application t ys) = eqb s t && equal_lists xs ys

-- The first answer, or the second where the first has none.
abbrev pub or_else : {A : Type 0} → Option A → Option A → Option A
or_else (some r) o = some r
or_else none o = o

-- The lowest number of a row that equals w, in a list that has the newest first.
abbrev pub earliest_equal : Row → List Row → Option ℕ
earliest_equal w [] = none
earliest_equal w (u ∷ us) = or_else (earliest_equal w us) (pick (equal_rows u w) (some (length us)) none)

-- The answer, or r where there is none.
abbrev pub or_same : ℕ → Option ℕ → ℕ
or_same r none = r
or_same r (some q) = q

-- The earliest row that equals row r; a row that is not there is left as it is.
abbrev pub earliest_row : List Row → ℕ → ℕ
earliest_row ws r = pick (ltb r (length ws)) (or_same r (earliest_equal (row_at ws r) ws)) r

-- Row r is there, and no row before it equals it.
pub record IsEarliest (ws : List Row) (r : ℕ) : Type 0 where
  pub there : r < length ws
  pub first : (q : ℕ) → q < r → ¬ (row_at ws q ≡ row_at ws r)
