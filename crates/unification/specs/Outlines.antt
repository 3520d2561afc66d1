-- Document 02, Q-1: the outlines of two rows compared as they are written, without indices and following no binding (document 001 has the
-- idea). A machine like that of unification, in which one turn takes up one pair of rows.
use Rattle.std.specs.Prelude.{◌≡◌, Bool, true, false, List, [], ◌∷◌, ℕ, zero, suc, ◌<◌, eqb, length, get_or}
use Rattle.record.specs.Record.{pick}
use Rattle.unification.specs.Row.{variable, Row, application}

-- How many pairs a comparison takes up at most, the first and unopened ones counted.
unfoldable pub most_outline_pairs : ℕ
most_outline_pairs = 4096

abbrev pub RowPair : Type 0
RowPair = ℕ × ℕ

-- A pair is taken up: the pairs to be taken up after it, or a clash.
pub data OutlineTurn : Type 0 where
  agree : List RowPair → OutlineTurn
  differ : OutlineTurn

-- The arguments of two applications, in pairs and in order, before the pairs that waited: depth first.
abbrev pub argument_row_pairs : List ℕ → List ℕ → List RowPair → List RowPair
argument_row_pairs [] ys ps = ps
argument_row_pairs (x ∷ xs) [] ps = ps
argument_row_pairs (x ∷ xs) (y ∷ ys) ps = (x, y) ∷ argument_row_pairs xs ys ps

-- A variable on either side agrees; two applications with different symbols clash, and with one symbol their arguments come next.
abbrev pub opened : Row → Row → List RowPair → OutlineTurn
opened (variable v) w ps = agree ps
opened (application s xs) (variable v) ps = agree ps
opened (application s xs) (application t ys) ps = pick (eqb s t) (agree (argument_row_pairs xs ys ps)) differ

abbrev pub after_turn : (List RowPair → Bool) → OutlineTurn → Bool
after_turn next (agree ps) = next ps
after_turn next differ = true

module _ (row : ℕ → Row) where
  -- Equal rows are not opened.
  abbrev pub outline_turn : RowPair → List RowPair → OutlineTurn
  outline_turn p ps = pick (eqb p.0 p.1) (agree ps) (opened (row p.0) (row p.1) ps)

  -- Whether a clash is met in the next n pairs. Where one more would begin, the comparison ends without a clash.
  unfoldable pub clash_within : ℕ → List RowPair → Bool
  clash_within zero ps = false
  clash_within (suc n) [] = false
  clash_within (suc n) (p ∷ ps) = after_turn (λ qs. clash_within n qs) (outline_turn p ps)

  -- The outlines of rows r and q clash.
  abbrev pub outlines_clash : ℕ → ℕ → Bool
  outlines_clash r q = clash_within most_outline_pairs ((r, q) ∷ [])

  -- In n pairs the comparison comes from the pairs ps to the pairs qs.
  pub data Compares : ℕ → List RowPair → List RowPair → Type 0 where
    no_pair : {ps : List RowPair} → Compares zero ps ps
    one_pair : {n : ℕ} {p : RowPair} {ps qs rs : List RowPair} → outline_turn p ps ≡ agree qs → Compares n qs rs → Compares (suc n) (p ∷ ps) rs

  -- A position below rows r and q, as a path of argument numbers from 0 on, and the rows a and b there: at every position above, both
  -- hold applications of one symbol.
  pub data Position : (r q : ℕ) (path : List ℕ) (a b : ℕ) → Type 0 where
    top : {r q : ℕ} → Position r q [] r q
    argument : {r q s i a b : ℕ} {xs ys path : List ℕ} → row r ≡ application s xs → row q ≡ application s ys → i < length xs → i < length ys
        → Position (get_or xs i 0) (get_or ys i 0) path a b → Position r q (i ∷ path) a b

  -- At that position both hold applications, and their symbols differ.
  pub record ClashAt (r q : ℕ) (path : List ℕ) : Type 0 where
    pub left : ℕ
    pub right : ℕ
    pub position : Position r q path left right
    pub left_symbol : ℕ
    pub right_symbol : ℕ
    pub left_arguments : List ℕ
    pub right_arguments : List ℕ
    pub is_left : row left ≡ application left_symbol left_arguments
    pub is_right : row right ≡ application right_symbol right_arguments
    pub differs : ¬ (left_symbol ≡ right_symbol)

  -- There is such a position, and a pair of the rows that are there is reached within 4,096 pairs: fewer are taken up before it.
  pub record ClashFound (r q : ℕ) : Type 0 where
    pub path : List ℕ
    pub clash : ClashAt r q path
    pub pairs_before : ℕ
    pub waiting : List RowPair
    pub found : Compares pairs_before ((r, q) ∷ []) ((clash.left, clash.right) ∷ waiting)
    pub within : pairs_before < 4096
