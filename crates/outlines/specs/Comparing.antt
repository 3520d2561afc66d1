-- The contracts of the walk over pairs of rows. What the comparison is stands in `Outlines` of the crate unification; this file only says how the
-- parts of the program fit together. Each function's answer goes for every rest of pairs that wait.
use Rattle.std.specs.Prelude.{◌≡◌, Bool, true, false, List, [], ◌∷◌, ℕ, zero, suc, ◌≤◌, Option, Some, None}
use Rattle.record.specs.Record.{pick}
use Rattle.unification.specs.Nodes.{node_arity, arguments_from, node_row}
use Rattle.unification.specs.Outlines.{RowPair, argument_row_pairs, clash_within, outlines_clash}
use Rattle.unification.specs.Row.{Row, Expression}

-- The smaller of two numbers.
abbrev pub smaller : ℕ → ℕ → ℕ
smaller zero b = zero
smaller (suc a) zero = zero
smaller (suc a) (suc b) = suc (smaller a b)

-- What an answer says of the pairs that wait: there is a clash, or it depends on them, of which so many may be taken up.
abbrev pub after_compared : List ℕ → Option ℕ → List RowPair → Bool
after_compared N None ps = true
after_compared N (Some n) ps = clash_within (node_row N) n ps

-- No more pairs may be taken up than before.
abbrev pub NoMorePairs : ℕ → Option ℕ → Type 0
NoMorePairs n None = Unit {0}
NoMorePairs n (Some m) = m ≤ n

-- A pair of rows, and the arguments of two applications, taken up with n pairs left.
pub record PairCompared (N : List ℕ) (r q n : ℕ) (c : Option ℕ) : Type 0 where
  pub whole : (ps : List RowPair) → clash_within (node_row N) n ((r, q) ∷ ps) ≡ after_compared N c ps
  pub fewer : NoMorePairs n c

pub record ArgumentsCompared (N : List ℕ) (r q n : ℕ) (c : Option ℕ) : Type 0 where
  pub whole : (ps : List RowPair) → clash_within (node_row N) n (argument_row_pairs (arguments_from N r (node_arity N r) 1) (arguments_from N q (node_arity N q) 1) ps) ≡ after_compared N c ps
  pub fewer : NoMorePairs n c

-- The outline of row r clashes with that of one of the expressions.
abbrev pub some_clash : (ℕ → Row) → ℕ → List Expression → Bool
some_clash row r [] = false
some_clash row r (d ∷ ds) = pick (outlines_clash row r d.0) true (some_clash row r ds)
