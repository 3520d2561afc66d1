-- The outlines of two rows clash exactly if those of the renumbered rows do.
use mathlib.Core.Path.{◌≡◌, refl, ap, ap₂, ◌∙◌}
use mathlib.Core.Bool.{Bool, true, false}
use mathlib.Core.List.{List, [], ◌∷◌, map}
use Prim.Native.Nat.{ℕ, zero, suc}
use lib.Dec.{eqb}
use Rattle.record.specs.Record.{pick}
use Rattle.unification.specs.Outlines.{most_outline_pairs, RowPair, OutlineTurn, agree, differ, argument_row_pairs, opened, after_turn, outline_turn, clash_within, outlines_clash}
use Rattle.unification.specs.Row.{variable, Row, application}
use Rattle.unification.proofs.Lists.{Each}
use Rattle.renumbering.proofs.Inside.{Renumbers}
use Rattle.renumbering.specs.Renumbering.{Renumbering}
use Rattle.renumbering.proofs.Renumbered.{renumbered_row}
use Rattle.renumbering.proofs.EqualNumbers.{numbers_renumbered}
use Rattle.renumbering.proofs.Following.{InsideRow, row_inside}

abbrev renumbered_row_pair : Renumbering → RowPair → RowPair
renumbered_row_pair N p = (N.row p.0, N.row p.1)

abbrev renumbered_outline_turn : Renumbering → OutlineTurn → OutlineTurn
renumbered_outline_turn N (agree ps) = agree (map (renumbered_row_pair N) ps)
renumbered_outline_turn N differ = differ

abbrev InsideRowPair : (ℕ → Type 0) → RowPair → Type 0
InsideRowPair I p = I p.0 × I p.1

abbrev InsideOutlineTurn : (ℕ → Type 0) → OutlineTurn → Type 0
InsideOutlineTurn I (agree ps) = Each (InsideRowPair I) ps
InsideOutlineTurn I differ = Unit {0}

argument_rows_renumbered : (N : Renumbering) (xs ys : List ℕ) (ps : List RowPair) → argument_row_pairs (map N.row xs) (map N.row ys) (map (renumbered_row_pair N) ps) ≡ map (renumbered_row_pair N) (argument_row_pairs xs ys ps)
argument_rows_renumbered N [] ys ps = refl
argument_rows_renumbered N (x ∷ xs) [] ps = refl
argument_rows_renumbered N (x ∷ xs) (y ∷ ys) ps = ap (λ (qs : List RowPair). (N.row x, N.row y) ∷ qs) (argument_rows_renumbered N xs ys ps)

argument_rows_inside : (I : ℕ → Type 0) (xs ys : List ℕ) (ps : List RowPair) → Each I xs → Each I ys → Each (InsideRowPair I) ps → Each (InsideRowPair I) (argument_row_pairs xs ys ps)
argument_rows_inside I [] ys ps h k l = l
argument_rows_inside I (x ∷ xs) [] ps h k l = l
argument_rows_inside I (x ∷ xs) (y ∷ ys) ps h k l = ((h.0, k.0), argument_rows_inside I xs ys ps h.1 k.1 l)

module _ {N : Renumbering} {I P : ℕ → Type 0} {row row' : ℕ → Row} (R : Renumbers N I P row row') where
  opened_renumbered : (w u : Row) (ps : List RowPair) → InsideRow I P w → InsideRow I P u → opened (renumbered_row N w) (renumbered_row N u) (map (renumbered_row_pair N) ps) ≡ renumbered_outline_turn N (opened w u ps)
  opened_renumbered (variable v) u ps h k = refl
  opened_renumbered (application s xs) (variable v) ps h k = refl
  opened_renumbered (application s xs) (application t ys) ps h k =
      ap₂ (λ (c : Bool) (qs : List RowPair). pick c (agree qs) differ) (numbers_renumbered N.symbol s t (R.one_symbol s t h.1 k.1)) (argument_rows_renumbered N xs ys ps)
      ∙ try (eqb s t)
    where
      try : (c : Bool) → pick c (agree (map (renumbered_row_pair N) (argument_row_pairs xs ys ps))) differ ≡ renumbered_outline_turn N (pick c (agree (argument_row_pairs xs ys ps)) differ)
      try true = refl
      try false = refl

  opened_inside : (w u : Row) (ps : List RowPair) → InsideRow I P w → InsideRow I P u → Each (InsideRowPair I) ps → InsideOutlineTurn I (opened w u ps)
  opened_inside (variable v) u ps h k l = l
  opened_inside (application s xs) (variable v) ps h k l = l
  opened_inside (application s xs) (application t ys) ps h k l = try (eqb s t)
    where
      try : (c : Bool) → InsideOutlineTurn I (pick c (agree (argument_row_pairs xs ys ps)) differ)
      try true = argument_rows_inside I xs ys ps h.0 k.0 l
      try false = tt

  outline_turn_renumbered : (p : RowPair) (ps : List RowPair) → InsideRowPair I p → outline_turn row' (renumbered_row_pair N p) (map (renumbered_row_pair N) ps) ≡ renumbered_outline_turn N (outline_turn row p ps)
  outline_turn_renumbered p ps i =
      ap₂ (λ (c : Bool) (t : OutlineTurn). pick c (agree (map (renumbered_row_pair N) ps)) t) (numbers_renumbered N.row p.0 p.1 (R.one_row p.0 p.1 i.0 i.1))
      (ap₂ (λ (w u : Row). opened w u (map (renumbered_row_pair N) ps)) (R.rows p.0 i.0) (R.rows p.1 i.1) ∙ opened_renumbered (row p.0) (row p.1) ps (row_inside R p.0 i.0) (row_inside R p.1 i.1))
      ∙ try (eqb p.0 p.1)
    where
      try : (c : Bool) → pick c (agree (map (renumbered_row_pair N) ps)) (renumbered_outline_turn N (opened (row p.0) (row p.1) ps)) ≡ renumbered_outline_turn N (pick c (agree ps) (opened (row p.0) (row p.1) ps))
      try true = refl
      try false = refl

  outline_turn_inside : (p : RowPair) (ps : List RowPair) → InsideRowPair I p → Each (InsideRowPair I) ps → InsideOutlineTurn I (outline_turn row p ps)
  outline_turn_inside p ps i h = try (eqb p.0 p.1)
    where
      try : (c : Bool) → InsideOutlineTurn I (pick c (agree ps) (opened (row p.0) (row p.1) ps))
      try true = h
      try false = opened_inside (row p.0) (row p.1) ps (row_inside R p.0 i.0) (row_inside R p.1 i.1) h

  clash_renumbered : (n : ℕ) (ps : List RowPair) → Each (InsideRowPair I) ps → clash_within row' n (map (renumbered_row_pair N) ps) ≡ clash_within row n ps
  unfolding clash_within
  clash_renumbered zero ps h = refl
  clash_renumbered (suc n) [] h = refl
  clash_renumbered (suc n) (p ∷ ps) h = ap (after_turn (λ qs. clash_within row' n qs)) (outline_turn_renumbered p ps h.0) ∙ try (λ qs k. clash_renumbered n qs k) (outline_turn row p ps) (outline_turn_inside p ps h.0 h.1)
    where
      try : ((qs : List RowPair) → Each (InsideRowPair I) qs → clash_within row' n (map (renumbered_row_pair N) qs) ≡ clash_within row n qs) → (t : OutlineTurn) → InsideOutlineTurn I t
          → after_turn (λ qs. clash_within row' n qs) (renumbered_outline_turn N t) ≡ after_turn (λ qs. clash_within row n qs) t
      try ih (agree qs) k = ih qs k
      try ih differ k = refl

  pub outlines_renumbered : (r q : ℕ) → I r → I q → outlines_clash row' (N.row r) (N.row q) ≡ outlines_clash row r q
  outlines_renumbered r q i j = clash_renumbered most_outline_pairs ((r, q) ∷ []) ((i, j), tt)
