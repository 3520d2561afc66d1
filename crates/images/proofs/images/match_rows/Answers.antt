use native.Mathlib.Omega.{arith}
use Rattle.images.proofs.ImageSteps.{row_passed, row_matched_lem, row_unmatched}
use Rattle.images.proofs.images.match_rows.Goals as goal
use Rattle.images.proofs.images.match_rows.Goals.{else-y-ne0-via-then-y-ne0+else-not-match_row, else-y-ne0-via-else-y-ne0}

pub returns-then-not-match_row : goal.returns-then-not-match_row
returns-then-not-match_row c =
    let s = c.args in
    let l = c.loop-r in
    row_unmatched s.nodes.now s.base _ l.images l.notes l.r _ l.invariant (omega arith) c.image-y.ensures _ _ _ c.if-y-ne0.true c.match_row.ensures c.if-not-match_row.true

pub loop-r-preserved : goal.loop-r-preserved
loop-r-preserved c =
    let s = c.args in
    let l = c.loop-r in
    elim c.else-y-ne0.branch [
      | else-y-ne0-via-then-y-ne0+else-not-match_row w ↦ rw (w.images-is, w.notes-is) (row_matched_lem s.nodes.now s.base _ l.images l.notes l.r _ l.invariant (omega arith) c.image-y.ensures _ _ _ w.if-y-ne0.true w.match_row.ensures w.if-not-match_row.false)
      | else-y-ne0-via-else-y-ne0 w ↦ rw (w.images-is, w.notes-is) (row_passed s.nodes.now s.base _ l.images l.notes l.r _ l.invariant (omega arith) c.image-y.ensures w.if-y-ne0.false)
    ]
