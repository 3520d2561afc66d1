use native.Mathlib.Omega.{arith}
use Rattle.choosing.proofs.SearchSteps.{search_begins, number_unfit, number_passed}
use Rattle.choosing.proofs.+search.Goals as goal
use Rattle.choosing.proofs.+search.Goals.{else-fits_before-via-then-fits_before+else-search, else-fits_before-via-else-fits_before}

pub loop-n-init : goal.loop-n-init
loop-n-init t c =
    search_begins c.args.table.now c.args.rights c.args.left c.args.i c.args.choice.now c.if-left-eq0.false

pub loop-n-preserved : goal.loop-n-preserved
loop-n-preserved t c =
    elim c.else-fits_before.branch [
      | else-fits_before-via-then-fits_before+else-search w ↦ rw w.choice-is (number_passed c.args.table.now c.args.rights c.args.left c.args.i c.loop-n.n c.loop-n.choice c.loop-n.invariant (omega arith) c.fits_before.ensures w.if-fits_before.true w.search.ensures w.if-search.false)
      | else-fits_before-via-else-fits_before w ↦ rw w.choice-is (number_unfit c.args.table.now c.args.rights c.args.left c.args.i c.loop-n.n c.loop-n.choice c.loop-n.invariant (omega arith) c.fits_before.ensures w.if-fits_before.false)
    ]
