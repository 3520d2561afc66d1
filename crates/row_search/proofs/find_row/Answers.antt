use native.Mathlib.Omega.{arith}
use Rattle.distinct.proofs.Cells.{sought_bucket}
use Rattle.distinct.proofs.Searching.{sought_first, sought_next, sought_found, sought_nowhere}
use Rattle.row_search.proofs.find_row.Goals as goal

pub loop-init : goal.loop-init
loop-init c =
    sought_first c.requires _ (sought_bucket _ _ c.requires.seven c.bucket-b.ensures.0)

pub returns-then-c-eq0 : goal.returns-then-c-eq0
returns-then-c-eq0 c =
    sought_nowhere c.requires c.loop.c c.loop.invariant (omega arith)

pub returns-then-same_cells : goal.returns-then-same_cells
returns-then-same_cells c =
    sought_found c.requires c.loop.c c.loop.invariant (omega arith) c.same_cells.ensures c.if-same_cells.true

pub loop-preserved : goal.loop-preserved
loop-preserved c =
    rw c.from.ensures (sought_next c.requires c.loop.c c.loop.invariant (omega arith) c.same_cells.ensures c.if-same_cells.false)
