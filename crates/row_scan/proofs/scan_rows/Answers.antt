use mathlib.Core.Path.{sym, ap, ◌∙◌}
use native.Mathlib.Omega.{arith}
use Rattle.record.specs.Answered.{answered}
use Rattle.distinct.proofs.Lowest.{none_has, none_yet, first_has, none_at_all}
use Rattle.row_scan.proofs.scan_rows.Goals as goal

pub loop-row-init : goal.loop-row-init
loop-row-init c =
    none_has _ 0 _ (λ q l e. omega arith)

pub returns-then-same_cells : goal.returns-then-same_cells
returns-then-same_cells c =
    sym (ap answered (first_has _ _ _ _ c.loop-row-test.true c.loop-row.invariant (sym c.same_cells.ensures ∙ c.if-same_cells.true)))

pub loop-row-preserved : goal.loop-row-preserved
loop-row-preserved c =
    none_yet _ c.loop-row.row _ c.loop-row.invariant (sym c.same_cells.ensures ∙ c.if-same_cells.false)

pub returns : goal.returns
returns c =
    none_at_all _ _ _ _ c.loop-row.auto.row-end c.loop-row-test.false c.loop-row.invariant
