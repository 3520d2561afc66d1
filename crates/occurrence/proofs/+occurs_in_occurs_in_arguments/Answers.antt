use mathlib.Core.Path.{sym, ◌∙◌}
use native.Mathlib.Omega.{arith}
use Rattle.following.proofs.Occurrence.{less_le, looked_spent, looked_met, looked_into, looked_none, scan_start, scan_last, scan_broke, scan_next, sought_start, sought_then, sought_next, sought_followable, arguments_followable, scanned_followable}
use Rattle.std.specs.Prelude.{Err}
use Rattle.std.proofs.lemmas.Result.{err_from_is_err_and}
use Prim.Native.Nat.{◌+◌, ◌-◌}
use Rattle.occurrence.proofs.+occurs_in_occurs_in_arguments.Goals as goal

pub occurs_in_arguments-loop-n-init : goal.occurs_in_arguments-loop-n-init
occurs_in_arguments-loop-n-init t c =
    (c.requires.whole.models.room, omega arith, scan_start _ _ _ _ _ _ (c.args.last + 1 - 1) (omega (arith, c.requires.arity)))

pub occurs_in_arguments-occurs_in-requires : goal.occurs_in_arguments-occurs_in-requires
occurs_in_arguments-occurs_in-requires t c =
    let l = c.loop-n in
    (omega (arith, c.decreases, l.invariant.1), scanned_followable _ _ _ _ _ _ _ _ l.n _ l.left c.requires l.invariant.2 (omega (arith, c.loop-n-test.true)) l.auto.n (omega (arith, c.loop-n-test.true)) _ c.part_of-a.ensures)

pub occurs_in_arguments-loop-n-preserved : goal.occurs_in_arguments-loop-n-preserved
occurs_in_arguments-loop-n-preserved t c =
    let l = c.loop-n in
    let d = c.in_ok-left.ensures.1 in
    (c.occurs_in.array_long, omega (arith, d, l.invariant.1), scan_next _ _ _ _ _ _ _ l.n _ l.left l.invariant.2 (omega (arith, c.loop-n-test.true)) l.auto.n (omega (arith, c.requires.arity, c.loop-n-test.true)) _ c.part_of-a.ensures _ _ _ c.in_ok-left.was c.occurs_in.ensures.0 _ (omega (arith, c.loop-n-test.true)))

pub occurs_in_arguments-returns : goal.occurs_in_arguments-returns
occurs_in_arguments-returns t c =
    let l = c.loop-n in
    (scan_last _ _ _ _ _ _ _ l.n _ _ c.requires.arity (omega (arith, l.auto.n-end, c.requires.some, c.loop-n-test.false)) l.invariant.2, l.invariant.1, l.invariant.0)

pub occurs_in-loop-left-init : goal.occurs_in-loop-left-init
occurs_in-loop-left-init t c =
    (c.requires.models.room, omega arith, sought_start _ _ _ _ _)

pub occurs_in-follow-requires : goal.occurs_in-follow-requires
occurs_in-follow-requires t c =
    let l = c.loop-left in
    sought_followable _ _ _ _ _ _ _ l.left c.requires l.invariant.2

pub occurs_in-returns-in-Variable : goal.occurs_in-returns-in-Variable
occurs_in-returns-in-Variable t c =
    let l = c.loop-left in
    let d = looked_met _ _ _ _ _ _ (omega (arith, c.loop-left-test.true)) _ c.follow.ensures.0 _ _ c.in-Variable.is _ c.occurs_here.ensures in
    (sought_then _ _ _ _ _ _ _ _ l.invariant.2 _ _ d.0, less_le _ _ c.occurs_here.result l.invariant.1 d.1, c.follow.ensures.1)

pub occurs_in-returns-then-last-eq0 : goal.occurs_in-returns-then-last-eq0
occurs_in-returns-then-last-eq0 t c =
    let l = c.loop-left in
    (sought_then _ _ _ _ _ _ _ _ l.invariant.2 _ _ (looked_into _ _ _ _ _ _ (omega (arith, c.loop-left-test.true)) _ c.follow.ensures.0 _ _ c.in-Application.is _ _ (looked_none _ _ _ _ _ _ (sym c.if-last-eq0.true ∙ c.arity_of-last.ensures.0))), omega (arith, l.invariant.1, c.loop-left-test.true), c.follow.ensures.1)

pub occurs_in-occurs_in_arguments-requires : goal.occurs_in-occurs_in_arguments-requires
occurs_in-occurs_in_arguments-requires t c =
    let s = c in
    let l = c.loop-left in
    let work = c.loop-left-test.true in
    (omega (arith, s.decreases, l.invariant.1, work), arguments_followable _ _ _ _ _ (sought_followable _ _ _ _ _ _ _ l.left s.requires l.invariant.2) c.follow.ensures.0 _ _ c.in-Application.is _ c.arity_of-last.ensures.0 (omega (arith, c.if-last-eq0.false)))

pub occurs_in-loop-left-smaller : goal.occurs_in-loop-left-smaller
occurs_in-loop-left-smaller t c =
    let d = c.in_ok-left-in-Application.ensures.1 in
    omega (arith, d, c.loop-left-test.true)

pub occurs_in-loop-left-preserved : goal.occurs_in-loop-left-preserved
occurs_in-loop-left-preserved t c =
    let l = c.loop-left in
    let d = c.in_ok-left-in-Application.ensures.1 in
    (c.occurs_in_arguments.array_long, omega (arith, d, l.invariant.1), sought_next _ _ _ _ _ _ _ _ l.invariant.2 (omega (arith, c.loop-left-test.true)) _ _ c.follow.ensures.0 _ _ c.in-Application.is _ c.arity_of-last.ensures.0 (omega (arith, c.if-last-eq0.false)) _ _ _ c.in_ok-left-in-Application.was c.occurs_in_arguments.ensures.0 _ c.part_of-row.ensures)

pub occurs_in-returns : goal.occurs_in-returns
occurs_in-returns t c =
    let l = c.loop-left in
    (sought_then _ _ _ _ _ _ _ _ l.invariant.2 _ _ (looked_spent _ _ l.values _ _ _ (omega (arith, c.loop-left-test.false))), tt, l.invariant.0)

pub occurs_in-returns-in_err-left-in-Application : goal.occurs_in-returns-in_err-left-in-Application
occurs_in-returns-in_err-left-in-Application t c =
    let l = c.loop-left in
    let p = err_from_is_err_and c.from_residual.result c.from_residual.ensures.1 in
    rw (p.1, p.2) (sought_then _ _ _ _ _ _ _ _ l.invariant.2 _ _ (looked_into _ _ _ _ _ _ (omega (arith, c.loop-left-test.true)) _ c.follow.ensures.0 _ _ c.in-Application.is _ (Err _) c.in_err-left-in-Application.ensures.0), tt, c.occurs_in_arguments.array_long)

pub occurs_in_arguments-returns-in_err-left : goal.occurs_in_arguments-returns-in_err-left
occurs_in_arguments-returns-in_err-left t c =
    let l = c.loop-n in
    let p = err_from_is_err_and c.from_residual.result c.from_residual.ensures.1 in
    rw (p.1, p.2) (scan_broke _ _ _ _ _ _ _ l.n _ l.left l.invariant.2 (omega (arith, c.loop-n-test.true)) l.auto.n (omega (arith, c.requires.arity, c.loop-n-test.true)) _ c.part_of-a.ensures _ _ c.in_err-left.ensures.0, tt, c.occurs_in.array_long)
