use mathlib.Core.Path.{refl}
use native.Mathlib.Omega.{arith}
use Rattle.unify.proofs.BindingsAdded.{added_none, added_as_below, added_then, added_below}
use Rattle.unify.proofs.PairWalk.{leaves_less, filed_then, paired_spent, paired_nothing, paired_clashing, paired_bind, paired_refused, pursued_start, pursued_then, pursued_next, match_start, match_last, match_refused, match_next, pursued_ready, left_followable, right_followable, bind_ready, arguments_ready, matched_ready}
use Rattle.std.proofs.lemmas.Result.{err_from_is_err_and}
use Prim.Native.Nat.{◌+◌, ◌-◌}
use Rattle.unify_pairs.proofs.+unify_arguments_unify_pair.Goals as goal

pub unify_arguments-loop-n-init : goal.unify_arguments-loop-n-init
unify_arguments-loop-n-init t c =
    (c.requires.step.stand.models.room, omega arith, added_none _ _, match_start _ _ _ _ _ _ _ _ _ (c.args.last + 1 - 1) (omega (arith, c.requires.arity)))

pub unify_arguments-unify_pair-requires : goal.unify_arguments-unify_pair-requires
unify_arguments-unify_pair-requires t c =
    let l = c.loop-n in
    (omega (arith, c.decreases, l.invariant.1), matched_ready c.requires l.invariant.3 (omega (arith, c.loop-n-test.true)) l.auto.n (omega (arith, c.loop-n-test.true)) _ _ c.part_of-c.ensures c.part_of-d.ensures)

pub unify_arguments-returns-in_err-left : goal.unify_arguments-returns-in_err-left
unify_arguments-returns-in_err-left t c =
    let l = c.loop-n in
    let p = err_from_is_err_and c.from_residual.result c.from_residual.ensures.1 in
    rw (p.1, p.2) (record { argued_before = match_refused _ _ _ _ _ _ _ _ _ _ _ l.n _ l.left.work l.left.held l.invariant.3 (omega (arith, c.loop-n-test.true)) l.auto.n (omega (arith, c.requires.arity, c.loop-n-test.true)) _ _ c.part_of-c.ensures c.part_of-d.ensures _ _ _ c.in_err-left.ensures.paired _ refl; filed = (added_below l.invariant.2 c.in_err-left.ensures.filed.0, tt, c.unify_pair.array_long) })

pub unify_arguments-loop-n-preserved : goal.unify_arguments-loop-n-preserved
unify_arguments-loop-n-preserved t c =
    let l = c.loop-n in
    let e = c.in_ok-left.ensures in
    (c.unify_pair.array_long, omega (arith, e.filed.1, l.invariant.1), added_then l.invariant.2 e.filed.0, match_next _ _ _ _ _ _ _ _ _ _ _ l.n _ l.left.work l.left.held l.invariant.3 (omega (arith, c.loop-n-test.true)) l.auto.n (omega (arith, c.requires.arity, c.loop-n-test.true)) _ _ c.part_of-c.ensures c.part_of-d.ensures _ _ _ e.paired _ _ refl l.invariant.2 e.filed.0 _ (omega (arith, c.loop-n-test.true)))

pub unify_arguments-returns : goal.unify_arguments-returns
unify_arguments-returns t c =
    let l = c.loop-n in
    record { argued_before = match_last _ _ _ _ _ _ _ _ _ _ _ l.n _ _ _ c.requires.arity (omega (arith, l.auto.n-end, c.requires.some, c.loop-n-test.false)) l.invariant.3; filed = (l.invariant.2, l.invariant.1, l.invariant.0) }

pub unify_pair-loop-work-init : goal.unify_pair-loop-work-init
unify_pair-loop-work-init t c =
    (c.requires.step.stand.models.room, omega arith, added_none _ _, pursued_start _ _ _ _ _ _ _)

pub unify_pair-follow-x-requires : goal.unify_pair-follow-x-requires
unify_pair-follow-x-requires t c =
    left_followable (pursued_ready c.requires c.loop-work.invariant.3)

pub unify_pair-follow-y-requires : goal.unify_pair-follow-y-requires
unify_pair-follow-y-requires t c =
    right_followable (pursued_ready c.requires c.loop-work.invariant.3) _ _ c.follow-x.ensures.0

pub unify_pair-bind-requires : goal.unify_pair-bind-requires
unify_pair-bind-requires t c =
    let m = rw c.in-Bind.is at c.meet.ensures in
    bind_ready (pursued_ready c.requires c.loop-work.invariant.3) _ _ c.follow-x.ensures.0 _ _ c.follow-y.ensures.0 m refl refl

pub unify_pair-returns-in-Bind : goal.unify_pair-returns-in-Bind
unify_pair-returns-in-Bind t c =
    let l = c.loop-work in
    let d = paired_bind _ _ _ _ _ _ _ _ _ (omega (arith, c.loop-work-test.true)) _ _ c.follow-x.ensures.0 c.follow-y.ensures.0 (rw c.in-Bind.is at c.meet.ensures) refl refl _ _ _ c.bind.ensures.bound in
    record { paired = pursued_then _ _ _ _ _ _ _ _ _ _ _ _ _ l.invariant.3 l.invariant.2 _ _ _ d c.bind.ensures.filed.0; filed = (filed_then _ _ _ _ _ c.bind.result l.invariant.2 c.bind.ensures.filed.0, leaves_less _ _ c.bind.result (omega (arith, l.invariant.1, c.loop-work-test.true)) c.bind.ensures.filed.1, c.bind.ensures.filed.2) }

pub unify_pair-returns-in-Nothing : goal.unify_pair-returns-in-Nothing
unify_pair-returns-in-Nothing t c =
    let l = c.loop-work in
    let d = paired_nothing _ _ l.bindings l.held _ _ l.work _ _ (omega (arith, c.loop-work-test.true)) _ _ c.follow-x.ensures.0 c.follow-y.ensures.0 (rw c.in-Nothing.is at c.meet.ensures) refl refl in
    record { paired = pursued_then _ _ _ _ _ _ _ _ _ _ _ _ _ l.invariant.3 l.invariant.2 _ _ _ d (added_none _ _); filed = (l.invariant.2, omega (arith, l.invariant.1, c.loop-work-test.true), c.follow-y.ensures.1) }

pub unify_pair-returns-in-Clash : goal.unify_pair-returns-in-Clash
unify_pair-returns-in-Clash t c =
    let l = c.loop-work in
    let d = paired_clashing _ _ l.bindings l.held _ _ l.work _ _ (omega (arith, c.loop-work-test.true)) _ _ c.follow-x.ensures.0 c.follow-y.ensures.0 (rw c.in-Clash.is at c.meet.ensures) refl refl in
    record { paired = pursued_then _ _ _ _ _ _ _ _ _ _ _ _ _ l.invariant.3 l.invariant.2 _ _ _ d (added_as_below (added_none _ _)); filed = (added_as_below l.invariant.2, tt, c.follow-y.ensures.1) }

pub unify_pair-unify_arguments-requires : goal.unify_pair-unify_arguments-requires
unify_pair-unify_arguments-requires t c =
    let s = c in
    let l = c.loop-work in
    let m = rw c.in-Arguments.is at c.meet.ensures in
    (omega (arith, s.decreases, l.invariant.1, c.loop-work-test.true), arguments_ready (pursued_ready s.requires l.invariant.3) _ _ c.follow-x.ensures.0 _ _ c.follow-y.ensures.0 m refl refl _ c.arity_of-last.ensures.0)

pub unify_pair-loop-work-smaller : goal.unify_pair-loop-work-smaller
unify_pair-loop-work-smaller t c =
    omega (arith, c.in_ok-left-in-Arguments.ensures.filed.1, c.loop-work-test.true)

pub unify_pair-loop-work-preserved : goal.unify_pair-loop-work-preserved
unify_pair-loop-work-preserved t c =
    let l = c.loop-work in
    let m = rw c.in-Arguments.is at c.meet.ensures in
    let e = c.in_ok-left-in-Arguments.ensures in
    (c.unify_arguments.array_long, omega (arith, e.filed.1, l.invariant.1), added_then l.invariant.2 e.filed.0, pursued_next _ _ _ _ _ _ _ _ _ _ _ _ _ l.invariant.3 l.invariant.2 (omega (arith, c.loop-work-test.true)) _ _ _ _ c.follow-x.ensures.0 c.follow-y.ensures.0 m refl refl _ _ _ _ _ refl e.argued_before e.filed.0 _ _ _ c.arity_of-last.ensures.0 c.part_of-l.ensures c.part_of-r.ensures)

pub unify_pair-returns-in_err-left-in-Arguments : goal.unify_pair-returns-in_err-left-in-Arguments
unify_pair-returns-in_err-left-in-Arguments t c =
    let l = c.loop-work in
    let m = rw c.in-Arguments.is at c.meet.ensures in
    let e = c.in_err-left-in-Arguments.ensures in
    let p = err_from_is_err_and c.from_residual.result c.from_residual.ensures.1 in
    let d = paired_refused _ _ _ _ _ _ _ _ _ (omega (arith, c.loop-work-test.true)) _ _ c.follow-x.ensures.0 c.follow-y.ensures.0 m refl refl _ _ _ _ refl e.argued_before in
    rw (p.1, p.2) (record { paired = pursued_then _ _ _ _ _ _ _ _ _ _ _ _ _ l.invariant.3 l.invariant.2 _ _ _ d e.filed.0; filed = (added_below l.invariant.2 e.filed.0, tt, c.unify_arguments.array_long) })

pub unify_pair-returns : goal.unify_pair-returns
unify_pair-returns t c =
    let l = c.loop-work in
    record { paired = pursued_then _ _ _ _ _ _ _ _ _ _ _ _ _ l.invariant.3 l.invariant.2 _ _ _ (paired_spent _ l.values l.bindings _ _ _ _ (omega (arith, c.loop-work-test.false))) (added_as_below (added_none _ _)); filed = (added_as_below l.invariant.2, tt, l.invariant.0) }
