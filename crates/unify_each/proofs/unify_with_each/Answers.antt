use mathlib.Core.Path.{refl, ◌∙◌}
use native.Mathlib.Omega.{arith}
use Rattle.std.proofs.lemmas.Result.{err_from_is_err_and}
use Rattle.unification.proofs.Limits.{work_16384}
use Rattle.unify.proofs.Answer.{pair_ready, remains_next, answered_done, answered_refused}
use Rattle.unify.proofs.BindingsAdded.{added_none, added_then}
use Rattle.unify.proofs.EachListed.{listed_all, listed_none, listed_next, raised_fits}
use Rattle.unify_each.proofs.unify_with_each.Goals as goal

pub loop-j-init : goal.loop-j-init
loop-j-init c =
    (c.requires.ready.values, added_none _ _, listed_all c.requires 16384 work_16384)

pub overflow_add-k-in-loop-j : goal.overflow_add-k-in-loop-j
overflow_add-k-in-loop-j c =
    omega (arith, raised_fits c.requires _ _ _ _ c.loop-j.j c.loop-j.invariant.2 c.loop-j-test.true)

pub unify_pair-requires : goal.unify_pair-requires
unify_pair-requires c =
    pair_ready c.requires.ready (listed_next c.requires _ _ _ _ c.loop-j.j c.loop-j.invariant.2 c.loop-j-test.true)

pub returns-in_err-left : goal.returns-in_err-left
returns-in_err-left c =
    let l = c.loop-j in
    let p = err_from_is_err_and c.from_residual.result c.from_residual.ensures.1 in
    let e = c.in_err-left.ensures in
    rw (p.1, p.2) (answered_refused _ _ _ _ _ _ _ c.requires.ready l.left.work l.left.held l.invariant.1 _ _ _ (listed_next c.requires _ _ _ _ l.j l.invariant.2 c.loop-j-test.true) _ _ _ e.paired e.filed.0 _ refl c.unify_pair.array_long (c.unify_pair.auto.bindings ∙ l.auto.bindings))

pub loop-j-preserved : goal.loop-j-preserved
loop-j-preserved c =
    let l = c.loop-j in
    let e = c.in_ok-left.ensures in
    (c.unify_pair.array_long, added_then l.invariant.1 e.filed.0, remains_next _ _ _ _ _ _ _ c.requires.ready l.left.work l.left.held l.invariant.1 _ _ _ (listed_next c.requires _ _ _ _ l.j l.invariant.2 c.loop-j-test.true) _ _ _ e.paired e.filed.0 _ _ refl)

pub returns : goal.returns
returns c =
    let l = c.loop-j in
    answered_done _ _ _ _ _ _ _ c.requires.ready _ _ l.invariant.1 (listed_none c.requires _ _ _ _ l.j l.invariant.2 (omega (arith, c.loop-j-test.false))) l.invariant.0 l.auto.bindings
