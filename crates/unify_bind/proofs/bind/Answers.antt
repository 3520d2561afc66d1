use Rattle.std.proofs.Common.{arith, refl, ◌∙◌}
use Rattle.std.proofs.lemmas.Result.{err_from_is_err_and}
use Rattle.unify.proofs.BindingsAdded.{added_none, added_as_below, added_by}
use Rattle.unify.proofs.PairWalk.{bound_failed, bound_full, bound_done, target_followable}
use Rattle.unify_bind.proofs.bind.Goals as goal

pub occurs_in-requires : goal.occurs_in-requires
occurs_in-requires c = target_followable c.requires

pub returns-in_err-left : goal.returns-in_err-left
returns-in_err-left c =
    let p = err_from_is_err_and c.from_residual.result c.from_residual.ensures.1 in
    rw (p.1, p.2) (record { bound = bound_failed _ _ _ _ _ _ _ _ _ c.in_err-left.ensures.0; filed = (added_as_below (added_none _ _), tt, c.occurs_in.array_long) })

pub returns-then-held-ge8192 : goal.returns-then-held-ge8192
returns-then-held-ge8192 c =
    record { bound = bound_full _ _ _ _ _ _ _ _ _ c.in_ok-left.ensures.0 c.if-held-ge8192.true; filed = (added_as_below (added_none _ _), tt, c.occurs_in.array_long) }

pub returns : goal.returns
returns c =
    let l = c.in_ok-left.ensures in
    record { bound = bound_done _ _ _ _ _ _ _ _ _ l.0 c.if-held-ge8192.false _ _ c.slot_of-at.ensures.0 refl _ _ c.write_cells.ensures c.push_binding.ensures; filed = (added_by _ _ _ _ _ _ _ c.if-held-ge8192.false c.push_binding.ensures, omega (arith, l.1), c.write_cells.auto.table ∙ c.occurs_in.array_long) }
