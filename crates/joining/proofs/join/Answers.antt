-- One law for each way out on which nothing is found.
use mathlib.Core.Path.{sym, refl, ◌∙◌}
use native.Mathlib.Omega.{arith}
use Rattle.joining.proofs.FileJoined.{counted_many, to_join, short_end, nothing_found, too_many_lem, joined_whole}
use Rattle.joining.proofs.join.Goals as goal

pub returns-then-too_many : goal.returns-then-too_many
returns-then-too_many c =
    too_many_lem _ _ _ _ (nothing_found _ _ _ c.none_found.ensures c.in_ok-none_found.was c.first_step.ensures) (nothing_found _ _ _ c.none_found-2.ensures c.in_ok-none_found-2.was c.first_step-2.ensures) (nothing_found _ _ _ c.none_found-3.ensures c.in_ok-none_found-3.was c.first_other.ensures)
    (sym (counted_many _ _ _ _ _ _ _ c.requires) ∙ sym c.too_many.ensures ∙ c.if-too_many.true) refl

pub write_both-end-requires : goal.write_both-end-requires
write_both-end-requires c =
    to_join _ _ _ _ _ _ _ c.requires _ c.too_many.ensures c.if-too_many.false

pub overflow_cast-result : goal.overflow_cast-result
overflow_cast-result c =
    let w = to_join _ _ _ _ _ _ _ c.requires _ c.too_many.ensures c.if-too_many.false in
    let e = short_end _ _ _ _ _ _ w _ _ c.write_both-end.ensures in
    omega (arith, e)

pub returns : goal.returns
returns c =
    joined_whole _ _ _ _ (nothing_found _ _ _ c.none_found.ensures c.in_ok-none_found.was c.first_step.ensures) (nothing_found _ _ _ c.none_found-2.ensures c.in_ok-none_found-2.was c.first_step-2.ensures) (nothing_found _ _ _ c.none_found-3.ensures c.in_ok-none_found-3.was c.first_other.ensures) _ _
    (sym (counted_many _ _ _ _ _ _ _ c.requires) ∙ sym c.too_many.ensures ∙ c.if-too_many.false) c.write_both-end.ensures refl
