use mathlib.Core.Path.{sym, ◌∙◌}
use native.Mathlib.Omega.{arith}
use Rattle.collecting.proofs.CollectedLiterals.{to_first, first_room, from_first, to_second, to_rights, from_both}
use Rattle.collecting.proofs.literals.+collect.Goals as goal

pub collect_input-requires : goal.collect_input-requires
collect_input-requires t c =
    record { collectable = c.requires; c_value = sym c.origin_code-code.ensures ∙ c.if-code-eq1.true }

pub collect-all-requires : goal.collect-all-requires
collect-all-requires t c =
    let d = to_first c.requires c.origin_code-code.ensures c.if-code-eq1.false c.part_of-left.ensures c.part_of-second.ensures in
    (omega (arith, c.decreases, d.0), d.1)

pub delete-requires : goal.delete-requires
delete-requires t c =
    let d = first_room c.requires c.origin_code-code.ensures c.if-code-eq1.false c.part_of-left.ensures c.part_of-second.ensures c.collect-all.ensures in
    record { base_le_end = d.0; end_bound = d.1 }

pub returns-then-code-eq2 : goal.returns-then-code-eq2
returns-then-code-eq2 t c =
    from_first c.requires c.origin_code-code.ensures c.if-code-eq1.false c.part_of-left.ensures c.part_of-second.ensures c.collect-all.ensures c.if-code-eq2.true c.delete.ensures

pub delete-kept-requires : goal.delete-kept-requires
delete-kept-requires t c =
    let d = first_room c.requires c.origin_code-code.ensures c.if-code-eq1.false c.part_of-left.ensures c.part_of-second.ensures c.collect-all.ensures in
    record { base_le_end = d.0; end_bound = d.1 }

pub overflow_add-above : goal.overflow_add-above
overflow_add-above t c =
    let d = to_second c.requires c.origin_code-code.ensures c.if-code-eq1.false c.part_of-left.ensures c.part_of-second.ensures c.collect-all.ensures c.if-code-eq2.false c.part_of.ensures c.delete-kept.ensures c.index_cell.ensures in
    omega (arith, d.1.fits)

pub collect-last-requires : goal.collect-last-requires
collect-last-requires t c =
    let d = to_second c.requires c.origin_code-code.ensures c.if-code-eq1.false c.part_of-left.ensures c.part_of-second.ensures c.collect-all.ensures c.if-code-eq2.false c.part_of.ensures c.delete-kept.ensures c.index_cell.ensures in
    (omega (arith, c.decreases, d.0), d.1)

pub delete_rights-requires : goal.delete_rights-requires
delete_rights-requires t c =
    to_rights c.requires c.origin_code-code.ensures c.if-code-eq1.false c.part_of-left.ensures c.part_of-second.ensures c.collect-all.ensures c.if-code-eq2.false c.part_of.ensures c.delete-kept.ensures c.index_cell.ensures c.collect-last.ensures

pub returns : goal.returns
returns t c =
    from_both c.requires c.origin_code-code.ensures c.if-code-eq1.false c.part_of-left.ensures c.part_of-second.ensures c.collect-all.ensures c.if-code-eq2.false c.part_of.ensures c.delete-kept.ensures c.index_cell.ensures c.collect-last.ensures c.delete_rights.ensures
