-- One right literal is taken out, or those of all four cells in turn: zeros take out nothing.
use Rattle.collecting.proofs.ListedLiterals.{deleted_room}
use Rattle.collecting.proofs.CollectedLiterals.{one_deleted, four_deleted}
use Rattle.collecting.proofs.literals.delete_rights.Goals as goal

pub delete-requires : goal.delete-requires
delete-requires c =
    record { base_le_end = c.requires.inside; end_bound = c.requires.few }

pub returns-then-origin_code-eq3 : goal.returns-then-origin_code-eq3
returns-then-origin_code-eq3 c =
    one_deleted c.origin_code.ensures c.if-origin_code-eq3.true c.part_of.ensures c.delete.ensures

pub delete-third-requires : goal.delete-third-requires
delete-third-requires c =
    record { base_le_end = c.requires.inside; end_bound = c.requires.few }

pub delete-second-requires : goal.delete-second-requires
delete-second-requires c =
    let d = deleted_room c.requires.inside c.requires.few c.delete-third.ensures in
    record { base_le_end = d.0; end_bound = d.1 }

pub delete-first-requires : goal.delete-first-requires
delete-first-requires c =
    let d = deleted_room c.requires.inside c.requires.few c.delete-third.ensures in
    let e = deleted_room d.0 d.1 c.delete-second.ensures in
    record { base_le_end = e.0; end_bound = e.1 }

pub delete-requires-2 : goal.delete-requires-2
delete-requires-2 c =
    let d = deleted_room c.requires.inside c.requires.few c.delete-third.ensures in
    let e = deleted_room d.0 d.1 c.delete-second.ensures in
    let f = deleted_room e.0 e.1 c.delete-first.ensures in
    record { base_le_end = f.0; end_bound = f.1 }

pub returns : goal.returns
returns c =
    four_deleted c.part_of-2.ensures c.delete-third.ensures c.part_of-3.ensures c.delete-second.ensures c.part_of-4.ensures c.delete-first.ensures c.part_of-5.ensures c.delete-2.ensures
