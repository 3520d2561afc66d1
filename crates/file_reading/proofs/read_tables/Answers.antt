-- The cleared parts are those of the empty state, and reading goes on from there.
use native.Mathlib.Omega.{arith}
use Rattle.file_reading.proofs.CheckLaws.{table_sizes, begun, file_read_with}
use Rattle.file_reading.proofs.read_tables.Goals as goal

pub clear-requires : goal.clear-requires
clear-requires c =
    record { from_le_to = omega arith; to_in_bounds = (table_sizes c.requires.readable).symbols }

pub clear-requires-2 : goal.clear-requires-2
clear-requires-2 c =
    record { from_le_to = omega arith; to_in_bounds = (table_sizes c.requires.readable).rows }

pub clear-requires-3 : goal.clear-requires-3
clear-requires-3 c =
    record { from_le_to = omega arith; to_in_bounds = (table_sizes c.requires.readable).clauses }

pub clear-requires-4 : goal.clear-requires-4
clear-requires-4 c =
    record { from_le_to = omega arith; to_in_bounds = (table_sizes c.requires.readable).bindings }

pub read_records-e-requires : goal.read_records-e-requires
read_records-e-requires c =
    let at-start-asked-empty-origins = c.requires.empty.origins in
    let at-start-asked-empty-values = c.requires.empty.values in
    let at-start-asked-empty-nodes = c.requires.empty.nodes in
    let at-start-asked-readable = c.requires.readable in
    let clear2-says = c.clear-2.ensures in
    let clear3-says = c.clear-3.ensures in
    let clear4-says = c.clear-4.ensures in
    let clear-says = c.clear.ensures in
    begun at-start-asked-readable clear-says clear2-says clear3-says clear4-says at-start-asked-empty-values _ _ at-start-asked-empty-nodes at-start-asked-empty-origins

pub returns-clause-read : goal.returns-clause-read
unfolding begun
returns-clause-read c =
    file_read_with _ _ _ _ _ _ _ _ _ (c.read_records-e.ensures.read (begun c.requires.readable c.clear.ensures c.clear-2.ensures c.clear-3.ensures c.clear-4.ensures c.requires.empty.values _ _ c.requires.empty.nodes c.requires.empty.origins)) c.ended_answer.ensures
