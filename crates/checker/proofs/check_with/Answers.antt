-- Each way out is one law of `CheckedLaws`.
use mathlib.Core.Path.{◌∙◌}
use Rattle.answer.specs.Given.{untouched_numbers}
use Rattle.checker.proofs.CheckedLaws.{checked_length_with, checked_tables_with, readable, checked_read_with, cleared_nodes, cleared_origins}
use Rattle.std.proofs.Common.{ap}
use Rattle.std.proofs.Common.{not}
use Rattle.checker.proofs.check_with.Goals as goal

pub returns-then-not-fitting_length-clause-answered : goal.returns-then-not-fitting_length-clause-answered
returns-then-not-fitting_length-clause-answered c =
    checked_length_with _ _ _ _ _ _ c.fitting_length.ensures c.whole_table.ensures c.whole_table-2.ensures c.whole_values.ensures (ap not c.if-not-fitting_length.true) (c.untouched.ensures ∙ ap untouched_numbers c.number.ensures)

pub returns-then-not-has_room-clause-answered : goal.returns-then-not-has_room-clause-answered
returns-then-not-has_room-clause-answered c =
    let fitting-length-says = c.fitting_length.ensures in
    let whole-table2-says = c.whole_table-2.ensures in
    let whole-values-says = c.whole_values.ensures in
    let whole-table-says = c.whole_table.ensures in
    let long-enough-says = c.has_room.ensures in
    let untouched2-says = (c.untouched-then-not-has_room.ensures ∙ ap untouched_numbers c.number-then-not-has_room.ensures) in
    let if2-taken = (ap not c.if-not-has_room.true) in
    let if1-left = (ap not c.if-not-fitting_length.false) in
    checked_tables_with _ _ _ _ _ _ fitting-length-says whole-table-says whole-table2-says whole-values-says if1-left _ long-enough-says if2-taken untouched2-says

pub read_tables-requires : goal.read_tables-requires
read_tables-requires c =
    let fitting-length-says = c.fitting_length.ensures in
    let clear-table2-says = c.clear_table-2.ensures in
    let whole-values-says = c.whole_values.ensures in
    let long-enough-says = c.has_room.ensures in
    let clear-table-says = c.clear_table.ensures in
    let if1-left = (ap not c.if-not-fitting_length.false) in
    let if2-left = (ap not c.if-not-has_room.false) in
    record { readable = readable _ _ _ fitting-length-says if1-left _ long-enough-says if2-left; empty = record { nodes = clear-table-says ∙ cleared_nodes; origins = clear-table2-says ∙ cleared_origins; values = whole-values-says } }

pub returns-clause-answered : goal.returns-clause-answered
returns-clause-answered c =
    let fitting-length-says = c.fitting_length.ensures in
    let whole-table2-says = c.whole_table-2.ensures in
    let whole-values-says = c.whole_values.ensures in
    let whole-table-says = c.whole_table.ensures in
    let long-enough-says = c.has_room.ensures in
    let read-tables-says = c.read_tables.ensures.read in
    let if1-left = (ap not c.if-not-fitting_length.false) in
    let if2-left = (ap not c.if-not-has_room.false) in
    checked_read_with _ _ _ _ _ _ fitting-length-says whole-table-says whole-table2-says whole-values-says if1-left _ long-enough-says if2-left _ _ _ _ read-tables-says
