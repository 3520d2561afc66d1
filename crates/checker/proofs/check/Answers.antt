use mathlib.Core.Path.{◌∙◌}
use Rattle.answer.specs.Given.{untouched_numbers}
use Rattle.checker.proofs.CheckedLaws.{checked_length, checked_tables, readable, checked_read}
use Rattle.std.proofs.Common.{ap}
use Rattle.std.proofs.Common.{not}
use Rattle.checker.proofs.check.Goals as goal

pub returns-then-not-fitting_length-clause-answered : goal.returns-then-not-fitting_length-clause-answered
returns-then-not-fitting_length-clause-answered c =
    checked_length _ _ _ _ _ c.fitting_length.ensures (ap not c.if-not-fitting_length.true) (c.untouched.ensures ∙ ap untouched_numbers c.number.ensures)

pub returns-then-not-has_room-clause-answered : goal.returns-then-not-has_room-clause-answered
returns-then-not-has_room-clause-answered c =
    checked_tables _ _ _ _ _ c.fitting_length.ensures (ap not c.if-not-fitting_length.false) _ c.has_room.ensures (ap not c.if-not-has_room.true) (c.untouched-then-not-has_room.ensures ∙ ap untouched_numbers c.number-then-not-has_room.ensures)

pub read_file-requires : goal.read_file-requires
read_file-requires c =
    readable _ _ _ c.fitting_length.ensures (ap not c.if-not-fitting_length.false) _ c.has_room.ensures (ap not c.if-not-has_room.false)

pub returns-clause-answered : goal.returns-clause-answered
returns-clause-answered c =
    checked_read _ _ _ _ _ c.fitting_length.ensures (ap not c.if-not-fitting_length.false) _ c.has_room.ensures (ap not c.if-not-has_room.false) _ c.read_file.ensures.read
