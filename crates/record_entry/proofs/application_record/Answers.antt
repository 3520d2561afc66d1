-- Each return is a case of the definition.
use Rattle.record.specs.Record.{in_form}
use native.Mathlib.Omega.{arith}
use mathlib.Core.Path.{ap}
use lib.ListN.{length}
use Rattle.entry.proofs.EntryLaws.{application_out, application_missing, application_in}
use Rattle.std.proofs.Common.{ap}
use Rattle.std.proofs.Common.{not}
use Rattle.record_entry.proofs.application_record.Goals as goal

pub returns-then-not-application_in_range : goal.returns-then-not-application_in_range
returns-then-not-application_in_range c =
    let s = c.args in
    record { nodes_after = application_out (in_form s.form s.file.now) s.part.now s.k s.counts s.symbols.now s.rows.now s.nodes.now c.application_in_range.ensures (ap not c.if-not-application_in_range.true); indexed = c.requires.index }

pub returns-then-not-application_there : goal.returns-then-not-application_there
returns-then-not-application_there c =
    let s = c.args in
    record { nodes_after = application_missing (in_form s.form s.file.now) s.part.now s.k s.counts s.symbols.now s.rows.now s.nodes.now c.application_in_range.ensures (ap not c.if-not-application_in_range.false) c.application_there.ensures (ap not c.if-not-application_there.true); indexed = c.requires.index }

pub enter_row-requires : goal.enter_row-requires
enter_row-requires c =
    record { index = c.requires.index; room = c.requires.room; seven = ap length c.taken_arguments-numbers.ensures; coded = omega arith }

pub returns : goal.returns
returns c =
    let s = c.args in
    record { nodes_after = application_in (in_form s.form s.file.now) s.part.now s.k s.counts s.symbols.now s.rows.now s.nodes.now c.application_in_range.ensures (ap not c.if-not-application_in_range.false) c.application_there.ensures (ap not c.if-not-application_there.false) c.count.ensures c.fields-written.ensures c.taken_arguments-numbers.ensures c.enter_row.ensures.nodes_after; indexed = c.enter_row.ensures.indexed }
