-- Each return is a case of the definition.
use native.Mathlib.Omega.{arith}
use mathlib.Core.Path.{ap}
use lib.ListN.{length}
use Rattle.entry.proofs.EntryLaws.{variable_out, variable_in}
use Rattle.std.proofs.Common.{ap}
use Rattle.std.proofs.Common.{not}
use Rattle.record_entry.proofs.variable_record.Goals as goal

pub returns-then-not-variable_in_range : goal.returns-then-not-variable_in_range
returns-then-not-variable_in_range c =
    let s = c.args in
    record { nodes_after = variable_out s.part.now s.k s.counts s.rows.now s.nodes.now c.variable_in_range.ensures (ap not c.if-not-variable_in_range.true); indexed = c.requires.index }

pub enter_row-requires : goal.enter_row-requires
enter_row-requires c =
    record { index = c.requires.index; room = c.requires.room; seven = ap length c.fields-numbers.ensures; coded = omega arith }

pub returns : goal.returns
returns c =
    let s = c.args in
    record { nodes_after = variable_in s.part.now s.k s.counts s.rows.now s.nodes.now c.variable_in_range.ensures (ap not c.if-not-variable_in_range.false) c.fields-numbers.ensures c.enter_row.ensures.nodes_after; indexed = c.enter_row.ensures.indexed }
