-- Each return is a case of the definition.
use Rattle.entry.proofs.EntryLaws.{symbol_out, symbol_in}
use Rattle.std.proofs.Common.{ap}
use Rattle.std.proofs.Common.{not}
use Rattle.record_entry.proofs.symbol_record.Goals as goal

pub returns-then-not-symbol_in_range : goal.returns-then-not-symbol_in_range
returns-then-not-symbol_in_range c =
    let s = c.args in
    symbol_out s.part.now s.k s.counts s.symbols.now c.symbol_in_range.ensures (ap not c.if-not-symbol_in_range.true)

pub returns : goal.returns
returns c =
    let s = c.args in
    symbol_in s.part.now s.k s.counts s.symbols.now c.symbol_in_range.ensures (ap not c.if-not-symbol_in_range.false) c.set_cell.ensures
