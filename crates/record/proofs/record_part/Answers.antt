-- Both sides make the same test; where it holds, the range has a record's length, and where it fails both parts are empty.
use Rattle.std.proofs.Math.Nat.{add-sub_cancel_left}
use borrow.Author.Tests.{lt-ltb, le-ltb}
use Rattle.record.specs.Record.{record_part}
use Rattle.record.proofs.record_part.Goals as goal

pub returns-then-k-record_count : goal.returns-then-k-record_count
unfolding record_part
returns-then-k-record_count c = rw (c.record_size-size.ensures, ← c.record_count.ensures, lt-ltb _ _ c.if-k-record_count.true, add-sub_cancel_left)

pub returns-else-k-record_count : goal.returns-else-k-record_count
unfolding record_part
returns-else-k-record_count c = rw (← c.record_count.ensures, le-ltb _ _ c.if-k-record_count.false)
