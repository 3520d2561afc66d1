-- Records in bytes and by their kind, by computing.
use mathlib.Core.Path.{refl}
use Rattle.record.specs.Bytes.{record_bytes, bytes_in}
use Rattle.record.specs.Cases.{BytesHold, SortsHold}
use Rattle.record.specs.Record.{records}

pub bytes_hold : BytesHold
unfolding records bytes_in record_bytes
bytes_hold = record { one = refl; written = refl; two = refl; one_new = refl; written_new = refl; two_new = refl }

pub sorts_hold : SortsHold
sorts_hold = record { symbols = refl; rows = refl; inputs = refl; steps = refl; clauses = refl; windows = refl; counted = refl }
