-- What is left of the file makes the same table as the whole.
use mathlib.Core.Path.{◌≡◌}
use lib.ListN.{drop}
use Rattle.record.specs.Record.{old_file, records}
use Rattle.day_table.specs.DayTable.{with_windows}
use Rattle.day_table.proofs.put_windows.Given as goal

abbrev pub invariant-loop-k : goal.invariant-loop-k
invariant-loop-k l = with_windows (drop l.k (records (old_file l.file))) l.days ≡ with_windows (records (old_file l.file)) l.initial.days
