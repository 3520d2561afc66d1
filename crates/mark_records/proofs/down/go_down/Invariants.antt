-- What is left of the records, the last one first, comes to the same as all of them.
use Rattle.std.proofs.Common.{◌≡◌, List, ℕ}
use Rattle.record.specs.Record.{Record, decoded, old_file, record_count}
use Rattle.mark_records.specs.Down.{down}
use Rattle.mark_records.proofs.down.go_down.Given as goal

abbrev pub invariant-loop-k : goal.invariant-loop-k
invariant-loop-k g l =
    (step : Record → ℕ → List ℕ → List ℕ) → ((part : _) (k : ℕ) (before after : _) → goal.F-post g l.mark part k before tt after → after.now ≡ step (decoded part.now) k before.now)
    → down step (old_file l.file) l.k l.marks ≡ down step (old_file l.file) (record_count (old_file l.file)) l.initial.marks
