-- A record of kind 8 in the program. What it means stands in `Refusal` and `Step` of the crate verdict.
use Rattle.std.specs.Prelude.{List, ℕ, eqb, leb, Ok, Err}
use Rattle.record.specs.Record.{pick, field_of, decoded, windowKind}
use Rattle.derivation.specs.Stored.{origin_code}
use Rattle.verdict.specs.Refusal.{in_range}
use Rattle.entry.specs.declared.entry.Counts.{Counts}
use Rattle.entry.specs.Program.{Entered}
use Rattle.reasons.specs.declared.Reason.TheVariants.{OutOfRange, NotThere, CrossedDays}

-- Its tests, off its bytes and the table of origins, in the order of their numbers. The counts stay.
unfoldable pub window_entered : List ℕ → Counts → List ℕ → Entered
window_entered part n O =
    pick (in_range windowKind (decoded part))
    (pick (eqb (origin_code O (field_of part 0)) 1)
    (pick (leb (field_of part 1) (field_of part 2)) (Ok n) (Err CrossedDays))
    (Err NotThere))
    (Err OutOfRange)
