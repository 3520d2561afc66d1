-- A step at each of the first n records of a file, the last one first. No promise needs this file; the marks and the windows stand in the crate marking.
use Rattle.std.specs.Prelude.{List, ℕ, zero, suc}
use Rattle.record.specs.Record.{File, Record, record_at}

unfoldable pub down : (Record → ℕ → List ℕ → List ℕ) → File → ℕ → List ℕ → List ℕ
down step file zero marks = marks
down step file (suc k) marks = down step file k (step (record_at file k) k marks)
