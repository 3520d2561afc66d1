-- How the program looks through the records of two files: the contracts of its inner functions. No promise needs this file; what a merge is stands in the
-- crate merging.
use Rattle.std.specs.Prelude.{◌≡◌, List, ℕ, ◌+◌, ◌≤◌, ◌<◌, drop, Option, Some, None}
use Rattle.std.specs.declared.ops.ControlFlow.{ControlFlow}
use Rattle.std.specs.declared.ops.ControlFlow.TheVariants.{Continue, Break}
use Rattle.std.proofs.Math.Option as maybe
use Rattle.record.specs.Record.{old_file, records, record_count}
use Rattle.merging.specs.Answer.{symbol_list, first_other}

-- The record found.
abbrev pub found_given : Option ℕ → maybe.Option ℕ
found_given (Some k) = maybe.some k
found_given None = maybe.none

-- Where the comparison of symbols stands: it goes on with record i of the first file and record j of the second.
abbrev pub others_from : List ℕ → List ℕ → ℕ → ℕ → maybe.Option ℕ
others_from first second i j = first_other (symbol_list (drop i (records (old_file first)))) j (drop j (records (old_file second)))

-- What a move says: it goes on further along and comes to the same; or it has ended, with what is found.
abbrev pub Moved : List ℕ → List ℕ → ℕ → ℕ → ControlFlow (Option ℕ) (ℕ × ℕ) → Type 0
Moved first second i j (Continue (a, b)) =
    (others_from first second i j ≡ others_from first second a b) × (i ≤ a) × (j ≤ b) × (i + j < a + b) × (a ≤ record_count (old_file first)) × (b ≤ 4096)
Moved first second i j (Break found) = others_from first second i j ≡ found_given found
