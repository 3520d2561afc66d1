-- How the program writes an old file in the new form: the contracts of its functions. No promise needs this file; what the new form of a file is stands in the
-- crate converting.
use Rattle.std.specs.Prelude.{◌≡◌, Bool, not, List, [], ℕ, ◌+◌, ◌*◌, ◌≤◌, ◌<◌, length, get_or}
use Rattle.record.specs.Bytes.{bytes_in}
use Rattle.record.specs.Record.{pick, Record, old_file, with_days, decoded, records}
use Rattle.record.specs.Sorts.{is_input, is_window, unless}
use Rattle.record.specs.declared.Form.TheVariants.{New}
use Rattle.converting.specs.Converting.{last_days, to_new_records}
use Rattle.day_table.specs.DayTable.{days_at}

-- A record remains if it is no window.
abbrev pub is_kept : Record → Bool
is_kept r = not (is_window r)

-- A day beside a record, from a cell of the table.
abbrev pub day_beside : List ℕ → ℕ → Record → ℕ
day_beside table at r = pick (is_input r) (get_or table at 0) 0

-- What a record becomes, where the next clause has the number n: itself with its days; nothing, if it is a window.
abbrev pub tabled : List ℕ → ℕ → Record → Record
tabled table n r = with_days r (day_beside table (2 * n) r) (day_beside table (2 * n + 1) r)

abbrev pub new_of : List ℕ → ℕ → Record → List Record
new_of table n r = unless (is_window r) (tabled table n r) []

-- A whole record, and room for what it becomes.
pub record NextWritable (part : List ℕ) (n : ℕ) (table output : List ℕ) (at : ℕ) : Type 0 where
  pub whole : length part ≡ 16
  pub few : n < 65536
  pub room : at + length (bytes_in New (new_of table n (decoded part))) ≤ length output

-- A file that is not too long, with the days of its clauses, and room for its new form.
pub record NewWritable (file table output : List ℕ) : Type 0 where
  pub short : length file ≤ 65536
  pub told : (n : ℕ) → n < 4096 → days_at table n ≡ last_days (records (old_file file)) n
  pub room : length (bytes_in New (to_new_records (records (old_file file)))) ≤ length output
