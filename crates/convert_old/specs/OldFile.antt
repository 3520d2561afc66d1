-- How the program writes a new file in the old form: the contracts of its functions. No promise needs this file; what the old form of a file is stands in the
-- crate converting.
use Rattle.std.specs.Prelude.{◌≡◌, not, List, [], ◌∷◌, ℕ, ◌+◌, ◌≤◌, ◌<◌, length}
use Rattle.record.specs.Bytes.{bytes_in}
use Rattle.record.specs.Record.{Record, new_file, decoded_in, records}
use Rattle.record.specs.Sorts.{unless}
use Rattle.record.specs.declared.Form.TheVariants.{Old, New}
use Rattle.converting.specs.Converting.{without_days, days_beside, window_record, is_dated, to_old_records}

-- What a record becomes, where the next clause has the number n: itself without its days, and the window of a clause that is not always in force.
abbrev pub old_of : ℕ → Record → List Record
old_of n r = without_days r ∷ unless (not (is_dated r)) (window_record n (days_beside r)) []

-- A whole record, and room for what it becomes.
pub record NextWritable (part : List ℕ) (n : ℕ) (output : List ℕ) (at : ℕ) : Type 0 where
  pub whole : length part ≡ 20
  pub few : n < 65536
  pub room : at + length (bytes_in Old (old_of n (decoded_in New part))) ≤ length output

-- A file that is not too long, and room for its old form.
pub record OldWritable (file output : List ℕ) : Type 0 where
  pub short : length file ≤ 65536
  pub room : length (bytes_in Old (to_old_records (records (new_file file)))) ≤ length output
