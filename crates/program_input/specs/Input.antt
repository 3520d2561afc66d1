-- Document 02, Q-6: a program reads the day as two bytes, low first, before the file; fewer give 1.
use Rattle.std.specs.Prelude.{◌≡◌, List, ℕ, ◌+◌, ◌-◌, ◌*◌, ◌≤◌, ◌<◌, ltb, length, get_or, take, drop}
use Rattle.record.specs.Record.{pick, old_file}
use Rattle.verdict.specs.Refusal.{badLength}
use Rattle.verdict.specs.Verdict.{refusal, check, Lengths}
use Rattle.std.specs.declared.ops.Range.{Range}

abbrev pub day_of : List ℕ → ℕ
day_of input = pick (ltb (length input) 2) 0 (get_or input 0 0 + 256 * get_or input 1 0)

-- Where the file stands in the space that n bytes of input were read into, and its bytes.
abbrev pub file_part : ℕ → Range ℕ
file_part n = pick (ltb n 2) (record { start = 0; end = 1 }) (record { start = 2; end = n })

abbrev pub file_in : List ℕ → ℕ → List ℕ
file_in space n = take ((file_part n).end - (file_part n).start) (drop (file_part n).start space)

pub record InputsRead : Type 0 where
  -- The file is what comes after the two bytes of day.
  pub after_day : (space : List ℕ) (n : ℕ) → 2 ≤ n → n ≤ length space → file_in space n ≡ drop 2 (take n space)
  -- Fewer than two bytes are refused with 1, at record 0, whatever the tables.
  pub short : (space : List ℕ) (n day : ℕ) (lengths : Lengths) → n < 2 → 1 ≤ length space → (check day (old_file (file_in space n)) lengths).verdict ≡ refusal badLength 0
  -- More bytes than a day and the longest file have are refused with 1 too: a space of 65,539 bytes is room enough to notice.
  pub long : (space : List ℕ) (n day : ℕ) (lengths : Lengths) → 65538 < n → n ≤ length space → (check day (old_file (file_in space n)) lengths).verdict ≡ refusal badLength 0
