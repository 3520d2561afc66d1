-- Document 01, "Case sheet", the lengths of case C: for every file.
use Rattle.std.specs.Prelude.{◌≡◌, List, [], ◌∷◌, ℕ, length}
use Rattle.record.specs.Record.{old_file, new_file}
use Rattle.verdict.specs.Refusal.{badLength}
use Rattle.verdict.specs.Tables.{Tables, lengths_of}
use Rattle.verdict.specs.Verdict.{refusal, check, answer_numbers, Lengths}

-- The lengths of C for every file, on every day and whatever the tables: one of 65,536 bytes is never refused with 1, and those of 15 and of 65,552 bytes
-- always are.
abbrev pub refused_for_length : List ℕ
refused_for_length = 2 ∷ 1 ∷ 0 ∷ 0 ∷ 0 ∷ 0 ∷ 0 ∷ []

pub record LengthsHold : Type 0 where
  pub longest : (day : ℕ) (bytes : List ℕ) (tables : Tables) (k : ℕ) → length bytes ≡ 65536 → ¬ ((check day (old_file bytes) (lengths_of tables)).verdict ≡ refusal badLength k)
  pub fifteen : (day : ℕ) (bytes : List ℕ) (lengths : Lengths) → length bytes ≡ 15 → answer_numbers (check day (old_file bytes) lengths) ≡ refused_for_length
  pub too_long : (day : ℕ) (bytes : List ℕ) (lengths : Lengths) → length bytes ≡ 65552 → answer_numbers (check day (old_file bytes) lengths) ≡ refused_for_length
  -- Document 02, Q-11: in the new form the longest has 65,520 bytes, and one record more is too long.
  pub longest_new : (day : ℕ) (bytes : List ℕ) (tables : Tables) (k : ℕ) → length bytes ≡ 65520 → ¬ ((check day (new_file bytes) (lengths_of tables)).verdict ≡ refusal badLength k)
  pub too_long_new : (day : ℕ) (bytes : List ℕ) (lengths : Lengths) → length bytes ≡ 65540 → answer_numbers (check day (new_file bytes) lengths) ≡ refused_for_length
