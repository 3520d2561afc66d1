-- Document 02, Q-8, "here and wherever a file is written from now on": what a function answers that writes a file, and what it leaves in the output. A merge (Q-8),
-- a conversion (Q-11) and a trimmed proof (Q-12) answer so.
use Rattle.std.specs.Prelude.{◌≡◌, List, [], ◌∷◌, ◌++◌, ℕ, ◌≤◌, ◌<◌, length, get_or, drop}
use Rattle.verdict.specs.Refusal.{reason_number}
use Rattle.verdict.specs.Verdict.{Verdict, accepted, open', refusal}

-- Written, with the file's length; or refused, with a number, the input file that it is about (0 none, 1 the first or only one, 2 the second) and a record.
pub data Writing : Type 0 where
  written : ℕ → Writing
  refused_with : ℕ → ℕ → ℕ → Writing

-- Its four numbers: 0 written or 2 refused; the length or the reason; the file; the record.
abbrev pub writing_numbers : Writing → List ℕ
writing_numbers (written n) = 0 ∷ n ∷ 0 ∷ 0 ∷ []
writing_numbers (refused_with number file k) = 2 ∷ number ∷ file ∷ k ∷ []

-- An input file that its check refuses ends the work, with that refusal and the file's number.
abbrev pub unless_refused : ℕ → Verdict → Writing → Writing
unless_refused file (refusal reason k) next = refused_with (reason_number reason) file k
unless_refused file (accepted n) next = next
unless_refused file open' next = next

-- The output: the file at its start and the rest as it was, or all as it was.
abbrev pub output_left : Writing → List ℕ → List ℕ → List ℕ
output_left (written n) file output = file ++ drop n output
output_left (refused_with number which k) file output = output

-- A file at the start of an output, and the rest of the output as it was: nothing is written past the file's end.
pub record WrittenAt (file output left : List ℕ) : Type 0 where
  pub same_length : length left ≡ length output
  pub at_start : (i : ℕ) → i < length file → get_or left i 0 ≡ get_or file i 0
  pub rest_kept : (i : ℕ) → length file ≤ i → get_or left i 0 ≡ get_or output i 0
