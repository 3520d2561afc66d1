-- The contracts of the functions that write bytes and numbers into the buffer. This file only says how the parts of the program fit together.
use Rattle.std.specs.Prelude.{◌≡◌, List, [], ◌∷◌, ◌++◌, ℕ, ◌+◌, ◌-◌, ◌%◌, eqb, length, take}
use Rattle.record.specs.Record.{pick}

-- The buffer is as it was up to a position, and as long as it was.
pub record KeptBefore (T T' : List ℕ) (at : ℕ) : Type 0 where
  pub room : length T' ≡ length T
  pub before : take at T' ≡ take at T

-- The part of a text that fits into the buffer from a position on.
abbrev pub fitting_part : List ℕ → ℕ → List ℕ → List ℕ
fitting_part T at text = take (length T - at) text

-- As much of the text as fits was written at a position, and `end` is the position after it. Nothing is said of the bytes from `end` on:
-- after a literal that was broken off and became `~` they hold what was written of it.
pub record Wrote (T T' : List ℕ) (at end : ℕ) (text : List ℕ) : Type 0 where
  pub kept : KeptBefore T T' at
  pub position : end ≡ at + length (fitting_part T at text)
  pub bytes : take end T' ≡ take at T ++ fitting_part T at text

-- The last digit of a number; nothing for 0, which is what is before the first digit of a number.
abbrev pub digit_text : ℕ → List ℕ
digit_text n = pick (eqb n 0) [] ((48 + n % 10) ∷ [])
