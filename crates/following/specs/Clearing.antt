-- What is left of the array of values when a part of it is set to 0.
use Rattle.std.specs.Prelude.{◌≡◌, List, ℕ, ◌≤◌, ◌<◌, length, get_or}

-- The cells below `end` are 0, and the others as they were.
pub record Cleared (A A' : List ℕ) (end : ℕ) : Type 0 where
  pub room : length A' ≡ length A
  pub low : (k : ℕ) → k < end → get_or A' k 0 ≡ 0
  pub high : (k : ℕ) → end ≤ k → get_or A' k 0 ≡ get_or A k 0
