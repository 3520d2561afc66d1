-- What is known of an input.
use Rattle.std.specs.Prelude.{◌≡◌, List, ℕ, ◌≤◌, length, take}

-- n bytes stand at the start of a space.
abbrev pub IsPrefixLen : ℕ → List ℕ → Type 0
IsPrefixLen n space = (n ≤ length space) × (n ≡ length (take n space))
