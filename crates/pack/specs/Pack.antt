-- Packs of files, as `rust/vectors/README.md` has them: for each file four bytes of length, low byte first, and its bytes.
use Rattle.std.specs.Prelude.{Bool, true, false, List, ◌≡◌, ℕ, suc, ◌+◌, ◌*◌, leb, length, get_or, Option, Some, None}
use Rattle.std.specs.declared.ops.Range.{Range}

-- Where the file at a place stands, if there is a whole one: its first byte, and the place behind its last.
abbrev pub Entry : Type 0
Entry = Option (Range ℕ)

abbrev pub file : ℕ → ℕ → Entry
file first end = Some (record { start = first; end = end })

abbrev pub pick_entry : Bool → Entry → Entry → Entry
pick_entry true a b = a
pick_entry false a b = b

-- The number in the four bytes at a place, low byte first.
unfoldable pub number_at : List ℕ → ℕ → ℕ
number_at s at = get_or s at 0 + 256 * get_or s (at + 1) 0 + 65536 * get_or s (at + 2) 0 + 16777216 * get_or s (at + 3) 0

-- A file of n bytes from a place on, if the pack has as many there.
unfoldable pub file_of : List ℕ → ℕ → ℕ → Entry
file_of s first n = pick_entry (leb (first + n) (length s)) (file first (first + n)) None

-- What stands at a place: four bytes, and the file of that length behind them.
unfoldable pub entry_at : List ℕ → ℕ → Entry
entry_at s at = pick_entry (leb (at + 4) (length s)) (file_of s (at + 4) (number_at s at)) None

-- From a place up to its end a pack holds n whole files, and nothing besides.
pub data FilesFrom (s : List ℕ) : ℕ → ℕ → Type 0 where
  none : {at : ℕ} → at ≡ length s → FilesFrom s at 0
  one : {at first end n : ℕ} → entry_at s at ≡ file first end → FilesFrom s end n → FilesFrom s at (suc n)

-- The files that a pack was said to hold are there; and a pack that was said to be cut short holds no number of whole files.
abbrev pub RightCount : List ℕ → Option ℕ → Type 0
RightCount s (Some n) = FilesFrom s 0 n
RightCount s None = (n : ℕ) → FilesFrom s 0 n → ⊥
