-- How the program writes the records of the second file: the contracts of its inner functions. No promise needs this file; what a merge is stands in the
-- crate merging.
use Rattle.std.specs.Prelude.{◌≡◌, Bool, ◌&&◌, List, [], map, ℕ, ◌+◌, ◌*◌, ◌%◌, ◌≤◌, ltb, length}
use Rattle.record.specs.Bytes.{file_bytes}
use Rattle.record.specs.Record.{old_file, Record, decoded, records}
use Rattle.record.specs.Sorts.{is_symbol, unless}
use Rattle.merging.specs.Merging.{shifted, without_symbols}
use Rattle.raising.specs.Wrapped.{wrapped}
use Rattle.placing.specs.Placing.{placed_at}

-- A symbol record that is left out: there are s symbols before it, and the first file has `symbols`.
abbrev pub is_dropped : ℕ → ℕ → Record → Bool
is_dropped symbols s r = is_symbol r && ltb s symbols

-- The bytes of records, without the symbol records that are left out.
abbrev pub shifted_bytes : ℕ → ℕ → List Record → List ℕ
shifted_bytes rows clauses rs = file_bytes (map (λ r. wrapped (shifted rows clauses r)) rs)

-- One record, if it is not left out.
abbrev pub next_record : List ℕ → ℕ → ℕ → List Record
next_record rest s symbols = unless (is_dropped symbols s (decoded rest)) (decoded rest) []

pub record NextWritable (rest : List ℕ) (s symbols : ℕ) (output : List ℕ) (at : ℕ) : Type 0 where
  pub room : at + 16 * length (next_record rest s symbols) ≤ length output

pub record NextWritten (rest : List ℕ) (s symbols rows clauses : ℕ) (output : List ℕ) (at : ℕ) (left : List ℕ) (end : ℕ) : Type 0 where
  pub bytes : left ≡ placed_at at (shifted_bytes rows clauses (next_record rest s symbols)) output
  pub ends : end ≡ at + 16 * length (next_record rest s symbols)

-- All of them.
pub record SecondWritable (second : List ℕ) (symbols : ℕ) (output : List ℕ) (at : ℕ) : Type 0 where
  pub whole : length second % 16 ≡ 0
  pub few : length second ≤ 65536
  pub room : at + 16 * length (without_symbols symbols 0 (records (old_file second))) ≤ length output

pub record SecondWritten (second : List ℕ) (symbols rows clauses : ℕ) (output : List ℕ) (at : ℕ) (left : List ℕ) (end : ℕ) : Type 0 where
  pub bytes : left ≡ placed_at at (shifted_bytes rows clauses (without_symbols symbols 0 (records (old_file second)))) output
  pub ends : end ≡ at + 16 * length (without_symbols symbols 0 (records (old_file second)))
