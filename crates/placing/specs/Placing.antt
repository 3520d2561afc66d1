-- An output with bytes at a place, and what a program asks that writes them. No promise needs this file.
use Rattle.std.specs.Prelude.{◌≡◌, List, ◌++◌, ℕ, ◌+◌, ◌≤◌, length, take, drop}
use Rattle.record.specs.Bytes.{bytes_in}
use Rattle.record.specs.Record.{Record}
use Rattle.record.specs.declared.Form.{Form}

abbrev pub placed_at : ℕ → List ℕ → List ℕ → List ℕ
placed_at at bytes output = take at output ++ (bytes ++ drop (at + length bytes) output)

-- A record's part has sixteen bytes, and the output has room for them.
pub record PartPlaceable (part output : List ℕ) (at : ℕ) : Type 0 where
  pub whole : 16 ≤ length part
  pub room : at + 16 ≤ length output

-- Records of a form at a place, and the place behind them.
pub record Placed (form : Form) (rs : List Record) (output : List ℕ) (at : ℕ) (left : List ℕ) (end : ℕ) : Type 0 where
  pub bytes : left ≡ placed_at at (bytes_in form rs) output
  pub ends : end ≡ at + length (bytes_in form rs)

-- A file at the start of an output, the rest of the output as it was, and the file's end.
pub record Written (file output left : List ℕ) (end : ℕ) : Type 0 where
  pub bytes : left ≡ file ++ drop end output
  pub ends : end ≡ length file
