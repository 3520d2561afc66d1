-- FNV-1a with 64 bits, as `rust/vectors/README.md` has it.
use Rattle.std.specs.Prelude.{List, ℕ, ◌*◌, ◌/◌, ◌%◌, ◌^◌, fold}
use Rattle.std.specs.Int.Bits.{bit_xor}

-- The number to begin with.
abbrev pub start : ℕ
start = 0xcbf29ce484222325

-- One byte: exclusive or, then the product with the prime, modulo 2^64.
unfoldable pub hash_byte : ℕ → ℕ → ℕ
hash_byte h b = (bit_xor h b * 0x100000001b3) % 2 ^ 64

-- A cell is two bytes, low byte first.
unfoldable pub hash_cell : ℕ → ℕ → ℕ
hash_cell h c = hash_byte (hash_byte h (c % 256)) (c / 256)

-- The cells of a table in order, taken into a hash.
abbrev pub hash_cells : ℕ → List ℕ → ℕ
hash_cells h cs = fold hash_cell h cs

-- Bytes in order, taken into a hash.
abbrev pub hash_bytes : ℕ → List ℕ → ℕ
hash_bytes h bs = fold hash_byte h bs
