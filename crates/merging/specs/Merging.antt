-- Document 02, Q-8: two files merged into one, on their records. All three are of the old form (Q-11, and as Q-12 says it).
use Rattle.std.specs.Prelude.{◌&&◌, List, [], ◌∷◌, ◌++◌, map, ℕ, suc, ◌+◌, ◌*◌, eqb, leb, ltb}
use Rattle.record.specs.Bytes.{file_bytes}
use Rattle.record.specs.Record.{pick, old_file, Record, records}
use Rattle.record.specs.Sorts.{is_symbol, is_row, is_clause, how_many, unless}

-- By how much field number i of a record of the second file is raised, from 0 for field a: an argument row by the first's number of rows, a literal by
-- twice that, the clause of a window by the first's number of clauses. Symbols, variables and days stay, and unused fields stay zero.
abbrev pub raised_by : ℕ → ℕ → Record → ℕ → ℕ
raised_by rows clauses r i =
    pick (eqb r.kind 3) (pick (leb 1 i && leb i r.count) rows 0)
    (pick (eqb r.kind 4) (pick (ltb i r.count) (2 * rows) 0)
    (pick (eqb r.kind 8) (pick (eqb i 0) clauses 0) 0))

-- Each number of a list raised, the first by what its place i gives.
abbrev pub raised_from : (ℕ → ℕ) → ℕ → List ℕ → List ℕ
raised_from by i [] = []
raised_from by i (n ∷ ns) = (n + by i) ∷ raised_from by (suc i) ns

abbrev pub shifted : ℕ → ℕ → Record → Record
shifted rows clauses r = record { kind = r.kind; count = r.count; fields = raised_from (raised_by rows clauses r) 0 r.fields; days = r.days }

-- The number that the next symbol has, after a record.
abbrev pub symbols_after : ℕ → Record → ℕ
symbols_after s r = pick (is_symbol r) (suc s) s

-- Records without the symbol records numbered below n, where the next symbol has the number s.
abbrev pub without_symbols : ℕ → ℕ → List Record → List Record
without_symbols n s [] = []
without_symbols n s (r ∷ rs) = unless (is_symbol r && ltb s n) r (without_symbols n (symbols_after s r) rs)

-- All records of the first; then those of the second, without its symbol records numbered below the first's count of symbols, and shifted.
abbrev pub merged : List Record → List Record → List Record
merged first second =
    first ++ map (shifted (how_many is_row first) (how_many is_clause first)) (without_symbols (how_many is_symbol first) 0 second)

unfoldable pub merged_file : List ℕ → List ℕ → List ℕ
merged_file first second = file_bytes (merged (records (old_file first)) (records (old_file second)))
