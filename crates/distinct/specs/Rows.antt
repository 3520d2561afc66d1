-- Rows of the node table by their cells, and the lowest row that has given cells.
use Rattle.std.proofs.Math.Option.{Option, none, some}
use Rattle.std.specs.Prelude.{List, ◌++◌, ℕ, zero, suc, ◌+◌, ◌*◌, take, drop}
use Rattle.record.specs.Record.{pick}
use Rattle.unification.specs.Repeated.{equal_lists, or_else}

-- The eight cells of row r.
abbrev pub node_at : List ℕ → ℕ → List ℕ
node_at N r = take 8 (drop (8 * r) N)

-- Row r of the node table, or clause r of the table of origins, written in place of what was there.
abbrev pub with_node : List ℕ → ℕ → List ℕ → List ℕ
with_node N r cells = take (8 * r) N ++ (cells ++ drop (8 * r + 8) N)

-- The lowest of the first n rows that has these cells.
unfoldable pub row_with_cells : List ℕ → ℕ → List ℕ → Option ℕ
row_with_cells N zero cells = none
row_with_cells N (suc n) cells = or_else (row_with_cells N n cells) (pick (equal_lists (node_at N n) cells) (some n) none)
