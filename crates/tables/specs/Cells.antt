-- Document 01, "Verdict, tables and refusals": cells of a table cleared, and the five cells of a clause.
use Rattle.std.specs.Prelude.{List, ◌++◌, ℕ, ◌+◌, ◌-◌, ◌*◌, take, drop, set, replicate}

-- Cells from `from` up to `to` set to zero.
abbrev pub cleared_part : ℕ → ℕ → List ℕ → List ℕ
cleared_part from to table = take from table ++ (replicate (to - from) 0 ++ drop to table)

-- The five cells of clause c, written.
abbrev pub with_clause_cells : List ℕ → ℕ → ℕ → ℕ → ℕ → ℕ → ℕ → List ℕ
with_clause_cells C c k literals index first count =
    set (set (set (set (set C (5 * c) k) (5 * c + 1) literals) (5 * c + 2) index) (5 * c + 3) first) (5 * c + 4) count
