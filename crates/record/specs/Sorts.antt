-- Records by what their kind declares, and how many of a list are of a sort. Documents 01 and 02 number symbols, rows and clauses each for themselves, in the
-- order of the records that declare them, so that these counts are the numbers of the next ones. Files that are written from others close up by them (document 02,
-- Q-8, Q-11 and Q-12).
use Rattle.std.specs.Prelude.{Bool, true, false, ◌&&◌, List, [], ◌∷◌, ℕ, suc, ◌+◌, eqb, leb}
use Rattle.record.specs.Record.{pick, Record}

-- A symbol; a row, which is a variable or an application.
abbrev pub is_symbol : Record → Bool
is_symbol r = eqb r.kind 1

abbrev pub is_row : Record → Bool
is_row r = leb 2 r.kind && leb r.kind 3

-- An input clause; a step, which makes a clause from clauses before it; and a clause, which is an input clause or a step's.
abbrev pub is_input : Record → Bool
is_input r = eqb r.kind 4

abbrev pub is_step : Record → Bool
is_step r = leb 5 r.kind && leb r.kind 7

abbrev pub is_clause : Record → Bool
is_clause r = leb 4 r.kind && leb r.kind 7

-- The window of a clause, its first and last day.
abbrev pub is_window : Record → Bool
is_window r = eqb r.kind 8

-- 1 for what holds, and 0 for what does not.
abbrev pub one : Bool → ℕ
one b = pick b 1 0

-- How many records of a list are of a sort. Repeated rows count.
abbrev pub how_many : (Record → Bool) → List Record → ℕ
how_many sort [] = 0
how_many sort (r ∷ rs) = one (sort r) + how_many sort rs

-- The number that the next clause has, after a record. Clauses of steps count.
abbrev pub clauses_after : ℕ → Record → ℕ
clauses_after n r = pick (is_clause r) (suc n) n

-- A record in front of others, unless it falls away.
abbrev pub unless : Bool → Record → List Record → List Record
unless true r rs = rs
unless false r rs = r ∷ rs
