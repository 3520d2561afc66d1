-- The table of the days of clauses, as the program makes it from the windows of an old file. What the days of a clause are, the crate converting has.
use Rattle.std.specs.Prelude.{◌≡◌, List, [], ◌∷◌, ℕ, zero, suc, ◌+◌, ◌*◌, ◌<◌, get_or, set}
use Rattle.record.specs.Record.{pick, Record, field_a, field_b, field_c}
use Rattle.record.specs.Sorts.{is_window}
use Rattle.converting.specs.Converting.{last_days}

-- The first and last day of clause n in a table.
abbrev pub days_at : List ℕ → ℕ → ℕ × ℕ
days_at table n = (get_or table (2 * n) 0, get_or table (2 * n + 1) 0)

-- A table with the days of clause n.
abbrev pub with_days_of : ℕ → ℕ → ℕ → List ℕ → List ℕ
with_days_of n first last table = set (set table (2 * n) first) (2 * n + 1) last

-- A table where the clauses below n are always in force.
unfoldable pub always_below : ℕ → List ℕ → List ℕ
always_below zero table = table
always_below (suc n) table = with_days_of n 0 65535 (always_below n table)

-- A table after a record, and after some.
abbrev pub with_window : Record → List ℕ → List ℕ
with_window r table = pick (is_window r) (with_days_of (field_a r) (field_b r) (field_c r) table) table

abbrev pub with_windows : List Record → List ℕ → List ℕ
with_windows [] table = table
with_windows (r ∷ rs) table = with_windows rs (with_window r table)

-- The table of a file, and what it says of the clauses that a file can have.
pub record DaysTold (rs : List Record) (before after : List ℕ) : Type 0 where
  pub cells : after ≡ with_windows rs (always_below 4096 before)
  pub told : (n : ℕ) → n < 4096 → days_at after n ≡ last_days rs n
