-- How the program fills the cells of a board that is opened. No promise needs this file.
use Rattle.std.specs.Prelude.{List, ℕ, zero, suc, ◌+◌, ◌*◌, ◌%◌, ◌≤◌, eqb, length, get_or, set}
use Rattle.record.specs.Record.{pick, File, kind_of, field_of}
use Rattle.tables.specs.Cells.{cleared_part}
use Rattle.boards.specs.Cells.{record_of_clause}

-- The cell of a clause without its last child, by its flag: it stands.
unfoldable pub first_cell : List ℕ → ℕ → ℕ
first_cell L n = pick (eqb (get_or L n 0) 1) 7 5

abbrev pub cells_put : List ℕ → ℕ → List ℕ → List ℕ
cells_put L zero B = B
cells_put L (suc n) B = set (cells_put L n B) n (first_cell L n)

-- Clause n written as the last child of clause p; of its parents; and the first clauses so, one after another.
unfoldable pub with_child : List ℕ → ℕ → ℕ → List ℕ
with_child B p n = set B p (8 * n + get_or B p 0 % 8)

abbrev pub child_by_kind : List ℕ → ℕ → List ℕ → List ℕ
child_by_kind part n B =
    pick (eqb (kind_of part) 4) B
    (pick (eqb (kind_of part) 6) (with_child B (field_of part 0) n)
    (with_child (with_child B (field_of part 0) n) (field_of part 2) n))

unfoldable pub child_put : File → List ℕ → ℕ → List ℕ → List ℕ
child_put F C n B = child_by_kind (record_of_clause F C n) n B

abbrev pub children_put : File → List ℕ → ℕ → List ℕ → List ℕ
children_put F C zero B = B
children_put F C (suc n) B = child_put F C n (children_put F C n B)

-- All cells: zeros, the day, the clauses' own, and their last children.
unfoldable pub filled_board : ℕ → File → List ℕ → List ℕ → ℕ → List ℕ → List ℕ
filled_board day F C L count B = children_put F C count (cells_put L count (set (cleared_part 0 4096 B) 4096 day))

-- What is needed: at most 4,096 clauses, and a board with a cell for each and one for the day.
pub record Fillable (count : ℕ) (board : List ℕ) : Type 0 where
  pub few : count ≤ 4096
  pub long : 4097 ≤ length board
