-- Document 02, Q-9: a board as cells, 4,096 for the clauses and one for the day, and what a call does to them, whatever they, the file and the table of
-- clauses hold.
use Rattle.std.specs.Prelude.{Bool, true, false, ◌&&◌, ◌||◌, List, [], ◌∷◌, ◌++◌, map, reverse, ℕ, zero, suc, ◌+◌, ◌-◌, ◌*◌, ◌/◌, ◌%◌, eqb, leb, ltb, length, get_or, set, drop, replicate}
use Rattle.std.specs.Bool.{beq}
use Rattle.std.proofs.Math.Option.{Option, none, some}
use Rattle.record.specs.Record.{pick, File, record_part, kind_of, field_of}
use Rattle.derivation.specs.Derivation.{Derivation, input, resolve, factor, clause_number}
use Rattle.verdict.specs.Force.{uses_in_force}
use Rattle.verdict.specs.State.{State, derivations}
use Rattle.boards.specs.Board.{Presence, stands_with, Answer, answered, refused_with}

-- ── The cell of a clause ──

-- The parents of a clause, by their numbers, and the last clause that has clause n for a parent, of those in a list, the newest first; 0 if none has, which no
-- clause with parents is.
abbrev pub has_parent : Derivation → ℕ → Bool
has_parent (input number ls) n = false
has_parent (resolve number left a right bs as') n = eqb n (clause_number left) || eqb n (clause_number right)
has_parent (factor number parent a b as') n = eqb n (clause_number parent)

abbrev pub last_child : List Derivation → ℕ → ℕ
last_child [] n = 0
last_child (c ∷ cs) n = pick (has_parent c n) (length cs) (last_child cs n)

-- The cell: 4 for a clause, 2 more if all its input clauses are in force, 1 more if it stands, and eight times its last child; 0 where there is no clause.
abbrev pub cell_with : ℕ → Bool → Bool → ℕ
cell_with child force stands = 8 * child + (4 + pick force 2 0 + pick stands 1 0)

abbrev pub child_cell : ℕ → ℕ
child_cell x = x / 8

abbrev pub is_clause_cell : ℕ → Bool
is_clause_cell x = leb 4 x

abbrev pub force_cell : ℕ → Bool
force_cell x = eqb (x / 2 % 2) 1

abbrev pub stands_cell : ℕ → Bool
stands_cell x = eqb (x % 2) 1

-- The board of a file that stands and leaves S, on a day, with the input clauses of P present: a cell for each clause, zeros up to 4,096, and the day. Cells past
-- these are as they were.
abbrev pub clause_cell : ℕ → State → Presence → Derivation → ℕ
clause_cell day S P c = cell_with (last_child (derivations S) (clause_number c)) (uses_in_force S day c) (stands_with P c)

abbrev pub clause_cells : ℕ → State → Presence → List ℕ
clause_cells day S P = reverse (map (clause_cell day S P) (derivations S))

abbrev pub board_of : ℕ → State → Presence → List ℕ → List ℕ
board_of day S P board = clause_cells day S P ++ (replicate (4096 - length (derivations S)) 0 ++ (day ∷ drop 4097 board))

-- ── A call, on cells ──

-- The record of clause n, by the table of clauses C: its kind and its parents.
abbrev pub record_of_clause : File → List ℕ → ℕ → List ℕ
record_of_clause F C n = record_part F (get_or C (5 * n) 0)

-- The cell of a clause from its own, x, and those of its parents; an input clause's is its own. A factor's one parent is its left and its right.
abbrev pub from_parents : ℕ → ℕ → ℕ → ℕ
from_parents x left right = cell_with (child_cell x) (force_cell left && force_cell right) (stands_cell left && stands_cell right)

abbrev pub right_parent : List ℕ → ℕ
right_parent part = pick (eqb (kind_of part) 6) (field_of part 0) (field_of part 2)

abbrev pub cell_by_kind : List ℕ → List ℕ → ℕ → ℕ
cell_by_kind part B n = pick (eqb (kind_of part) 4) (get_or B n 0) (from_parents (get_or B n 0) (get_or B (field_of part 0) 0) (get_or B (right_parent part) 0))

unfoldable pub new_cell : File → List ℕ → List ℕ → ℕ → ℕ
new_cell F C B n = cell_by_kind (record_of_clause F C n) B n

-- One pass over the clauses from n on, at most k of them, each from its parents. It ends behind `last`, the last child of the clauses that have changed: a clause
-- that changes moves it on to its own last child.
abbrev pub larger : ℕ → ℕ → ℕ
larger a b = pick (ltb a b) b a

abbrev pub last_after : ℕ → ℕ → ℕ → ℕ
last_after last before after = pick (eqb before after) last (larger last (child_cell before))

abbrev pub passed : File → List ℕ → ℕ → ℕ → ℕ → List ℕ → List ℕ
passed F C zero n last B = B
passed F C (suc k) n last B =
    elim (leb n last) [ true ↦ passed F C k (suc n) (last_after last (get_or B n 0) (new_cell F C B n)) (set B n (new_cell F C B n)) | false ↦ B ]

-- The lowest clause from n on, of at most k, whose cell says that it stands and is in force, and that has no literals by the table of clauses.
abbrev pub answers : List ℕ → List ℕ → ℕ → Bool
answers C B n = eqb (get_or B n 0 % 8) 7 && eqb (get_or C (5 * n + 1) 0) 0

abbrev pub lowest_answer : List ℕ → List ℕ → ℕ → ℕ → Option ℕ
lowest_answer C B zero n = none
lowest_answer C B (suc k) n = elim (answers C B n) [ true ↦ some n | false ↦ lowest_answer C B k (suc n) ]

-- Whether there is an input clause of number n.
abbrev pub is_input_cell : File → List ℕ → List ℕ → ℕ → Bool
is_input_cell F C B n = ltb n 4096 && (is_clause_cell (get_or B n 0) && eqb (kind_of (record_of_clause F C n)) 4)

-- The board after clause n is withdrawn or returned, and the answer: 2 for a board that is too short, 20 for no input clause of that number, 21 where it is in
-- that condition already; and else its own cell changes, and those of the clauses after it.
abbrev pub with_cell : File → List ℕ → List ℕ → ℕ → Bool → List ℕ
with_cell F C B n present = passed F C (4095 - n) (suc n) (child_cell (get_or B n 0)) (set B n (cell_with (child_cell (get_or B n 0)) (force_cell (get_or B n 0)) present))

abbrev pub refusal : File → List ℕ → List ℕ → ℕ → Bool → Option ℕ
refusal F C B n present =
    pick (ltb (length B) 4097) (some 2)
    (pick (is_input_cell F C B n) (pick (beq (stands_cell (get_or B n 0)) present) (some 21) none) (some 20))

unfoldable pub board_after : File → List ℕ → List ℕ → ℕ → Bool → List ℕ
board_after F C B n present = elim (refusal F C B n present) [ some number ↦ B | none ↦ with_cell F C B n present ]

unfoldable pub call_answer : File → List ℕ → List ℕ → ℕ → Bool → Answer
call_answer F C B n present = elim (refusal F C B n present) [ some number ↦ refused_with number 0 | none ↦ answered (lowest_answer C (with_cell F C B n present) 4096 0) ]
