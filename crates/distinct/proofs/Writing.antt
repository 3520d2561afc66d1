-- A row written to the node table: its own cells, the rows before it, and what a search finds among those.
use mathlib.Core.Path.{◌≡◌, refl, sym, ap, ap₂, ◌∙◌}
use mathlib.Core.Option.{Option, none, some}
use mathlib.Core.List.{List, ◌++◌}
use Prim.Native.Nat.{ℕ, zero, suc, ◌+◌, ◌*◌, ◌≤◌, ◌<◌}
use native.Mathlib.Omega.{arith}
use lib.ListN.{length, take, drop, length-append, length-drop, take-append-drop}
use lib.Seq.{length-take-le, take-append-le, drop-append-le, take_at, drop_at}
use Rattle.record.specs.Record.{pick}
use Rattle.unification.specs.Repeated.{equal_lists, or_else}
use Rattle.distinct.specs.Rows.{node_at, with_node, row_with_cells}

-- A row in the first of two parts of a table.
front_row : (A B : List ℕ) (r : ℕ) → 8 * r + 8 ≤ length A → node_at (A ++ B) r ≡ node_at A r
front_row A B r l =
    ap (take 8) (drop-append-le (8 * r) A B (omega arith))
    ∙ take-append-le 8 (drop (8 * r) A) B (omega (arith, length-drop (8 * r) A))

module _ (N : List ℕ) (n : ℕ) (cells : List ℕ) (eight : length cells ≡ 8) (room : 8 * n + 8 ≤ length N) where
  front : length (take (8 * n) N) ≡ 8 * n
  front = length-take-le (8 * n) N (omega arith)

  pub written_length : length (with_node N n cells) ≡ length N
  written_length =
      let a = length-append (take (8 * n) N) (cells ++ drop (8 * n + 8) N) in
      let b = length-append cells (drop (8 * n + 8) N) in
      let d = length-drop (8 * n + 8) N in
      omega (arith, front)

  pub written_own : node_at (with_node N n cells) n ≡ cells
  written_own = ap (take 8) (drop_at (take (8 * n) N) (cells ++ drop (8 * n + 8) N) (8 * n) front) ∙ take_at cells (drop (8 * n + 8) N) 8 eight

  pub written_below : (r : ℕ) → r < n → node_at (with_node N n cells) r ≡ node_at N r
  written_below r l =
      let h : 8 * r + 8 ≤ length (take (8 * n) N) = omega (arith, front) in
      front_row (take (8 * n) N) (cells ++ drop (8 * n + 8) N) r h ∙ sym (front_row (take (8 * n) N) (drop (8 * n) N) r h)
      ∙ ap (λ (M : List ℕ). node_at M r) (take-append-drop (8 * n) N)

  -- Row n does not come into a search of the rows below it.
  pub written_search : (m : ℕ) (sought : List ℕ) → m ≤ n → row_with_cells (with_node N n cells) m sought ≡ row_with_cells N m sought
  unfolding row_with_cells
  written_search zero sought l = refl
  written_search (suc m) sought l =
      ap₂ or_else (written_search m sought (omega arith)) (ap (λ (row : List ℕ). pick {A = Option ℕ} (equal_lists row sought) (some m) none) (written_below m (omega arith)))
