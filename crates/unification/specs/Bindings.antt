-- The table of bindings: four cells for each, the variable's row and index and the row and index that it is bound to.
use Rattle.std.specs.Prelude.{◌≡◌, List, [], ◌∷◌, ℕ, zero, suc, ◌+◌, ◌*◌, ◌≤◌, ◌<◌, get_or}
use Rattle.unification.specs.Environment.{Binding}
use Rattle.unification.specs.ValueArray.{put}

-- Binding h of the table, and the n bindings from the first on, the newest first.
abbrev pub binding_at : List ℕ → ℕ → Binding
binding_at B h = ((get_or B (4 * h) 0, get_or B (4 * h + 1) 0), (get_or B (4 * h + 2) 0, get_or B (4 * h + 3) 0))

abbrev pub bindings_from : List ℕ → ℕ → ℕ → List Binding
bindings_from B first zero = []
bindings_from B first (suc n) = binding_at B (first + n) ∷ bindings_from B first n

-- Binding h is written: of v at index i, to t at index j.
unfoldable pub push : List ℕ → ℕ → ℕ → ℕ → ℕ → ℕ → List ℕ
push B h v i t j = put (put B (4 * h) v i) (4 * h + 2) t j

-- The bindings before h are as they were, and so are the cells past the part of the table that bindings use.
pub record KeptBelow (B B' : List ℕ) (h : ℕ) : Type 0 where
  pub low : (k : ℕ) → k < 4 * h → get_or B' k 0 ≡ get_or B k 0
  pub past : (k : ℕ) → 32768 ≤ k → get_or B' k 0 ≡ get_or B k 0

-- Bindings were added from h up to m, and no other cell was changed.
pub record Added (B B' : List ℕ) (h m : ℕ) : Type 0 where
  pub le : h ≤ m
  pub low : (k : ℕ) → k < 4 * h → get_or B' k 0 ≡ get_or B k 0
  pub high : (k : ℕ) → 4 * m ≤ k → get_or B' k 0 ≡ get_or B k 0
  pub past : (k : ℕ) → 32768 ≤ k → get_or B' k 0 ≡ get_or B k 0
