-- A term against itself at another index: as many turns as it has symbols, and no binding. A tree is so counted by its levels, and not turn by turn.
use mathlib.Core.Path.{◌≡◌, ap, ap₂, ◌∙◌}
use mathlib.Core.Bool.{Bool, false}
use mathlib.Core.List.{List, [], ◌∷◌}
use Prim.Native.Nat.{ℕ, zero, suc, ◌+◌, ◌<◌}
use native.Mathlib.Nat.{zero-add, suc-add}
use native.Mathlib.Omega.{arith}
use lib.Dec.{eqb}
use Rattle.unification.specs.Environment.{follow, Binding, Environment, extend, applied, view_row, onward}
use Rattle.unification.specs.Row.{Row, application}
use Rattle.unification.specs.Unification.{turn, overwork, failed, Pair, Task, unifying, go_on, argument_pairs, meet, without_work, with_work, run, Reaches, no_turn, one_turn}
use Rattle.unification.proofs.Repeats.{itself}

module _ (row : ℕ → Row) (links : ℕ) (isFull : List Binding → Bool) (base : Environment) where
  joined : {m n : ℕ} {s t u : Task} → Reaches row links isFull base m s t → Reaches row links isFull base n t u → Reaches row links isFull base (m + n) s u
  joined no_turn h = rw zero-add h
  joined (one_turn q g) h = rw suc-add (one_turn q (joined g h))

  -- With less work than it takes, the machine runs out of it.
  pub spent : (m : ℕ) (s t : Task) → Reaches row links isFull base m s t → (n : ℕ) → n < m → run row links isFull base n s ≡ failed overwork
  unfolding run
  spent m s t no_turn n l = absurd (omega arith)
  spent m s t (one_turn q h) zero l = ap without_work q
  spent m s t (one_turn {n = j} {t = u} q h) (suc n) l = ap (with_work (λ z. run row links isFull base n z) (suc n)) q ∙ spent j u t h n (omega arith)

  module _ (i j : ℕ) (apart : eqb i j ≡ false) where
    -- Row r at the two indices takes n turns, whatever is to be done after it.
    abbrev pub Takes : ℕ → ℕ → Type 0
    Takes n r = (ps : List Pair) → Reaches row links isFull base n (unifying [] (((r, i), (r, j)) ∷ ps)) (unifying [] ps)

    seen : (n r k s : ℕ) (xs : List ℕ) → row r ≡ application s xs → follow row n (extend base []) (r, k) ≡ applied s xs (r, k)
    seen zero r k s xs q = ap (λ w. view_row w (extend base []) (r, k)) q
    seen (suc n) r k s xs q = ap (λ w. onward (λ d. follow row n (extend base []) d) (view_row w (extend base []) (r, k))) q

    met : (r s : ℕ) (xs : List ℕ) → row r ≡ application s xs → (ps : List Pair) → turn row links isFull base (unifying [] (((r, i), (r, j)) ∷ ps)) ≡ go_on (unifying [] (argument_pairs xs i xs j ps))
    met r s xs q ps = ap₂ (λ v w. meet v w [] ps) (seen links r i s xs q) (seen links r j s xs q) ∙ rw (itself r, apart, itself s)

    pub takes_leaf : (r s : ℕ) → row r ≡ application s [] → Takes 1 r
    takes_leaf r s q ps = one_turn (met r s [] q ps) no_turn

    pub takes_one : (n r s a : ℕ) → row r ≡ application s (a ∷ []) → Takes n a → Takes (suc n) r
    takes_one n r s a q t ps = one_turn (met r s (a ∷ []) q ps) (t ps)

    pub takes_two : (n r s a : ℕ) → row r ≡ application s (a ∷ a ∷ []) → Takes n a → Takes (suc (n + n)) r
    takes_two n r s a q t ps = one_turn (met r s (a ∷ a ∷ []) q ps) (joined (t (((a, i), (a, j)) ∷ ps)) (t ps))
