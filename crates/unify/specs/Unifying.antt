-- What `unify_literals` and `unify_with_each` ask of their caller and ensure. `Pairs` has the contracts of the functions behind them.
use Rattle.std.specs.Prelude.{◌≡◌, List, [], ◌∷◌, map, ℕ, ◌+◌, ◌-◌, ◌*◌, ◌≤◌, ◌<◌, length, get_or, Ok, Err}
use Rattle.unification.specs.Bindings.{bindings_from}
use Rattle.unification.specs.Environment.{follow, Environment, Ends}
use Rattle.unification.specs.Listed.{listed_from}
use Rattle.unification.specs.Nodes.{HasRow, node_row}
use Rattle.unification.specs.Row.{Expression}
use Rattle.unification.specs.Unification.{unify, Outcome, unified, failed, Pair}
use Rattle.unification.specs.ValueArray.{InStep, Models}
use Rattle.following.specs.Walks.{failure_of}
use Rattle.unify.specs.Pairs.{Answer}

-- The answer as an outcome of unification: the bindings are those that the table holds from `held` on.
abbrev pub outcome_of : List ℕ → ℕ → Answer → Outcome
outcome_of B held (Ok u) = unified (bindings_from B held (u.held - held)) u.work
outcome_of B held (Err f) = failed (failure_of f)

-- Both sides of each pair are expressions of the step.
abbrev pub EachInStep : List ℕ → ℕ → List Pair → Type 0
EachInStep N top [] = Unit {0}
EachInStep N top (p ∷ ps) = InStep N top p.0 × InStep N top p.1 × EachInStep N top ps

-- The expression e with each of n listed in an array from number j on, their indices raised.
abbrev pub pairs_from : Expression → ℕ → List ℕ → ℕ → ℕ → List Pair
pairs_from e raised cells j n = map (λ d. (e, (d.0, raised + d.1))) (listed_from cells j n)

-- The array stands for ρ on the indices up to top, chains of ρ have at most `held` links, and the expressions of all pairs are there.
pub record Facing (N : List ℕ) (top : ℕ) (A : List ℕ) (held : ℕ) (ρ : Environment) (ps : List Pair) : Type 0 where
  pub models : Models N top A ρ
  pub short : (c : Expression) → HasRow N c.0 → Ends (follow (node_row N) held ρ c)
  pub in_step : EachInStep N top ps

-- What the caller has to provide for the pairs ps: the tables at their full size, room for the bindings, and some environment and
-- maximum index that the array stands for.
pub record Ready (N A B : List ℕ) (held : ℕ) (ps : List Pair) : Type 0 where
  pub nodes : length N ≡ 32768
  pub values : length A ≡ 524416
  pub bindings : 32768 ≤ length B
  pub few : held ≤ 8192
  pub top : ℕ
  pub environment : Environment
  pub facing : Facing N top A held environment ps

-- The same for e with each of n listed expressions, of which the array `rights` has room for four.
pub record ReadyForEach (N A B : List ℕ) (held : ℕ) (e : Expression) (rights : List ℕ) (n raised : ℕ) : Type 0 where
  pub ready : Ready N A B held (pairs_from e raised rights 0 n)
  pub cells : length rights ≡ 8
  pub listed : n ≤ 4

-- Bindings were added up to h, and the cells from there on are as they were; or the cells past the part that bindings use are as they were.
abbrev pub Counted : List ℕ → List ℕ → ℕ → Answer → Type 0
Counted B B' held (Ok u) = (held ≤ u.held) × (u.held ≤ 8192) × ((k : ℕ) → 4 * u.held ≤ k → get_or B' k 0 ≡ get_or B k 0)
Counted B B' held (Err f) = (k : ℕ) → 32768 ≤ k → get_or B' k 0 ≡ get_or B k 0

-- What the caller gets: the outcome of unification in every environment that the array stands for. The table of bindings keeps
-- its length and the bindings held before; after a refusal the cells from 4 * held on may have been written.
pub record Answered (N A A' B B' : List ℕ) (held : ℕ) (ps : List Pair) (u : Answer) : Type 0 where
  pub outcome : (top : ℕ) (ρ : Environment) → Facing N top A held ρ ps → unify (node_row N) held ρ ps ≡ outcome_of B' held u
  pub values : length A' ≡ 524416
  pub bindings : length B' ≡ length B
  pub before : (k : ℕ) → k < 4 * held → get_or B' k 0 ≡ get_or B k 0
  pub counted : Counted B B' held u
