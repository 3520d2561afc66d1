-- Document 01, "Unification, and what it counts": a machine in which one turn is one unit of work.
use Rattle.std.specs.Prelude.{◌≡◌, Bool, List, [], ◌∷◌, ℕ, zero, suc, ◌+◌, eqb, leb, length}
use Rattle.record.specs.Record.{pick}
use Rattle.unification.specs.Environment.{follow, Binding, Environment, extend, unbound, link, View, applied}
use Rattle.unification.specs.Row.{Row, Expression, Variable, same}

-- The limits of document 01, and how many links following may take.
unfoldable pub most_work : ℕ
most_work = 16384

unfoldable pub most_bindings : ℕ
most_bindings = 8192

unfoldable pub most_links : ℕ
most_links = 8192

-- Why unification fails, with the number of document 01's table. `endless`, following that does not end, happens in no state that a file leads
-- to.
pub data Failure : Type 0 where
  clash occurs overwork full endless : Failure

abbrev pub failure_number : Failure → ℕ
failure_number clash = 10
failure_number occurs = 11
failure_number overwork = 12
failure_number full = 13
failure_number endless = 0

-- The new bindings, the newest first, with the work left; or why there are none.
pub data Outcome : Type 0 where
  unified : List Binding → ℕ → Outcome
  failed : Failure → Outcome

abbrev pub Pair : Type 0
Pair = Expression × Expression

-- What is to be done: the bindings made so far and the pairs still to be taken up. In the midst of an occurrence test also the
-- variable, what it would be bound to, and the expressions that the test takes up, the next one first.
pub data Task : Type 0 where
  unifying : List Binding → List Pair → Task
  testing : List Binding → Variable → Expression → Expression → List Expression → List Pair → Task

-- One turn of the machine: nothing was left to do; the task goes on; or it fails.
pub data Turn : Type 0 where
  finished : List Binding → Turn
  go_on : Task → Turn
  stop : Failure → Turn

-- The arguments of two applications, in pairs, before what was to be done anyway.
abbrev pub argument_pairs : List ℕ → ℕ → List ℕ → ℕ → List Pair → List Pair
argument_pairs [] i ys j ps = ps
argument_pairs (x ∷ xs) i [] j ps = ps
argument_pairs (x ∷ xs) i (y ∷ ys) j ps = ((x, i), (y, j)) ∷ argument_pairs xs i ys j ps

-- The arguments of an application as expressions, before those that the occurrence test still has to take up.
abbrev pub arguments : List ℕ → ℕ → List Expression → List Expression
arguments [] i os = os
arguments (x ∷ xs) i os = (x, i) ∷ arguments xs i os

-- A pair is taken up, both sides followed: the same row and index; else the left is an unbound variable, else the right is; else
-- two applications.
abbrev pub meet : View → View → List Binding → List Pair → Turn
meet (unbound v e) (unbound w d) bs ps = pick (same e d) (go_on (unifying bs ps)) (go_on (testing bs e d d [] ps))
meet (unbound v e) (applied t ys d) bs ps = go_on (testing bs e d d [] ps)
meet (unbound v e) (link d) bs ps = stop endless
meet (applied s xs e) (unbound w d) bs ps = go_on (testing bs d e e [] ps)
meet (applied s xs e) (applied t ys d) bs ps =
    pick (same e d) (go_on (unifying bs ps))
    (pick (eqb s t) (go_on (unifying bs (argument_pairs xs e.1 ys d.1 ps))) (stop clash))
meet (applied s xs e) (link d) bs ps = stop endless
meet (link e) w bs ps = stop endless

-- Bindings can be added while fewer than 8,192 are held: those held before the step, and those it has made.
abbrev pub no_room : ℕ → List Binding → Bool
no_room held bs = leb most_bindings (held + length bs)

module _ (isFull : List Binding → Bool) where
  -- The occurrence test goes on; where it has met all expressions, the variable is bound.
  abbrev pub test_rest : List Binding → Variable → Expression → List Expression → List Pair → Turn
  test_rest bs x e [] ps = pick (isFull bs) (stop full) (go_on (unifying ((x, e) ∷ bs) ps))
  test_rest bs x e (o ∷ os) ps = go_on (testing bs x e o os ps)

  -- The occurrence test takes up an expression, followed.
  abbrev pub test_one : View → List Binding → Variable → Expression → List Expression → List Pair → Turn
  test_one (unbound v d) bs x e os ps = pick (same d x) (stop occurs) (test_rest bs x e os ps)
  test_one (applied s xs d) bs x e os ps = test_rest bs x e (arguments xs d.1 os) ps
  test_one (link d) bs x e os ps = stop endless

-- With no work left only a machine that has nothing to do is done.
abbrev pub without_work : Turn → Outcome
without_work (finished bs) = unified bs zero
without_work (go_on s) = failed overwork
without_work (stop r) = failed overwork

abbrev pub with_work : (Task → Outcome) → ℕ → Turn → Outcome
with_work next n (finished bs) = unified bs n
with_work next n (go_on s) = next s
with_work next n (stop r) = failed r

module _ (row : ℕ → Row) (links : ℕ) (isFull : List Binding → Bool) (ρ : Environment) where
  abbrev pub turn : Task → Turn
  turn (unifying bs []) = finished bs
  turn (unifying bs (p ∷ ps)) = meet (follow row links (extend ρ bs) p.0) (follow row links (extend ρ bs) p.1) bs ps
  turn (testing bs x e o os ps) = test_one isFull (follow row links (extend ρ bs) o) bs x e os ps

  -- The machine with n units of work left.
  unfoldable pub run : ℕ → Task → Outcome
  run zero s = without_work (turn s)
  run (suc n) s = with_work (λ t. run n t) (suc n) (turn s)

  -- From s the machine comes to t in n units of work.
  pub data Reaches : ℕ → Task → Task → Type 0 where
    no_turn : {s : Task} → Reaches zero s s
    one_turn : {n : ℕ} {s t u : Task} → turn s ≡ go_on t → Reaches n t u → Reaches (suc n) s u

-- Unification of pairs of expressions in an environment, one pair after another, with so many bindings held before.
abbrev pub unify : (ℕ → Row) → ℕ → Environment → List Pair → Outcome
unify row held ρ ps = run row most_links (no_room held) ρ most_work (unifying [] ps)
