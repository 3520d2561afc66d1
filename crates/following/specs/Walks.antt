-- The contracts of following and of the occurrence test. This file only says how the parts of the program fit together. Each
-- function asks for an environment that the array stands for. What it ensures is stated for every such environment, and for every rest
-- of the machine's task.
use Rattle.std.specs.Prelude.{◌≡◌, Bool, true, false, List, ◌∷◌, ℕ, ◌+◌, ◌≤◌, ◌<◌, eqb, length, get_or, Result, Ok, Err}
use Rattle.record.specs.Record.{pick}
use Rattle.unification.specs.Environment.{follow, Binding, Environment, extend, unbound, View, applied}
use Rattle.unification.specs.Nodes.{is_variable, part, node_arity, arguments_from, node_row}
use Rattle.unification.specs.Row.{Row, Expression}
use Rattle.unification.specs.Unification.{most_links, Failure, clash, occurs, overwork, full, Outcome, unified, failed, Pair, unifying, testing, arguments, argument_pairs, test_rest, with_work, run}
use Rattle.unification.specs.ValueArray.{slot, put, InStep, Models}
use Rattle.following.specs.declared.follow.Followed.{Followed}
use Rattle.following.specs.declared.follow.Followed.TheVariants.{Variable, Application}
use Rattle.following.specs.declared.failure.Failure.{Failure as Refusal}
use Rattle.following.specs.declared.failure.Failure.TheVariants.{SymbolsDiffer, VariableOccurs, WorkSpent, NoRoom}

-- The failures of unification by their names in the program.
abbrev pub failure_of : Refusal → Failure
failure_of SymbolsDiffer = clash
failure_of VariableOccurs = occurs
failure_of WorkSpent = overwork
failure_of NoRoom = full

-- What following answers, as a view of the machine, and the expression that it ended on.
abbrev pub view_of : List ℕ → Followed → View
view_of N (Variable r i) = unbound (part N r 0) (r, i)
view_of N (Application r i) = applied (part N r 0) (arguments_from N r (node_arity N r) 1) (r, i)

abbrev pub end_of : Followed → Expression
end_of (Variable r i) = (r, i)
end_of (Application r i) = (r, i)

-- What following e asks: the node table at its full size, and some maximum index and environment that the array stands for, with e in
-- the step.
pub record Followable (N A : List ℕ) (e : Expression) : Type 0 where
  pub nodes : length N ≡ 32768
  pub top : ℕ
  pub environment : Environment
  pub models : Models N top A environment
  pub in_step : InStep N top e

-- What testing the arguments of r at index k asks: that can be followed, and r is an application, whose last argument is number `last`.
pub record ArgumentsFollowable (N A : List ℕ) (r k last : ℕ) : Type 0 where
  pub whole : Followable N A (r, k)
  pub application : is_variable N r ≡ false
  pub arity : last ≡ node_arity N r
  pub some : 1 ≤ last

-- The cells at `at` hold t at index k. Where that is a bound variable, they are set to what its own cells hold.
unfoldable pub halved : List ℕ → List ℕ → ℕ → ℕ → ℕ → List ℕ
halved N A at t k = pick (is_variable N t) (pick (eqb (get_or A (slot N t k) 0) 0) A (put A at (get_or A (slot N t k) 0) (get_or A (slot N t k + 1) 0))) A

-- Following e ended on x, and the array, shortened, still stands for ρ.
pub record Walked (N : List ℕ) (top : ℕ) (A : List ℕ) (ρ : Environment) (e : Expression) (x : Followed) : Type 0 where
  pub models : Models N top A ρ
  pub good : InStep N top (end_of x)
  pub seen : follow (node_row N) most_links ρ e ≡ view_of N x

abbrev pub Follows : List ℕ → List ℕ → List ℕ → Expression → Followed → Type 0
Follows N A A' e x = (top : ℕ) (ρ : Environment) → Models N top A ρ → InStep N top e → Walked N top A' ρ e x

-- What an occurrence test comes to: the variable is absent, with so much work left; or it breaks off.
pub data Tested : Type 0 where
  absent : ℕ → Tested
  broken : Failure → Tested

abbrev pub tested_of : Result ℕ Refusal → Tested
tested_of (Ok w) = absent w
tested_of (Err f) = broken (failure_of f)

-- Less work is left than w; no more than w.
abbrev pub TestLeavesLess : ℕ → Result ℕ Refusal → Type 0
TestLeavesLess w (Ok l) = l < w
TestLeavesLess w (Err f) = Unit {0}

abbrev pub TestLeavesNoMore : ℕ → Result ℕ Refusal → Type 0
TestLeavesNoMore w (Ok l) = l ≤ w
TestLeavesNoMore w (Err f) = Unit {0}

-- The machine from the task at hand comes to the same as from where the function leaves it, whatever is to be done after.
module _ (row : ℕ → Row) (links : ℕ) (isFull : List Binding → Bool) (base : Environment) where
  abbrev pub then_run : Outcome → List Pair → Outcome
  then_run (unified bs n) ps = run row links isFull base n (unifying bs ps)
  then_run (failed r) ps = failed r

  abbrev pub then_test : Tested → List Binding → Expression → Expression → List Expression → List Pair → Outcome
  then_test (absent n) bs x e os ps = with_work (λ s. run row links isFull base n s) 0 (test_rest isFull bs x e os ps)
  then_test (broken r) bs x e os ps = failed r

  -- One pair, and the arguments of two applications.
  abbrev pub PairRuns : ℕ → List Binding → Expression → Expression → Outcome → Type 0
  PairRuns n bs e d r = (ps : List Pair) → run row links isFull base n (unifying bs ((e, d) ∷ ps)) ≡ then_run r ps

  abbrev pub ArgumentsRun : ℕ → List Binding → List ℕ → ℕ → List ℕ → ℕ → Outcome → Type 0
  ArgumentsRun n bs xs i ys j r = (ps : List Pair) → run row links isFull base n (unifying bs (argument_pairs xs i ys j ps)) ≡ then_run r ps

  -- The test of one expression, and of the arguments of an application.
  abbrev pub TestRuns : ℕ → List Binding → Expression → Expression → Expression → Tested → Type 0
  TestRuns n bs x e o r = (os : List Expression) (ps : List Pair) → run row links isFull base n (testing bs x e o os ps) ≡ then_test r bs x e os ps

  abbrev pub TestsRun : ℕ → List Binding → Expression → Expression → List ℕ → ℕ → Tested → Type 0
  TestsRun n bs x e xs i r = (os : List Expression) (ps : List Pair) → with_work (λ s. run row links isFull base n s) 0 (test_rest isFull bs x e (arguments xs i os) ps) ≡ then_test r bs x e os ps

  -- What the occurrence test comes to decides whether a binding is made.
  abbrev pub bind_outcome : Tested → List Binding → Expression → Expression → Outcome
  bind_outcome (absent n) bs x d = pick (isFull bs) (failed full) (unified ((x, d) ∷ bs) n)
  bind_outcome (broken r) bs x d = failed r

-- The array afterwards, and the machine at the test of o for x.
module _ (N : List ℕ) (top : ℕ) (A : List ℕ) (isFull : List Binding → Bool) (base : Environment) (bs : List Binding) (x : Expression) where
  pub record Looking (o : Expression) (w : ℕ) (r : Result ℕ Refusal) : Type 0 where
    pub models : Models N top A (extend base bs)
    pub ok : (e : Expression) → TestRuns (node_row N) most_links isFull base w bs x e o (tested_of r)

  pub record LookingArguments (r k w : ℕ) (q : Result ℕ Refusal) : Type 0 where
    pub models : Models N top A (extend base bs)
    pub ok : (e : Expression) → TestsRun (node_row N) most_links isFull base w bs x e (arguments_from N r (node_arity N r) 1) k (tested_of q)

abbrev pub Looked : List ℕ → List ℕ → List ℕ → Expression → Expression → ℕ → Result ℕ Refusal → Type 0
Looked N A A' x o w r = (top : ℕ) (isFull : List Binding → Bool) (base : Environment) (bs : List Binding) → Models N top A (extend base bs) → InStep N top o → Looking N top A' isFull base bs x o w r

abbrev pub LookedArguments : List ℕ → List ℕ → List ℕ → Expression → ℕ → ℕ → ℕ → Result ℕ Refusal → Type 0
LookedArguments N A A' x r k w q = (top : ℕ) (isFull : List Binding → Bool) (base : Environment) (bs : List Binding) → Models N top A (extend base bs) → InStep N top (r, k) → is_variable N r ≡ false → LookingArguments N top A' isFull base bs x r k w q

-- In the arguments of r at index k: what holds from argument n on, of which `rest` are left, holds of all.
module _ (N : List ℕ) (top : ℕ) (A : List ℕ) (isFull : List Binding → Bool) (base : Environment) (bs : List Binding) (x : Expression) where
  pub record Scanning (r k w n rest left : ℕ) : Type 0 where
    pub models : Models N top A (extend base bs)
    pub whole : (e : Expression) (q : Tested) → TestsRun (node_row N) most_links isFull base left bs x e (arguments_from N r rest n) k q → TestsRun (node_row N) most_links isFull base w bs x e (arguments_from N r (node_arity N r) 1) k q

abbrev pub Scanned : List ℕ → List ℕ → List ℕ → Expression → ℕ → ℕ → ℕ → ℕ → ℕ → ℕ → Type 0
Scanned N A A' x r k w n rest left = (top : ℕ) (isFull : List Binding → Bool) (base : Environment) (bs : List Binding) → Models N top A (extend base bs) → InStep N top (r, k) → is_variable N r ≡ false → Scanning N top A' isFull base bs x r k w n rest left

-- The arguments before the last: the last is left to be taken up, or the test of all of them ended.
abbrev pub LookedBefore : List ℕ → List ℕ → List ℕ → Expression → ℕ → ℕ → ℕ → Result ℕ Refusal → Type 0
LookedBefore N A A' x r k w (Ok l) = Scanned N A A' x r k w (node_arity N r) 1 l
LookedBefore N A A' x r k w (Err f) = LookedArguments N A A' x r k w (Err f)

-- The answer of a test that ends on an unbound variable: it is the one sought, or not.
abbrev pub met_variable : Bool → ℕ → Result ℕ Refusal
met_variable true left = Err VariableOccurs
met_variable false left = Ok left
