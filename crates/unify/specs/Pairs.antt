-- The contracts of the walk over pairs. What unification promises its callers is in `Unifying`; this file only says
-- how the parts of the program fit together. Each function asks for a step whose bindings the array stands for. What it ensures is
-- stated for every such step, and for every rest of the machine's task.
use Rattle.std.specs.Prelude.{◌≡◌, true, false, List, ◌++◌, ℕ, ◌+◌, ◌-◌, ◌≤◌, ◌<◌, length, Result, Ok, Err}
use Rattle.std.proofs.Math.Option.{none}
use Rattle.unification.specs.Bindings.{bindings_from, KeptBelow, Added}
use Rattle.unification.specs.Environment.{follow, Binding, Environment, extend, Ends}
use Rattle.unification.specs.Nodes.{is_variable, part, node_arity, HasRow, arguments_from, node_row}
use Rattle.unification.specs.Row.{Expression, same}
use Rattle.unification.specs.Unification.{most_links, Outcome, unified, failed, no_room}
use Rattle.unification.specs.ValueArray.{InStep, Models}
use Rattle.following.specs.declared.follow.Followed.{Followed}
use Rattle.following.specs.declared.follow.Followed.TheVariants.{Variable, Application}
use Rattle.unify.specs.declared.Meeting.{Meeting}
use Rattle.unify.specs.declared.Meeting.TheVariants.{Bind, Nothing, Clash, Arguments}
use Rattle.unify.specs.declared.Unified.{Unified}
use Rattle.following.specs.declared.failure.Failure.{Failure}
use Rattle.following.specs.Walks.{failure_of, Tested, PairRuns, ArgumentsRun, TestRuns, bind_outcome}

-- What unification answers.
abbrev pub Answer : Type 0
Answer = Result Unified Failure

abbrev pub done : ℕ → ℕ → Answer
done w h = Ok (record { work = w; held = h })

-- Less work is left than w; no more than w.
abbrev pub LessWorkLeft : ℕ → Answer → Type 0
LessWorkLeft w (Ok u) = u.work < w
LessWorkLeft w (Err f) = Unit {0}

abbrev pub NoMoreWorkLeft : ℕ → Answer → Type 0
NoMoreWorkLeft w (Ok u) = u.work ≤ w
NoMoreWorkLeft w (Err f) = Unit {0}

-- What the answer says of the table of bindings, whatever the array stands for.
abbrev pub Filed : List ℕ → List ℕ → ℕ → Answer → Type 0
Filed B B' held (Ok u) = Added B B' held u.held
Filed B B' held (Err f) = KeptBelow B B' held

-- The bindings bs with those of the table from `held` on before them.
abbrev pub bindings_onto : List ℕ → ℕ → ℕ → List Binding → List Binding
bindings_onto B held n bs = bindings_from B held n ++ bs

abbrev pub outcome_onto : Answer → List ℕ → ℕ → List Binding → Outcome
outcome_onto (Ok u) B held bs = unified (bindings_onto B held (u.held - held) bs) u.work
outcome_onto (Err f) B held bs = failed (failure_of f)

-- The bindings bs of a step over what its parents say: `first` bindings were held before the step and `held` are now. The array
-- stands for them, their chains are no longer than the bindings held, and the table has room.
pub record Stand (N : List ℕ) (top : ℕ) (A B : List ℕ) (first : ℕ) (base : Environment) (bs : List Binding) (held : ℕ) : Type 0 where
  pub models : Models N top A (extend base bs)
  pub count : first + length bs ≡ held
  pub few : held ≤ 8192
  pub short : (e : Expression) → HasRow N e.0 → Ends (follow (node_row N) held (extend base bs) e)
  pub room : 32768 ≤ length B

-- Some step stands: its maximum index, the bindings held before it, what its parents say, and its bindings.
pub record StepReady (N A B : List ℕ) (held : ℕ) : Type 0 where
  pub nodes : length N ≡ 32768
  pub top : ℕ
  pub first : ℕ
  pub base : Environment
  pub bindings : List Binding
  pub stand : Stand N top A B first base bindings held

abbrev pub Stands : List ℕ → ℕ → List ℕ → List ℕ → ℕ → Environment → List Binding → ℕ → Answer → Type 0
Stands N top A B first base bs held (Ok u) = Stand N top A B first base (bindings_onto B held (u.held - held) bs) u.held
Stands N top A B first base bs held (Err f) = Unit {0}

-- What x is to be bound to was followed, and is not x.
pub data Settled (N : List ℕ) (ρ : Environment) (x d : Expression) : Type 0 where
  is_application : is_variable N d.0 ≡ false → Settled N ρ x d
  is_other : is_variable N d.0 ≡ true → ρ d ≡ none → ¬ (d ≡ x) → Settled N ρ x d

-- Two applications of one symbol.
pub record Alike (N : List ℕ) (top v a t b : ℕ) : Type 0 where
  pub left : InStep N top (v, a)
  pub right : InStep N top (t, b)
  pub left_row : is_variable N v ≡ false
  pub right_row : is_variable N t ≡ false
  pub symbol : part N v 0 ≡ part N t 0

-- What the pair walk asks: a step that stands, with both sides in it.
pub record PairReady (N A B : List ℕ) (held : ℕ) (e d : Expression) : Type 0 where
  pub step : StepReady N A B held
  pub left : InStep N step.top e
  pub right : InStep N step.top d

-- What binding x to d asks: x is an unbound variable, and d was followed and is not x.
pub record BindReady (N A B : List ℕ) (held : ℕ) (x d : Expression) : Type 0 where
  pub step : StepReady N A B held
  pub variable_in_step : InStep N step.top x
  pub variable_row : is_variable N x.0 ≡ true
  pub in_step : InStep N step.top d
  pub free : extend step.base step.bindings x ≡ none
  pub settled : Settled N (extend step.base step.bindings) x d

-- What the argument walk asks: two applications of one symbol, whose last arguments are number `last`.
pub record ArgumentsReady (N A B : List ℕ) (held v a t b last : ℕ) : Type 0 where
  pub step : StepReady N A B held
  pub alike : Alike N step.top v a t b
  pub arity : last ≡ node_arity N v
  pub some : 1 ≤ last

-- What is to be done with two followed sides (document 01, "Unification, and what it counts").
pub data Meets (N : List ℕ) : Followed → Followed → Meeting → Type 0 where
  same_variable : {v a t b : ℕ} → same (v, a) (t, b) ≡ true → Meets N (Variable v a) (Variable t b) Nothing
  left_to_variable : {v a t b : ℕ} → same (v, a) (t, b) ≡ false → Meets N (Variable v a) (Variable t b) (Bind v a t b)
  left_to_application : {v a g b : ℕ} → Meets N (Variable v a) (Application g b) (Bind v a g b)
  right_variable : {f a t b : ℕ} → Meets N (Application f a) (Variable t b) (Bind t b f a)
  same_application : {f a g b : ℕ} → same (f, a) (g, b) ≡ true → Meets N (Application f a) (Application g b) Nothing
  other_symbol : {f a g b : ℕ} → same (f, a) (g, b) ≡ false → ¬ (part N f 0 ≡ part N g 0) → Meets N (Application f a) (Application g b) Clash
  no_arguments : {f a g b : ℕ} → same (f, a) (g, b) ≡ false → part N f 0 ≡ part N g 0 → 0 ≡ node_arity N f → Meets N (Application f a) (Application g b) Nothing
  some_arguments : {f a g b : ℕ} → same (f, a) (g, b) ≡ false → part N f 0 ≡ part N g 0 → 1 ≤ node_arity N f → Meets N (Application f a) (Application g b) (Arguments f a g b)

-- The machine at a pair, at a binding to be made, at an unbound variable on the left, and at the arguments of two applications; and
-- where the step stands afterwards.
module _ (N : List ℕ) (top : ℕ) (A B : List ℕ) (first : ℕ) (base : Environment) (bs : List Binding) (held : ℕ) where
  pub record Pairing (e d : Expression) (w : ℕ) (u : Answer) : Type 0 where
    pub ok : PairRuns (node_row N) most_links (no_room first) base w bs e d (outcome_onto u B held bs)
    pub after : Stands N top A B first base bs held u

  pub record Tying (x d : Expression) (w : ℕ) (u : Answer) : Type 0 where
    pub tested : Tested
    pub ok : TestRuns (node_row N) most_links (no_room first) base w bs x d d tested
    pub outcome : bind_outcome (node_row N) most_links (no_room first) base tested bs x d ≡ outcome_onto u B held bs
    pub after : Stands N top A B first base bs held u

  pub record Arguing (v a t b w : ℕ) (u : Answer) : Type 0 where
    pub ok : ArgumentsRun (node_row N) most_links (no_room first) base w bs (arguments_from N v (node_arity N v) 1) a (arguments_from N t (node_arity N t) 1) b (outcome_onto u B held bs)
    pub after : Stands N top A B first base bs held u

abbrev pub Paired : List ℕ → List ℕ → List ℕ → List ℕ → List ℕ → ℕ → Expression → Expression → ℕ → Answer → Type 0
Paired N A A' B B' held e d w u = (top first : ℕ) (base : Environment) (bs : List Binding) → Stand N top A B first base bs held → InStep N top e → InStep N top d → Pairing N top A' B' first base bs held e d w u

abbrev pub Bound : List ℕ → List ℕ → List ℕ → List ℕ → List ℕ → ℕ → Expression → Expression → ℕ → Answer → Type 0
Bound N A A' B B' held x d w u = (top first : ℕ) (base : Environment) (bs : List Binding) → Stand N top A B first base bs held → InStep N top x → is_variable N x.0 ≡ true → InStep N top d → extend base bs x ≡ none → Settled N (extend base bs) x d → Tying N top A' B' first base bs held x d w u

abbrev pub Argued : List ℕ → List ℕ → List ℕ → List ℕ → List ℕ → ℕ → ℕ → ℕ → ℕ → ℕ → ℕ → Answer → Type 0
Argued N A A' B B' held v a t b w u = (top first : ℕ) (base : Environment) (bs : List Binding) → Stand N top A B first base bs held → Alike N top v a t b → Arguing N top A' B' first base bs held v a t b w u

-- In the arguments of v at index a and t at index b: what holds from argument n on, of which `rest` are left, holds of all.
module _ (N : List ℕ) (top : ℕ) (A B : List ℕ) (first : ℕ) (base : Environment) (bs : List Binding) (held : ℕ) where
  pub record Matching (v a t b w n rest left total : ℕ) : Type 0 where
    pub stand : Stand N top A B first base (bindings_onto B held (total - held) bs) total
    pub whole : (q : Outcome) → ArgumentsRun (node_row N) most_links (no_room first) base left (bindings_onto B held (total - held) bs) (arguments_from N v rest n) a (arguments_from N t rest n) b q → ArgumentsRun (node_row N) most_links (no_room first) base w bs (arguments_from N v (node_arity N v) 1) a (arguments_from N t (node_arity N t) 1) b q

abbrev pub Matched : List ℕ → List ℕ → List ℕ → List ℕ → List ℕ → ℕ → ℕ → ℕ → ℕ → ℕ → ℕ → ℕ → ℕ → ℕ → ℕ → Type 0
Matched N A A' B B' held v a t b w n rest left total = (top first : ℕ) (base : Environment) (bs : List Binding) → Stand N top A B first base bs held → Alike N top v a t b → Matching N top A' B' first base bs held v a t b w n rest left total

-- The arguments before the last: the last ones are left to be unified, or the arguments were refused.
abbrev pub ArguedBefore : List ℕ → List ℕ → List ℕ → List ℕ → List ℕ → ℕ → ℕ → ℕ → ℕ → ℕ → ℕ → Answer → Type 0
ArguedBefore N A A' B B' held v a t b w (Ok u) = Matched N A A' B B' held v a t b w (node_arity N v) 1 u.work u.held
ArguedBefore N A A' B B' held v a t b w (Err f) = Argued N A A' B B' held v a t b w (Err f)
