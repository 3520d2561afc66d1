-- The program's occurrence test and the machine's come to the same.
use mathlib.Core.Path.{◌≡◌, refl, sym, ap, ap₂, ◌∙◌, subst}
use mathlib.Core.Bool.{Bool, true, false}
use mathlib.Core.List.{List, [], ◌∷◌}
use Prim.Native.Nat.{ℕ, suc, ◌+◌, ◌-◌, ◌≤◌, ◌<◌}
use native.Mathlib.Omega.{arith}
use native.Mathlib.Numerals.{add-one}
use Rattle.record.specs.Record.{pick}
use Rattle.unification.specs.Environment.{follow, Binding, Environment, extend, unbound, link, View, applied}
use Rattle.unification.specs.Nodes.{is_variable, part, node_arity, HasRow, arguments_from, node_row, NodesOk}
use Rattle.unification.specs.Row.{Expression, same}
use Rattle.unification.specs.Unification.{most_links, occurs, overwork, failed, Pair, Turn, arguments, test_rest, test_one, without_work, run}
use Rattle.unification.specs.ValueArray.{InStep, Models}
use Rattle.following.specs.Walks.{view_of, Followable, ArgumentsFollowable, Walked, Follows, absent, Tested, broken, tested_of, TestLeavesLess, TestLeavesNoMore, TestRuns, TestsRun, Looked, LookedArguments, Scanned, LookedBefore, met_variable, failure_of}
use Rattle.following.proofs.Halving.{walked_app}
use Rattle.following.proofs.Machine.{test_found, test_other, test_into, tests_none, tests_next, tests_broken}
use Rattle.following.specs.declared.follow.Followed.{Followed}
use Rattle.following.specs.declared.follow.Followed.TheVariants.{Variable, Application}
use Rattle.std.specs.Prelude.{Result, Ok, Err}
use Rattle.following.specs.declared.failure.Failure.{Failure as Refusal}
use Rattle.following.specs.declared.failure.Failure.TheVariants.{VariableOccurs, WorkSpent}

pub test_less : (w v : ℕ) (o : Result ℕ Refusal) → v < w → TestLeavesNoMore v o → TestLeavesLess w o
test_less w v (Ok l) h k = omega arith
test_less w v (Err f) h k = tt

pub less_le : (w v : ℕ) (q : Result ℕ Refusal) → v ≤ w → TestLeavesLess v q → TestLeavesLess w q
less_le w v (Ok l) h k = omega arith
less_le w v (Err f) h k = tt

pub suc_pred : (w : ℕ) → (w ≡ 0 → ⊥) → suc (w - 1) ≡ w
suc_pred w h = omega arith

module _ (N A A' : List ℕ) (x : Expression) (o : Expression) (w : ℕ) where
  module _ (isFull : List Binding → Bool) where
    spent_pick : (b : Bool) (s t : Turn) → without_work s ≡ failed overwork → without_work t ≡ failed overwork → without_work (pick b s t) ≡ failed overwork
    spent_pick true s t p q = p
    spent_pick false s t p q = q

    rest_spent : (bs : List Binding) (e : Expression) (os : List Expression) (ps : List Pair) → without_work (test_rest isFull bs x e os ps) ≡ failed overwork
    rest_spent bs e [] ps = spent_pick (isFull bs) _ _ refl refl
    rest_spent bs e (d ∷ os) ps = refl

    one_spent : (v : View) (bs : List Binding) (e : Expression) (os : List Expression) (ps : List Pair) → without_work (test_one isFull v bs x e os ps) ≡ failed overwork
    one_spent (unbound v d) bs e os ps = spent_pick (same d x) _ _ refl (rest_spent bs e os ps)
    one_spent (applied s xs d) bs e os ps = rest_spent bs e (arguments xs d.1 os) ps
    one_spent (link d) bs e os ps = refl

  pub looked_spent : w ≡ 0 → Looked N A A x o w (Err WorkSpent)
  unfolding run
  looked_spent z top isFull base bs M g = record { models = M; ok = λ e. subst (λ (n : ℕ). TestRuns (node_row N) most_links isFull base n bs x e o (broken overwork)) (sym z) (λ os ps. one_spent isFull (follow (node_row N) most_links (extend base bs) o) bs e os ps) }

  module _ (nz : w ≡ 0 → ⊥) (f : Followed) (W : Follows N A A' o f) where
    looked_yes : (r k : ℕ) → f ≡ Variable r k → (b : Bool) → b ≡ same (r, k) x → b ≡ true → Looked N A A' x o w (Err VariableOccurs)
    looked_yes r k q b p h top isFull base bs M g =
        let W' = W top (extend base bs) M g in
        record { models = W'.models; ok = λ e. subst (λ (n : ℕ). TestRuns (node_row N) most_links isFull base n bs x e o (broken occurs)) (suc_pred w nz) (test_found (node_row N) most_links isFull base (w - 1) bs x e o (part N r 0) (r, k) (W'.seen ∙ ap (view_of N) q) (sym p ∙ h)) }

    looked_no : (r k : ℕ) → f ≡ Variable r k → (b : Bool) → b ≡ same (r, k) x → b ≡ false → Looked N A A' x o w (Ok (w - 1))
    looked_no r k q b p h top isFull base bs M g =
        let W' = W top (extend base bs) M g in
        record { models = W'.models; ok = λ e. subst (λ (n : ℕ). TestRuns (node_row N) most_links isFull base n bs x e o (absent (w - 1))) (suc_pred w nz) (test_other (node_row N) most_links isFull base (w - 1) bs x e o (part N r 0) (r, k) (W'.seen ∙ ap (view_of N) q) (sym p ∙ h)) }

    -- An unbound variable is the one sought, or not.
    pub looked_met : (r k : ℕ) → f ≡ Variable r k → (q : Result ℕ Refusal) → q ≡ met_variable (same (r, k) x) (w - 1) → Looked N A A' x o w q × TestLeavesLess w q
    looked_met r k p q e = subst (λ (z : Result ℕ Refusal). Looked N A A' x o w z × TestLeavesLess w z) (sym e) (try (same (r, k) x) refl)
      where
        try : (b : Bool) → same (r, k) x ≡ b → Looked N A A' x o w (met_variable b (w - 1)) × TestLeavesLess w (met_variable b (w - 1))
        try true h = (looked_yes r k p true (sym h) refl, tt)
        try false h = (looked_no r k p false (sym h) refl, omega arith)

    pub looked_into : (r k : ℕ) → f ≡ Application r k → (A'' : List ℕ) (q : Result ℕ Refusal) → LookedArguments N A' A'' x r k (w - 1) q → Looked N A A'' x o w q
    looked_into r k p A'' q L top isFull base bs M g =
        let W' : Walked N top A' (extend base bs) o (Application r k) = subst (Walked N top A' (extend base bs) o) p (W top (extend base bs) M g) in
        let L' = L top isFull base bs W'.models W'.good (walked_app N top A' (extend base bs) o r k W') in
        record { models = L'.models; ok = λ e. subst (λ (n : ℕ). TestRuns (node_row N) most_links isFull base n bs x e o (tested_of q)) (suc_pred w nz) (test_into (node_row N) most_links isFull base (w - 1) bs x e o (part N r 0) (arguments_from N r (node_arity N r) 1) (r, k) (tested_of q) W'.seen (L'.ok e)) }

-- Argument n of r, of which `rest` are left.
module _ (N : List ℕ) (top r n rest : ℕ) (pos : 0 < rest) (a : ℕ) (p : a ≡ part N r n) where
  pub arg_good : (k : ℕ) → 1 ≤ n → n + rest ≡ node_arity N r + 1 → NodesOk N → InStep N top (r, k) → is_variable N r ≡ false → InStep N top (a, k)
  arg_good k low all T g v =
      let q : suc (n - 1) ≡ n = omega arith in
      let h = T.arguments r (n - 1) g.row v (omega arith) in
      record { row = subst (λ (m : ℕ). HasRow N m) (ap (part N r) q ∙ sym p) h; low = g.low; high = g.high }

  more : rest ≡ suc (rest - 1)
  more = omega arith

  pub args_eq : arguments_from N r rest n ≡ a ∷ arguments_from N r (rest - 1) (n + 1)
  args_eq = ap (λ (m : ℕ). arguments_from N r m n) more ∙ ap₂ (λ (b m : ℕ). b ∷ arguments_from N r (rest - 1) m) (sym p) (sym (add-one n))

module _ (N A : List ℕ) (x : Expression) (r k w : ℕ) where
  pub scan_start : (rest : ℕ) → rest ≡ node_arity N r → Scanned N A A x r k w 1 rest w
  scan_start rest p top isFull base bs M g v = record { models = M; whole = λ e q h. subst (λ (m : ℕ). TestsRun (node_row N) most_links isFull base w bs x e (arguments_from N r m 1) k q) p h }

  module _ (A₁ : List ℕ) (n rest left : ℕ) (S : Scanned N A A₁ x r k w n rest left) where
    pub scan_end : rest ≡ 0 → LookedArguments N A A₁ x r k w (Ok left)
    scan_end z top isFull base bs M g v =
        let S' = S top isFull base bs M g v in
        record { models = S'.models; ok = λ e. S'.whole e (absent left) (subst (λ (m : ℕ). TestsRun (node_row N) most_links isFull base left bs x e (arguments_from N r m n) k (absent left)) (sym z) (tests_none (node_row N) most_links isFull base left bs x e k)) }

    -- The argument at hand.
    module _ (pos : 0 < rest) (low : 1 ≤ n) (all : n + rest ≡ node_arity N r + 1) (a : ℕ) (p : a ≡ part N r n) where
      pub scan_broke : (A₂ : List ℕ) (f : Refusal) → Looked N A₁ A₂ x (a, k) left (Err f) → LookedArguments N A A₂ x r k w (Err f)
      scan_broke A₂ f L top isFull base bs M g v =
          let S' = S top isFull base bs M g v in
          let L' = L top isFull base bs S'.models (arg_good N top r n rest pos a p k low all S'.models.table g v) in
          record { models = L'.models; ok = λ e. S'.whole e (broken (failure_of f)) (rw (args_eq N top r n rest pos a p) (tests_broken (node_row N) most_links isFull base left bs x e a k (arguments_from N r (rest - 1) (n + 1)) (failure_of f) (L'.ok e))) }

      pub scan_next : (A₂ : List ℕ) (l : ℕ) (q : Result ℕ Refusal) → q ≡ Ok l → Looked N A₁ A₂ x (a, k) left q → (rest' : ℕ) → rest' ≡ rest - 1 → Scanned N A A₂ x r k w (n + 1) rest' l
      scan_next A₂ l q c L rest' e = subst (λ (m : ℕ). Scanned N A A₂ x r k w (n + 1) m l) (sym e) next
        where
          next : Scanned N A A₂ x r k w (n + 1) (rest - 1) l
          next top isFull base bs M g v =
              let S' = S top isFull base bs M g v in
              let L' = L top isFull base bs S'.models (arg_good N top r n rest pos a p k low all S'.models.table g v) in
              record { models = L'.models; whole = λ e y h. S'.whole e y (rw (args_eq N top r n rest pos a p) (tests_next (node_row N) most_links isFull base left bs x e a k (arguments_from N r (rest - 1) (n + 1)) l y (subst (λ (o : Result ℕ Refusal). TestRuns (node_row N) most_links isFull base left bs x e (a, k) (tested_of o)) c (L'.ok e)) h)) }

-- A constant has no arguments.
pub looked_none : (N A : List ℕ) (x : Expression) (r k w : ℕ) → 0 ≡ node_arity N r → LookedArguments N A A x r k w (Ok w)
looked_none N A x r k w z = scan_end N A x r k w A 1 0 w (scan_start N A x r k w 0 z) refl

-- The last argument is left when the others are done.
pub scan_last : (N A A₁ : List ℕ) (x : Expression) (r k w n last left : ℕ) → last ≡ node_arity N r → n ≡ last → Scanned N A A₁ x r k w n (last + 1 - n) left → Scanned N A A₁ x r k w (node_arity N r) 1 left
scan_last N A A₁ x r k w n last left p q S =
    let z : last + 1 - n ≡ 1 = omega arith in
    subst (λ (m : ℕ). Scanned N A A₁ x r k w m 1 left) (q ∙ p) (subst (λ (m : ℕ). Scanned N A A₁ x r k w n m left) z S)

-- What the loop of the test has come to: what holds of the expression c at hand, with `left` work left, holds of o.
module _ (N : List ℕ) (top : ℕ) (A : List ℕ) (isFull : List Binding → Bool) (base : Environment) (bs : List Binding) (x : Expression) where
  pub record Seeking (o : Expression) (w : ℕ) (c : Expression) (left : ℕ) : Type 0 where
    pub models : Models N top A (extend base bs)
    pub good : InStep N top c
    pub whole : (e : Expression) (q : Tested) → TestRuns (node_row N) most_links isFull base left bs x e c q → TestRuns (node_row N) most_links isFull base w bs x e o q

abbrev pub Sought : List ℕ → List ℕ → List ℕ → Expression → Expression → ℕ → Expression → ℕ → Type 0
Sought N A A' x o w c left = (top : ℕ) (isFull : List Binding → Bool) (base : Environment) (bs : List Binding) → Models N top A (extend base bs) → InStep N top o → Seeking N top A' isFull base bs x o w c left

pub sought_start : (N A : List ℕ) (x o : Expression) (w : ℕ) → Sought N A A x o w o w
sought_start N A x o w top isFull base bs M g = record { models = M; good = g; whole = λ e q h. h }

module _ (N A A₁ : List ℕ) (x o : Expression) (w : ℕ) (c : Expression) (left : ℕ) (S : Sought N A A₁ x o w c left) where
  pub sought_then : (A₂ : List ℕ) (q : Result ℕ Refusal) → Looked N A₁ A₂ x c left q → Looked N A A₂ x o w q
  sought_then A₂ q L top isFull base bs M g =
      let S' = S top isFull base bs M g in
      let L' = L top isFull base bs S'.models S'.good in
      record { models = L'.models; ok = λ e. S'.whole e (tested_of q) (L'.ok e) }

  -- The last argument of an application is next.
  module _ (nz : left ≡ 0 → ⊥) (A₂ : List ℕ) (f : Followed) (W : Follows N A₁ A₂ c f) (r k : ℕ) (p : f ≡ Application r k) where
    pub sought_next : (last : ℕ) → last ≡ node_arity N r → 1 ≤ last → (A₃ : List ℕ) (l : ℕ) (q : Result ℕ Refusal) → q ≡ Ok l → LookedBefore N A₂ A₃ x r k (left - 1) q → (a : ℕ) → a ≡ part N r last → Sought N A A₃ x o w (a, k) l
    sought_next last is_last some A₃ l q isNo B a is_argument top isFull base bs M g =
        let S' = S top isFull base bs M g in
        let W' : Walked N top A₂ (extend base bs) c (Application r k) = subst (Walked N top A₂ (extend base bs) c) p (W top (extend base bs) S'.models S'.good) in
        let v = walked_app N top A₂ (extend base bs) c r k W' in
        let B' : Scanned N A₂ A₃ x r k (left - 1) (node_arity N r) 1 l = subst (λ (z : Result ℕ Refusal). LookedBefore N A₂ A₃ x r k (left - 1) z) isNo B in
        let C = B' top isFull base bs W'.models W'.good v in
        record {
          models = C.models;
          good = arg_good N top r last 1 (omega arith) a is_argument k some (omega arith) W'.models.table W'.good v;
          whole = λ e y h.
              S'.whole e y
              (subst (λ (n : ℕ). TestRuns (node_row N) most_links isFull base n bs x e c y) (suc_pred left nz)
              (test_into (node_row N) most_links isFull base (left - 1) bs x e c (part N r 0) (arguments_from N r (node_arity N r) 1) (r, k) y W'.seen
              (C.whole e y (subst (λ (b : ℕ). TestRuns (node_row N) most_links isFull base l bs x e (b, k) y) (is_argument ∙ ap (part N r) is_last) h))));
        }

-- What a call asks, from what the caller was asked and what the calls before it ensured.
pub sought_followable : (N A A₁ : List ℕ) (x o : Expression) (w : ℕ) (c : Expression) (left : ℕ) → Followable N A o → Sought N A A₁ x o w c left → Followable N A₁ c
sought_followable N A A₁ x o w c left R S =
    let S' = S R.top (λ _. false) R.environment [] R.models R.in_step in
    record { nodes = R.nodes; top = R.top; environment = R.environment; models = S'.models; in_step = S'.good }

pub arguments_followable : (N A A₁ : List ℕ) (o : Expression) (f : Followed) → Followable N A o → Follows N A A₁ o f → (r k : ℕ) → f ≡ Application r k → (last : ℕ) → last ≡ node_arity N r → 1 ≤ last → ArgumentsFollowable N A₁ r k last
arguments_followable N A A₁ o f R W r k p last is_last some =
    let W' : Walked N R.top A₁ R.environment o (Application r k) = subst (Walked N R.top A₁ R.environment o) p (W R.top R.environment R.models R.in_step) in
    record {
      whole = record { nodes = R.nodes; top = R.top; environment = R.environment; models = W'.models; in_step = W'.good };
      application = walked_app N R.top A₁ R.environment o r k W';
      arity = is_last;
      some = some;
    }

pub scanned_followable : (N A A₁ : List ℕ) (x : Expression) (r k last w n rest left : ℕ) → ArgumentsFollowable N A r k last → Scanned N A A₁ x r k w n rest left → 0 < rest → 1 ≤ n → n + rest ≡ last + 1 → (a : ℕ) → a ≡ part N r n → Followable N A₁ (a, k)
scanned_followable N A A₁ x r k last w n rest left R S pos low all a p =
    let S' = S R.whole.top (λ _. false) R.whole.environment [] R.whole.models R.whole.in_step R.application in
    record {
      nodes = R.whole.nodes;
      top = R.whole.top;
      environment = R.whole.environment;
      models = S'.models;
      in_step = arg_good N R.whole.top r n rest pos a p k low (all ∙ ap (λ (m : ℕ). m + 1) R.arity) S'.models.table R.whole.in_step R.application;
    }
