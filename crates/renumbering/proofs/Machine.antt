-- Where unification succeeds, it succeeds on the renumbered pairs as well: with the same bindings renumbered, all inside, and the same work left.
use mathlib.Core.Path.{◌≡◌, refl, sym, ap, subst}
use mathlib.Core.Bool.{Bool, true, false}
use mathlib.Core.List.{List, [], ◌∷◌, map}
use Prim.Native.Nat.{ℕ, zero, suc, ◌+◌, ◌≤◌, ◌<◌}
use native.Mathlib.Omega.{arith}
use lib.Dec.{eqb, leb→le, nleb→lt}
use lib.ListN.{length, length-map}
use Rattle.record.specs.Record.{pick}
use Rattle.unification.specs.Environment.{follow, Binding, Environment, extend, unbound, link, View, applied}
use Rattle.unification.specs.Row.{Row, Expression, Variable, same}
use Rattle.unification.specs.Unification.{turn, unify, most_work, most_bindings, most_links, clash, occurs, full, Outcome, unified, failed, Pair, Task, unifying, testing, Turn, finished, go_on, stop, arguments, argument_pairs, meet, no_room, test_rest, test_one, without_work, with_work, run}
use Rattle.unification.proofs.Tests.{to_t}
use Rattle.unification.proofs.Lists.{Each}
use Rattle.renumbering.proofs.Inside.{Renumbers, InsideExpression, InsidePair, InsideBinding, RenumbersEnvironment}
use Rattle.renumbering.specs.Renumbering.{Renumbering}
use Rattle.renumbering.proofs.Renumbered.{renumbered_expression, renumbered_pair, renumbered_binding}
use Rattle.renumbering.proofs.EqualNumbers.{numbers_renumbered, same_renumbered}
use Rattle.renumbering.proofs.Following.{renumbered_view, InsideView, follow_inside, follow_renumbered, extend_renumbered}

-- ── Arguments ──
module _ (N : Renumbering) where
  pairs_renumbered : (xs : List ℕ) (i : ℕ) (ys : List ℕ) (j : ℕ) (ps : List Pair) → argument_pairs (map N.row xs) i (map N.row ys) j (map (renumbered_pair N) ps) ≡ map (renumbered_pair N) (argument_pairs xs i ys j ps)
  pairs_renumbered [] i ys j ps = refl
  pairs_renumbered (x ∷ xs) i [] j ps = refl
  pairs_renumbered (x ∷ xs) i (y ∷ ys) j ps = ap (λ (qs : List Pair). ((N.row x, i), (N.row y, j)) ∷ qs) (pairs_renumbered xs i ys j ps)

  arguments_renumbered : (xs : List ℕ) (i : ℕ) (os : List Expression) → arguments (map N.row xs) i (map (renumbered_expression N) os) ≡ map (renumbered_expression N) (arguments xs i os)
  arguments_renumbered [] i os = refl
  arguments_renumbered (x ∷ xs) i os = ap (λ (ds : List Expression). (N.row x, i) ∷ ds) (arguments_renumbered xs i os)

module _ (I : ℕ → Type 0) where
  pairs_inside : (xs : List ℕ) (i : ℕ) (ys : List ℕ) (j : ℕ) (ps : List Pair) → Each I xs → Each I ys → Each (InsidePair I) ps → Each (InsidePair I) (argument_pairs xs i ys j ps)
  pairs_inside [] i ys j ps h k l = l
  pairs_inside (x ∷ xs) i [] j ps h k l = l
  pairs_inside (x ∷ xs) i (y ∷ ys) j ps h k l = ((h.0, k.0), pairs_inside xs i ys j ps h.1 k.1 l)

  arguments_inside : (xs : List ℕ) (i : ℕ) (os : List Expression) → Each I xs → Each (InsideExpression I) os → Each (InsideExpression I) (arguments xs i os)
  arguments_inside [] i os h k = k
  arguments_inside (x ∷ xs) i os h k = (h.0, arguments_inside xs i os h.1 k)

-- ── Tasks, turns and outcomes ──
abbrev renumbered_task : Renumbering → Task → Task
renumbered_task N (unifying bs ps) = unifying (map (renumbered_binding N) bs) (map (renumbered_pair N) ps)
renumbered_task N (testing bs x e o os ps) =
    testing (map (renumbered_binding N) bs) (renumbered_expression N x) (renumbered_expression N e) (renumbered_expression N o) (map (renumbered_expression N) os) (map (renumbered_pair N) ps)

abbrev InsideTask : (ℕ → Type 0) → Task → Type 0
InsideTask I (unifying bs ps) = Each (InsideBinding I) bs × Each (InsidePair I) ps
InsideTask I (testing bs x e o os ps) = Each (InsideBinding I) bs × I x.0 × I e.0 × I o.0 × Each (InsideExpression I) os × Each (InsidePair I) ps

-- The second machine does what the first one does, unless the first one fails.
module _ (N : Renumbering) (I : ℕ → Type 0) where
  abbrev TurnAlike : Turn → Turn → Type 0
  TurnAlike (finished bs) u = (u ≡ finished (map (renumbered_binding N) bs)) × Each (InsideBinding I) bs
  TurnAlike (go_on s) u = (u ≡ go_on (renumbered_task N s)) × InsideTask I s
  TurnAlike (stop r) u = Unit {0}

  abbrev OutcomeAlike : Outcome → Outcome → Type 0
  OutcomeAlike (unified bs n) o = (o ≡ unified (map (renumbered_binding N) bs) n) × Each (InsideBinding I) bs
  OutcomeAlike (failed r) o = Unit {0}

  without_work_alike : (t u : Turn) → TurnAlike t u → OutcomeAlike (without_work t) (without_work u)
  without_work_alike (finished bs) u h = (ap without_work h.0, h.1)
  without_work_alike (go_on s) u h = tt
  without_work_alike (stop r) u h = tt

  with_work_alike : (next next' : Task → Outcome) (n : ℕ) → ((s : Task) → InsideTask I s → OutcomeAlike (next s) (next' (renumbered_task N s))) → (t u : Turn) → TurnAlike t u → OutcomeAlike (with_work next n t) (with_work next' n u)
  with_work_alike next next' n k (finished bs) u h = (ap (with_work next' n) h.0, h.1)
  with_work_alike next next' n k (go_on s) u h = subst (λ (v : Turn). OutcomeAlike (next s) (with_work next' n v)) (sym h.0) (k s h.1)
  with_work_alike next next' n k (stop r) u h = tt

-- ── One turn, then all ──
module _ (N : Renumbering) (I P : ℕ → Type 0) (one_row : (r q : ℕ) → I r → I q → N.row r ≡ N.row q → r ≡ q) (one_symbol : (s t : ℕ) → P s → P t → N.symbol s ≡ N.symbol t → s ≡ t)
    (bs : List Binding) (b : Each (InsideBinding I) bs) (ps : List Pair) (p : Each (InsidePair I) ps) where
  meet_alike : (v w : View) → InsideView I P v → InsideView I P w → TurnAlike N I (meet v w bs ps) (meet (renumbered_view N v) (renumbered_view N w) (map (renumbered_binding N) bs) (map (renumbered_pair N) ps))
  meet_alike (unbound v e) (unbound w d) h k = rw (same_renumbered N e d (one_row e.0 d.0 h k)) (try (same e d))
    where
      try : (c : Bool) → TurnAlike N I (pick c (go_on (unifying bs ps)) (go_on (testing bs e d d [] ps))) (pick c (go_on (renumbered_task N (unifying bs ps))) (go_on (renumbered_task N (testing bs e d d [] ps))))
      try true = (refl, (b, p))
      try false = (refl, (b, h, k, k, tt, p))
  meet_alike (unbound v e) (applied t ys d) h k = (refl, (b, h, k.0, k.0, tt, p))
  meet_alike (unbound v e) (link d) h k = tt
  meet_alike (applied s xs e) (unbound w d) h k = (refl, (b, k, h.0, h.0, tt, p))
  meet_alike (applied s xs e) (applied t ys d) h k =
      rw (same_renumbered N e d (one_row e.0 d.0 h.0 k.0), numbers_renumbered N.symbol s t (one_symbol s t h.2 k.2), pairs_renumbered N xs e.1 ys d.1 ps) (try (same e d) (eqb s t))
    where
      try : (c a : Bool) → TurnAlike N I (pick c (go_on (unifying bs ps)) (pick a (go_on (unifying bs (argument_pairs xs e.1 ys d.1 ps))) (stop clash)))
          (pick c (go_on (renumbered_task N (unifying bs ps))) (pick a (go_on (renumbered_task N (unifying bs (argument_pairs xs e.1 ys d.1 ps)))) (stop clash)))
      try true a = (refl, (b, p))
      try false true = (refl, (b, pairs_inside I xs e.1 ys d.1 ps h.1 k.1 p))
      try false false = tt
  meet_alike (applied s xs e) (link d) h k = tt
  meet_alike (link e) w h k = tt

  module _ (isFull isFull' : List Binding → Bool) (room : isFull bs ≡ false → isFull' (map (renumbered_binding N) bs) ≡ false) (x : Variable) (e : Expression) (i : I x.0) (j : I e.0) where
    rest_alike : (os : List Expression) → Each (InsideExpression I) os
        → TurnAlike N I (test_rest isFull bs x e os ps) (test_rest isFull' (map (renumbered_binding N) bs) (renumbered_expression N x) (renumbered_expression N e) (map (renumbered_expression N) os) (map (renumbered_pair N) ps))
    rest_alike [] h = try (isFull bs) refl
      where
        try : (c : Bool) → isFull bs ≡ c
            → TurnAlike N I (pick c (stop full) (go_on (unifying ((x, e) ∷ bs) ps))) (pick (isFull' (map (renumbered_binding N) bs)) (stop full) (go_on (renumbered_task N (unifying ((x, e) ∷ bs) ps))))
        try true q = tt
        try false q = (ap (λ (c : Bool). pick c (stop full) (go_on (renumbered_task N (unifying ((x, e) ∷ bs) ps)))) (room q), (((i, j), b), p))
    rest_alike (o ∷ os) h = (refl, (b, i, j, h.0, h.1, p))

    test_alike : (w : View) → InsideView I P w → (os : List Expression) → Each (InsideExpression I) os
        → TurnAlike N I (test_one isFull w bs x e os ps) (test_one isFull' (renumbered_view N w) (map (renumbered_binding N) bs) (renumbered_expression N x) (renumbered_expression N e) (map (renumbered_expression N) os) (map (renumbered_pair N) ps))
    test_alike (unbound v d) k os h = rw (same_renumbered N d x (one_row d.0 x.0 k i)) (try (same d x))
      where
        try : (c : Bool) → TurnAlike N I (pick c (stop occurs) (test_rest isFull bs x e os ps))
            (pick c (stop occurs) (test_rest isFull' (map (renumbered_binding N) bs) (renumbered_expression N x) (renumbered_expression N e) (map (renumbered_expression N) os) (map (renumbered_pair N) ps)))
        try true = tt
        try false = rest_alike os h
    test_alike (applied s xs d) k os h = rw (arguments_renumbered N xs d.1 os) (rest_alike (arguments xs d.1 os) (arguments_inside I xs d.1 os k.1 h))
    test_alike (link d) k os h = tt

module _ {N : Renumbering} {I P : ℕ → Type 0} {row row' : ℕ → Row} (R : Renumbers N I P row row') {ρ ρ' : Environment} (E : RenumbersEnvironment N I ρ ρ') (links : ℕ)
    (isFull isFull' : List Binding → Bool) (room : (bs : List Binding) → isFull bs ≡ false → isFull' (map (renumbered_binding N) bs) ≡ false) where
  seen : (bs : List Binding) → Each (InsideBinding I) bs → (e : Expression) → I e.0 → follow row' links (extend ρ' (map (renumbered_binding N) bs)) (renumbered_expression N e) ≡ renumbered_view N (follow row links (extend ρ bs) e)
  seen bs b e i = follow_renumbered R (extend_renumbered R.one_row E bs b) links e i

  seen_inside : (bs : List Binding) → Each (InsideBinding I) bs → (e : Expression) → I e.0 → InsideView I P (follow row links (extend ρ bs) e)
  seen_inside bs b e i = follow_inside R (extend_renumbered R.one_row E bs b) links e i

  turn_alike : (s : Task) → InsideTask I s → TurnAlike N I (turn row links isFull ρ s) (turn row' links isFull' ρ' (renumbered_task N s))
  turn_alike (unifying bs []) h = (refl, h.0)
  turn_alike (unifying bs (p ∷ ps)) h =
      rw (seen bs h.0 p.0 h.1.0.0, seen bs h.0 p.1 h.1.0.1)
      (meet_alike N I P R.one_row R.one_symbol bs h.0 ps h.1.1 (follow row links (extend ρ bs) p.0) (follow row links (extend ρ bs) p.1) (seen_inside bs h.0 p.0 h.1.0.0) (seen_inside bs h.0 p.1 h.1.0.1))
  turn_alike (testing bs x e o os ps) h =
      rw (seen bs h.0 o h.3)
      (test_alike N I P R.one_row R.one_symbol bs h.0 ps h.5 isFull isFull' (room bs) x e h.1 h.2 (follow row links (extend ρ bs) o) (seen_inside bs h.0 o h.3) os h.4)

  run_alike : (n : ℕ) (s : Task) → InsideTask I s → OutcomeAlike N I (run row links isFull ρ n s) (run row' links isFull' ρ' n (renumbered_task N s))
  unfolding run
  run_alike zero s h = without_work_alike N I (turn row links isFull ρ s) (turn row' links isFull' ρ' (renumbered_task N s)) (turn_alike s h)
  run_alike (suc n) s h = with_work_alike N I (λ t. run row links isFull ρ n t) (λ t. run row' links isFull' ρ' n t) (suc n) (λ t k. run_alike n t k) (turn row links isFull ρ s) (turn row' links isFull' ρ' (renumbered_task N s)) (turn_alike s h)

-- Where fewer bindings are held, there is room wherever there was.
room_kept : (N : Renumbering) (held held' : ℕ) → held' ≤ held → (bs : List Binding) → no_room held bs ≡ false → no_room held' (map (renumbered_binding N) bs) ≡ false
room_kept N held held' l bs q = try (no_room held' (map (renumbered_binding N) bs)) refl
  where
    try : (c : Bool) → no_room held' (map (renumbered_binding N) bs) ≡ c → c ≡ false
    try true e =
        let a : most_bindings ≤ held' + length (map (renumbered_binding N) bs) = leb→le most_bindings (held' + length (map (renumbered_binding N) bs)) (to_t (no_room held' (map (renumbered_binding N) bs)) e) in
        let c : held + length bs < most_bindings = nleb→lt most_bindings (held + length bs) (rw q tt) in
        let d = length-map bs (renumbered_binding N) in
        absurd (omega arith)
    try false e = refl

pub unify_renumbered : {N : Renumbering} {I P : ℕ → Type 0} {row row' : ℕ → Row} → Renumbers N I P row row' → {ρ ρ' : Environment} → RenumbersEnvironment N I ρ ρ' → (held held' : ℕ) → held' ≤ held → (ps : List Pair) → Each (InsidePair I) ps
    → (bs : List Binding) (n : ℕ) → unify row held ρ ps ≡ unified bs n → (unify row' held' ρ' (map (renumbered_pair N) ps) ≡ unified (map (renumbered_binding N) bs) n) × Each (InsideBinding I) bs
unify_renumbered {N} R E held held' l ps p bs n q =
    rw q at (run_alike R E most_links (no_room held) (no_room held') (room_kept N held held' l) most_work (unifying [] ps) (tt, p))
