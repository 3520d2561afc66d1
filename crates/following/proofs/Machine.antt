-- How what the machine does with a pair, with arguments and in an occurrence test is put together from parts.
use mathlib.Core.Path.{◌≡◌, refl, ap, ap₂, ◌∙◌}
use mathlib.Core.Bool.{Bool, true, false}
use mathlib.Core.List.{List, [], ◌∷◌}
use Prim.Native.Nat.{ℕ, zero, suc}
use lib.Dec.{eqb, eqb_refl}
use Rattle.record.specs.Record.{pick}
use Rattle.unification.specs.Environment.{follow, Binding, Environment, extend, unbound, link, View, applied, Ends}
use Rattle.unification.specs.Row.{Row, Expression, same}
use Rattle.unification.specs.Unification.{Failure, clash, occurs, overwork, full, Outcome, unified, failed, Pair, Task, unifying, testing, Turn, go_on, stop, arguments, argument_pairs, meet, test_rest, test_one, without_work, with_work, run}
use Rattle.following.specs.Walks.{absent, Tested, broken, then_run, then_test, PairRuns, ArgumentsRun, TestRuns, TestsRun, bind_outcome}
use Rattle.unification.proofs.Meaning.{expression_of}
use Rattle.unification.proofs.Tests.{from_t}

module _ (row : ℕ → Row) (links : ℕ) (isFull : List Binding → Bool) (base : Environment) where
  abbrev R : ℕ → Task → Outcome
  R n s = run row links isFull base n s

  abbrev F : List Binding → Expression → View
  F bs e = follow row links (extend base bs) e

  then_nil : (r : Outcome) → then_run row links isFull base r [] ≡ r
  unfolding run
  then_nil (unified bs zero) = refl
  then_nil (unified bs (suc n)) = refl
  then_nil (failed r) = refl

  pub whole : (n : ℕ) (e d : Expression) (r : Outcome) → PairRuns row links isFull base n [] e d r → run row links isFull base n (unifying [] ((e, d) ∷ [])) ≡ r
  whole n e d r h = h [] ∙ then_nil r

  -- One turn, once both sides are followed.
  pub pair_turn : (n : ℕ) (bs : List Binding) (e d : Expression) (v w : View) → F bs e ≡ v → F bs d ≡ w → (ps : List Pair) → R (suc n) (unifying bs ((e, d) ∷ ps)) ≡ with_work (λ s. R n s) (suc n) (meet v w bs ps)
  unfolding run
  pair_turn n bs e d v w p q ps = ap₂ (λ v w. with_work (λ s. R n s) (suc n) (meet v w bs ps)) p q

  spent_pick : (b : Bool) (s t : Turn) → without_work s ≡ failed overwork → without_work t ≡ failed overwork → without_work (pick b s t) ≡ failed overwork
  spent_pick true s t p q = p
  spent_pick false s t p q = q

  meet_spent : (v w : View) (bs : List Binding) (ps : List Pair) → without_work (meet v w bs ps) ≡ failed overwork
  meet_spent (unbound v e) (unbound w d) bs ps = spent_pick (same e d) (go_on (unifying bs ps)) (go_on (testing bs e d d [] ps)) refl refl
  meet_spent (unbound v e) (applied t ys d) bs ps = refl
  meet_spent (unbound v e) (link d) bs ps = refl
  meet_spent (applied s xs e) (unbound w d) bs ps = refl
  meet_spent (applied s xs e) (applied t ys d) bs ps = spent_pick (same e d) (go_on (unifying bs ps)) (pick (eqb s t) (go_on (unifying bs (argument_pairs xs e.1 ys d.1 ps))) (stop clash)) refl (spent_pick (eqb s t) (go_on (unifying bs (argument_pairs xs e.1 ys d.1 ps))) (stop clash) refl refl)
  meet_spent (applied s xs e) (link d) bs ps = refl
  meet_spent (link e) w bs ps = refl

  pub pair_spent : (bs : List Binding) (e d : Expression) → PairRuns row links isFull base 0 bs e d (failed overwork)
  unfolding run
  pair_spent bs e d ps = meet_spent (F bs e) (F bs d) bs ps

  pub pair_same : (n : ℕ) (bs : List Binding) (e d : Expression) (v w : View) → F bs e ≡ v → F bs d ≡ w → Ends v → expression_of v ≡ expression_of w → ((ps : List Pair) → meet v w bs ps ≡ go_on (unifying bs ps)) → PairRuns row links isFull base (suc n) bs e d (unified bs n)
  pair_same n bs e d v w p q z y k ps = pair_turn n bs e d v w p q ps ∙ ap (with_work (λ s. R n s) (suc n)) (k ps)

  pub pair_args : (n : ℕ) (bs : List Binding) (e d : Expression) (s : ℕ) (xs ys : List ℕ) (e' d' : Expression) → F bs e ≡ applied s xs e' → F bs d ≡ applied s ys d' → same e' d' ≡ false → (r : Outcome) → ArgumentsRun row links isFull base n bs xs e'.1 ys d'.1 r → PairRuns row links isFull base (suc n) bs e d r
  pair_args n bs e d s xs ys e' d' p q z r h ps =
      pair_turn n bs e d (applied s xs e') (applied s ys d') p q ps
      ∙ ap₂ (λ b c. with_work (λ t. R n t) (suc n) (pick b (go_on (unifying bs ps)) (pick c (go_on (unifying bs (argument_pairs xs e'.1 ys d'.1 ps))) (stop clash)))) z (from_t (eqb s s) (eqb_refl s))
      ∙ h ps

  pub pair_clash : (n : ℕ) (bs : List Binding) (e d : Expression) (s t : ℕ) (xs ys : List ℕ) (e' d' : Expression) → F bs e ≡ applied s xs e' → F bs d ≡ applied t ys d' → same e' d' ≡ false → eqb s t ≡ false → PairRuns row links isFull base (suc n) bs e d (failed clash)
  pair_clash n bs e d s t xs ys e' d' p q z y ps =
      pair_turn n bs e d (applied s xs e') (applied t ys d') p q ps
      ∙ ap₂ (λ b c. with_work (λ t. R n t) (suc n) (pick b (go_on (unifying bs ps)) (pick c (go_on (unifying bs (argument_pairs xs e'.1 ys d'.1 ps))) (stop clash)))) z y

  -- The machine on a pair whose sides were followed.
  abbrev pub MeetRuns : ℕ → List Binding → View → View → Outcome → Type 0
  MeetRuns n bs v w r = (ps : List Pair) → with_work (λ s. R n s) (suc n) (meet v w bs ps) ≡ then_run row links isFull base r ps

  -- The left side is an unbound variable: what the occurrence test comes to decides.
  bind_then : (o : Tested) (bs : List Binding) (x : Expression) (d : Expression) (ps : List Pair) → then_test row links isFull base o bs x d [] ps ≡ then_run row links isFull base (bind_outcome row links isFull base o bs x d) ps
  bind_then (absent n) bs x d ps = try (isFull bs)
    where
      try : (b : Bool) → with_work (λ s. R n s) 0 (pick b (stop full) (go_on (unifying ((x, d) ∷ bs) ps))) ≡ then_run row links isFull base (pick b (failed full) (unified ((x, d) ∷ bs) n)) ps
      try true = refl
      try false = refl
  bind_then (broken r) bs x d ps = refl

  pub meet_left : (n : ℕ) (bs : List Binding) (v : ℕ) (e' : Expression) (w : View) → Ends w → same e' (expression_of w) ≡ false → (o : Tested) → TestRuns row links isFull base n bs e' (expression_of w) (expression_of w) o
      → MeetRuns n bs (unbound v e') w (bind_outcome row links isFull base o bs e' (expression_of w))
  meet_left n bs v e' (unbound u d') z y o h ps =
      ap (λ b. with_work (λ t. R n t) (suc n) (pick b (go_on (unifying bs ps)) (go_on (testing bs e' d' d' [] ps)))) y ∙ h [] ps ∙ bind_then o bs e' d' ps
  meet_left n bs v e' (applied t ys d') z y o h ps = h [] ps ∙ bind_then o bs e' d' ps
  meet_left n bs v e' (link d') z y o h ps = absurd z

  pub pair_right : (n : ℕ) (bs : List Binding) (e d : Expression) (s : ℕ) (xs : List ℕ) (e' : Expression) (w : ℕ) (d' : Expression) → F bs e ≡ applied s xs e' → F bs d ≡ unbound w d' → (o : Tested) → TestRuns row links isFull base n bs d' e' e' o → PairRuns row links isFull base (suc n) bs e d (bind_outcome row links isFull base o bs d' e')
  pair_right n bs e d s xs e' w d' p q o h ps = pair_turn n bs e d (applied s xs e') (unbound w d') p q ps ∙ h [] ps ∙ bind_then o bs d' e' ps

  pub arguments_none : (n : ℕ) (bs : List Binding) (i : ℕ) (ys : List ℕ) (j : ℕ) → ArgumentsRun row links isFull base n bs [] i ys j (unified bs n)
  unfolding run
  arguments_none n bs i ys j ps = refl

  pub arguments_next : (n : ℕ) (bs : List Binding) (x i y j : ℕ) (xs ys : List ℕ) (bs' : List Binding) (n' : ℕ) (r : Outcome) → PairRuns row links isFull base n bs (x, i) (y, j) (unified bs' n') → ArgumentsRun row links isFull base n' bs' xs i ys j r → ArgumentsRun row links isFull base n bs (x ∷ xs) i (y ∷ ys) j r
  arguments_next n bs x i y j xs ys bs' n' r h k ps = h (argument_pairs xs i ys j ps) ∙ k ps

  pub arguments_failed : (n : ℕ) (bs : List Binding) (x i y j : ℕ) (xs ys : List ℕ) (q : Failure) → PairRuns row links isFull base n bs (x, i) (y, j) (failed q) → ArgumentsRun row links isFull base n bs (x ∷ xs) i (y ∷ ys) j (failed q)
  arguments_failed n bs x i y j xs ys q h ps = h (argument_pairs xs i ys j ps)

  -- The occurrence test.
  test_turn : (n : ℕ) (bs : List Binding) (x : Expression) (e o : Expression) (w : View) → F bs o ≡ w → (os : List Expression) (ps : List Pair) → R (suc n) (testing bs x e o os ps) ≡ with_work (λ s. R n s) (suc n) (test_one isFull w bs x e os ps)
  unfolding run
  test_turn n bs x e o w p os ps = ap (λ w. with_work (λ s. R n s) (suc n) (test_one isFull w bs x e os ps)) p

  rest_any : (n m k : ℕ) (bs : List Binding) (x : Expression) (e : Expression) (os : List Expression) (ps : List Pair) → with_work (λ s. R n s) m (test_rest isFull bs x e os ps) ≡ with_work (λ s. R n s) k (test_rest isFull bs x e os ps)
  rest_any n m k bs x e [] ps = try (isFull bs)
    where
      try : (b : Bool) → with_work (λ s. R n s) m (pick b (stop full) (go_on (unifying ((x, e) ∷ bs) ps))) ≡ with_work (λ s. R n s) k (pick b (stop full) (go_on (unifying ((x, e) ∷ bs) ps)))
      try true = refl
      try false = refl
  rest_any n m k bs x e (o ∷ os) ps = refl

  pub test_found : (n : ℕ) (bs : List Binding) (x : Expression) (e o : Expression) (v : ℕ) (d : Expression) → F bs o ≡ unbound v d → same d x ≡ true → TestRuns row links isFull base (suc n) bs x e o (broken occurs)
  test_found n bs x e o v d p q os ps = test_turn n bs x e o (unbound v d) p os ps ∙ ap (λ b. with_work (λ s. R n s) (suc n) (pick b (stop occurs) (test_rest isFull bs x e os ps))) q

  pub test_other : (n : ℕ) (bs : List Binding) (x : Expression) (e o : Expression) (v : ℕ) (d : Expression) → F bs o ≡ unbound v d → same d x ≡ false → TestRuns row links isFull base (suc n) bs x e o (absent n)
  test_other n bs x e o v d p q os ps = test_turn n bs x e o (unbound v d) p os ps ∙ ap (λ b. with_work (λ s. R n s) (suc n) (pick b (stop occurs) (test_rest isFull bs x e os ps))) q ∙ rest_any n (suc n) 0 bs x e os ps

  pub test_into : (n : ℕ) (bs : List Binding) (x : Expression) (e o : Expression) (s : ℕ) (xs : List ℕ) (d : Expression) (r : Tested) → F bs o ≡ applied s xs d → TestsRun row links isFull base n bs x e xs d.1 r → TestRuns row links isFull base (suc n) bs x e o r
  test_into n bs x e o s xs d r p h os ps = test_turn n bs x e o (applied s xs d) p os ps ∙ rest_any n (suc n) 0 bs x e (arguments xs d.1 os) ps ∙ h os ps

  pub tests_none : (n : ℕ) (bs : List Binding) (x : Expression) (e : Expression) (i : ℕ) → TestsRun row links isFull base n bs x e [] i (absent n)
  tests_none n bs x e i os ps = refl

  pub tests_next : (n : ℕ) (bs : List Binding) (x : Expression) (e : Expression) (a i : ℕ) (xs : List ℕ) (n' : ℕ) (r : Tested) → TestRuns row links isFull base n bs x e (a, i) (absent n') → TestsRun row links isFull base n' bs x e xs i r → TestsRun row links isFull base n bs x e (a ∷ xs) i r
  tests_next n bs x e a i xs n' r h k os ps = h (arguments xs i os) ps ∙ k os ps

  pub tests_broken : (n : ℕ) (bs : List Binding) (x : Expression) (e : Expression) (a i : ℕ) (xs : List ℕ) (q : Failure) → TestRuns row links isFull base n bs x e (a, i) (broken q) → TestsRun row links isFull base n bs x e (a ∷ xs) i (broken q)
  tests_broken n bs x e a i xs q h os ps = h (arguments xs i os) ps
