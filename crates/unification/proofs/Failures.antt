-- Unification fails exactly as stated: each failure comes with what the machine had come to, and what it had come to gives the failure. Where it
-- succeeds, the machine has come to nothing left to do.
use mathlib.Core.Path.{◌≡◌, refl, sym, ap, ap₂, ◌∙◌, subst}
use mathlib.Core.Bool.{Bool, true, false}
use mathlib.Core.List.{List, [], ◌∷◌}
use Prim.Native.Nat.{ℕ, zero, suc, ◌+◌, ◌-◌, ◌≤◌, ◌<◌}
use native.Mathlib.Nat.{add-zero, suc-add, zero-add}
use native.Mathlib.Omega.{arith}
use lib.Dec.{eqb, eqb→eq}
use Rattle.record.specs.Record.{pick}
use Rattle.unification.specs.Environment.{follow, Binding, Environment, extend, unbound, link, View, applied}
use Rattle.unification.specs.Failing.{Waiting, Failing, symbols_differ, variable_occurs, work_done, bindings_held}
use Rattle.unification.specs.Row.{Row, application, Expression, Variable, same}
use Rattle.unification.specs.Unification.{turn, endless, Failure, clash, occurs, overwork, full, unified, failed, Pair, Task, unifying, testing, Turn, finished, go_on, stop, arguments, argument_pairs, meet, test_rest, test_one, without_work, with_work, run, Reaches, no_turn, one_turn}
use Rattle.unification.proofs.Tests.{to_t, same_eq, same_refl}
use Rattle.unification.proofs.Turns.{Goes, m_full, m_bind, m_more, Move, m_finished, m_same, m_left, m_right, m_args, m_clash, m_endless, m_occurs, m_other, m_into, m_endless_test, seen_ends, moves}

failed_injective : {q r : Failure} → failed q ≡ failed r → q ≡ r
failed_injective p = cc

unified_not_failed : {bs : List Binding} {n : ℕ} {r : Failure} → unified bs n ≡ failed r → ⊥
unified_not_failed p = let z : ◌≡◌ {A = ℕ} 0 1 = cc in omega arith

module _ (row : ℕ → Row) (links : ℕ) (isFull : List Binding → Bool) (base : Environment) where
  abbrev F : ℕ → Task → Failure → Type 0
  F n s r = Failing row links isFull base n s r

  -- One more turn before.
  later : (n : ℕ) (s t : Task) → turn row links isFull base s ≡ go_on t → (r : Failure) → F n t r → F (suc n) s r
  later n s t q r (symbols_differ h l a b k) = symbols_differ (one_turn q h) (omega arith) a b k
  later n s t q r (variable_occurs h l a) = variable_occurs (one_turn q h) (omega arith) a
  later n s t q r (work_done h w) = work_done (one_turn q h) w
  later n s t q r (bindings_held h l a b) = bindings_held (one_turn q h) (omega arith) a b

  -- A turn that stops.
  abbrev Stops : ℕ → Task → Turn → Type 0
  Stops n s (finished bs) = Unit {0}
  Stops n s (go_on t) = Unit {0}
  Stops n s (stop r) = ¬ (r ≡ endless) → F (suc n) s r

  stops_goes : (n : ℕ) (bs : List Binding) (x : Variable) (e o : Expression) (os : List Expression) (ps : List Pair) (rest : List Expression) (t : Turn) → Goes row links isFull base bs x e ps rest t
      → test_one (λ _. false) (follow row links (extend base bs) o) bs x e os ps ≡ test_rest (λ _. false) bs x e rest ps → Stops n (testing bs x e o os ps) t
  stops_goes n bs x e o os ps rest t (m_full q) z = λ _. bindings_held no_turn (omega arith) z q
  stops_goes n bs x e o os ps rest t (m_bind q) z = tt
  stops_goes n bs x e o os ps rest t m_more z = tt

  stops : (n : ℕ) (s : Task) (t : Turn) → Move row links isFull base s t → Stops n s t
  stops n s t m_finished = tt
  stops n s t (m_same v w f g q) = tt
  stops n s t (m_left v e w f g k q) = tt
  stops n s t (m_right u xs e w d f g) = tt
  stops n s t (m_args u xs e ys d f g) = tt
  stops n s t (m_clash u xs e w ys d f g q) = λ _. symbols_differ no_turn (omega arith) f g q
  stops n s t (m_endless o d f z) = λ k. absurd (k refl)
  stops n s t (m_occurs {bs} {x} {e} {o} {os} {ps} v d f q) = λ _. variable_occurs {bs = bs} {x = x} {e = e} {o = o} {os = os} {ps = ps} {v = v} no_turn (omega arith) (f ∙ ap (unbound v) q)
  stops n s t (m_other {bs} {x} {e} {o} {os} {ps} v d f k m) = stops_goes n bs x e o os ps os t m (ap (λ w. test_one (λ _. false) w bs x e os ps) f ∙ other (same d x) refl)
    where
      other : (b : Bool) → same d x ≡ b → pick b (stop occurs) (test_rest (λ _. false) bs x e os ps) ≡ test_rest (λ _. false) bs x e os ps
      other true q = absurd (k (same_eq d x q))
      other false q = refl
  stops n s t (m_into {bs} {x} {e} {o} {os} {ps} u xs d f m) = stops_goes n bs x e o os ps (arguments xs d.1 os) t m (ap (λ w. test_one (λ _. false) w bs x e os ps) f)
  stops n s t (m_endless_test d f) = λ k. absurd (k refl)

  waiting : (s : Task) → ((bs : List Binding) → ¬ (turn row links isFull base s ≡ finished bs)) → Waiting s
  waiting (unifying bs []) h = h bs refl
  waiting (unifying bs (p ∷ ps)) h = tt
  waiting (testing bs x e o os ps) h = tt

  not_go_on : {bs : List Binding} {t : Task} → go_on t ≡ finished bs → ⊥
  not_go_on p = let z : ◌≡◌ {A = ℕ} 0 1 = cc in omega arith

  not_stop : {bs : List Binding} {r : Failure} → stop r ≡ finished bs → ⊥
  not_stop p = let z : ◌≡◌ {A = ℕ} 0 1 = cc in omega arith

  pub fails : (n : ℕ) (s : Task) (r : Failure) → run row links isFull base n s ≡ failed r → ¬ (r ≡ endless) → Failing row links isFull base n s r
  unfolding run
  fails zero s r q k = try (turn row links isFull base s) refl q
    where
      over : Waiting s → failed overwork ≡ failed r → F zero s r
      over w p = subst (F zero s) (failed_injective p) (work_done no_turn w)

      try : (t : Turn) → turn row links isFull base s ≡ t → without_work t ≡ failed r → F zero s r
      try (finished bs) p z = absurd (unified_not_failed z)
      try (go_on t) p z = over (waiting s (λ bs y. not_go_on (sym p ∙ y))) z
      try (stop f) p z = over (waiting s (λ bs y. not_stop (sym p ∙ y))) z
  fails (suc n) s r q k = try (λ t z. fails n t r z k) (turn row links isFull base s) refl (stops n s (turn row links isFull base s) (moves row links isFull base s)) q
    where
      try : ((t : Task) → run row links isFull base n t ≡ failed r → F n t r) → (t : Turn) → turn row links isFull base s ≡ t → Stops n s t → with_work (λ t. run row links isFull base n t) (suc n) t ≡ failed r → F (suc n) s r
      try ih (finished bs) p c z = absurd (unified_not_failed z)
      try ih (go_on t) p c z = later n s t p r (ih t z)
      try ih (stop f) p c z = subst (F (suc n) s) (failed_injective z) (c (λ y. k (sym (failed_injective z) ∙ y)))

  -- The other way: where unification fails as stated, that is its answer.
  pub reached_run : (m : ℕ) (s t : Task) → Reaches row links isFull base m s t → (n k : ℕ) → k ≡ m + n → run row links isFull base k s ≡ run row links isFull base n t
  unfolding run
  reached_run m s t no_turn n k e = ap (λ (i : ℕ). run row links isFull base i s) (e ∙ zero-add n)
  reached_run m s t (one_turn {n = j} {t = u} q h) n k e =
      ap (λ (i : ℕ). run row links isFull base i s) (e ∙ suc-add j n)
      ∙ ap (with_work (λ z. run row links isFull base (j + n) z) (suc (j + n))) q
      ∙ reached_run j u t h n (j + n) refl

  -- With work left, a turn that stops is the answer.
  stopped : (m n : ℕ) (s t : Task) (r : Failure) → Reaches row links isFull base m s t → m < n → turn row links isFull base t ≡ stop r → run row links isFull base n s ≡ failed r
  unfolding run
  stopped m n s t r h l q =
      let e : n ≡ m + suc (n - suc m) = omega arith in
      reached_run m s t h (suc (n - suc m)) n e ∙ ap (with_work (λ z. run row links isFull base (n - suc m) z) (suc (n - suc m))) q

  out_of_work : (s : Task) → Waiting s → without_work (turn row links isFull base s) ≡ failed overwork
  out_of_work s w = by s (turn row links isFull base s) (moves row links isFull base s) w
    where
      rest : (bs : List Binding) (x : Variable) (e : Expression) (ps : List Pair) (os : List Expression) (t : Turn) → Goes row links isFull base bs x e ps os t → without_work t ≡ failed overwork
      rest bs x e ps os t (m_full q) = refl
      rest bs x e ps os t (m_bind q) = refl
      rest bs x e ps os t m_more = refl

      by : (s : Task) (t : Turn) → Move row links isFull base s t → Waiting s → without_work t ≡ failed overwork
      by s t m_finished w = absurd w
      by s t (m_same v w f g q) a = refl
      by s t (m_left v e w f g k q) a = refl
      by s t (m_right u xs e w d f g) a = refl
      by s t (m_args u xs e ys d f g) a = refl
      by s t (m_clash u xs e w ys d f g q) a = refl
      by s t (m_endless o d f z) a = refl
      by s t (m_occurs v d f q) a = refl
      by s t (m_other {bs} {x} {e} {o} {os} {ps} v d f k m) a = rest bs x e ps os t m
      by s t (m_into {bs} {x} {e} {o} {os} {ps} u xs d f m) a = rest bs x e ps (arguments xs d.1 os) t m
      by s t (m_endless_test d f) a = refl

  go_on_not_stop : {t : Task} {r : Failure} → stop r ≡ go_on t → ⊥
  go_on_not_stop p = let z : ◌≡◌ {A = ℕ} 0 1 = cc in omega arith

  testing_not_unifying : {bs cs : List Binding} {x : Variable} {e o : Expression} {os : List Expression} {ps qs : List Pair} → go_on (testing bs x e o os ps) ≡ go_on (unifying cs qs) → ⊥
  testing_not_unifying p = let z : ◌≡◌ {A = ℕ} 0 1 = cc in omega arith

  -- A turn that would bind, given room, stops where there is none.
  full_rest : (bs : List Binding) (x : Variable) (e : Expression) (ps : List Pair) (os : List Expression) → test_rest (λ _. false) bs x e os ps ≡ go_on (unifying ((x, e) ∷ bs) ps) → isFull bs ≡ true → test_rest isFull bs x e os ps ≡ stop full
  full_rest bs x e ps [] q f = ap (λ (b : Bool). pick b (stop full) (go_on (unifying ((x, e) ∷ bs) ps))) f
  full_rest bs x e ps (o ∷ os) q f = absurd (testing_not_unifying q)

  full_turn : (bs : List Binding) (x : Variable) (e : Expression) (os : List Expression) (ps : List Pair) (w : View) → test_one (λ _. false) w bs x e os ps ≡ go_on (unifying ((x, e) ∷ bs) ps) → isFull bs ≡ true → test_one isFull w bs x e os ps ≡ stop full
  full_turn bs x e os ps (unbound v d) q f = try (same d x) q
    where
      try : (b : Bool) → pick b (stop occurs) (test_rest (λ _. false) bs x e os ps) ≡ go_on (unifying ((x, e) ∷ bs) ps) → pick b (stop occurs) (test_rest isFull bs x e os ps) ≡ stop full
      try true z = absurd (go_on_not_stop z)
      try false z = full_rest bs x e ps os z f
  full_turn bs x e os ps (applied s xs d) q f = full_rest bs x e ps (arguments xs d.1 os) q f
  full_turn bs x e os ps (link d) q f = absurd (go_on_not_stop q)

  clash_turn : (bs : List Binding) (p : Pair) (ps : List Pair) (f g : ℕ) (xs ys : List ℕ) (e d : Expression) → follow row links (extend base bs) p.0 ≡ applied f xs e → follow row links (extend base bs) p.1 ≡ applied g ys d → ¬ (f ≡ g)
      → turn row links isFull base (unifying bs (p ∷ ps)) ≡ stop clash
  clash_turn bs p ps f g xs ys e d a b n = ap₂ (λ (v w : View). meet v w bs ps) a b ∙ apart (same e d) refl
    where
      one_row_lem : e ≡ d → f ≡ g
      one_row_lem q = row_symbol (sym (seen_ends row links isFull base bs p.0 (applied f xs e) a) ∙ ap (λ (c : Expression). row c.0) q ∙ seen_ends row links isFull base bs p.1 (applied g ys d) b)
        where
          row_symbol : application f xs ≡ application g ys → f ≡ g
          row_symbol z = cc

      symbols : (t : Bool) → eqb f g ≡ t → pick t (go_on (unifying bs (argument_pairs xs e.1 ys d.1 ps))) (stop clash) ≡ stop clash
      symbols true q = absurd (n (eqb→eq f g (to_t (eqb f g) q)))
      symbols false q = refl

      apart : (t : Bool) → same e d ≡ t → pick t (go_on (unifying bs ps)) (pick (eqb f g) (go_on (unifying bs (argument_pairs xs e.1 ys d.1 ps))) (stop clash)) ≡ stop clash
      apart true q = absurd (n (one_row_lem (same_eq e d q)))
      apart false q = symbols (eqb f g) refl

  pub failing_fails : (n : ℕ) (s : Task) (r : Failure) → Failing row links isFull base n s r → run row links isFull base n s ≡ failed r
  unfolding run
  failing_fails n s r (symbols_differ {m} {bs} {p} {ps} {f} {g} {xs} {ys} {e} {d} h l a b k) = stopped m n s (unifying bs (p ∷ ps)) clash h l (clash_turn bs p ps f g xs ys e d a b k)
  failing_fails n s r (variable_occurs {m} {bs} {x} {e} {o} {os} {ps} {v} h l a) =
      stopped m n s (testing bs x e o os ps) occurs h l (ap (λ (w : View). test_one isFull w bs x e os ps) a ∙ ap (λ (t : Bool). pick t (stop occurs) (test_rest isFull bs x e os ps)) (same_refl x))
  failing_fails n s r (work_done {t} h w) = reached_run n s t h 0 n (sym (add-zero n)) ∙ out_of_work t w
  failing_fails n s r (bindings_held {m} {bs} {x} {e} {o} {os} {ps} h l a b) = stopped m n s (testing bs x e o os ps) full h l (full_turn bs x e os ps (follow row links (extend base bs) o) a b)

  -- Success: the last turn found nothing to do.
  rest_not_finished : (bs : List Binding) (x : Variable) (e : Expression) (ps : List Pair) (os : List Expression) (t : Turn) → Goes row links isFull base bs x e ps os t → (cs : List Binding) → ¬ (t ≡ finished cs)
  rest_not_finished bs x e ps os t (m_full q) cs z = not_stop z
  rest_not_finished bs x e ps os t (m_bind q) cs z = not_go_on z
  rest_not_finished bs x e ps os t m_more cs z = not_go_on z

  at_end_lem : (s : Task) (t : Turn) → Move row links isFull base s t → (cs : List Binding) → t ≡ finished cs → s ≡ unifying cs []
  at_end_lem s t m_finished cs z = cc
  at_end_lem s t (m_same v w f g q) cs z = absurd (not_go_on z)
  at_end_lem s t (m_left v e w f g k q) cs z = absurd (not_go_on z)
  at_end_lem s t (m_right u xs e w d f g) cs z = absurd (not_go_on z)
  at_end_lem s t (m_args u xs e ys d f g) cs z = absurd (not_go_on z)
  at_end_lem s t (m_clash u xs e w ys d f g q) cs z = absurd (not_stop z)
  at_end_lem s t (m_endless o d f q) cs z = absurd (not_stop z)
  at_end_lem s t (m_occurs v d f q) cs z = absurd (not_stop z)
  at_end_lem s t (m_other {bs} {x} {e} {o} {os} {ps} v d f k m) cs z = absurd (rest_not_finished bs x e ps os t m cs z)
  at_end_lem s t (m_into {bs} {x} {e} {o} {os} {ps} u xs d f m) cs z = absurd (rest_not_finished bs x e ps (arguments xs d.1 os) t m cs z)
  at_end_lem s t (m_endless_test d f) cs z = absurd (not_stop z)

  failed_not_unified : {bs : List Binding} {n : ℕ} {r : Failure} → failed r ≡ unified bs n → ⊥
  failed_not_unified p = let z : ◌≡◌ {A = ℕ} 0 1 = cc in omega arith

  abbrev Finishes : ℕ → Task → List Binding → Type 0
  Finishes n s bs = (k : ℕ) × (k ≤ n) × Reaches row links isFull base k s (unifying bs [])

  finishes_here : (n : ℕ) (s : Task) (bs cs : List Binding) (i m : ℕ) → turn row links isFull base s ≡ finished cs → unified cs i ≡ unified bs m → Finishes n s bs
  finishes_here n s bs cs i m p z =
      let e : s ≡ unifying cs [] = at_end_lem s (turn row links isFull base s) (moves row links isFull base s) cs p in
      let c : cs ≡ bs = cc in
      (0, omega arith, subst (Reaches row links isFull base 0 s) (e ∙ ap (λ (ds : List Binding). unifying ds []) c) no_turn)

  pub unified_reached : (n : ℕ) (s : Task) (bs : List Binding) (m : ℕ) → run row links isFull base n s ≡ unified bs m → (k : ℕ) × (k ≤ n) × Reaches row links isFull base k s (unifying bs [])
  unfolding run
  unified_reached zero s bs m q = try (turn row links isFull base s) refl q
    where
      try : (t : Turn) → turn row links isFull base s ≡ t → without_work t ≡ unified bs m → Finishes zero s bs
      try (finished cs) p z = finishes_here 0 s bs cs 0 m p z
      try (go_on t) p z = absurd (failed_not_unified z)
      try (stop f) p z = absurd (failed_not_unified z)
  unified_reached (suc n) s bs m q = try (λ t z. unified_reached n t bs m z) (turn row links isFull base s) refl q
    where
      try : ((t : Task) → run row links isFull base n t ≡ unified bs m → Finishes n t bs) → (t : Turn) → turn row links isFull base s ≡ t → with_work (λ t. run row links isFull base n t) (suc n) t ≡ unified bs m → Finishes (suc n) s bs
      try ih (finished cs) p z = finishes_here (suc n) s bs cs (suc n) m p z
      try ih (go_on t) p z = let f = ih t z in (suc f.0, omega (arith, f.1), one_turn p f.2)
      try ih (stop f) p z = absurd (failed_not_unified z)
