-- Every move of the machine, with what was seen: the tests are taken apart here once.
use mathlib.Core.Path.{◌≡◌, refl, sym, ap, ◌∙◌}
use mathlib.Core.Logic.{◌⊎◌, inl, inr}
use mathlib.Core.Bool.{Bool, true, false}
use mathlib.Core.List.{List, [], ◌∷◌}
use Prim.Native.Nat.{ℕ, zero, suc}
use native.Mathlib.Omega.{arith}
use lib.Dec.{eqb, eqb→eq, eqb_refl}
use Rattle.record.specs.Record.{pick}
use Rattle.unification.specs.Environment.{follow, Binding, Environment, extend, unbound, link, View, applied, Ends}
use Rattle.unification.specs.Row.{variable, Row, application, Expression, Variable, same}
use Rattle.unification.specs.Unification.{turn, endless, clash, occurs, overwork, full, Outcome, unified, failed, Pair, Task, unifying, testing, Turn, finished, go_on, stop, arguments, argument_pairs, meet, test_rest, test_one, without_work, with_work, run}
use Rattle.unification.proofs.Meaning.{expression_of, Ended, follow_ends}
use Rattle.unification.proofs.Tests.{to_t, from_t, same_eq, same_refl, true_not_false}

module _ (row : ℕ → Row) (links : ℕ) (isFull : List Binding → Bool) (base : Environment) where
  abbrev pub Seen : List Binding → Expression → View → Type 0
  Seen bs e w = follow row links (extend base bs) e ≡ w

  -- the occurrence test_rest of x in e goes link with these
  pub data Goes (bs : List Binding) (x : Variable) (e : Expression) (ps : List Pair) : List Expression → Turn → Type 0 where
    m_full : isFull bs ≡ true → Goes bs x e ps [] (stop full)
    m_bind : isFull bs ≡ false → Goes bs x e ps [] (go_on (unifying ((x, e) ∷ bs) ps))
    m_more : {o : Expression} {os : List Expression} → Goes bs x e ps (o ∷ os) (go_on (testing bs x e o os ps))

  pub data Move : Task → Turn → Type 0 where
    m_finished : {bs : List Binding} → Move (unifying bs []) (finished bs)
    m_same : {bs : List Binding} {p : Pair} {ps : List Pair} (v w : View) → Seen bs p.0 v → Seen bs p.1 w → expression_of v ≡ expression_of w → Move (unifying bs (p ∷ ps)) (go_on (unifying bs ps))
    m_left : {bs : List Binding} {p : Pair} {ps : List Pair} (v : ℕ) (e : Expression) (w : View) → Seen bs p.0 (unbound v e) → Seen bs p.1 w → Ends w → ¬ (e ≡ expression_of w) → Move (unifying bs (p ∷ ps)) (go_on (testing bs e (expression_of w) (expression_of w) [] ps))
    m_right : {bs : List Binding} {p : Pair} {ps : List Pair} (s : ℕ) (xs : List ℕ) (e : Expression) (w : ℕ) (d : Expression) → Seen bs p.0 (applied s xs e) → Seen bs p.1 (unbound w d) → Move (unifying bs (p ∷ ps)) (go_on (testing bs d e e [] ps))
    m_args : {bs : List Binding} {p : Pair} {ps : List Pair} (s : ℕ) (xs : List ℕ) (e : Expression) (ys : List ℕ) (d : Expression) → Seen bs p.0 (applied s xs e) → Seen bs p.1 (applied s ys d) → Move (unifying bs (p ∷ ps)) (go_on (unifying bs (argument_pairs xs e.1 ys d.1 ps)))
    m_clash : {bs : List Binding} {p : Pair} {ps : List Pair} (s : ℕ) (xs : List ℕ) (e : Expression) (t : ℕ) (ys : List ℕ) (d : Expression) → Seen bs p.0 (applied s xs e) → Seen bs p.1 (applied t ys d) → ¬ (s ≡ t) → Move (unifying bs (p ∷ ps)) (stop clash)
    m_endless : {bs : List Binding} {p : Pair} {ps : List Pair} (o d : Expression) → Seen bs o (link d) → (o ≡ p.0) ⊎ (o ≡ p.1) → Move (unifying bs (p ∷ ps)) (stop endless)
    m_occurs : {bs : List Binding} {x : Variable} {e o : Expression} {os : List Expression} {ps : List Pair} (v : ℕ) (d : Expression) → Seen bs o (unbound v d) → d ≡ x → Move (testing bs x e o os ps) (stop occurs)
    m_other : {bs : List Binding} {x : Variable} {e o : Expression} {os : List Expression} {ps : List Pair} {t : Turn} (v : ℕ) (d : Expression) → Seen bs o (unbound v d) → ¬ (d ≡ x) → Goes bs x e ps os t → Move (testing bs x e o os ps) t
    m_into : {bs : List Binding} {x : Variable} {e o : Expression} {os : List Expression} {ps : List Pair} {t : Turn} (s : ℕ) (xs : List ℕ) (d : Expression) → Seen bs o (applied s xs d) → Goes bs x e ps (arguments xs d.1 os) t → Move (testing bs x e o os ps) t
    m_endless_test : {bs : List Binding} {x : Variable} {e o : Expression} {os : List Expression} {ps : List Pair} (d : Expression) → Seen bs o (link d) → Move (testing bs x e o os ps) (stop endless)

  pub seen_ends : (bs : List Binding) (e : Expression) (w : View) → Seen bs e w → Ended row (extend base bs) w
  seen_ends bs e w q = rw q at (follow_ends row links (extend base bs) e)

  no_row : {r v s : ℕ} {xs : List ℕ} → row r ≡ variable v → row r ≡ application s xs → ⊥
  no_row p q = let z : ◌≡◌ {A = ℕ} 0 1 = cc in omega arith

  differ : (x y : ℕ × ℕ) → same x y ≡ false → ¬ (x ≡ y)
  differ x y n p = true_not_false (ap (same x) (sym p) ∙ same_refl x) n

  goes : (bs : List Binding) (x : Variable) (e : Expression) (ps : List Pair) (os : List Expression) → Goes bs x e ps os (test_rest isFull bs x e os ps)
  goes bs x e ps [] = try (isFull bs) refl
    where
      try : (b : Bool) → isFull bs ≡ b → Goes bs x e ps [] (pick b (stop full) (go_on (unifying ((x, e) ∷ bs) ps)))
      try true q = m_full q
      try false q = m_bind q
  goes bs x e ps (o ∷ os) = m_more

  meets : (bs : List Binding) (p : Pair) (ps : List Pair) (v w : View) → Seen bs p.0 v → Seen bs p.1 w → Move (unifying bs (p ∷ ps)) (meet v w bs ps)
  meets bs p ps (unbound v e) (unbound w d) f g = try (same e d) refl
    where
      try : (b : Bool) → same e d ≡ b → Move (unifying bs (p ∷ ps)) (pick b (go_on (unifying bs ps)) (go_on (testing bs e d d [] ps)))
      try true q = m_same (unbound v e) (unbound w d) f g (same_eq e d q)
      try false q = m_left v e (unbound w d) f g tt (differ e d q)
  meets bs p ps (unbound v e) (applied t ys d) f g = m_left v e (applied t ys d) f g tt (λ q. no_row (seen_ends bs p.0 (unbound v e) f).0 (ap (λ (u : Expression). row u.0) q ∙ seen_ends bs p.1 (applied t ys d) g))
  meets bs p ps (unbound v e) (link d) f g = m_endless p.1 d g (inr refl)
  meets bs p ps (applied s xs e) (unbound w d) f g = m_right s xs e w d f g
  meets bs p ps (applied s xs e) (applied t ys d) f g = try (same e d) refl
    where
      sym? : (b : Bool) → eqb s t ≡ b → Move (unifying bs (p ∷ ps)) (pick b (go_on (unifying bs (argument_pairs xs e.1 ys d.1 ps))) (stop clash))
      sym? true q = m_args s xs e ys d f (g ∙ ap (λ u. applied u ys d) (sym (eqb→eq s t (to_t (eqb s t) q))))
      sym? false q = m_clash s xs e t ys d f g (λ r. true_not_false (ap (eqb s) (sym r) ∙ from_t (eqb s s) (eqb_refl s)) q)

      try : (b : Bool) → same e d ≡ b → Move (unifying bs (p ∷ ps)) (pick b (go_on (unifying bs ps)) (pick (eqb s t) (go_on (unifying bs (argument_pairs xs e.1 ys d.1 ps))) (stop clash)))
      try true q = m_same (applied s xs e) (applied t ys d) f g (same_eq e d q)
      try false q = sym? (eqb s t) refl
  meets bs p ps (applied s xs e) (link d) f g = m_endless p.1 d g (inr refl)
  meets bs p ps (link e) w f g = m_endless p.0 e f (inl refl)

  checks : (bs : List Binding) (x : Variable) (e o : Expression) (os : List Expression) (ps : List Pair) (w : View) → Seen bs o w → Move (testing bs x e o os ps) (test_one isFull w bs x e os ps)
  checks bs x e o os ps (unbound v d) f = try (same d x) refl
    where
      try : (b : Bool) → same d x ≡ b → Move (testing bs x e o os ps) (pick b (stop occurs) (test_rest isFull bs x e os ps))
      try true q = m_occurs v d f (same_eq d x q)
      try false q = m_other v d f (differ d x q) (goes bs x e ps os)
  checks bs x e o os ps (applied s xs d) f = m_into s xs d f (goes bs x e ps (arguments xs d.1 os))
  checks bs x e o os ps (link d) f = m_endless_test d f

  pub moves : (s : Task) → Move s (turn row links isFull base s)
  moves (unifying bs []) = m_finished
  moves (unifying bs (p ∷ ps)) = meets bs p ps (follow row links (extend base bs) p.0) (follow row links (extend base bs) p.1) refl refl
  moves (testing bs x e o os ps) = checks bs x e o os ps (follow row links (extend base bs) o) refl

  -- an invariant P of states, and what it gives written_out the end
  abbrev pub After {ℓ} : (Task → Type ℓ) → (Outcome → Type ℓ) → Turn → Type ℓ
  After P Q (finished bs) = (n : ℕ) → Q (unified bs n)
  After P Q (go_on s) = P s
  After P Q (stop r) = Q (failed r)

  pub runs {ℓ} : (P : Task → Type ℓ) (Q : Outcome → Type ℓ) → ((s : Task) (t : Turn) → Move s t → P s → After P Q t) → Q (failed overwork) → (n : ℕ) (s : Task) → P s → Q (run row links isFull base n s)
  unfolding run
  runs P Q k z zero s h = try (turn row links isFull base s) (k s (turn row links isFull base s) (moves s) h)
    where
      try : (t : Turn) → After P Q t → Q (without_work t)
      try (finished bs) a = a zero
      try (go_on s') a = z
      try (stop r) a = z
  runs P Q k z (suc n) s h = try (λ s' a. runs P Q k z n s' a) (turn row links isFull base s) (k s (turn row links isFull base s) (moves s) h)
    where
      try : ((s' : Task) → P s' → Q (run row links isFull base n s')) → (t : Turn) → After P Q t → Q (with_work (λ s'. run row links isFull base n s') (suc n) t)
      try ih (finished bs) a = a (suc n)
      try ih (go_on s') a = ih s' a
      try ih (stop r) a = a

  pub after_both {ℓ} : (P : Task → Type 0) (Q : Outcome → Type 0) (P' : Task → Type ℓ) (Q' : Outcome → Type ℓ) (t : Turn) → After P Q t → After P' Q' t → After (λ s. P s × P' s) Q' t
  after_both P Q P' Q' (finished bs) a b = b
  after_both P Q P' Q' (go_on s) a b = (a, b)
  after_both P Q P' Q' (stop r) a b = b
