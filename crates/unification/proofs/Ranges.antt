-- Expressions stay in range: good is what an expression has to be, variableOk what a variable has to be.
use mathlib.Core.Path.{◌≡◌, refl}
use mathlib.Core.Bool.{Bool, true, false}
use mathlib.Core.Option.{Option, none, some}
use mathlib.Core.List.{List, [], ◌∷◌}
use Prim.Native.Nat.{ℕ, zero, suc}
use Rattle.record.specs.Record.{pick}
use Rattle.unification.specs.Environment.{follow, Binding, Environment, extend, unbound, link, View, applied, view_variable, view_row, onward}
use Rattle.unification.specs.Row.{variable, Row, application, Expression, Variable, same}
use Rattle.unification.specs.Unification.{Outcome, unified, failed, Pair, Task, unifying, testing, Turn, arguments, argument_pairs, run}
use Rattle.unification.proofs.Meaning.{expression_of, with}
use Rattle.unification.proofs.Tests.{same_eq, some_injective}
use Rattle.unification.proofs.Turns.{Seen, Goes, m_full, m_bind, m_more, Move, m_finished, m_same, m_left, m_right, m_args, m_clash, m_endless, m_occurs, m_other, m_into, m_endless_test, seen_ends, After, runs}

module _ (variableOk : Variable → Type 0) (good : Expression → Type 0) where
  abbrev pub Kept : Environment → Type 0
  Kept ρ = (x : Variable) (e : Expression) → ρ x ≡ some e → variableOk x × good e

  abbrev KeptExpressions : List Expression → Type 0
  KeptExpressions [] = Unit {0}
  KeptExpressions (e ∷ es) = good e × KeptExpressions es

  abbrev pub KeptPairs : List Pair → Type 0
  KeptPairs [] = Unit {0}
  KeptPairs (p ∷ ps) = good p.0 × good p.1 × KeptPairs ps

  -- all arguments written_out an index
  abbrev pub KeptArguments : List ℕ → ℕ → Type 0
  KeptArguments [] i = Unit {0}
  KeptArguments (a ∷ xs) i = good (a, i) × KeptArguments xs i

  kept_zip : (xs ys : List ℕ) (i j : ℕ) (ps : List Pair) → KeptArguments xs i → KeptArguments ys j → KeptPairs ps → KeptPairs (argument_pairs xs i ys j ps)
  kept_zip [] ys i j ps a b h = h
  kept_zip (x ∷ xs) [] i j ps a b h = h
  kept_zip (x ∷ xs) (y ∷ ys) i j ps a b h = (a.0, b.0, kept_zip xs ys i j ps a.1 b.1 h)

  kept_args : (xs : List ℕ) (i : ℕ) (os : List Expression) → KeptArguments xs i → KeptExpressions os → KeptExpressions (arguments xs i os)
  kept_args [] i os a h = h
  kept_args (x ∷ xs) i os a h = (a.0, kept_args xs i os a.1 h)

  kept_with : (ρ : Environment) (x : Variable) (e : Expression) → Kept ρ → variableOk x → good e → Kept (with ρ x e)
  kept_with ρ x e h a b y d p = try (same y x) refl p
    where
      try : (t : Bool) → same y x ≡ t → pick t (some e) (ρ y) ≡ some d → variableOk y × good d
      try true s q = (rw (same_eq y x s) a, rw (← some_injective q) b)
      try false s q = h y d q

  module _ (row : ℕ → Row) where
    kept_view_variable : (ρ : Environment) → Kept ρ → (v : ℕ) (e : Expression) → good e → (o : Option Expression) → ρ e ≡ o → good (expression_of (view_variable o v e))
    kept_view_variable ρ h v e a none q = a
    kept_view_variable ρ h v e a (some d) q = (h e d q).1

    pub kept_view_row : (ρ : Environment) → Kept ρ → (e : Expression) → good e → (w : Row) → good (expression_of (view_row w ρ e))
    kept_view_row ρ h e a (variable v) = kept_view_variable ρ h v e a (ρ e) refl
    kept_view_row ρ h e a (application s xs) = a

    pub kept_follow : (n : ℕ) (ρ : Environment) → Kept ρ → (e : Expression) → good e → good (expression_of (follow row n ρ e))
    kept_follow zero ρ h e a = kept_view_row ρ h e a (row e.0)
    kept_follow (suc n) ρ h e a = further (λ d b. kept_follow n ρ h d b) (view_row (row e.0) ρ e) (kept_view_row ρ h e a (row e.0))
      where
        further : ((d : Expression) → good d → good (expression_of (follow row n ρ d))) → (w : View) → good (expression_of w) → good (expression_of (onward (λ d. follow row n ρ d) w))
        further ih (unbound v d) q = q
        further ih (applied s xs d) q = q
        further ih (link d) q = ih d q

  module _ (row : ℕ → Row) (varok : (e : Expression) (v : ℕ) → row e.0 ≡ variable v → good e → variableOk e) (argok : (e : Expression) (s : ℕ) (xs : List ℕ) → row e.0 ≡ application s xs → good e → KeptArguments xs e.1)
      (links : ℕ) (isFull : List Binding → Bool) (base : Environment) where
    abbrev pub KeptTask : Task → Type 0
    KeptTask (unifying bs ps) = Kept (extend base bs) × KeptPairs ps
    KeptTask (testing bs x e o os ps) = Kept (extend base bs) × variableOk x × good e × KeptExpressions (o ∷ os) × KeptPairs ps

    abbrev pub KeptEnd : Outcome → Type 0
    KeptEnd (unified bs n) = Kept (extend base bs)
    KeptEnd (failed r) = Unit {0}

    kept_seen : (bs : List Binding) (e : Expression) (w : View) → Seen row links isFull base bs e w → Kept (extend base bs) → good e → good (expression_of w)
    kept_seen bs e w q h a = rw q at (kept_follow row links (extend base bs) h e a)

    kept_goes : (bs : List Binding) (x : Variable) (e : Expression) (ps : List Pair) (os : List Expression) (t : Turn) → Goes row links isFull base bs x e ps os t → Kept (extend base bs) → variableOk x → good e → KeptExpressions os → KeptPairs ps → After row links isFull base KeptTask KeptEnd t
    kept_goes bs x e ps os t (m_full q) h a b c d = tt
    kept_goes bs x e ps os t (m_bind q) h a b c d = (kept_with (extend base bs) x e h a b, d)
    kept_goes bs x e ps os t m_more h a b c d = (h, a, b, c, d)

    pub kept_turn : (s : Task) (t : Turn) → Move row links isFull base s t → KeptTask s → After row links isFull base KeptTask KeptEnd t
    kept_turn s t m_finished h = λ n. h.0
    kept_turn s t (m_same v w f g q) h = (h.0, h.1.2)
    kept_turn s t (m_left {bs} {p} v e w f g n q) h =
        let b = kept_seen bs p.1 w g h.0 h.1.1 in
        (h.0, varok e v (seen_ends row links isFull base bs p.0 (unbound v e) f).0 (kept_seen bs p.0 (unbound v e) f h.0 h.1.0), b, (b, tt), h.1.2)
    kept_turn s t (m_right {bs} {p} u xs e w d f g) h =
        let b = kept_seen bs p.0 (applied u xs e) f h.0 h.1.0 in
        (h.0, varok d w (seen_ends row links isFull base bs p.1 (unbound w d) g).0 (kept_seen bs p.1 (unbound w d) g h.0 h.1.1), b, (b, tt), h.1.2)
    kept_turn s t (m_args {bs} {p} {ps} u xs e ys d f g) h = (
      h.0,
      kept_zip xs ys e.1 d.1 ps
          (argok e u xs (seen_ends row links isFull base bs p.0 (applied u xs e) f) (kept_seen bs p.0 (applied u xs e) f h.0 h.1.0))
          (argok d u ys (seen_ends row links isFull base bs p.1 (applied u ys d) g) (kept_seen bs p.1 (applied u ys d) g h.0 h.1.1)) h.1.2,
    )
    kept_turn s t (m_clash u xs e w ys d f g q) h = tt
    kept_turn s t (m_endless o d f z) h = tt
    kept_turn s t (m_occurs v d f q) h = tt
    kept_turn s t (m_other {bs} {x} {e} {o} {os} {ps} v d f n m) h = kept_goes bs x e ps os t m h.0 h.1 h.2 h.3.1 h.4
    kept_turn s t (m_into {bs} {x} {e} {o} {os} {ps} u xs d f m) h =
        kept_goes bs x e ps (arguments xs d.1 os) t m h.0 h.1 h.2 (kept_args xs d.1 os (argok d u xs (seen_ends row links isFull base bs o (applied u xs d) f) (kept_seen bs o (applied u xs d) f h.0 h.3.0)) h.3.1) h.4
    kept_turn s t (m_endless_test d f) h = tt

    pub kept_run : (n : ℕ) (s : Task) → KeptTask s → KeptEnd (run row links isFull base n s)
    kept_run n s h = runs row links isFull base KeptTask KeptEnd kept_turn tt n s h

-- the same where only the index matters
module _ (good : ℕ → Type 0) where
  abbrev pub IndicesKept : Environment → Type 0
  IndicesKept ρ = Kept (λ x. good x.1) (λ e. good e.1) ρ

  abbrev pub IndicesKeptPairs : List Pair → Type 0
  IndicesKeptPairs ps = KeptPairs (λ x. good x.1) (λ e. good e.1) ps

  all_args : (xs : List ℕ) (i : ℕ) → good i → KeptArguments (λ x. good x.1) (λ e. good e.1) xs i
  all_args [] i h = tt
  all_args (a ∷ xs) i h = (h, all_args xs i h)

  module _ (row : ℕ → Row) where
    pub vo : (e : Expression) (v : ℕ) → row e.0 ≡ variable v → good e.1 → good e.1
    vo e v q h = h

    pub ao : (e : Expression) (s : ℕ) (xs : List ℕ) → row e.0 ≡ application s xs → good e.1 → KeptArguments (λ x. good x.1) (λ e. good e.1) xs e.1
    ao e s xs q h = all_args xs e.1 h

  module _ (row : ℕ → Row) (links : ℕ) (isFull : List Binding → Bool) (base : Environment) where
    abbrev pub IndicesKeptTask : Task → Type 0
    IndicesKeptTask s = KeptTask (λ x. good x.1) (λ e. good e.1) row (vo row) (ao row) links isFull base s

    abbrev pub IndicesKeptEnd : Outcome → Type 0
    IndicesKeptEnd r = KeptEnd (λ x. good x.1) (λ e. good e.1) row (vo row) (ao row) links isFull base r

    pub indices_kept_turn : (s : Task) (t : Turn) → Move row links isFull base s t → IndicesKeptTask s → After row links isFull base IndicesKeptTask IndicesKeptEnd t
    indices_kept_turn s t m h = kept_turn (λ x. good x.1) (λ e. good e.1) row (vo row) (ao row) links isFull base s t m h

    pub indices_kept_run : (n : ℕ) (s : Task) → IndicesKeptTask s → IndicesKeptEnd (run row links isFull base n s)
    indices_kept_run n s h = kept_run (λ x. good x.1) (λ e. good e.1) row (vo row) (ao row) links isFull base n s h
