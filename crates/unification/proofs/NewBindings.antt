-- The bindings that unification adds are of variables that were free, and keep to what its expressions keep to.
use mathlib.Core.Path.{◌≡◌, refl}
use mathlib.Core.Bool.{Bool, true, false}
use mathlib.Core.Option.{none, some}
use mathlib.Core.List.{List, [], ◌∷◌}
use Prim.Native.Nat.{ℕ}
use Rattle.record.specs.Record.{pick}
use Rattle.unification.specs.Environment.{Binding, Environment, extend, unbound}
use Rattle.unification.specs.Row.{variable, Row, application, Expression, Variable, same}
use Rattle.unification.specs.Unification.{Outcome, unified, failed, Pair, Task, unifying, testing, Turn, arguments, run}
use Rattle.unification.proofs.Lists.{Each}
use Rattle.unification.proofs.Ranges.{KeptArguments, KeptTask, KeptEnd, kept_turn}
use Rattle.unification.proofs.Tests.{some_not_none}
use Rattle.unification.proofs.Turns.{Goes, m_full, m_bind, m_more, Move, m_finished, m_same, m_left, m_right, m_args, m_clash, m_endless, m_occurs, m_other, m_into, m_endless_test, seen_ends, After, runs, after_both}

-- What is free after bindings were added was free before.
extend_free : (ρ : Environment) (bs : List Binding) (x : Variable) → extend ρ bs x ≡ none → ρ x ≡ none
extend_free ρ [] x p = p
extend_free ρ (b ∷ bs) x p = try (same x b.0) (λ q. extend_free ρ bs x q) p
  where
    try : (s : Bool) → (extend ρ bs x ≡ none → ρ x ≡ none) → pick s (some b.1) (extend ρ bs x) ≡ none → ρ x ≡ none
    try true more q = absurd (some_not_none q refl)
    try false more q = more q

module _ (variableOk : Variable → Type 0) (expressionOk : Expression → Type 0) (row : ℕ → Row)
    (varok : (e : Expression) (v : ℕ) → row e.0 ≡ variable v → expressionOk e → variableOk e)
    (argok : (e : Expression) (s : ℕ) (xs : List ℕ) → row e.0 ≡ application s xs → expressionOk e → KeptArguments variableOk expressionOk xs e.1)
    (links : ℕ) (isFull : List Binding → Bool) (base : Environment) where
  -- A binding of a variable row, both sides kept, and of a variable that the base leaves free.
  pub record NewBinding (b : Binding) : Type 0 where
    pub number : ℕ
    pub is_variable : row b.0.0 ≡ variable number
    pub variable_kept : variableOk b.0
    pub expression_kept : expressionOk b.1
    pub free : base b.0 ≡ none

  abbrev NewTask : Task → Type 0
  NewTask (unifying bs ps) = Each NewBinding bs
  NewTask (testing bs x e o os ps) = Each NewBinding bs × ((v : ℕ) × (row x.0 ≡ variable v) × (extend base bs x ≡ none))

  abbrev pub NewEnd : Outcome → Type 0
  NewEnd (unified bs n) = Each NewBinding bs
  NewEnd (failed r) = Unit {0}

  new_goes : (bs : List Binding) (x : Variable) (e : Expression) (ps : List Pair) (os : List Expression) (t : Turn) → Goes row links isFull base bs x e ps os t → Each NewBinding bs → ((v : ℕ) × (row x.0 ≡ variable v) × (extend base bs x ≡ none)) → variableOk x → expressionOk e
      → After row links isFull base NewTask NewEnd t
  new_goes bs x e ps os t (m_full q) h w a b = tt
  new_goes bs x e ps os t (m_bind q) h w a b = (record { number = w.0; is_variable = w.1; variable_kept = a; expression_kept = b; free = extend_free base bs x w.2 }, h)
  new_goes bs x e ps os t m_more h w a b = (h, w)

  abbrev K : Task → Type 0
  K s = KeptTask variableOk expressionOk row varok argok links isFull base s

  new_turn : (s : Task) (t : Turn) → Move row links isFull base s t → K s → NewTask s → After row links isFull base NewTask NewEnd t
  new_turn s t m_finished κ h = λ n. h
  new_turn s t (m_same v w f g q) κ h = h
  new_turn s t (m_left {bs} {p} v e w f g n q) κ h = (h, let z = seen_ends row links isFull base bs p.0 (unbound v e) f in (v, z.0, z.1))
  new_turn s t (m_right {bs} {p} u xs e w d f g) κ h = (h, let z = seen_ends row links isFull base bs p.1 (unbound w d) g in (w, z.0, z.1))
  new_turn s t (m_args u xs e ys d f g) κ h = h
  new_turn s t (m_clash u xs e w ys d f g q) κ h = tt
  new_turn s t (m_endless o d f z) κ h = tt
  new_turn s t (m_occurs v d f q) κ h = tt
  new_turn s t (m_other {bs} {x} {e} {o} {os} {ps} v d f n m) κ h = new_goes bs x e ps os t m h.0 h.1 κ.1 κ.2
  new_turn s t (m_into {bs} {x} {e} {o} {os} {ps} u xs d f m) κ h = new_goes bs x e ps (arguments xs d.1 os) t m h.0 h.1 κ.1 κ.2
  new_turn s t (m_endless_test d f) κ h = tt

  pub new_run : (n : ℕ) (s : Task) → KeptTask variableOk expressionOk row varok argok links isFull base s → NewTask s → NewEnd (run row links isFull base n s)
  new_run n s κ h = runs row links isFull base (λ s. K s × NewTask s) NewEnd
      (λ s t m a. after_both row links isFull base K (KeptEnd variableOk expressionOk row varok argok links isFull base) NewTask NewEnd t (kept_turn variableOk expressionOk row varok argok links isFull base s t m a.0) (new_turn s t m a.0 a.1)) tt n s (κ, h)
