-- A turn does not see the rows that come later.
use mathlib.Core.Path.{◌≡◌, refl, ap, ap₂, ◌∙◌}
use mathlib.Core.Bool.{Bool}
use mathlib.Core.List.{List, [], ◌∷◌}
use Prim.Native.Nat.{ℕ, zero, suc}
use Rattle.unification.specs.Environment.{follow, Binding, Environment, extend, unbound, link, View, applied, view_row, onward}
use Rattle.unification.specs.Row.{variable, Row, application, Expression, Variable}
use Rattle.unification.specs.Unification.{turn, Task, unifying, testing, Turn, finished, go_on, stop, meet, test_one, without_work, with_work, run}
use Rattle.unification.proofs.Meaning.{expression_of}
use Rattle.unification.proofs.Ranges.{Kept, KeptArguments, kept_view_row, KeptTask, KeptEnd, kept_turn}
use Rattle.unification.proofs.Turns.{moves, After}

module _ (variableOk : Variable → Type 0) (good : Expression → Type 0) (row row' : ℕ → Row) (agree : (e : Expression) → good e → row e.0 ≡ row' e.0) where
  pub follow_agree : (n : ℕ) (ρ : Environment) → Kept variableOk good ρ → (e : Expression) → good e → follow row n ρ e ≡ follow row' n ρ e
  follow_agree zero ρ h e a = ap (λ w. view_row w ρ e) (agree e a)
  follow_agree (suc n) ρ h e a = further (λ d b. follow_agree n ρ h d b) (view_row (row e.0) ρ e) (kept_view_row variableOk good row ρ h e a (row e.0)) ∙ ap (λ w. onward (λ d. follow row' n ρ d) (view_row w ρ e)) (agree e a)
    where
      further : ((d : Expression) → good d → follow row n ρ d ≡ follow row' n ρ d) → (w : View) → good (expression_of w) → onward (λ d. follow row n ρ d) w ≡ onward (λ d. follow row' n ρ d) w
      further ih (unbound v d) q = refl
      further ih (applied s xs d) q = refl
      further ih (link d) q = ih d q

  module _ (varok : (e : Expression) (v : ℕ) → row e.0 ≡ variable v → good e → variableOk e) (argok : (e : Expression) (s : ℕ) (xs : List ℕ) → row e.0 ≡ application s xs → good e → KeptArguments variableOk good xs e.1)
      (links : ℕ) (isFull : List Binding → Bool) (base : Environment) where
    abbrev Keep : Task → Type 0
    Keep s = KeptTask variableOk good row varok argok links isFull base s

    turn_agree : (s : Task) → Keep s → turn row links isFull base s ≡ turn row' links isFull base s
    turn_agree (unifying bs []) h = refl
    turn_agree (unifying bs (p ∷ ps)) h = ap₂ (λ v w. meet v w bs ps) (follow_agree links (extend base bs) h.0 p.0 h.1.0) (follow_agree links (extend base bs) h.0 p.1 h.1.1)
    turn_agree (testing bs x e o os ps) h = ap (λ w. test_one isFull w bs x e os ps) (follow_agree links (extend base bs) h.0 o h.3.0)

    pub run_agree : (n : ℕ) (s : Task) → Keep s → run row links isFull base n s ≡ run row' links isFull base n s
    unfolding run
    run_agree zero s h = ap without_work (turn_agree s h)
    run_agree (suc n) s h = try (λ s' a. run_agree n s' a) (turn row links isFull base s) (kept_turn variableOk good row varok argok links isFull base s (turn row links isFull base s) (moves row links isFull base s) h) ∙ ap (with_work (λ s'. run row' links isFull base n s') (suc n)) (turn_agree s h)
      where
        try : ((s' : Task) → Keep s' → run row links isFull base n s' ≡ run row' links isFull base n s') → (t : Turn) → After row links isFull base Keep (KeptEnd variableOk good row varok argok links isFull base) t
            → with_work (λ s'. run row links isFull base n s') (suc n) t ≡ with_work (λ s'. run row' links isFull base n s') (suc n) t
        try ih (finished bs) a = refl
        try ih (go_on s') a = ih s' a
        try ih (stop r) a = refl
