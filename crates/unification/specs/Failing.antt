-- Document 01, "Verdict, tables and refusals": when unification gives 10 to 13, stated on what the machine has come to.
use Rattle.std.specs.Prelude.{◌≡◌, Bool, true, false, List, [], ◌∷◌, ℕ, ◌<◌}
use Rattle.unification.specs.Environment.{follow, Binding, Environment, extend, unbound, applied}
use Rattle.unification.specs.Row.{Row, Expression, Variable}
use Rattle.unification.specs.Unification.{Failure, clash, occurs, overwork, full, Pair, Task, unifying, testing, go_on, test_one, Reaches}

-- Something is left to be taken up.
abbrev pub Waiting : Task → Type 0
Waiting (unifying bs []) = ⊥
Waiting (unifying bs (p ∷ ps)) = Unit {0}
Waiting (testing bs x e o os ps) = Unit {0}

-- How a machine with n units of work, begun at s, comes to fail.
module _ (row : ℕ → Row) (links : ℕ) (isFull : List Binding → Bool) (ρ : Environment) (n : ℕ) (s : Task) where
  pub data Failing : Failure → Type 0 where
    -- 10: a pair is taken up, both sides end on applications, and their symbols differ.
    symbols_differ : {m : ℕ} {bs : List Binding} {p : Pair} {ps : List Pair} {f g : ℕ} {xs ys : List ℕ} {e d : Expression}
        → Reaches row links isFull ρ m s (unifying bs (p ∷ ps)) → m < n
        → follow row links (extend ρ bs) p.0 ≡ applied f xs e → follow row links (extend ρ bs) p.1 ≡ applied g ys d → ¬ (f ≡ g)
        → Failing clash
    -- 11: the occurrence test of x takes up an expression that ends on x.
    variable_occurs : {m : ℕ} {bs : List Binding} {x : Variable} {e o : Expression} {os : List Expression} {ps : List Pair} {v : ℕ}
        → Reaches row links isFull ρ m s (testing bs x e o os ps) → m < n
        → follow row links (extend ρ bs) o ≡ unbound v x
        → Failing occurs
    -- 12: all work is done, and something is left to be taken up.
    work_done : {t : Task} → Reaches row links isFull ρ n s t → Waiting t → Failing overwork
    -- 13: given room, the next turn would add the binding of x to e; and there is no room.
    bindings_held : {m : ℕ} {bs : List Binding} {x : Variable} {e o : Expression} {os : List Expression} {ps : List Pair}
        → Reaches row links isFull ρ m s (testing bs x e o os ps) → m < n
        → test_one (λ _. false) (follow row links (extend ρ bs) o) bs x e os ps ≡ go_on (unifying ((x, e) ∷ bs) ps) → isFull bs ≡ true
        → Failing full
