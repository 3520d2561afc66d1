-- Unification keeps its environment solved: what it has bound so far, composed, gives every variable its value.
use mathlib.Core.Path.{◌≡◌, sym, ap, ◌∙◌, subst}
use mathlib.Core.Bool.{Bool}
use mathlib.Core.Option.{none}
use mathlib.Core.List.{List, [], ◌∷◌}
use Prim.Native.Nat.{ℕ}
use Rattle.unification.specs.Environment.{Binding, Environment, extend, unbound, View, applied}
use Rattle.unification.specs.Row.{Row, Expression, Variable, row_term, written_out}
use Rattle.unification.specs.Substitution.{composed}
use Rattle.unification.specs.Term.{Term, var, AllVariables}
use Rattle.unification.specs.Unification.{Outcome, unified, failed, Pair, Task, unifying, testing, Turn, arguments, run}
use Rattle.unification.proofs.Meaning.{written_arguments, written_view, written_follow}
use Rattle.unification.proofs.Ranges.{IndicesKeptTask, IndicesKeptEnd, indices_kept_turn}
use Rattle.unification.proofs.Solved.{Solved, Without, solved_with}
use Rattle.unification.proofs.Turns.{Seen, Goes, m_full, m_bind, m_more, Move, m_finished, m_same, m_left, m_right, m_args, m_clash, m_endless, m_occurs, m_other, m_into, m_endless_test, seen_ends, After, runs, after_both}

module _ (good : ℕ → Type 0) (row : ℕ → Row) (links : ℕ) (isFull : List Binding → Bool) (base : Environment) (term : ℕ → Term ℕ) (termLaw : (r : ℕ) → term r ≡ row_term term r (row r)) (σ : Variable → Term Variable) where
  -- The values once these bindings are made.
  abbrev now : List Binding → Variable → Term Variable
  now bs = composed term σ bs

  abbrev WithoutAll : Variable → List Binding → List Expression → Type 0
  WithoutAll x bs [] = Unit {0}
  WithoutAll x bs (o ∷ os) = Without x (written_out term (now bs) o) × WithoutAll x bs os

  split_arguments : (x : Variable) (bs : List Binding) (xs : List ℕ) (i : ℕ) (os : List Expression) → WithoutAll x bs (arguments xs i os) → AllVariables (λ y. ¬ (y ≡ x)) (written_arguments term (now bs) xs i) × WithoutAll x bs os
  split_arguments x bs [] i os h = (tt, h)
  split_arguments x bs (a ∷ xs) i os h =
      let r = split_arguments x bs xs i os h.1 in
      ((h.0, r.0), r.1)

  abbrev SolvedBy : List Binding → Type 1
  SolvedBy bs = Solved good term (extend base bs) (now bs)

  -- In an occurrence test: once the rest is without x, so is what x would be bound to.
  abbrev SolvedTask : Task → Type 1
  SolvedTask (unifying bs ps) = SolvedBy bs
  SolvedTask (testing bs x e o os ps) = SolvedBy bs × (extend base bs x ≡ none) × (WithoutAll x bs (o ∷ os) → Without x (written_out term (now bs) e))

  abbrev pub SolvedEnd : Outcome → Type 1
  SolvedEnd (unified bs n) = Solved good term (extend base bs) (composed term σ bs)
  SolvedEnd (failed r) = Unit {1}

  seen_written : (bs : List Binding) → SolvedBy bs → (o : Expression) (w : View) → Seen row links isFull base bs o w → written_out term (now bs) o ≡ written_view term (now bs) w
  seen_written bs S o w q = written_follow row term termLaw (now bs) links (extend base bs) S.respects o ∙ ap (written_view term (now bs)) q

  solved_goes : (bs : List Binding) (x : Variable) (e : Expression) (ps : List Pair) (os : List Expression) (t : Turn) → Goes row links isFull base bs x e ps os t → SolvedBy bs → extend base bs x ≡ none → good e.1 → (WithoutAll x bs os → Without x (written_out term (now bs) e)) → After row links isFull base SolvedTask SolvedEnd t
  solved_goes bs x e ps os t (m_full q) S f oe k = tt
  solved_goes bs x e ps os t (m_bind q) S f oe k = solved_with good term (extend base bs) (now bs) S x e f oe (k tt)
  solved_goes bs x e ps os t m_more S f oe k = (S, f, k)

  solved_turn : (s : Task) (t : Turn) → Move row links isFull base s t → IndicesKeptTask good row links isFull base s → SolvedTask s → After row links isFull base SolvedTask SolvedEnd t
  solved_turn s t m_finished κ h = λ n. h
  solved_turn s t (m_same v w f g q) κ h = h
  solved_turn s t (m_left {bs} {p} v e w f g n q) κ h = (h, (seen_ends row links isFull base bs p.0 (unbound v e) f).1, λ i. i.0)
  solved_turn s t (m_right {bs} {p} u xs e w d f g) κ h = (h, (seen_ends row links isFull base bs p.1 (unbound w d) g).1, λ i. i.0)
  solved_turn s t (m_args u xs e ys d f g) κ h = h
  solved_turn s t (m_clash u xs e w ys d f g q) κ h = tt
  solved_turn s t (m_endless o d f z) κ h = tt
  solved_turn s t (m_occurs v d f q) κ h = tt
  solved_turn s t (m_other {bs} {x} {e} {o} {os} {ps} v d f n m) κ h =
      let q : written_out term (now bs) o ≡ var d = seen_written bs h.0 o (unbound v d) f ∙ h.0.free d (seen_ends row links isFull base bs o (unbound v d) f).1 in
      solved_goes bs x e ps os t m h.0 h.1 κ.2 (λ i. h.2 (subst (Without x) (sym q) n, i))
  solved_turn s t (m_into {bs} {x} {e} {o} {os} {ps} u xs d f m) κ h =
      solved_goes bs x e ps (arguments xs d.1 os) t m h.0 h.1 κ.2 (λ i.
      let r = split_arguments x bs xs d.1 os i in
      h.2 (subst (Without x) (sym (seen_written bs h.0 o (applied u xs d) f)) r.0, r.1))
  solved_turn s t (m_endless_test d f) κ h = tt

  pub solved_run : (n : ℕ) (s : Task) → IndicesKeptTask good row links isFull base s → SolvedTask s → SolvedEnd (run row links isFull base n s)
  solved_run n s κ h = runs row links isFull base (λ s. IndicesKeptTask good row links isFull base s × SolvedTask s) SolvedEnd
      (λ s t m a. after_both row links isFull base (IndicesKeptTask good row links isFull base) (IndicesKeptEnd good row links isFull base) SolvedTask SolvedEnd t (indices_kept_turn good row links isFull base s t m a.0) (solved_turn s t m a.0 a.1)) tt n s (κ, h)
