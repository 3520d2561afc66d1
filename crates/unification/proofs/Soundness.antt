-- T1: what solves the answer solves the question.
use mathlib.Core.Path.{◌≡◌, refl, sym, ap, ap₂, ◌∙◌}
use mathlib.Core.Bool.{Bool}
use mathlib.Core.Option.{none}
use mathlib.Core.List.{List, [], ◌∷◌}
use Prim.Native.Nat.{ℕ}
use native.Mathlib.Nat.{suc_inj}
use native.Mathlib.Omega.{arith}
use lib.ListN.{length}
use Rattle.unification.specs.Environment.{Binding, Environment, extend, unbound, View, applied, Respects}
use Rattle.unification.specs.Row.{Row, application, Expression, Variable, row_term, written_out}
use Rattle.unification.specs.Term.{Term, app, cons}
use Rattle.unification.specs.Unification.{Outcome, unified, failed, Pair, Task, unifying, testing, Turn, arguments, argument_pairs, run}
use Rattle.unification.proofs.Meaning.{written_arguments, written_view, expression_of, written_ended, written_follow, respects_out, respects_new}
use Rattle.unification.proofs.Turns.{Seen, Goes, m_full, m_bind, m_more, Move, m_finished, m_same, m_left, m_right, m_args, m_clash, m_endless, m_occurs, m_other, m_into, m_endless_test, seen_ends, After, runs}

module _ (term : ℕ → Term ℕ) {Y : Type 0} (γ : Variable → Term Y) where
  abbrev pub AllEqual : List Pair → Type 0
  AllEqual [] = Unit {0}
  AllEqual (p ∷ ps) = (written_out term γ p.0 ≡ written_out term γ p.1) × AllEqual ps

  -- γ solves a state
  abbrev pub Solves : Environment → Task → Type 0
  Solves base (unifying bs ps) = Respects term γ (extend base bs) × AllEqual ps
  Solves base (testing bs x e o os ps) = Respects term γ (extend base bs) × (γ x ≡ written_out term γ e) × AllEqual ps

-- the variable that is tested is unbound
abbrev pub Free : Environment → Task → Type 0
Free base (unifying bs ps) = Unit {0}
Free base (testing bs x e o os ps) = extend base bs x ≡ none

-- what was seen, under a γ that respects the bindings
module _ (row : ℕ → Row) (links : ℕ) (isFull : List Binding → Bool) (base : Environment) (term : ℕ → Term ℕ) (termLaw : (r : ℕ) → term r ≡ row_term term r (row r)) {Y : Type 0} (γ : Variable → Term Y) (bs : List Binding) (R : Respects term γ (extend base bs)) (o : Expression) (w : View) (q : Seen row links isFull base bs o w) where
  pub seen_view : written_out term γ o ≡ written_view term γ w
  seen_view = written_follow row term termLaw γ links (extend base bs) R o ∙ ap (written_view term γ) q

  pub seen_expr : written_out term γ o ≡ written_out term γ (expression_of w)
  seen_expr = seen_view ∙ sym (written_ended row term termLaw γ (extend base bs) w (seen_ends row links isFull base bs o w q))

module _ (row : ℕ → Row) (links : ℕ) (isFull : List Binding → Bool) (base : Environment) (term : ℕ → Term ℕ) (termLaw : (r : ℕ) → term r ≡ row_term term r (row r))
    (arities : (r q s : ℕ) (xs ys : List ℕ) → row r ≡ application s xs → row q ≡ application s ys → length xs ≡ length ys) {Y : Type 0} (γ : Variable → Term Y) where
  eq_zip : (xs ys : List ℕ) (i j : ℕ) (ps : List Pair) → length xs ≡ length ys → AllEqual term γ (argument_pairs xs i ys j ps) → (written_arguments term γ xs i ≡ written_arguments term γ ys j) × AllEqual term γ ps
  eq_zip [] [] i j ps q h = (refl, h)
  eq_zip [] (y ∷ ys) i j ps q h = absurd (omega arith)
  eq_zip (x ∷ xs) [] i j ps q h = absurd (omega arith)
  eq_zip (x ∷ xs) (y ∷ ys) i j ps q h =
      let r = eq_zip xs ys i j ps (suc_inj q) h.1 in
      (ap₂ cons h.0 r.0, r.1)

  abbrev pub BackEnd : Task → Outcome → Type 0
  BackEnd s (unified bs m) = Respects term γ (extend base bs) → Solves term γ base s
  BackEnd s (failed r) = Unit {0}

  module _ (s₀ : Task) where
    abbrev Back : Task → Type 0
    Back s = Free base s × (Solves term γ base s → Solves term γ base s₀)

    abbrev Next : Turn → Type 0
    Next t = After row links isFull base Back (BackEnd s₀) t

    view : (bs : List Binding) → Respects term γ (extend base bs) → (o : Expression) (w : View) → Seen row links isFull base bs o w → written_out term γ o ≡ written_view term γ w
    view bs R o w q = seen_view row links isFull base term termLaw γ bs R o w q

    expr : (bs : List Binding) → Respects term γ (extend base bs) → (o : Expression) (w : View) → Seen row links isFull base bs o w → written_out term γ o ≡ written_out term γ (expression_of w)
    expr bs R o w q = seen_expr row links isFull base term termLaw γ bs R o w q

    back_goes : (bs : List Binding) (x : Variable) (e : Expression) (ps : List Pair) (os : List Expression) (t : Turn) → Goes row links isFull base bs x e ps os t → extend base bs x ≡ none → (Respects term γ (extend base bs) × (γ x ≡ written_out term γ e) × AllEqual term γ ps → Solves term γ base s₀) → Next t
    back_goes bs x e ps os t (m_full q) f k = tt
    back_goes bs x e ps os t (m_bind q) f k = (tt, λ s. k (respects_out term γ (extend base bs) x e f s.0, respects_new term γ (extend base bs) x e s.0, s.1))
    back_goes bs x e ps os t m_more f k = (f, k)

    back_turn : (s : Task) (t : Turn) → Move row links isFull base s t → Back s → Next t
    back_turn s t m_finished h = λ n R. h.1 (R, tt)
    back_turn s t (m_same {bs} {p} v w f g q) h = (tt, λ z. h.1 (z.0, (expr bs z.0 p.0 v f ∙ ap (written_out term γ) q ∙ sym (expr bs z.0 p.1 w g), z.1)))
    back_turn s t (m_left {bs} {p} v e w f g n q) h = ((seen_ends row links isFull base bs p.0 (unbound v e) f).1, λ z. h.1 (z.0, (view bs z.0 p.0 (unbound v e) f ∙ z.1 ∙ sym (expr bs z.0 p.1 w g), z.2)))
    back_turn s t (m_right {bs} {p} u xs e w d f g) h = ((seen_ends row links isFull base bs p.1 (unbound w d) g).1, λ z. h.1 (z.0, (expr bs z.0 p.0 (applied u xs e) f ∙ sym z.1 ∙ sym (view bs z.0 p.1 (unbound w d) g), z.2)))
    back_turn s t (m_args {bs} {p} {ps} u xs e ys d f g) h = (
      tt,
      λ z.
          let r = eq_zip xs ys e.1 d.1 ps (arities e.0 d.0 u xs ys (seen_ends row links isFull base bs p.0 (applied u xs e) f) (seen_ends row links isFull base bs p.1 (applied u ys d) g)) z.1 in
          h.1 (z.0, (view bs z.0 p.0 (applied u xs e) f ∙ ap (app u) r.0 ∙ sym (view bs z.0 p.1 (applied u ys d) g), r.1)),
    )
    back_turn s t (m_clash u xs e w ys d f g q) h = tt
    back_turn s t (m_endless o d f z) h = tt
    back_turn s t (m_occurs v d f q) h = tt
    back_turn s t (m_other {bs} {x} {e} {o} {os} {ps} v d f n m) h = back_goes bs x e ps os t m h.0 h.1
    back_turn s t (m_into {bs} {x} {e} {o} {os} {ps} u xs d f m) h = back_goes bs x e ps (arguments xs d.1 os) t m h.0 h.1
    back_turn s t (m_endless_test d f) h = tt

  pub back_run : (n : ℕ) (s : Task) → Free base s → BackEnd s (run row links isFull base n s)
  back_run n s f = runs row links isFull base (Back s) (BackEnd s) (back_turn s) tt n s (f, λ z. z)
