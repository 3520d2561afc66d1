-- T2 and T3: what solves the question solves the answer, and nothing does where the answer is a clash or an occurrence.
use mathlib.Core.Path.{◌≡◌, sym, ap, ◌∙◌}
use mathlib.Core.Logic.{◌⊎◌, inl, inr}
use mathlib.Core.Bool.{Bool}
use mathlib.Core.List.{List, [], ◌∷◌}
use Prim.Native.Nat.{ℕ, suc, ◌≤◌, ◌<◌}
use native.Mathlib.Omega.{arith}
use Rattle.unification.specs.Environment.{follow, Binding, Environment, extend, unbound, link, View, applied, Ends, Respects}
use Rattle.unification.specs.Row.{Row, application, Expression, Variable, row_term, written_out}
use Rattle.unification.specs.Term.{Term, Terms, app, cons, occurrences, all_occurrences}
use Rattle.unification.specs.Unification.{endless, clash, occurs, overwork, full, Outcome, unified, failed, Pair, Task, unifying, testing, Turn, arguments, argument_pairs, run}
use Rattle.unification.proofs.Meaning.{written_arguments, expression_of, Ended, follow_unb, follow_appl, respects_in}
use Rattle.unification.proofs.Soundness.{AllEqual, seen_view, seen_expr}
use Rattle.unification.proofs.Turns.{Goes, m_full, m_bind, m_more, Move, m_finished, m_same, m_left, m_right, m_args, m_clash, m_endless, m_occurs, m_other, m_into, m_endless_test, seen_ends, After, runs}

abbrev pub IsVar : Variable → View → Type 0
IsVar x (unbound v d) = d ≡ x
IsVar x (applied s xs d) = ⊥
IsVar x (link d) = ⊥

app_args : {Y : Type 0} (s t : ℕ) (xs ys : Terms Y) → app s xs ≡ app t ys → xs ≡ ys
app_args s t xs ys p = cc

app_sym : {Y : Type 0} (s t : ℕ) (xs ys : Terms Y) → app s xs ≡ app t ys → s ≡ t
app_sym s t xs ys p = cc

cons_head : {Y : Type 0} (s t : Term Y) (xs ys : Terms Y) → cons s xs ≡ cons t ys → s ≡ t
cons_head s t xs ys p = cc

cons_tail : {Y : Type 0} (s t : Term Y) (xs ys : Terms Y) → cons s xs ≡ cons t ys → xs ≡ ys
cons_tail s t xs ys p = cc

module _ (row : ℕ → Row) (links : ℕ) (base : Environment) (term : ℕ → Term ℕ) {Y : Type 0} (γ : Variable → Term Y) where
  -- an expression of the occurrence test_rest is smaller than the whole, or is the whole, which is not the variable
  abbrev Small : List Binding → Variable → Expression → Expression → Type 0
  Small bs x e o = (occurrences (written_out term γ o) < occurrences (written_out term γ e)) ⊎ ((occurrences (written_out term γ o) ≤ occurrences (written_out term γ e)) × ¬ IsVar x (follow row links (extend base bs) o))

  abbrev Smalls : List Binding → Variable → Expression → List Expression → Type 0
  Smalls bs x e [] = Unit {0}
  Smalls bs x e (o ∷ os) = Small bs x e o × Smalls bs x e os

  abbrev pub Forth : Task → Type 0
  Forth (unifying bs ps) = Respects term γ (extend base bs) × AllEqual term γ ps
  Forth (testing bs x e o os ps) = Respects term γ (extend base bs) × (γ x ≡ written_out term γ e) × AllEqual term γ ps × Smalls bs x e (o ∷ os)

  abbrev pub ForthEnd : Outcome → Type 0
  ForthEnd (unified bs n) = Respects term γ (extend base bs)
  ForthEnd (failed clash) = ⊥
  ForthEnd (failed occurs) = ⊥
  ForthEnd (failed overwork) = Unit {0}
  ForthEnd (failed full) = Unit {0}
  ForthEnd (failed endless) = Unit {0}

  zip_eq : (xs ys : List ℕ) (i j : ℕ) (ps : List Pair) → written_arguments term γ xs i ≡ written_arguments term γ ys j → AllEqual term γ ps → AllEqual term γ (argument_pairs xs i ys j ps)
  zip_eq [] ys i j ps q h = h
  zip_eq (x ∷ xs) [] i j ps q h = h
  zip_eq (x ∷ xs) (y ∷ ys) i j ps q h = (cons_head _ _ _ _ q, zip_eq xs ys i j ps (cons_tail _ _ _ _ q) h)

  smalls_args : (bs : List Binding) (x : Variable) (e : Expression) (xs : List ℕ) (i : ℕ) (os : List Expression) → all_occurrences (written_arguments term γ xs i) < occurrences (written_out term γ e) → Smalls bs x e os → Smalls bs x e (arguments xs i os)
  smalls_args bs x e [] i os h k = k
  smalls_args bs x e (a ∷ xs) i os h k = (inl (omega arith), smalls_args bs x e xs i os (omega arith) k)

  module _ (isFull : List Binding → Bool) (termLaw : (r : ℕ) → term r ≡ row_term term r (row r)) where
    abbrev Next : Turn → Type 0
    Next t = After row links isFull base Forth ForthEnd t

    not_appl : (bs : List Binding) (x : Variable) (s : ℕ) (xs : List ℕ) (d : Expression) → row d.0 ≡ application s xs → ¬ IsVar x (follow row links (extend base bs) d)
    not_appl bs x s xs d q = rw (follow_appl row links (extend base bs) s xs d q) (λ z. z)

    -- the whole is not the variable
    not_left : (bs : List Binding) (v : ℕ) (e : Expression) (w : View) → Ended row (extend base bs) (unbound v e) → Ended row (extend base bs) w → Ends w → ¬ (e ≡ expression_of w) → ¬ IsVar e (follow row links (extend base bs) (expression_of w))
    not_left bs v e (unbound w d) h k n q = rw (follow_unb row links (extend base bs) w d k.0 k.1) (λ z. q (sym z))
    not_left bs v e (applied s xs d) h k n q = not_appl bs e s xs d k
    not_left bs v e (link d) h k n q = absurd n

    forth_goes : (bs : List Binding) (x : Variable) (e : Expression) (ps : List Pair) (os : List Expression) (t : Turn) → Goes row links isFull base bs x e ps os t → Respects term γ (extend base bs) → γ x ≡ written_out term γ e → AllEqual term γ ps → Smalls bs x e os → Next t
    forth_goes bs x e ps os t (m_full q) R z E s = tt
    forth_goes bs x e ps os t (m_bind q) R z E s = (respects_in term γ (extend base bs) x e R z, E)
    forth_goes bs x e ps os t m_more R z E s = (R, z, E, s)

    forth_turn : (s : Task) (t : Turn) → Move row links isFull base s t → Forth s → Next t
    forth_turn s t m_finished h = λ n. h.0
    forth_turn s t (m_same v w f g q) h = (h.0, h.1.1)
    forth_turn s t (m_left {bs} {p} v e w f g n q) h = (
      h.0,
      sym (seen_view row links isFull base term termLaw γ bs h.0 p.0 (unbound v e) f) ∙ h.1.0 ∙ seen_expr row links isFull base term termLaw γ bs h.0 p.1 w g,
      h.1.1,
      (inr (omega arith, not_left bs v e w (seen_ends row links isFull base bs p.0 (unbound v e) f) (seen_ends row links isFull base bs p.1 w g) n q), tt),
    )
    forth_turn s t (m_right {bs} {p} u xs e w d f g) h = (
      h.0,
      sym (seen_view row links isFull base term termLaw γ bs h.0 p.1 (unbound w d) g) ∙ sym h.1.0 ∙ seen_expr row links isFull base term termLaw γ bs h.0 p.0 (applied u xs e) f,
      h.1.1,
      (inr (omega arith, not_appl bs d u xs e (seen_ends row links isFull base bs p.0 (applied u xs e) f)), tt),
    )
    forth_turn s t (m_args {bs} {p} {ps} u xs e ys d f g) h =
        let q = sym (seen_view row links isFull base term termLaw γ bs h.0 p.0 (applied u xs e) f) ∙ h.1.0 ∙ seen_view row links isFull base term termLaw γ bs h.0 p.1 (applied u ys d) g in
        (h.0, zip_eq xs ys e.1 d.1 ps (app_args _ _ _ _ q) h.1.1)
    forth_turn s t (m_clash {bs} {p} u xs e w ys d f g n) h =
        n (app_sym _ _ _ _ (sym (seen_view row links isFull base term termLaw γ bs h.0 p.0 (applied u xs e) f) ∙ h.1.0 ∙ seen_view row links isFull base term termLaw γ bs h.0 p.1 (applied w ys d) g))
    forth_turn s t (m_endless o d f z) h = tt
    forth_turn s t (m_occurs {bs} {x} {e} {o} v d f q) h = try h.3.0
      where
        try : Small bs x e o → ⊥
        try (inl l) =
            let y : occurrences (written_out term γ o) ≡ occurrences (written_out term γ e) = ap occurrences (seen_view row links isFull base term termLaw γ bs h.0 o (unbound v d) f ∙ ap γ q ∙ h.1) in
            omega arith
        try (inr l) = (rw f at l.1) q
    forth_turn s t (m_other {bs} {x} {e} {o} {os} {ps} v d f n m) h = forth_goes bs x e ps os t m h.0 h.1 h.2 h.3.1
    forth_turn s t (m_into {bs} {x} {e} {o} {os} {ps} u xs d f m) h = forth_goes bs x e ps (arguments xs d.1 os) t m h.0 h.1 h.2 (smalls_args bs x e xs d.1 os (less h.3.0) h.3.1)
      where
        y : occurrences (written_out term γ o) ≡ suc (all_occurrences (written_arguments term γ xs d.1))
        y = ap occurrences (seen_view row links isFull base term termLaw γ bs h.0 o (applied u xs d) f)

        less : Small bs x e o → all_occurrences (written_arguments term γ xs d.1) < occurrences (written_out term γ e)
        less (inl l) = omega (arith, y)
        less (inr l) = omega (arith, y)
    forth_turn s t (m_endless_test d f) h = tt

    pub forth_run : (n : ℕ) (s : Task) → Forth s → ForthEnd (run row links isFull base n s)
    forth_run n s h = runs row links isFull base Forth ForthEnd forth_turn tt n s h
