-- What unification makes equal has no clash of outlines, whatever the rows and the environment are: every pair that the comparison takes up
-- is among those that unification still has to take up, and it meets the same symbols there.
use mathlib.Core.Path.{◌≡◌, refl, sym, ap, ◌∙◌, subst}
use mathlib.Core.Bool.{Bool, true}
use mathlib.Core.List.{List, [], ◌∷◌}
use Prim.Native.Nat.{ℕ, zero, suc}
use native.Mathlib.Omega.{arith}
use Rattle.unification.specs.Environment.{follow, Binding, Environment, extend, unbound, View, applied, view_row}
use Rattle.unification.specs.Outlines.{most_outline_pairs, RowPair, OutlineTurn, argument_row_pairs, after_turn, outline_turn, clash_within, outlines_clash}
use Rattle.unification.specs.Row.{Row, application, Expression}
use Rattle.unification.specs.Unification.{Outcome, unified, failed, Pair, Task, unifying, testing, Turn, argument_pairs, run}
use Rattle.unification.proofs.Meaning.{expression_of}
use Rattle.unification.proofs.Outlines.{Sees, same_row, left_variable, right_variable, one_symbol, two_symbols, sees}
use Rattle.unification.proofs.Tests.{true_not_false}
use Rattle.unification.proofs.Turns.{Seen, Goes, m_full, m_bind, m_more, Move, m_finished, m_same, m_left, m_right, m_args, m_clash, m_endless, m_occurs, m_other, m_into, m_endless_test, After, runs}

-- The pairs of rows are those of some of the pairs, in order.
data Among : List RowPair → List Pair → Type 0 where
  none_left : {ps : List Pair} → Among [] ps
  this_one : {p : Pair} {qs : List RowPair} {ps : List Pair} → Among qs ps → Among ((p.0.0, p.1.0) ∷ qs) (p ∷ ps)
  later : {p : Pair} {qs : List RowPair} {ps : List Pair} → Among qs ps → Among qs (p ∷ ps)

among_arguments : (xs : List ℕ) (i : ℕ) (ys : List ℕ) (j : ℕ) {qs : List RowPair} {ps : List Pair} → Among qs ps → Among (argument_row_pairs xs ys qs) (argument_pairs xs i ys j ps)
among_arguments [] i ys j a = a
among_arguments (x ∷ xs) i [] j a = a
among_arguments (x ∷ xs) i (y ∷ ys) j a = this_one (among_arguments xs i ys j a)

among_later : (xs : List ℕ) (i : ℕ) (ys : List ℕ) (j : ℕ) {qs : List RowPair} {ps : List Pair} → Among qs ps → Among qs (argument_pairs xs i ys j ps)
among_later [] i ys j a = a
among_later (x ∷ xs) i [] j a = a
among_later (x ∷ xs) i (y ∷ ys) j a = later (among_later xs i ys j a)

-- The outlines of one of the pairs clash.
pub data ClashAmong (row : ℕ → Row) : List Pair → Type 0 where
  clash_here : {p : Pair} {ps : List Pair} → outlines_clash row p.0.0 p.1.0 ≡ true → ClashAmong row (p ∷ ps)
  clash_later : {p : Pair} {ps : List Pair} → ClashAmong row ps → ClashAmong row (p ∷ ps)

applied_symbol : {s t : ℕ} {xs ys : List ℕ} {e d : Expression} → applied s xs e ≡ applied t ys d → s ≡ t
applied_symbol p = cc

applied_arguments : {s t : ℕ} {xs ys : List ℕ} {e d : Expression} → applied s xs e ≡ applied t ys d → xs ≡ ys
applied_arguments p = cc

not_unbound : {s v : ℕ} {xs : List ℕ} {e d : Expression} → applied s xs e ≡ unbound v d → ⊥
not_unbound p = let z : ◌≡◌ {A = ℕ} 0 1 = cc in omega arith

module _ (row : ℕ → Row) (links : ℕ) (isFull : List Binding → Bool) (base : Environment) where
  -- A clash is still to come among the pairs.
  record Coming (ps : List Pair) : Type 0 where
    pairs : ℕ
    rows : List RowPair
    among : Among rows ps
    clashes : clash_within row pairs rows ≡ true

  follow_application : (n : ℕ) (ρ : Environment) (e : Expression) {s : ℕ} {xs : List ℕ} → row e.0 ≡ application s xs → follow row n ρ e ≡ applied s xs e
  follow_application zero ρ e p = ap (λ (w : Row). view_row w ρ e) p
  follow_application (suc n) ρ e p = rw p

  nothing_comes : Coming [] → ⊥
  unfolding clash_within
  nothing_comes c = try c.among c.pairs c.clashes
    where
      try : {rows : List RowPair} → Among rows [] → (n : ℕ) → clash_within row n rows ≡ true → ⊥
      try none_left zero q = true_not_false q refl
      try none_left (suc n) q = true_not_false q refl

  -- What a pair leaves to come: among the pairs after it; or both its rows are applications of different rows, and the clash is that of
  -- their symbols or comes among their arguments.
  data Left (p : Pair) (ps : List Pair) : Type 0 where
    after : Coming ps → Left p ps
    inside : {s : ℕ} {xs ys : List ℕ} → ¬ (p.0.0 ≡ p.1.0) → row p.0.0 ≡ application s xs → row p.1.0 ≡ application s ys
        → ((i j : ℕ) → Coming (argument_pairs xs i ys j ps)) → Left p ps
    here : {s t : ℕ} {xs ys : List ℕ} → row p.0.0 ≡ application s xs → row p.1.0 ≡ application t ys → ¬ (s ≡ t) → Left p ps

  left_of_lem : (p : Pair) (ps : List Pair) → Coming (p ∷ ps) → Left p ps
  unfolding clash_within
  left_of_lem p ps c = try c.among c.pairs c.clashes
    where
      turned : (n : ℕ) (a b : ℕ) (qs : List RowPair) → p.0.0 ≡ a → p.1.0 ≡ b → Among qs ps → (t : OutlineTurn) → Sees row a b qs t → after_turn (λ rs. clash_within row n rs) t ≡ true → Left p ps
      turned n a b qs ea eb m t (same_row e) z = after (record { pairs = n; rows = qs; among = m; clashes = z })
      turned n a b qs ea eb m t (left_variable e) z = after (record { pairs = n; rows = qs; among = m; clashes = z })
      turned n a b qs ea eb m t (right_variable e) z = after (record { pairs = n; rows = qs; among = m; clashes = z })
      turned n a b qs ea eb m t (one_symbol {xs = xs} {ys} d u v) z =
          inside (λ e. d (sym ea ∙ e ∙ eb)) (ap row ea ∙ u) (ap row eb ∙ v) (λ i j. record { pairs = n; rows = argument_row_pairs xs ys qs; among = among_arguments xs i ys j m; clashes = z })
      turned n a b qs ea eb m t (two_symbols u v d) z = here (ap row ea ∙ u) (ap row eb ∙ v) d

      try : {rows : List RowPair} → Among rows (p ∷ ps) → (n : ℕ) → clash_within row n rows ≡ true → Left p ps
      try none_left zero q = absurd (true_not_false q refl)
      try none_left (suc n) q = absurd (true_not_false q refl)
      try (this_one m) zero q = absurd (true_not_false q refl)
      try (this_one {qs = qs} m) (suc n) q = turned n p.0.0 p.1.0 qs refl refl m (outline_turn row (p.0.0, p.1.0) qs) (sees row p.0.0 p.1.0 qs) q
      try (later {qs = qs} m) n q = after (record { pairs = n; rows = qs; among = m; clashes = q })

  abbrev Expected : Task → Type 0
  Expected (unifying bs ps) = Coming ps
  Expected (testing bs x e o os ps) = Coming ps

  abbrev NotUnified : Outcome → Type 0
  NotUnified (unified bs n) = ⊥
  NotUnified (failed f) = Unit {0}

  seen_application : (bs : List Binding) (e : Expression) {s : ℕ} {xs : List ℕ} {w : View} → row e.0 ≡ application s xs → Seen row links isFull base bs e w → applied s xs e ≡ w
  seen_application bs e p q = sym (follow_application links (extend base bs) e p) ∙ q

  -- The moves of a pair.
  arguments_come : (bs : List Binding) (p : Pair) (ps : List Pair) (s : ℕ) (xs : List ℕ) (e : Expression) (ys : List ℕ) (d : Expression)
      → Seen row links isFull base bs p.0 (applied s xs e) → Seen row links isFull base bs p.1 (applied s ys d) → Left p ps → Coming (argument_pairs xs e.1 ys d.1 ps)
  arguments_come bs p ps s xs e ys d f g (after c) = record { pairs = c.pairs; rows = c.rows; among = among_later xs e.1 ys d.1 c.among; clashes = c.clashes }
  arguments_come bs p ps s xs e ys d f g (inside {xs = us} {ys = ws} n u v h) =
      let ex : us ≡ xs = applied_arguments (seen_application bs p.0 u f) in
      let ey : ws ≡ ys = applied_arguments (seen_application bs p.1 v g) in
      subst (λ (z : List ℕ). Coming (argument_pairs z e.1 ys d.1 ps)) ex (subst (λ (z : List ℕ). Coming (argument_pairs us e.1 z d.1 ps)) ey (h e.1 d.1))
  arguments_come bs p ps s xs e ys d f g (here u v n) = absurd (n (applied_symbol (seen_application bs p.0 u f) ∙ sym (applied_symbol (seen_application bs p.1 v g))))

  same_come : (bs : List Binding) (p : Pair) (ps : List Pair) (v w : View) → Seen row links isFull base bs p.0 v → Seen row links isFull base bs p.1 w → expression_of v ≡ expression_of w → Left p ps → Coming ps
  same_come bs p ps v w f g e (after c) = c
  same_come bs p ps v w f g e (inside n x y h) =
      absurd (n (ap (λ (z : Expression). z.0) (ap expression_of (seen_application bs p.0 x f) ∙ e ∙ sym (ap expression_of (seen_application bs p.1 y g)))))
  same_come bs p ps v w f g e (here {s} {t} {xs} {ys} x y n) =
      let z : p.0 ≡ p.1 = ap expression_of (seen_application bs p.0 x f) ∙ e ∙ sym (ap expression_of (seen_application bs p.1 y g)) in
      absurd (n (applied_symbol (ap (λ (u : Row). view_row u base p.0) (sym x ∙ ap (λ (u : Expression). row u.0) z ∙ y))))

  left_come : (bs : List Binding) (p : Pair) (ps : List Pair) (v : ℕ) (e : Expression) → Seen row links isFull base bs p.0 (unbound v e) → Left p ps → Coming ps
  left_come bs p ps v e f (after c) = c
  left_come bs p ps v e f (inside n x y h) = absurd (not_unbound (seen_application bs p.0 x f))
  left_come bs p ps v e f (here x y n) = absurd (not_unbound (seen_application bs p.0 x f))

  right_come : (bs : List Binding) (p : Pair) (ps : List Pair) (v : ℕ) (e : Expression) → Seen row links isFull base bs p.1 (unbound v e) → Left p ps → Coming ps
  right_come bs p ps v e f (after c) = c
  right_come bs p ps v e f (inside n x y h) = absurd (not_unbound (seen_application bs p.1 y f))
  right_come bs p ps v e f (here x y n) = absurd (not_unbound (seen_application bs p.1 y f))

  abbrev Next : Turn → Type 0
  Next t = After row links isFull base Expected NotUnified t

  test_goes : {bs : List Binding} {x : Expression} {e : Expression} {ps : List Pair} {os : List Expression} {t : Turn} → Goes row links isFull base bs x e ps os t → Coming ps → Next t
  test_goes (m_full f) c = tt
  test_goes (m_bind f) c = c
  test_goes m_more c = c

  goes_on : (s : Task) (t : Turn) → Move row links isFull base s t → Expected s → Next t
  goes_on s t m_finished c = λ n. nothing_comes c
  goes_on s t (m_same {bs} {p} {ps} v w f g e) c = same_come bs p ps v w f g e (left_of_lem p ps c)
  goes_on s t (m_left {bs} {p} {ps} v e w f g z n) c = left_come bs p ps v e f (left_of_lem p ps c)
  goes_on s t (m_right {bs} {p} {ps} u xs e w d f g) c = right_come bs p ps w d g (left_of_lem p ps c)
  goes_on s t (m_args {bs} {p} {ps} u xs e ys d f g) c = arguments_come bs p ps u xs e ys d f g (left_of_lem p ps c)
  goes_on s t (m_clash u xs e w ys d f g n) c = tt
  goes_on s t (m_endless o d f g) c = tt
  goes_on s t (m_occurs v d f e) c = tt
  goes_on s t (m_other v d f n g) c = test_goes g c
  goes_on s t (m_into u xs d f g) c = test_goes g c
  goes_on s t (m_endless_test d f) c = tt

  among_pairs : {ps : List Pair} → ClashAmong row ps → Coming ps
  among_pairs (clash_here {p} z) = record { pairs = most_outline_pairs; rows = (p.0.0, p.1.0) ∷ []; among = this_one none_left; clashes = z }
  among_pairs (clash_later h) = let c = among_pairs h in record { pairs = c.pairs; rows = c.rows; among = later c.among; clashes = c.clashes }

  pub clash_not_unified : (n : ℕ) (bs : List Binding) (ps : List Pair) → ClashAmong row ps → (cs : List Binding) (m : ℕ) → ¬ (run row links isFull base n (unifying bs ps) ≡ unified cs m)
  clash_not_unified n bs ps z cs m e = subst NotUnified e (runs row links isFull base Expected NotUnified goes_on tt n (unifying bs ps) (among_pairs z))
