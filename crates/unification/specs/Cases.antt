-- Document 01, "Case sheet": case L, the example of document 000, section 4, given to the definition of unification; cases D and F as
-- unification sees them; and the edges of the limits on work and bindings. Document 02, Q-1: outlines, at their limit and at variables.
use Rattle.std.specs.Prelude.{◌≡◌, true, false, List, [], ◌∷◌, map, ℕ, zero, suc, ◌-◌}
use Rattle.std.proofs.Math.Option.{none, some}
use Rattle.unification.specs.Environment.{Binding, Environment, extend}
use Rattle.unification.specs.Outlines.{outlines_clash}
use Rattle.unification.specs.Row.{variable, Row, application, Expression, Variable, row_at, term_at, written_out}
use Rattle.unification.specs.Term.{Term, var, app, nil, cons}
use Rattle.unification.specs.Unification.{unify, most_work, most_links, occurs, overwork, full, unified, failed, unifying, no_room, run}

abbrev pub no_bindings : Environment
no_bindings x = none

-- ── Case L ──

-- The symbols P, f, g have the numbers 0, 1, 2, and the variables x, y, z those of their rows. Terms as document 000 writes them:
abbrev pub x : ℕ → Term Variable
x index = var (0, index)

abbrev pub y : ℕ → Term Variable
y index = var (1, index)

abbrev pub P : Term Variable → Term Variable → Term Variable
P s t = app 0 (cons s (cons t nil))

abbrev pub f : Term Variable → Term Variable → Term Variable
f s t = app 1 (cons s (cons t nil))

abbrev pub g : Term Variable → Term Variable
g t = app 2 (cons t nil)

-- Rows 7 to 0, newest first: (g y), (f x y), (P (g x) z), (g x), (P x y), z, y, x.
abbrev pub example_rows : List Row
example_rows =
    application 2 (1 ∷ []) ∷ application 1 (0 ∷ 1 ∷ []) ∷ application 0 (4 ∷ 2 ∷ []) ∷ application 2 (0 ∷ []) ∷ application 0 (0 ∷ 1 ∷ [])
    ∷ variable 2 ∷ variable 1 ∷ variable 0 ∷ []

-- TERM1,2 is (P x y) at index 2, and TERM2,7 is (P (g x) z) at index 7.
abbrev pub expressions : List Expression
expressions = (3, 2) ∷ (5, 7) ∷ []

-- BNDEV, the six bindings printed: x,2 to x,3; y,2 to (f x y),4; y,4 to x,3; z,7 to (f x y),8; x,8 to x,7; y,8 to (g y),5.
abbrev pub printed : List Binding
printed =
    ((0, 2), (0, 3)) ∷ ((1, 2), (6, 4)) ∷ ((1, 4), (0, 3)) ∷ ((2, 7), (6, 8)) ∷ ((0, 8), (0, 7)) ∷ ((1, 8), (7, 5)) ∷ []

-- What unification adds here, newest first: x,7 to y,5; x,4 to x,7; x,3 to (g x),7. The paper's own are x,4 to y,5; x,7 to x,4; x,3 to
-- (g x),7.
abbrev pub added : List Binding
added = ((0, 7), (1, 5)) ∷ ((0, 4), (0, 7)) ∷ ((0, 3), (4, 7)) ∷ []

abbrev pub added_in_print : List Binding
added_in_print = ((0, 4), (1, 5)) ∷ ((0, 7), (0, 4)) ∷ ((0, 3), (4, 7)) ∷ []

-- Values as document 000, section 3, has them: a variable that is not bound is its own value, and one that is bound has the value of what
-- it is bound to. No more than nine bindings are ever met one within another, as there are no more.
abbrev pub value_of : ℕ → Environment → Variable → Term Variable
value_of zero ρ v = var v
value_of (suc n) ρ v = elim (ρ v) [ none ↦ var v | some e ↦ written_out (term_at example_rows) (value_of n ρ) e ]

abbrev pub values : Environment → List (Term Variable)
values ρ = map (written_out (term_at example_rows) (value_of 9 ρ)) expressions

-- The value that both expressions have in the end.
abbrev pub common : Term Variable
common = P (g (y 5)) (f (y 5) (g (y 5)))

pub record CaseL : Type 0 where
  pub before : values (extend no_bindings printed) ≡ P (x 3) (f (x 4) (x 3)) ∷ P (g (x 7)) (f (x 7) (g (y 5))) ∷ []
  pub unifies : unify (row_at example_rows) 6 (extend no_bindings printed) (((3, 2), (5, 7)) ∷ []) ≡ unified added (most_work - 10)
  pub after : values (extend (extend no_bindings printed) added) ≡ common ∷ common ∷ []
  pub after_in_print : values (extend (extend no_bindings printed) added_in_print) ≡ common ∷ common ∷ []

-- ── Cases D and F, and the limits ──

-- Rows 6 to 0, newest first: s0(v1,s1(v1)), s1(v1), s0(v0,v0), s0(v1,v0), s0(v0,v1), v1, v0.
abbrev pub pair_rows : List Row
pair_rows =
    application 0 (1 ∷ 5 ∷ []) ∷ application 1 (1 ∷ []) ∷ application 0 (0 ∷ 0 ∷ []) ∷ application 0 (1 ∷ 0 ∷ []) ∷ application 0 (0 ∷ 1 ∷ [])
    ∷ variable 1 ∷ variable 0 ∷ []

-- Row 13 is a full tree of 16,383 symbols over a constant; rows 14 and 15 have one and two symbols more.
abbrev pub doubled : ℕ → Row
doubled n = application 1 (n ∷ n ∷ [])

abbrev pub tree_rows : List Row
tree_rows =
    application 2 (14 ∷ []) ∷ application 2 (13 ∷ []) ∷ doubled 12 ∷ doubled 11 ∷ doubled 10 ∷ doubled 9 ∷ doubled 8 ∷ doubled 7 ∷ doubled 6 ∷ doubled 5 ∷ doubled 4
    ∷ doubled 3 ∷ doubled 2 ∷ doubled 1 ∷ doubled 0 ∷ application 0 [] ∷ []

-- Rows 6 to 0, newest first: s0(s1(v1),s2), s0(s1(v0),v0), s1(v1), s1(v0), s2, v1, v0.
abbrev pub order_rows : List Row
order_rows =
    application 0 (4 ∷ 2 ∷ []) ∷ application 0 (3 ∷ 0 ∷ []) ∷ application 1 (1 ∷ []) ∷ application 1 (0 ∷ []) ∷ application 2 [] ∷ variable 1 ∷ variable 0 ∷ []

-- Row 16 is s2(v0,t), where t, row 15, is a full tree of 32,767 symbols over a constant, row 1.
abbrev pub deep_rows : List Row
deep_rows =
    application 2 (0 ∷ 15 ∷ []) ∷ doubled 14 ∷ doubled 13 ∷ doubled 12 ∷ doubled 11 ∷ doubled 10 ∷ doubled 9 ∷ doubled 8 ∷ doubled 7 ∷ doubled 6 ∷ doubled 5 ∷ doubled 4
    ∷ doubled 3 ∷ doubled 2 ∷ doubled 1 ∷ application 0 [] ∷ variable 0 ∷ []

-- Rows 4 to 0, newest first: s2(s1(s1(s3)),v0), s1(s1(s3)), s1(s3), s3, v0.
abbrev pub nested_rows : List Row
nested_rows = application 2 (3 ∷ 0 ∷ []) ∷ application 1 (2 ∷ []) ∷ application 1 (1 ∷ []) ∷ application 3 [] ∷ variable 0 ∷ []

-- Each with what unification gives: new bindings and the work that is left, or why it fails.
pub record UnificationsHold : Type 0 where
  -- F: one binding, work 4; the right side is followed before the occurrence test. D: the variable occurs.
  pub case_f : unify (row_at pair_rows) 0 no_bindings (((2, 1), (3, 1)) ∷ []) ≡ unified (((0, 1), (1, 1)) ∷ []) (most_work - 4)
  pub case_d : unify (row_at pair_rows) 0 no_bindings (((4, 1), (6, 2)) ∷ []) ≡ failed occurs
  -- One number at two indices is two variables: v0 at 1 is bound to v0 at 2.
  pub two_variables : unify (row_at pair_rows) 0 no_bindings (((0, 1), (0, 2)) ∷ []) ≡ unified (((0, 1), (0, 2)) ∷ []) (most_work - 2)
  -- The pairs that an application gives come before those that wait: v0 at 1 is bound to v1 at 2 before its other occurrence is met.
  pub depth_first : unify (row_at order_rows) 0 no_bindings (((5, 1), (6, 2)) ∷ []) ≡ unified (((1, 2), (2, 2)) ∷ ((0, 1), (1, 2)) ∷ []) (most_work - 6)
  -- Same row and same index: done, also for applications.
  pub same_application : unify (row_at pair_rows) 0 no_bindings (((2, 1), (2, 1)) ∷ []) ≡ unified [] (most_work - 1)
  -- The occurrence test goes through arguments in order: it ends at the first, before the work is used up on the second.
  pub occurrence_in_order : unify (row_at deep_rows) 0 no_bindings (((0, 1), (16, 1)) ∷ []) ≡ failed occurs
  -- It goes into an argument before it takes up the next one: after one unit of work for the pair, one for s2 and three inside its first argument the
  -- variable is met at the sixth, and with five it is not.
  pub occurrence_depth_first : run (row_at nested_rows) most_links (no_room 0) no_bindings 5 (unifying [] (((0, 1), (4, 1)) ∷ [])) ≡ failed overwork
  pub occurrence_met : run (row_at nested_rows) most_links (no_room 0) no_bindings 6 (unifying [] (((0, 1), (4, 1)) ∷ [])) ≡ failed occurs
  -- The last binding that there is room for, and the first that there is not.
  pub last_binding : unify (row_at pair_rows) 8191 no_bindings (((0, 1), (1, 1)) ∷ []) ≡ unified (((0, 1), (1, 1)) ∷ []) (most_work - 2)
  pub no_further_binding : unify (row_at pair_rows) 8192 no_bindings (((0, 1), (1, 1)) ∷ []) ≡ failed full
  -- All work is used up, and one pair more is too much.
  pub last_work : unify (row_at tree_rows) 0 no_bindings (((14, 1), (14, 2)) ∷ []) ≡ unified [] 0
  pub no_further_work : unify (row_at tree_rows) 0 no_bindings (((15, 1), (15, 2)) ∷ []) ≡ failed overwork

-- ── Outlines ──

-- Rows 31 to 0, newest first. Row 0 is v0, row 1 a constant; row 11 is a full tree of 2,047 occurrences over v0, and row 21 one over the constant, so
-- that comparing them takes 2,047 pairs and finds no clash. Rows 22 and 23 are two more constants. The rows from 24 on, in pairs:
-- s4(t,t,a) and s4(u,u,b); s5(v0,t,t,a) and s5(c,u,u,b); s5(a,t,t,a) and s5(a,u,u,b); s5(t,t,t,a) and s5(u,t,t,b), where t and u are the trees and c, a, b the constants.
abbrev pub outline_rows : List Row
outline_rows =
    application 5 (21 ∷ 11 ∷ 11 ∷ 23 ∷ []) ∷ application 5 (11 ∷ 11 ∷ 11 ∷ 22 ∷ [])
    ∷ application 5 (22 ∷ 21 ∷ 21 ∷ 23 ∷ []) ∷ application 5 (22 ∷ 11 ∷ 11 ∷ 22 ∷ []) ∷ application 5 (1 ∷ 21 ∷ 21 ∷ 23 ∷ []) ∷ application 5 (0 ∷ 11 ∷ 11 ∷ 22 ∷ [])
    ∷ application 4 (21 ∷ 21 ∷ 23 ∷ []) ∷ application 4 (11 ∷ 11 ∷ 22 ∷ []) ∷ application 3 [] ∷ application 2 []
    ∷ doubled 20 ∷ doubled 19 ∷ doubled 18 ∷ doubled 17 ∷ doubled 16 ∷ doubled 15 ∷ doubled 14 ∷ doubled 13 ∷ doubled 12 ∷ doubled 1
    ∷ doubled 10 ∷ doubled 9 ∷ doubled 8 ∷ doubled 7 ∷ doubled 6 ∷ doubled 5 ∷ doubled 4 ∷ doubled 3 ∷ doubled 2 ∷ doubled 0
    ∷ application 0 [] ∷ variable 0 ∷ []

pub record OutlinesHold : Type 0 where
  -- The clash is pair 4,096, and is found.
  pub last_pair : outlines_clash (row_at outline_rows) 24 25 ≡ true
  -- One pair more before it, and it is not; the pair more may be of equal rows, which are not opened.
  pub pair_too_many : outlines_clash (row_at outline_rows) 26 27 ≡ false
  pub unopened_counts : outlines_clash (row_at outline_rows) 28 29 ≡ false
  -- A pair of equal rows is one pair however large its term: with the two equal trees opened, the clash would be pair 6,143.
  pub equal_not_opened : outlines_clash (row_at outline_rows) 30 31 ≡ true
  -- Of two constants; of the same; of a variable and an application, on either side.
  pub two_constants : outlines_clash (row_at outline_rows) 22 23 ≡ true
  pub one_constant : outlines_clash (row_at outline_rows) 22 22 ≡ false
  pub variable_left : outlines_clash (row_at outline_rows) 0 24 ≡ false
  pub variable_right : outlines_clash (row_at outline_rows) 24 0 ≡ false
