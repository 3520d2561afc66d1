-- Case L, cases D and F, the limits on bindings, and outlines, by computing; the limit on work by the levels of the tree that uses it up.
use mathlib.Core.Path.{◌≡◌, refl, ◌∙◌}
use mathlib.Core.List.{[], ◌∷◌}
use Prim.Native.Nat.{ℕ, suc, ◌+◌}
use native.Mathlib.Omega.{arith}
use Rattle.unification.specs.Cases.{no_bindings, CaseL, doubled, tree_rows, UnificationsHold, OutlinesHold}
use Rattle.unification.specs.Outlines.{most_outline_pairs, clash_within}
use Rattle.unification.specs.Row.{application, row_at}
use Rattle.unification.specs.Unification.{unify, most_work, most_bindings, most_links, overwork, unified, failed, unifying, no_room, run}
use Rattle.unification.proofs.Failures.{reached_run}
use Rattle.unification.proofs.Limits.{work_16384}
use Rattle.unification.proofs.Trees as trees

pub case_l : CaseL
unfolding run most_work most_links most_bindings
case_l = record { before = refl; unifies = refl; after = refl; after_in_print = refl }

-- Row r of the trees, at the indices 1 and 2, takes n turns.
abbrev Takes : ℕ → ℕ → Type 0
Takes n r = trees.Takes (row_at tree_rows) most_links (no_room 0) no_bindings 1 2 refl n r

next : (n r : ℕ) → row_at tree_rows (suc r) ≡ doubled r → Takes n r → Takes (suc (n + n)) (suc r)
next n r q t = trees.takes_two (row_at tree_rows) most_links (no_room 0) no_bindings 1 2 refl n (suc r) 1 r q t

one_more : (n r : ℕ) → row_at tree_rows (suc r) ≡ application 2 (r ∷ []) → Takes n r → Takes (suc n) (suc r)
one_more n r q t = trees.takes_one (row_at tree_rows) most_links (no_room 0) no_bindings 1 2 refl n (suc r) 2 r q t

full_tree : Takes 16383 13
full_tree =
    next 8191 12 refl (next 4095 11 refl (next 2047 10 refl (next 1023 9 refl (next 511 8 refl (next 255 7 refl (next 127 6 refl
    (next 63 5 refl (next 31 4 refl (next 15 3 refl (next 7 2 refl (next 3 1 refl (next 1 0 refl
    (trees.takes_leaf (row_at tree_rows) most_links (no_room 0) no_bindings 1 2 refl 0 0 refl)))))))))))))

-- With nothing to do, no work is needed.
at_rest : run (row_at tree_rows) most_links (no_room 0) no_bindings 0 (unifying [] []) ≡ unified [] 0
unfolding run
at_rest = refl

last_work_lem : unify (row_at tree_rows) 0 no_bindings (((14, 1), (14, 2)) ∷ []) ≡ unified [] 0
last_work_lem = reached_run _ _ _ _ 16384 _ _ (one_more 16383 13 refl full_tree []) 0 most_work work_16384 ∙ at_rest

no_further_work_lem : unify (row_at tree_rows) 0 no_bindings (((15, 1), (15, 2)) ∷ []) ≡ failed overwork
no_further_work_lem = trees.spent _ _ _ _ 16385 _ _ (one_more 16384 14 refl (one_more 16383 13 refl full_tree) []) most_work (omega (arith, work_16384))

pub unifications_hold : UnificationsHold
unfolding run most_work most_links most_bindings
unifications_hold = record {
  case_f = refl;
  case_d = refl;
  two_variables = refl;
  depth_first = refl;
  same_application = refl;
  occurrence_in_order = refl;
  occurrence_depth_first = refl;
  occurrence_met = refl;
  last_binding = refl;
  no_further_binding = refl;
  last_work = last_work_lem;
  no_further_work = no_further_work_lem;
}

pub outlines_hold : OutlinesHold
unfolding clash_within most_outline_pairs
outlines_hold = record {
  last_pair = refl;
  pair_too_many = refl;
  unopened_counts = refl;
  equal_not_opened = refl;
  two_constants = refl;
  one_constant = refl;
  variable_left = refl;
  variable_right = refl;
}
