-- The walk over pairs of rows against the machine: one law for each way out.
use mathlib.Core.Path.{◌≡◌, refl, sym, ap, ap₂, ◌∙◌, subst}
use mathlib.Core.Bool.{Bool, true, false, not}
use mathlib.Core.List.{List, [], ◌∷◌}
use Prim.Native.Nat.{ℕ, zero, suc, min, ◌+◌, ◌-◌, ◌≤◌, ◌<◌}
use native.Mathlib.Omega.{arith}
use lib.Dec.{eqb}
use borrow.Author.Tests.{eq-eqb, ne_eqb}
use Rattle.record.specs.Record.{pick}
use Rattle.unification.specs.Nodes.{is_variable, part, node_arity, arguments_from, node_row_if, node_row}
use Rattle.unification.specs.Outlines.{RowPair, agree, differ, argument_row_pairs, opened, after_turn, outline_turn, clash_within, outlines_clash}
use Rattle.unification.specs.Row.{Row}
use Rattle.unification.proofs.Outlines.{pairs_4096}
use Rattle.unification.proofs.Tests.{true_not_false}
use Rattle.outlines.specs.Comparing.{smaller, after_compared, NoMorePairs, PairCompared, ArgumentsCompared}
use Rattle.std.specs.Prelude.{Option, Some, None, is_some}

-- The smaller number, as the program finds it.
min_smaller : (a b : ℕ) → min a b ≡ smaller a b
min_smaller zero b = omega arith
min_smaller (suc a) zero = omega arith
min_smaller (suc a) (suc b) = omega (arith, min_smaller a b)

pub smaller_of : {a b x y m : ℕ} → a ≡ x → b ≡ y → m ≡ min a b → m ≡ smaller x y
smaller_of {a} {b} p q r = r ∙ min_smaller a b ∙ ap₂ smaller p q

-- A number that is not 0 is one more than another.
one_more : (n : ℕ) → ¬ (n ≡ 0) → n ≡ suc (n - 1)
one_more n p = omega arith

-- m pairs of arguments of rows r and q, from argument n on, before those that wait.
abbrev pub pairs_from : List ℕ → ℕ → ℕ → ℕ → ℕ → List RowPair → List RowPair
pairs_from N r q zero n ps = ps
pairs_from N r q (suc m) n ps = (part N r n, part N q n) ∷ pairs_from N r q m (suc n) ps

common_pairs : (N : List ℕ) (r q a b n : ℕ) (ps : List RowPair) → argument_row_pairs (arguments_from N r a n) (arguments_from N q b n) ps ≡ pairs_from N r q (smaller a b) n ps
common_pairs N r q zero b n ps = refl
common_pairs N r q (suc a) zero n ps = refl
common_pairs N r q (suc a) (suc b) n ps = ap (λ (z : List RowPair). (part N r n, part N q n) ∷ z) (common_pairs N r q a b (suc n) ps)

module _ (N : List ℕ) where
  abbrev row : ℕ → Row
  row = node_row N

  variable_row_lem : (r : ℕ) → is_variable N r ≡ true → node_row N r ≡ node_row_if N r true
  variable_row_lem r v = ap (node_row_if N r) v

  application_row_lem : (r : ℕ) → is_variable N r ≡ false → node_row N r ≡ node_row_if N r false
  application_row_lem r v = ap (node_row_if N r) v

  -- With no pair left nothing is taken up.
  pub pair_spent : (r q n : ℕ) → n ≡ 0 → PairCompared N r q n (Some 0)
  unfolding clash_within
  pair_spent r q n e = record { whole = λ ps. ap (λ (m : ℕ). clash_within row m ((r, q) ∷ ps)) e; fewer = omega arith }

  -- A pair that is passed over.
  passed_over : (r q n : ℕ) → ¬ (n ≡ 0) → ((ps : List RowPair) → outline_turn row (r, q) ps ≡ agree ps) → PairCompared N r q n (Some (n - 1))
  unfolding clash_within
  passed_over r q n p t = record {
    whole = λ ps. ap (λ (m : ℕ). clash_within row m ((r, q) ∷ ps)) (one_more n p) ∙ ap (after_turn (λ qs. clash_within row (n - 1) qs)) (t ps);
    fewer = omega arith;
  }

  pub pair_same : (r q n : ℕ) → ¬ (n ≡ 0) → r ≡ q → PairCompared N r q n (Some (n - 1))
  pair_same r q n p e = passed_over r q n p (λ ps. ap (λ (b : Bool). pick b (agree ps) (opened (row r) (row q) ps)) (eq-eqb r q e))

  not_same : (r q : ℕ) (ps : List RowPair) → ¬ (r ≡ q) → outline_turn (node_row N) (r, q) ps ≡ opened (node_row N r) (node_row N q) ps
  not_same r q ps d = ap (λ (b : Bool). pick b (agree ps) (opened (row r) (row q) ps)) (ne_eqb r q d)

  pub pair_left_variable : (r q n : ℕ) → ¬ (n ≡ 0) → ¬ (r ≡ q) → is_variable N r ≡ true → PairCompared N r q n (Some (n - 1))
  pair_left_variable r q n p d v = passed_over r q n p (λ ps. not_same r q ps d ∙ ap (λ (w : Row). opened w (row q) ps) (variable_row_lem r v))

  pub pair_right_variable : (r q n : ℕ) → ¬ (n ≡ 0) → ¬ (r ≡ q) → is_variable N r ≡ false → is_variable N q ≡ true → PairCompared N r q n (Some (n - 1))
  pair_right_variable r q n p d u v = passed_over r q n p (λ ps. not_same r q ps d ∙ ap₂ (λ (w z : Row). opened w z ps) (application_row_lem r u) (variable_row_lem q v))

  -- Two applications.
  both_opened : (r q : ℕ) (ps : List RowPair) → ¬ (r ≡ q) → is_variable N r ≡ false → is_variable N q ≡ false
      → outline_turn (node_row N) (r, q) ps ≡ pick (eqb (part N r 0) (part N q 0)) (agree (argument_row_pairs (arguments_from N r (node_arity N r) 1) (arguments_from N q (node_arity N q) 1) ps)) differ
  both_opened r q ps d u v = not_same r q ps d ∙ ap₂ (λ (w z : Row). opened w z ps) (application_row_lem r u) (application_row_lem q v)

  pub pair_clash : (r q n : ℕ) → ¬ (n ≡ 0) → ¬ (r ≡ q) → is_variable N r ≡ false → is_variable N q ≡ false → ¬ (part N r 0 ≡ part N q 0) → PairCompared N r q n None
  unfolding clash_within
  pair_clash r q n p d u v s = record {
    whole = λ ps.
        ap (λ (m : ℕ). clash_within row m ((r, q) ∷ ps)) (one_more n p)
        ∙ ap (after_turn (λ qs. clash_within row (n - 1) qs)) (both_opened r q ps d u v ∙ ap (λ (b : Bool). pick b (agree (argument_row_pairs (arguments_from N r (node_arity N r) 1) (arguments_from N q (node_arity N q) 1) ps)) differ) (ne_eqb (part N r 0) (part N q 0) s));
    fewer = tt;
  }

  fewer_still : (n : ℕ) (c : Option ℕ) → NoMorePairs (n - 1) c → NoMorePairs n c
  fewer_still n None h = tt
  fewer_still n (Some m) h = omega arith

  pub pair_opened : (r q n : ℕ) (c : Option ℕ) → ¬ (n ≡ 0) → ¬ (r ≡ q) → is_variable N r ≡ false → is_variable N q ≡ false → part N r 0 ≡ part N q 0 → ArgumentsCompared N r q (n - 1) c → PairCompared N r q n c
  unfolding clash_within
  pair_opened r q n c p d u v s A = record {
    whole = λ ps.
        ap (λ (m : ℕ). clash_within row m ((r, q) ∷ ps)) (one_more n p)
        ∙ ap (after_turn (λ qs. clash_within row (n - 1) qs)) (both_opened r q ps d u v ∙ ap (λ (b : Bool). pick b (agree (argument_row_pairs (arguments_from N r (node_arity N r) 1) (arguments_from N q (node_arity N q) 1) ps)) differ) (eq-eqb (part N r 0) (part N q 0) s))
        ∙ A.whole ps;
    fewer = fewer_still n c A.fewer;
  }

  -- The loop over arguments: what is left gives the same answer as the whole.
  pub record ArgumentsLeft (r q pairs most left n : ℕ) : Type 0 where
    pub whole : (ps : List RowPair) → clash_within (node_row N) pairs (pairs_from N r q most 1 ps) ≡ clash_within (node_row N) left (pairs_from N r q (most - n) (n + 1) ps)
    pub up_to : n ≤ most
    pub fewer : left ≤ pairs

  pub arguments_first : (r q pairs most : ℕ) → ArgumentsLeft r q pairs most pairs 0
  arguments_first r q pairs most = record { whole = λ ps. ap (λ (k : ℕ). clash_within row pairs (pairs_from N r q k 1 ps)) (let z : most ≡ most - 0 = omega arith in z); up_to = omega arith; fewer = omega arith }

  next_pair : (r q most n : ℕ) (ps : List RowPair) → n < most → pairs_from N r q (most - n) (n + 1) ps ≡ (part N r (n + 1), part N q (n + 1)) ∷ pairs_from N r q (most - (n + 1)) ((n + 1) + 1) ps
  next_pair r q most n ps l =
      let a : most - n ≡ suc (most - (n + 1)) = omega arith in
      let b : suc (n + 1) ≡ (n + 1) + 1 = omega arith in
      ap (λ (m : ℕ). pairs_from N r q m (n + 1) ps) a ∙ ap (λ (m : ℕ). (part N r (n + 1), part N q (n + 1)) ∷ pairs_from N r q (most - (n + 1)) m ps) b

  module _ (r q pairs most left n : ℕ) (h : ArgumentsLeft r q pairs most left n) (l : n < most) (a b : ℕ) (pa : a ≡ part N r (n + 1)) (pb : b ≡ part N q (n + 1)) (c : Option ℕ) (C : PairCompared N a b left c) where
    taken : (ps : List RowPair) → clash_within (node_row N) pairs (pairs_from N r q most 1 ps) ≡ after_compared N c (pairs_from N r q (most - (n + 1)) ((n + 1) + 1) ps)
    taken ps =
        h.whole ps ∙ ap (clash_within row left) (next_pair r q most n ps l ∙ (λ i. (sym pa i, sym pb i) ∷ pairs_from N r q (most - (n + 1)) ((n + 1) + 1) ps))
        ∙ C.whole (pairs_from N r q (most - (n + 1)) ((n + 1) + 1) ps)

    pub arguments_next : (rest : ℕ) → c ≡ Some rest → ArgumentsLeft r q pairs most rest (n + 1)
    arguments_next rest e =
        let f : rest ≤ left = subst (NoMorePairs left) e C.fewer in
        let g = h.fewer in
        record { whole = λ ps. taken ps ∙ ap (λ (x : Option ℕ). after_compared N x (pairs_from N r q (most - (n + 1)) ((n + 1) + 1) ps)) e; up_to = omega arith; fewer = omega arith }

    pub arguments_clash : most ≡ smaller (node_arity N r) (node_arity N q) → c ≡ None → ArgumentsCompared N r q pairs None
    arguments_clash m e = record {
      whole = λ ps.
          ap (clash_within row pairs) (common_pairs N r q (node_arity N r) (node_arity N q) 1 ps ∙ ap (λ (k : ℕ). pairs_from N r q k 1 ps) (sym m))
          ∙ taken ps ∙ ap (λ (x : Option ℕ). after_compared N x (pairs_from N r q (most - (n + 1)) ((n + 1) + 1) ps)) e;
      fewer = tt;
    }

  pub arguments_agree : (r q pairs most left n : ℕ) → ArgumentsLeft r q pairs most left n → most ≤ n → most ≡ smaller (node_arity N r) (node_arity N q) → ArgumentsCompared N r q pairs (Some left)
  arguments_agree r q pairs most left n h l m =
      let z : most - n ≡ 0 = omega arith in
      record {
        whole = λ ps.
            ap (clash_within row pairs) (common_pairs N r q (node_arity N r) (node_arity N q) 1 ps ∙ ap (λ (k : ℕ). pairs_from N r q k 1 ps) (sym m))
            ∙ h.whole ps ∙ ap (λ (k : ℕ). clash_within row left (pairs_from N r q k (n + 1) ps)) z;
        fewer = h.fewer;
      }

  -- The whole comparison.
  nothing_waits : (n : ℕ) → clash_within (node_row N) n [] ≡ false
  unfolding clash_within
  nothing_waits zero = refl
  nothing_waits (suc n) = refl

  pub compared : (r q : ℕ) (c : Option ℕ) → PairCompared N r q 4096 c → (b : Bool) → is_some c ≡ not b → b ≡ outlines_clash (node_row N) r q
  compared r q c C b h = answer c b h ∙ sym (ap (λ (n : ℕ). clash_within row n ((r, q) ∷ [])) pairs_4096 ∙ C.whole [])
    where
      answer : (o : Option ℕ) (b : Bool) → is_some o ≡ not b → b ≡ after_compared N o []
      answer None true h = refl
      answer None false h = absurd (true_not_false h refl)
      answer (Some n) true h = absurd (true_not_false refl h)
      answer (Some n) false h = sym (nothing_waits n)
