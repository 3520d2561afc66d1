-- Document 02, Q-10: the variables of a clause are numbered from 0 in the order in which they are printed, and what `~` hides takes no number.
use mathlib.Core.Path.{◌≡◌, refl, sym, ap, ◌∙◌, subst}
use mathlib.Core.Bool.{Bool, true, false}
use mathlib.Core.Logic.{inl, inr}
use mathlib.Core.List.{List, [], ◌∷◌, ◌++◌}
use Prim.Native.Nat.{ℕ, zero, suc, ◌<◌}
use native.Mathlib.Omega.{arith}
use lib.Dec.{leb}
use lib.ListN.{length, get_or}
use Rattle.record.specs.Record.{pick}
use Rattle.unification.specs.Row.{Variable}
use Rattle.unification.specs.Term.{Term, Terms, var, app, nil, cons, occurrences}
use Rattle.unification.proofs.Lists.{Each, each_more}
use Rattle.derivation.specs.Written.{Clause}
use Rattle.demands.specs.Conditions.{OneOf}
use Rattle.appearance.specs.Appearance.{position, appearing, all_appearing, shown, all_shown}
use Rattle.appearance.proofs.Positions.{Among, noted_all, noted_all_append, noted_all_among, noted_all_each, position_once, position_below}
use Rattle.canonical.specs.SameClause.{printed_of, all_printed_of, printed_variables, NumberedByAppearance}
use Rattle.canonical.proofs.Related.{numbered_text}

-- ── The numbered variables are the printed ones, as they appear ──

mutual
  appearing_printed : (seen : List Variable) (t : Term Variable) → appearing seen t ≡ noted_all seen (printed_of t)
  appearing_printed seen (var x) = refl
  appearing_printed seen (app s ts) = all_appearing_printed seen ts

  all_appearing_printed : (seen : List Variable) (ts : Terms Variable) → all_appearing seen ts ≡ noted_all seen (all_printed_of ts)
  all_appearing_printed seen nil = refl
  all_appearing_printed seen (cons t ts) =
      ap (λ (u : List Variable). all_appearing u ts) (appearing_printed seen t)
      ∙ all_appearing_printed (noted_all seen (printed_of t)) ts
      ∙ sym (noted_all_append seen (printed_of t) (all_printed_of ts))

shown_printed : (seen : List Variable) (l : Bool × Term Variable) → shown seen l ≡ noted_all seen (pick (leb (occurrences l.1) 64) (printed_of l.1) [])
shown_printed seen l = try (leb (occurrences l.1) 64)
  where
    try : (b : Bool) → pick b (appearing seen l.1) seen ≡ noted_all seen (pick b (printed_of l.1) [])
    try true = appearing_printed seen l.1
    try false = refl

all_shown_printed : (seen : List Variable) (ls : Clause) → all_shown seen ls ≡ noted_all seen (printed_variables ls)
all_shown_printed seen [] = refl
all_shown_printed seen (l ∷ ls) =
    let own = pick (leb (occurrences l.1) 64) (printed_of l.1) [] in
    ap (λ (u : List Variable). all_shown u ls) (shown_printed seen l) ∙ all_shown_printed (noted_all seen own) ls ∙ sym (noted_all_append seen own (printed_variables ls))

-- ── Elements of a list ──

one_of_each : (P : Variable → Type 0) (xs : List Variable) → Each P xs → (x : Variable) → OneOf x xs → P x
one_of_each P [] h x o = absurd o
one_of_each P (y ∷ xs) h x (inl e) = subst P (sym e) h.0
one_of_each P (y ∷ xs) h x (inr o) = one_of_each P xs h.1 x o

each_one_of : (xs : List Variable) → Each (λ x. OneOf x xs) xs
each_one_of [] = tt
each_one_of (x ∷ xs) = (inl refl, each_more (λ y. OneOf y xs) (λ y. OneOf y (x ∷ xs)) (λ y o. inr o) xs (each_one_of xs))

each_at : (P : Variable → Type 0) (d : Variable) (xs : List Variable) → Each P xs → (n : ℕ) → n < length xs → P (get_or xs n d)
each_at P d [] h n k = absurd (omega arith)
each_at P d (x ∷ xs) h zero k = h.0
each_at P d (x ∷ xs) h (suc n) k = each_at P d xs h.1 n (omega arith)

-- ── Numbers ──

printed_among : (ls : Clause) (x : Variable) → OneOf x (printed_variables ls) → Among (all_shown [] ls) x
printed_among ls x o =
    subst (λ (u : List Variable). Among u x) (sym (all_shown_printed [] ls)) (one_of_each (Among (noted_all [] (printed_variables ls))) (printed_variables ls) (noted_all_among [] (printed_variables ls)) x o)

-- The variable with the number below is one of those before.
number_below : (ls : Clause) (front back : List Variable) (x : Variable) (n : ℕ) → printed_variables ls ≡ front ++ (x ∷ back) → position (all_shown [] ls) x ≡ suc n
    → (y : Variable) × OneOf y front × (position (all_shown [] ls) y ≡ n)
number_below ls front back x n e p =
    let y = get_or (noted_all [] front) n (0, 0) in
    let all : all_shown [] ls ≡ noted_all [] (front ++ (x ∷ back)) = all_shown_printed [] ls ∙ ap (noted_all []) e in
    let below = position_below front back x n (ap (λ (u : List Variable). position u x) (sym all) ∙ p) in
    let before : OneOf y front = each_at (λ z. OneOf z front) (0, 0) (noted_all [] front) (noted_all_each (λ z. OneOf z front) [] front tt (each_one_of front)) n below.0 in
    (y, before, ap (λ (u : List Variable). position u y) all ∙ below.1)

pub numbered_by_appearance : (ls : Clause) → NumberedByAppearance ls
numbered_by_appearance ls = record {
  number = position (all_shown [] ls);
  text = sym (numbered_text ls);
  different = λ x y h k. position_once (all_shown [] ls) x y (printed_among ls x h) (printed_among ls y k);
  in_order = number_below ls;
}
