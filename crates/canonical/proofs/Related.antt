-- Clauses that print the same without `~` are the same up to a renaming that is one-to-one on their variables, as long as every number in them has at
-- most five digits.
use mathlib.Core.Path.{◌≡◌, sym, ap, ◌∙◌}
use mathlib.Core.Bool.{Bool, false}
use mathlib.Core.List.{List, [], ◌∷◌, map}
use Prim.Native.Nat.{ℕ}
use lib.ListN.{get_or}
use Rattle.unification.specs.Row.{Variable}
use Rattle.unification.specs.Term.{Term, var}
use Rattle.unification.proofs.Lists.{Each}
use Rattle.unification.proofs.Terms.{variables_more}
use Rattle.derivation.specs.Written.{Clause}
use Rattle.verdict.specs.Text.{decimal, literals_text}
use Rattle.appearance.specs.Appearance.{position, all_shown, number_in, canonical_text}
use Rattle.canonical.specs.SameClause.{OccursInClause, numbered_literal, SameUpToRenaming, has_tilde, FiveDigitLiterals}
use Rattle.appearance.proofs.Positions.{Among, position_found, all_shown_among}
use Rattle.canonical.proofs.Reading.{read_in_one_way_lem}
use Rattle.canonical.proofs.Relabelling.{relabelled, AllOf, all_of_more, relabelled_text, relabelled_twice, relabelled_alike, clause_occurring, unchanged}
use Rattle.canonical.proofs.Tildes.{Printed, all_printed}

-- A clause with the number of each variable in place of it.
abbrev pub numbered_clause : Clause → List (Bool × Term ℕ)
numbered_clause ls = map (numbered_literal (position (all_shown [] ls))) ls

-- The variable that has a number in a clause.
abbrev variable_numbered : Clause → ℕ → Variable
variable_numbered ls n = get_or (all_shown [] ls) n (0, 0)

-- From a clause's variables to those of another clause with the same numbers.
abbrev by_number : Clause → Clause → Variable → Variable
by_number ls ms x = variable_numbered ms (position (all_shown [] ls) x)

-- A clause without `~` is had back from its numbers.
numbered_back : (ls : Clause) → Each Printed ls → map (relabelled (variable_numbered ls)) (numbered_clause ls) ≡ ls
numbered_back ls p =
    relabelled_twice (position (all_shown [] ls)) (variable_numbered ls) ls
    ∙ relabelled_alike (by_number ls ls) ls (all_of_more (Among (all_shown [] ls)) (λ x. by_number ls ls x ≡ x) (λ x h. position_found (0, 0) (all_shown [] ls) x h) ls (all_shown_among [] ls p))

-- So clauses with the same numbers are renamed into each other.
by_number_lem : (ls ms : Clause) → Each Printed ms → numbered_clause ls ≡ numbered_clause ms → map (relabelled (by_number ls ms)) ls ≡ ms
by_number_lem ls ms q e =
    sym (relabelled_twice (position (all_shown [] ls)) (variable_numbered ms) ls) ∙ ap (map (relabelled (variable_numbered ms))) e ∙ numbered_back ms q

all_unchanged : (f : Variable → Variable) (ls : Clause) → map (relabelled f) ls ≡ ls → AllOf (λ x. f x ≡ x) ls
all_unchanged f [] e = tt
all_unchanged f (l ∷ ls) e = (
  variables_more (λ x. var (f x) ≡ var x) (λ x. f x ≡ x) (λ x h. cc) l.1 (unchanged (λ x. var (f x)) l.1 (ap (λ (m : Bool × Term Variable). m.1) (first e))),
  all_unchanged f ls (others e),
)
  where
    first : {m n : Bool × Term Variable} {ms ns : Clause} → ◌≡◌ {A = Clause} (m ∷ ms) (n ∷ ns) → m ≡ n
    first e = cc

    others : {m n : Bool × Term Variable} {ms ns : Clause} → ◌≡◌ {A = Clause} (m ∷ ms) (n ∷ ns) → ms ≡ ns
    others e = cc

module _ (ls ms : Clause) (p : Each Printed ls) (q : Each Printed ms) (e : numbered_clause ls ≡ numbered_clause ms) where
  -- There and back again is the same variable.
  there_and_back : (x : Variable) → OccursInClause x ls → by_number ms ls (by_number ls ms x) ≡ x
  there_and_back =
      clause_occurring (λ x. by_number ms ls (by_number ls ms x) ≡ x) ls
      (all_unchanged (λ x. by_number ms ls (by_number ls ms x)) ls
      (sym (relabelled_twice (by_number ls ms) (by_number ms ls) ls) ∙ ap (map (relabelled (by_number ms ls))) (by_number_lem ls ms q e) ∙ by_number_lem ms ls p (sym e)))

  numbers_related : SameUpToRenaming ls ms
  numbers_related = record {
    renaming = by_number ls ms;
    one_to_one = λ x y h k z. sym (there_and_back x h) ∙ ap (by_number ms ls) z ∙ there_and_back y k;
    same = by_number_lem ls ms q e;
  }

-- A clause's text is that of its numbers.
pub numbered_text : (ls : Clause) → literals_text decimal (numbered_clause ls) ≡ canonical_text ls
numbered_text ls = relabelled_text (position (all_shown [] ls)) decimal ls

pub related_by_text : (ls ms : Clause) → FiveDigitLiterals (numbered_clause ls) → FiveDigitLiterals (numbered_clause ms) → canonical_text ls ≡ canonical_text ms → has_tilde (canonical_text ls) ≡ false → SameUpToRenaming ls ms
related_by_text ls ms h k e n =
    numbers_related ls ms (all_printed (number_in (all_shown [] ls)) ls n) (all_printed (number_in (all_shown [] ms)) ms (ap has_tilde (sym e) ∙ n))
    (read_in_one_way_lem.clause (numbered_clause ls) (numbered_clause ms) h k (numbered_text ls ∙ e ∙ sym (numbered_text ms)) (ap has_tilde (numbered_text ls) ∙ n))
