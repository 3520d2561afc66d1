-- Clauses that are the same up to a renaming that is one-to-one on their variables have the same text.
use mathlib.Core.Path.{◌≡◌, refl, sym, ap, ap₂, ◌∙◌}
use mathlib.Core.Bool.{Bool, true, false}
use mathlib.Core.List.{List, [], ◌∷◌, ◌++◌, map}
use Prim.Native.Nat.{ℕ}
use lib.Dec.{leb, ltb}
use lib.ListN.{length, length-map}
use Rattle.record.specs.Record.{pick}
use Rattle.unification.specs.Row.{Variable}
use Rattle.unification.specs.Term.{Term, Terms, var, app, nil, cons, apply, apply_all, occurrences, Variables, AllVariables}
use Rattle.unification.proofs.Lists.{Each, map_append}
use Rattle.derivation.specs.Written.{Clause}
use Rattle.verdict.specs.Text.{literals_text}
use Rattle.appearance.specs.Appearance.{position, noted, appearing, all_appearing, shown, all_shown, number_in, canonical_text}
use Rattle.canonical.specs.SameClause.{OccursInClause, renamed_literal, SameUpToRenaming}
use Rattle.appearance.proofs.Positions.{appearing_each, shown_each, all_shown_each}
use Rattle.appearance.proofs.VariableNames.{position_renamed, number_renamed}
use Rattle.canonical.proofs.Relabelling.{AllOf, all_of_more, relabelled_occurrences, relabelled_text, same_text_lem, clause_variables_of}

-- A renaming f that is one-to-one where P holds.
module _ (P : Variable → Type 0) (f : Variable → Variable) (once : (x y : Variable) → P x → P y → f x ≡ f y → x ≡ y) where
  noted_renamed : (seen : List Variable) (x : Variable) → Each P seen → P x → noted (map f seen) (f x) ≡ map f (noted seen x)
  noted_renamed seen x h k =
      ap₂ (λ (n m : ℕ). pick (ltb n m) (map f seen) (map f seen ++ (f x ∷ []))) (position_renamed P f once seen x h k) (length-map seen f) ∙ try (ltb (position seen x) (length seen))
    where
      try : (b : Bool) → pick b (map f seen) (map f seen ++ (f x ∷ [])) ≡ map f (pick b seen (seen ++ (x ∷ [])))
      try true = refl
      try false = sym (map_append f seen (x ∷ []))

  mutual
    appearing_renamed : (seen : List Variable) (t : Term Variable) → Each P seen → Variables P t → appearing (map f seen) (apply (λ x. var (f x)) t) ≡ map f (appearing seen t)
    appearing_renamed seen (var x) h k = noted_renamed seen x h k
    appearing_renamed seen (app s ts) h k = all_appearing_renamed seen ts h k

    all_appearing_renamed : (seen : List Variable) (ts : Terms Variable) → Each P seen → AllVariables P ts → all_appearing (map f seen) (apply_all (λ x. var (f x)) ts) ≡ map f (all_appearing seen ts)
    all_appearing_renamed seen nil h k = refl
    all_appearing_renamed seen (cons t ts) h k =
        ap (λ (l : List Variable). all_appearing l (apply_all (λ x. var (f x)) ts)) (appearing_renamed seen t h k.0)
        ∙ all_appearing_renamed (appearing seen t) ts (appearing_each P seen t h k.0) k.1

  shown_renamed : (seen : List Variable) (l : Bool × Term Variable) → Each P seen → Variables P l.1 → shown (map f seen) (renamed_literal f l) ≡ map f (shown seen l)
  shown_renamed seen l h k =
      ap₂ (λ (n : ℕ) (u : List Variable). pick (leb n 64) u (map f seen)) (relabelled_occurrences f l.1) (appearing_renamed seen l.1 h k) ∙ try (leb (occurrences l.1) 64)
    where
      try : (b : Bool) → pick b (map f (appearing seen l.1)) (map f seen) ≡ map f (pick b (appearing seen l.1) seen)
      try true = refl
      try false = refl

  all_shown_renamed : (seen : List Variable) (ls : Clause) → Each P seen → AllOf P ls → all_shown (map f seen) (map (renamed_literal f) ls) ≡ map f (all_shown seen ls)
  all_shown_renamed seen [] h k = refl
  all_shown_renamed seen (l ∷ ls) h k =
      ap (λ (u : List Variable). all_shown u (map (renamed_literal f) ls)) (shown_renamed seen l h k.0) ∙ all_shown_renamed (shown seen l) ls (shown_each P seen l h k.0) k.1

  -- The renamed clause numbers its variables as the clause does its own.
  renamed_text : (ls : Clause) → AllOf P ls → canonical_text (map (renamed_literal f) ls) ≡ canonical_text ls
  renamed_text ls h =
      let seen = all_shown [] ls in
      relabelled_text f (number_in (all_shown [] (map (renamed_literal f) ls))) ls
      ∙ ap (λ (u : List Variable). literals_text (λ x. number_in u (f x)) ls) (all_shown_renamed [] ls tt h)
      ∙ same_text_lem (λ x. number_in (map f seen) (f x)) (number_in seen) ls
      (all_of_more P (λ x. number_in (map f seen) (f x) ≡ number_in seen x) (λ x p. number_renamed P f once seen x (all_shown_each P [] ls tt h) p) ls h)

pub same_text_renamed : (ls ms : Clause) → SameUpToRenaming ls ms → canonical_text ls ≡ canonical_text ms
same_text_renamed ls ms R =
    sym (renamed_text (λ x. OccursInClause x ls) R.renaming R.one_to_one ls (clause_variables_of (λ x. OccursInClause x ls) ls (λ x o. o))) ∙ ap canonical_text R.same
