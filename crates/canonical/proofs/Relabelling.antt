-- Terms and clauses with each variable replaced by another, of the same type or of another one: their size, their text, and what occurs in them.
use mathlib.Core.Path.{◌≡◌, refl, ap, ap₂, ◌∙◌}
use mathlib.Core.Logic.{inl, inr}
use mathlib.Core.Bool.{Bool}
use mathlib.Core.List.{List, [], ◌∷◌, ◌++◌, map}
use Prim.Native.Nat.{ℕ, suc, ◌+◌}
use lib.Dec.{leb}
use Rattle.record.specs.Record.{pick}
use Rattle.unification.specs.Row.{Variable}
use Rattle.unification.specs.Term.{Term, Terms, var, app, nil, cons, apply, apply_all, occurrences, all_occurrences, Variables, AllVariables}
use Rattle.unification.proofs.Lists.{Each}
use Rattle.unification.proofs.Terms.{apply_apply, apply_var, apply_agree, variables_more}
use Rattle.derivation.specs.Written.{Clause}
use Rattle.verdict.specs.Text.{sign_text, decimal, term_text, arguments_text, further_text, literal_text, literals_text}
use Rattle.canonical.specs.SameClause.{OccursIn, OccursInSome, OccursInClause}

abbrev pub relabelled : {X Y : Type 0} → (X → Y) → Bool × Term X → Bool × Term Y
relabelled f l = (l.0, apply (λ x. var (f x)) l.1)

-- P holds of every variable of a clause.
abbrev pub AllOf : {X : Type 0} → (X → Type 0) → List (Bool × Term X) → Type 0
AllOf {X} P ls = Each (λ (l : Bool × Term X). Variables P l.1) ls

pub all_of_more : {X : Type 0} (P Q : X → Type 0) → ((x : X) → P x → Q x) → (ls : List (Bool × Term X)) → AllOf P ls → AllOf Q ls
all_of_more P Q g [] h = tt
all_of_more P Q g (l ∷ ls) h = (variables_more P Q g l.1 h.0, all_of_more P Q g ls h.1)

-- ── Size and text ──
module _ {X Y : Type 0} (f : X → Y) where
  mutual
    pub relabelled_occurrences : (t : Term X) → occurrences (apply (λ x. var (f x)) t) ≡ occurrences t
    relabelled_occurrences (var x) = refl
    relabelled_occurrences (app s ts) = ap suc (all_relabelled_occurrences ts)

    all_relabelled_occurrences : (ts : Terms X) → all_occurrences (apply_all (λ x. var (f x)) ts) ≡ all_occurrences ts
    all_relabelled_occurrences nil = refl
    all_relabelled_occurrences (cons t ts) = ap₂ ◌+◌ (relabelled_occurrences t) (all_relabelled_occurrences ts)

  module _ (name : Y → List ℕ) where
    mutual
      relabelled_term : (t : Term X) → term_text name (apply (λ x. var (f x)) t) ≡ term_text (λ x. name (f x)) t
      relabelled_term (var x) = refl
      relabelled_term (app s ts) = ap (λ (u : List ℕ). 115 ∷ (decimal s ++ u)) (relabelled_arguments ts)

      relabelled_arguments : (ts : Terms X) → arguments_text name (apply_all (λ x. var (f x)) ts) ≡ arguments_text (λ x. name (f x)) ts
      relabelled_arguments nil = refl
      relabelled_arguments (cons t ts) = ap₂ (λ (u w : List ℕ). 40 ∷ (u ++ w)) (relabelled_term t) (relabelled_further ts)

      relabelled_further : (ts : Terms X) → further_text name (apply_all (λ x. var (f x)) ts) ≡ further_text (λ x. name (f x)) ts
      relabelled_further nil = refl
      relabelled_further (cons t ts) = ap₂ (λ (u w : List ℕ). 44 ∷ (u ++ w)) (relabelled_term t) (relabelled_further ts)

    relabelled_literal : (l : Bool × Term X) → literal_text name (relabelled f l) ≡ literal_text (λ x. name (f x)) l
    relabelled_literal l =
        ap₂ (λ (n : ℕ) (u : List ℕ). sign_text l.0 ∷ pick (leb n 64) u (126 ∷ [])) (relabelled_occurrences l.1) (relabelled_term l.1)

    pub relabelled_text : (ls : List (Bool × Term X)) → literals_text name (map (relabelled f) ls) ≡ literals_text (λ x. name (f x)) ls
    relabelled_text [] = refl
    relabelled_text (l ∷ ls) = ap₂ (λ (u w : List ℕ). 32 ∷ (u ++ w)) (relabelled_literal l) (relabelled_text ls)

-- A text depends on the names of the variables that occur.
module _ {X : Type 0} (name other : X → List ℕ) where
  mutual
    same_term_lem : (t : Term X) → Variables (λ x. name x ≡ other x) t → term_text name t ≡ term_text other t
    same_term_lem (var x) h = ap (118 ∷◌) h
    same_term_lem (app s ts) h = ap (λ (u : List ℕ). 115 ∷ (decimal s ++ u)) (same_arguments ts h)

    same_arguments : (ts : Terms X) → AllVariables (λ x. name x ≡ other x) ts → arguments_text name ts ≡ arguments_text other ts
    same_arguments nil h = refl
    same_arguments (cons t ts) h = ap₂ (λ (u w : List ℕ). 40 ∷ (u ++ w)) (same_term_lem t h.0) (same_further ts h.1)

    same_further : (ts : Terms X) → AllVariables (λ x. name x ≡ other x) ts → further_text name ts ≡ further_text other ts
    same_further nil h = refl
    same_further (cons t ts) h = ap₂ (λ (u w : List ℕ). 44 ∷ (u ++ w)) (same_term_lem t h.0) (same_further ts h.1)

  pub same_text_lem : (ls : List (Bool × Term X)) → AllOf (λ x. name x ≡ other x) ls → literals_text name ls ≡ literals_text other ls
  same_text_lem [] h = refl
  same_text_lem (l ∷ ls) h =
      ap₂ (λ (u w : List ℕ). 32 ∷ ((sign_text l.0 ∷ pick (leb (occurrences l.1) 64) u (126 ∷ [])) ++ w)) (same_term_lem l.1 h.0) (same_text_lem ls h.1)

-- ── One after another, and those that change nothing ──
module _ {X Y Z : Type 0} (f : X → Y) (g : Y → Z) where
  pub relabelled_twice : (ls : List (Bool × Term X)) → map (relabelled g) (map (relabelled f) ls) ≡ map (relabelled (λ x. g (f x))) ls
  relabelled_twice [] = refl
  relabelled_twice (l ∷ ls) =
      ap₂ (λ (t : Term Z) (ms : List (Bool × Term Z)). (l.0, t) ∷ ms) (apply_apply (λ y. var (g y)) (λ x. var (f x)) l.1) (relabelled_twice ls)

module _ {X : Type 0} (f : X → X) where
  alike : (t : Term X) → Variables (λ x. f x ≡ x) t → apply (λ x. var (f x)) t ≡ t
  alike t h = apply_agree (λ x. var (f x)) var t (variables_more (λ x. f x ≡ x) (λ x. var (f x) ≡ var x) (λ x e. ap var e) t h) ∙ apply_var t

  pub relabelled_alike : (ls : List (Bool × Term X)) → AllOf (λ x. f x ≡ x) ls → map (relabelled f) ls ≡ ls
  relabelled_alike [] h = refl
  relabelled_alike (l ∷ ls) h = ap₂ (λ (t : Term X) (ms : List (Bool × Term X)). (l.0, t) ∷ ms) (alike l.1 h.0) (relabelled_alike ls h.1)

-- ── What occurs ──

-- What holds of every variable that occurs holds of every variable, and the other way round.
module _ (P : Variable → Type 0) where
  mutual
    pub variables_of : (t : Term Variable) → ((x : Variable) → OccursIn x t → P x) → Variables P t
    variables_of (var x) h = h x refl
    variables_of (app s ts) h = all_variables_of ts h

    all_variables_of : (ts : Terms Variable) → ((x : Variable) → OccursInSome x ts → P x) → AllVariables P ts
    all_variables_of nil h = tt
    all_variables_of (cons t ts) h = (variables_of t (λ x o. h x (inl o)), all_variables_of ts (λ x o. h x (inr o)))

  pub clause_variables_of : (ls : Clause) → ((x : Variable) → OccursInClause x ls → P x) → AllOf P ls
  clause_variables_of [] h = tt
  clause_variables_of (l ∷ ls) h = (variables_of l.1 (λ x o. h x (inl o)), clause_variables_of ls (λ x o. h x (inr o)))

  mutual
    occurring : (t : Term Variable) → Variables P t → (x : Variable) → OccursIn x t → P x
    occurring (var y) h x e = rw e h
    occurring (app s ts) h x o = all_occurring ts h x o

    all_occurring : (ts : Terms Variable) → AllVariables P ts → (x : Variable) → OccursInSome x ts → P x
    all_occurring nil h x o = absurd o
    all_occurring (cons t ts) h x (inl o) = occurring t h.0 x o
    all_occurring (cons t ts) h x (inr o) = all_occurring ts h.1 x o

  pub clause_occurring : (ls : Clause) → AllOf P ls → (x : Variable) → OccursInClause x ls → P x
  clause_occurring [] h x o = absurd o
  clause_occurring (l ∷ ls) h x (inl o) = occurring l.1 h.0 x o
  clause_occurring (l ∷ ls) h x (inr o) = clause_occurring ls h.1 x o

-- Where a substitution changes nothing, it gives every variable that occurs itself.
module _ {X : Type 0} (γ : X → Term X) where
  mutual
    pub unchanged : (t : Term X) → apply γ t ≡ t → Variables (λ x. γ x ≡ var x) t
    unchanged (var x) e = e
    unchanged (app s ts) e = all_unchanged ts (arguments_same e)
      where
        arguments_same : {s r : ℕ} {ts us : Terms X} → app s ts ≡ app r us → ts ≡ us
        arguments_same e = cc

    all_unchanged : (ts : Terms X) → apply_all γ ts ≡ ts → AllVariables (λ x. γ x ≡ var x) ts
    all_unchanged nil e = tt
    all_unchanged (cons t ts) e = (unchanged t (first e), all_unchanged ts (others e))
      where
        first : {t u : Term X} {ts us : Terms X} → cons t ts ≡ cons u us → t ≡ u
        first e = cc

        others : {t u : Term X} {ts us : Terms X} → cons t ts ≡ cons u us → ts ≡ us
        others e = cc
