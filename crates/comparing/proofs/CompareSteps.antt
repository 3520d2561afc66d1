-- The ways out of comparing two clauses, as the program takes them.
use mathlib.Core.Path.{◌≡◌, sym, ◌∙◌, subst}
use mathlib.Core.Bool.{Bool, true, false}
use mathlib.Core.List.{List, ◌∷◌}
use Prim.Native.Nat.{ℕ, ◌≤◌}
use lib.ListN.{replicate}
use Rattle.derivation.specs.Stored.{literals_cell}
use Rattle.answer.specs.Given.{verdict_stands}
use Rattle.answer.specs.declared.Answer as answer
use Rattle.coverings.specs.Choosing.{comparison_numbers, comparison}
use Rattle.comparing.specs.Comparing.{is_input, AfterCheck, Compared}
use Rattle.comparing.specs.Given.{Covering, covering_given}
use Rattle.comparing.proofs.Comparisons.{refused_covering, refused_nothing, left_nothing, right_nothing, few_left, few_right, compared}

module _ (CL N O : List ℕ) (a : answer.Answer) (c d : ℕ) (b : Bool) (t : b ≡ verdict_stands a.verdict) (s : b ≡ true) where
  -- What comparing the literals asks.
  pub choose_ready : AfterCheck CL N O a → (x : Bool) → x ≡ is_input O a.clauses c → x ≡ true → (y : Bool) → y ≡ is_input O a.clauses d → y ≡ true → (lefts rights : ℕ) → lefts ≡ literals_cell CL c → rights ≡ literals_cell CL d
      → (lefts ≤ 7) × (rights ≤ 7)
  choose_ready R x p f y q g lefts rights k l = (
    subst (λ (n : ℕ). n ≤ 7) (sym k) (few_left CL N O a c d R (sym t ∙ s) (sym p ∙ f) (sym q ∙ g)),
    subst (λ (n : ℕ). n ≤ 7) (sym l) (few_right CL N O a c d R (sym t ∙ s) (sym p ∙ f) (sym q ∙ g)),
  )

-- The ways of comparing.
module _ (CL N O : List ℕ) (a : answer.Answer) (c d : ℕ) (r : Covering) where
  pub not_standing : covering_given r ≡ 2 ∷ 15 ∷ 0 ∷ replicate 7 0 → (b : Bool) → b ≡ verdict_stands a.verdict → b ≡ false → Compared CL N O a c d r
  not_standing e b t f = record { covering = λ R. refused_covering R.file R.before c d r e (refused_nothing CL N O a c d R (sym t ∙ f)) }

  module _ (b : Bool) (t : b ≡ verdict_stands a.verdict) (s : b ≡ true) where
    pub not_input_left : covering_given r ≡ 2 ∷ 15 ∷ 0 ∷ replicate 7 0 → (x : Bool) → x ≡ is_input O a.clauses c → x ≡ false → Compared CL N O a c d r
    not_input_left e x p f = record { covering = λ R. refused_covering R.file R.before c d r e (left_nothing CL N O a c d R (sym t ∙ s) (sym p ∙ f)) }

    pub not_input_right : covering_given r ≡ 2 ∷ 15 ∷ 0 ∷ replicate 7 0 → (x : Bool) → x ≡ is_input O a.clauses d → x ≡ false → Compared CL N O a c d r
    not_input_right e x p f = record { covering = λ R. refused_covering R.file R.before c d r e (right_nothing CL N O a c d R (sym t ∙ s) (sym p ∙ f)) }

    pub both_input : (x : Bool) → x ≡ is_input O a.clauses c → x ≡ true → (y : Bool) → y ≡ is_input O a.clauses d → y ≡ true → (lefts rights : ℕ) → lefts ≡ literals_cell CL c → rights ≡ literals_cell CL d
        → covering_given r ≡ comparison_numbers (comparison N O c d lefts rights) → Compared CL N O a c d r
    both_input x p f y q g lefts rights k l e = record {
      covering = λ R. compared CL N O a c d R (sym t ∙ s) (sym p ∙ f) (sym q ∙ g) r (rw (k, l) at e);
    }
