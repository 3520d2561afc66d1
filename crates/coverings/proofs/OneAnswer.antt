-- There is one answer of which all is true that is promised.
use mathlib.Core.Path.{◌≡◌, refl, sym, ap, ap₂, ◌∙◌}
use mathlib.Core.Logic.{inl, inr}
use mathlib.Core.Bool.{Bool, true, false}
use mathlib.Core.List.{List, [], ◌∷◌}
use Prim.Native.Nat.{ℕ}
use native.Mathlib.Omega.{arith}
use Rattle.record.specs.Record.{File}
use Rattle.unification.specs.Repeated.{equal_lists}
use Rattle.unification.proofs.Repeats.{lists_equal, list_itself}
use Rattle.unification.proofs.Tests.{true_not_false}
use Rattle.derivation.specs.Derivation.{RowLiteral}
use Rattle.verdict.specs.State.{State}
use Rattle.verdict.specs.Tables.{Tables}
use Rattle.coverings.specs.Answering.{Answer, covers, covers_not, refused_with, Comparable, AnswerPromised}
use Rattle.coverings.specs.Covering.{NotAfter}

pub not_refused_yes : {ns : List ℕ} {n k : ℕ} → covers ns ≡ refused_with n k → ⊥
not_refused_yes e = let z : ◌≡◌ {A = ℕ} 0 1 = cc in omega arith

pub not_refused_no : {n k : ℕ} → covers_not ≡ refused_with n k → ⊥
not_refused_no e = let z : ◌≡◌ {A = ℕ} 0 1 = cc in omega arith

-- Two choices of which neither is after the other are one.
one_choice : (ns ms : List ℕ) → NotAfter ns ms → NotAfter ms ns → ns ≡ ms
one_choice [] [] h k = refl
one_choice [] (m ∷ ms) h k = absurd k
one_choice (n ∷ ns) [] h k = absurd h
one_choice (n ∷ ns) (m ∷ ms) (inl a) (inl b) = absurd (omega arith)
one_choice (n ∷ ns) (m ∷ ms) (inl a) (inr q) = let b = q.0 in absurd (omega arith)
one_choice (n ∷ ns) (m ∷ ms) (inr p) (inl b) = let a = p.0 in absurd (omega arith)
one_choice (n ∷ ns) (m ∷ ms) (inr p) (inr q) = ap₂ (λ (x : ℕ) (xs : List ℕ). x ∷ xs) p.0 (one_choice ns ms p.1 q.1)

module _ (file : File) (tables : Tables) (c d : ℕ) where
  -- Where there is something to compare, one clause with another has one earliest choice.
  same_choice : (ns ms : List ℕ) → AnswerPromised file tables c d (covers ns) → AnswerPromised file tables c d (covers ms) → ns ≡ ms
  same_choice ns ms A B = try (equal_lists ns ms) refl
    where
      compared : (S : State) (C D : List RowLiteral) → Comparable file tables c d S C D → ns ≡ ms
      compared S C D K =
          let x = A.yes_only S C D K ns refl in
          let y = B.yes_only S C D K ms refl in
          one_choice ns ms (A.earliest S C D K ns refl y.0 ms y.1) (B.earliest S C D K ms refl x.0 ns x.1)

      try : (b : Bool) → equal_lists ns ms ≡ b → ns ≡ ms
      try true q = lists_equal ns ms q
      try false q = absurd (not_refused_yes (A.refused_if (λ S C D K. true_not_false (ap (equal_lists ns) (sym (compared S C D K)) ∙ list_itself ns) q)))

  yes_and_no : (ns : List ℕ) → AnswerPromised file tables c d (covers ns) → AnswerPromised file tables c d covers_not → ⊥
  yes_and_no ns A B = not_refused_yes (A.refused_if (λ S C D K. let x = A.yes_only S C D K ns refl in B.no_only S C D K refl x.0 ns x.1))

  pub one_answer : (a b : Answer) → AnswerPromised file tables c d a → AnswerPromised file tables c d b → a ≡ b
  one_answer (covers ns) (covers ms) A B = ap covers (same_choice ns ms A B)
  one_answer (covers ns) covers_not A B = absurd (yes_and_no ns A B)
  one_answer (covers ns) (refused_with n k) A B = absurd (not_refused_yes (A.refused_if (B.refused_only n k refl)))
  one_answer covers_not (covers ms) A B = absurd (yes_and_no ms B A)
  one_answer covers_not covers_not A B = refl
  one_answer covers_not (refused_with n k) A B = absurd (not_refused_no (A.refused_if (B.refused_only n k refl)))
  one_answer (refused_with n k) (covers ms) A B = absurd (not_refused_yes (B.refused_if (A.refused_only n k refl)))
  one_answer (refused_with n k) covers_not A B = absurd (not_refused_no (B.refused_if (A.refused_only n k refl)))
  one_answer (refused_with n k) (refused_with m j) A B = A.refused_if (A.refused_only n k refl) ∙ sym (B.refused_if (B.refused_only m j refl))
