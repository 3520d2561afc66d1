-- The numbers of an answer, taken apart: the verdict's three, and how many clauses the check has left.
use mathlib.Core.Path.{◌≡◌, refl, sym, ap, ◌∙◌}
use mathlib.Core.Bool.{true, false}
use mathlib.Core.Option.{Option, none, some}
use mathlib.Core.List.{List, [], ◌∷◌, ◌++◌}
use Prim.Native.Nat.{ℕ}
use native.Mathlib.Omega.{arith}
use lib.ListN.{length, get_or, drop}
use Rattle.record.specs.Record.{File}
use Rattle.unification.proofs.Tests.{true_not_false}
use Rattle.verdict.specs.Refusal.{Reason, reason_number}
use Rattle.verdict.specs.State.{State}
use Rattle.verdict.specs.Verdict.{Verdict, accepted, open', refusal, verdict_numbers, standing, answer_numbers, check, Lengths, reading, state_given}
use Rattle.answer.specs.Given.{verdict_coded, verdict_stands, answer_given}
use Rattle.answer.specs.declared.Answer.{Answer}
use Rattle.answer.specs.declared.Verdict as goal
use Rattle.answer.specs.declared.Verdict.TheVariants as given-variants

-- The state that a check leaves.
abbrev pub state_left : File → Lengths → State
state_left file lengths = state_given (reading file lengths)

-- The verdict's numbers and the counts, taken apart.
rest_given_lem : (v : goal.Verdict) (xs : List ℕ) → drop 3 (verdict_coded v ++ xs) ≡ xs
rest_given_lem given-variants.Open xs = refl
rest_given_lem (given-variants.Accepted n) xs = refl
rest_given_lem (given-variants.Refused q k) xs = refl

rest_numbers : (v : Verdict) (xs : List ℕ) → drop 3 (verdict_numbers v ++ xs) ≡ xs
rest_numbers (accepted n) xs = refl
rest_numbers open' xs = refl
rest_numbers (refusal reason k) xs = refl

abbrev three : List ℕ → List ℕ
three l = get_or l 0 0 ∷ get_or l 1 0 ∷ get_or l 2 0 ∷ []

three_given : (v : goal.Verdict) (xs : List ℕ) → three (verdict_coded v ++ xs) ≡ verdict_coded v
three_given given-variants.Open xs = refl
three_given (given-variants.Accepted n) xs = refl
three_given (given-variants.Refused q k) xs = refl

three_numbers : (v : Verdict) (xs : List ℕ) → three (verdict_numbers v ++ xs) ≡ verdict_numbers v
three_numbers (accepted n) xs = refl
three_numbers open' xs = refl
three_numbers (refusal reason k) xs = refl

module _ (day : ℕ) (F : File) (lengths : Lengths) (a : Answer) (isAnswer : answer_given a ≡ answer_numbers (check day F lengths)) where
  pub verdict_given_lem : verdict_coded a.verdict ≡ verdict_numbers (check day F lengths).verdict
  verdict_given_lem =
      sym (three_given a.verdict (a.symbols ∷ a.rows ∷ a.clauses ∷ a.bindings ∷ []))
      ∙ ap three isAnswer
      ∙ three_numbers (check day F lengths).verdict ((check day F lengths).symbols ∷ (check day F lengths).rows ∷ (check day F lengths).clauses ∷ (check day F lengths).bindings ∷ [])

  -- The four counts.
  counts_given : a.symbols ∷ a.rows ∷ a.clauses ∷ a.bindings ∷ [] ≡ (check day F lengths).symbols ∷ (check day F lengths).rows ∷ (check day F lengths).clauses ∷ (check day F lengths).bindings ∷ []
  counts_given =
      sym (rest_given_lem a.verdict (a.symbols ∷ a.rows ∷ a.clauses ∷ a.bindings ∷ []))
      ∙ ap (drop 3) isAnswer
      ∙ rest_numbers (check day F lengths).verdict ((check day F lengths).symbols ∷ (check day F lengths).rows ∷ (check day F lengths).clauses ∷ (check day F lengths).bindings ∷ [])

  pub symbols_given : a.symbols ≡ length (state_left F lengths).symbols
  unfolding check
  symbols_given = ap (λ (l : List ℕ). get_or l 0 0) counts_given

  pub rows_given : a.rows ≡ length (state_left F lengths).rows
  unfolding check
  rows_given = ap (λ (l : List ℕ). get_or l 1 0) counts_given

  pub clauses_given : a.clauses ≡ length (state_left F lengths).clauses
  unfolding check
  clauses_given = ap (λ (l : List ℕ). get_or l 2 0) counts_given

-- The verdict of a file that is not refused, and of one that is.
pub stands_not_refused : (v : goal.Verdict) (w : Verdict) → verdict_coded v ≡ verdict_numbers w → verdict_stands v ≡ true → (q : Reason) (k : ℕ) → ¬ (w ≡ refusal q k)
stands_not_refused given-variants.Open w e t q k f = let z : ◌≡◌ {A = ℕ} 0 2 = ap (λ (l : List ℕ). get_or l 0 0) (e ∙ ap verdict_numbers f) in omega arith
stands_not_refused (given-variants.Accepted n) w e t q k f = let z : ◌≡◌ {A = ℕ} 1 2 = ap (λ (l : List ℕ). get_or l 0 0) (e ∙ ap verdict_numbers f) in omega arith
stands_not_refused (given-variants.Refused r j) w e t q k f = true_not_false t refl

pub refused_not_standing : (v : goal.Verdict) (o : Option ℕ) → verdict_coded v ≡ verdict_numbers (standing o) → verdict_stands v ≡ false → ⊥
refused_not_standing given-variants.Open o e t = true_not_false refl t
refused_not_standing (given-variants.Accepted n) o e t = true_not_false refl t
refused_not_standing (given-variants.Refused r j) none e t = let z : ◌≡◌ {A = ℕ} 2 0 = ap (λ (l : List ℕ). get_or l 0 0) e in omega arith
refused_not_standing (given-variants.Refused r j) (some n) e t = let z : ◌≡◌ {A = ℕ} 2 1 = ap (λ (l : List ℕ). get_or l 0 0) e in omega arith

-- A refusal that is given is the verdict's: its number and its record.
pub refused_given : (number k : ℕ) (w : Verdict) → verdict_coded (given-variants.Refused number k) ≡ verdict_numbers w → (reason : Reason) × (w ≡ refusal reason k) × (reason_number reason ≡ number)
refused_given number k (accepted n) e = let z : ◌≡◌ {A = ℕ} 2 1 = ap (λ (l : List ℕ). get_or l 0 0) e in absurd (omega arith)
refused_given number k open' e = let z : ◌≡◌ {A = ℕ} 2 0 = ap (λ (l : List ℕ). get_or l 0 0) e in absurd (omega arith)
refused_given number k (refusal reason j) e = (reason, ap (refusal reason) (ap (λ (l : List ℕ). get_or l 2 0) (sym e)), ap (λ (l : List ℕ). get_or l 1 0) (sym e))
