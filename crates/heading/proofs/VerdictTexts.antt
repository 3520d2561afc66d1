-- The verdict that the program gives is written as the definition's verdict with the same numbers.
use mathlib.Core.Path.{◌≡◌, refl, sym, ap, ◌∙◌, subst}
use mathlib.Core.List.{List, [], ◌∷◌, ◌++◌}
use Prim.Native.Nat.{ℕ}
use native.Mathlib.Omega.{arith}
use lib.ListN.{length, take}
use lib.Seq.{take_at}
use Rattle.verdict.specs.Refusal.{reason_number}
use Rattle.verdict.specs.Verdict.{Verdict, refusal, accepted, open', verdict_numbers, Answer, answer_numbers}
use Rattle.answer.specs.Given.{verdict_coded, answer_given}
use Rattle.answer.specs.declared.Answer as given-answer
use Rattle.answer.specs.declared.Verdict as goal
use Rattle.answer.specs.declared.Verdict.TheVariants.{Open, Accepted, Refused}
use Rattle.heading.specs.Heading.{given_text}
use Rattle.verdict.specs.Readout.{verdict_text, verdict_line}
use Rattle.text.specs.Buffer.{Wrote}

-- Three numbers decide the words.
pub given_words : (v : goal.Verdict) (u : Verdict) → verdict_coded v ≡ verdict_numbers u → given_text v ≡ verdict_text u
given_words Open open' q = refl
given_words Open (accepted n) q = absurd (let z : ◌≡◌ {A = ℕ} 0 1 = cc in omega arith)
given_words Open (refusal reason k) q = absurd (let z : ◌≡◌ {A = ℕ} 0 2 = cc in omega arith)
given_words (Accepted m) open' q = absurd (let z : ◌≡◌ {A = ℕ} 1 0 = cc in omega arith)
given_words (Accepted m) (accepted n) q = let z : m ≡ n = cc in ap (λ (i : ℕ). given_text (Accepted i)) z
given_words (Accepted m) (refusal reason k) q = absurd (let z : ◌≡◌ {A = ℕ} 1 2 = cc in omega arith)
given_words (Refused p j) open' q = absurd (let z : ◌≡◌ {A = ℕ} 2 0 = cc in omega arith)
given_words (Refused p j) (accepted n) q = absurd (let z : ◌≡◌ {A = ℕ} 2 1 = cc in omega arith)
given_words (Refused p j) (refusal reason k) q =
    let a : p ≡ reason_number reason = cc in
    let b : j ≡ k = cc in
    λ i. given_text (Refused (a i) (b i))

pub given_written : {v : goal.Verdict} {T T' : List ℕ} {at end : ℕ} (u : goal.Verdict) → v ≡ u → Wrote T T' at end (given_text u) → Wrote T T' at end (given_text v)
given_written {v} {T} {T'} {at} {end} u q w = subst (λ (x : goal.Verdict). Wrote T T' at end (given_text x)) (sym q) w

-- The line written is that of the definition's verdict with the same three numbers.
pub verdict_line_lem : (v : goal.Verdict) {T T' : List ℕ} {at end : ℕ} (u : Verdict) → verdict_coded v ≡ verdict_numbers u → Wrote T T' at end (given_text v ++ (10 ∷ [])) → Wrote T T' at end (verdict_line u)
verdict_line_lem v {T} {T'} {at} {end} u q W = subst (λ (x : List ℕ). Wrote T T' at end (x ++ (10 ∷ []))) (given_words v u q) W

-- The verdict's numbers are the first three of an answer's seven.
pub verdict_told : (a : given-answer.Answer) (b : Answer) → answer_given a ≡ answer_numbers b → verdict_coded a.verdict ≡ verdict_numbers b.verdict
verdict_told a b q =
    sym (take_at (verdict_coded a.verdict) (a.symbols ∷ a.rows ∷ a.clauses ∷ a.bindings ∷ []) 3 (given_three a.verdict))
    ∙ ap (take 3) q ∙ take_at (verdict_numbers b.verdict) (b.symbols ∷ b.rows ∷ b.clauses ∷ b.bindings ∷ []) 3 (three b.verdict)
  where
    given_three : (v : goal.Verdict) → length (verdict_coded v) ≡ 3
    given_three Open = refl
    given_three (Accepted n) = refl
    given_three (Refused p k) = refl

    three : (v : Verdict) → length (verdict_numbers v) ≡ 3
    three open' = refl
    three (accepted n) = refl
    three (refusal reason k) = refl
