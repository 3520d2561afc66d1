-- The answer's numbers: the first clause without literals that is in force, and the counts.
use mathlib.Core.Path.{◌≡◌, refl, sym, ap, ◌∙◌}
use mathlib.Core.Bool.{Bool, true, false}
use mathlib.Core.Option.{Option, none, some}
use mathlib.Core.List.{List, [], ◌∷◌}
use Prim.Native.Nat.{ℕ, zero, suc, ◌+◌, ◌≤◌, ◌<◌}
use native.Mathlib.Numerals.{add-one}
use native.Mathlib.Omega.{arith}
use lib.Dec.{ltb, ltb→lt}
use Rattle.record.specs.Record.{pick, File}
use Rattle.unification.proofs.Tests.{to_t}
use Rattle.answer.specs.Given.{verdict_coded, answer_given, numbers_with, untouched_numbers, accepts, first_accepted, standing_numbers, all_set, Ended, ended_numbers}
use Rattle.verdict.specs.Verdict.{verdict_numbers, standing}
use Rattle.demands.proofs.Inversions.{not_below}
use Rattle.force.specs.Flags.{flags_in_force}
use Rattle.entry.specs.declared.entry.Counts.{Counts}
use Rattle.std.specs.Prelude.{Ok, Err}
use Rattle.reasons.specs.Reasons.{meant}
use Rattle.verdict.specs.Refusal.{reason_number}
use Rattle.answer.specs.declared.Refused.{Refused}
use Rattle.answer.specs.declared.Answer.{Answer}
use Rattle.answer.specs.declared.Verdict.{Verdict}
use Rattle.answer.specs.declared.Verdict.TheVariants as verdict

abbrev next_accepted : List ℕ → List ℕ → ℕ → Option ℕ → Option ℕ
next_accepted C L n o = elim o [ some m ↦ some m | none ↦ pick (accepts C L n) (some n) none ]

first_stays : (C L : List ℕ) (c n : ℕ) → first_accepted C L (suc c) ≡ some c → suc c ≤ n → first_accepted C L n ≡ some c
first_stays C L c zero q l = absurd (omega arith)
first_stays C L c (suc n) q l = try (ltb c n) refl (λ m. first_stays C L c n q m)
  where
    try : (b : Bool) → ltb c n ≡ b → (suc c ≤ n → first_accepted C L n ≡ some c) → first_accepted C L (suc n) ≡ some c
    try true p ih = let m : c < n = ltb→lt c n (to_t (ltb c n) p) in ap (next_accepted C L n) (ih (omega arith))
    try false p ih = let m : n ≤ c = not_below c n p in let z : n ≡ c = omega arith in ap (λ (x : ℕ). first_accepted C L (suc x)) z ∙ q

module _ (C L : List ℕ) (c : ℕ) (none_before : first_accepted C L c ≡ none) (b : Bool) (isAccepted : b ≡ accepts C L c) where
  pub first_found : (count : ℕ) → c < count → b ≡ true → verdict_coded (verdict.Accepted c) ≡ standing_numbers C L count
  first_found count l z =
      let hit : first_accepted C L (suc c) ≡ some c = ap (next_accepted C L c) none_before ∙ ap (λ (x : Bool). pick x (some c) none) (sym isAccepted ∙ z) in
      ap (λ (o : Option ℕ). verdict_numbers (standing o)) (sym (first_stays C L c count hit (omega arith)))

  pub none_yet : b ≡ false → first_accepted C L (c + 1) ≡ none
  none_yet z = ap (first_accepted C L) (add-one c) ∙ ap (next_accepted C L c) none_before ∙ ap (λ (x : Bool). pick x (some c) none) (sym isAccepted ∙ z)

pub none_found : (C L : List ℕ) (c count : ℕ) → first_accepted C L c ≡ none → c ≤ count → count ≤ c → verdict_coded verdict.Open ≡ standing_numbers C L count
none_found C L c count q l m =
    let z : c ≡ count = omega arith in
    ap (λ (o : Option ℕ). verdict_numbers (standing o)) (sym (ap (first_accepted C L) (sym z) ∙ q))

-- The numbers of an answer made of a verdict and counts.
abbrev made : Verdict → Counts → Answer
made v n = record { verdict = v; symbols = n.symbols; rows = n.rows; clauses = n.clauses; bindings = n.bindings }

pub all_numbers : (day : ℕ) (F : File) (e : Ended) (n : Counts) (C O : List ℕ) (v : Verdict) (a : Answer) → e ≡ Ok n → verdict_coded v ≡ standing_numbers C (flags_in_force day F O n.clauses all_set) n.clauses → a ≡ made v n → answer_given a ≡ ended_numbers day F e C O
all_numbers day F e n C O v a p q r = ap answer_given r ∙ ap (λ (x : List ℕ). numbers_with x n) q ∙ sym (ap (λ (x : Ended). ended_numbers day F x C O) p)

pub refused_numbers : (day : ℕ) (F : File) (e : Ended) (x : Refused) (C O : List ℕ) {q : ℕ} (a : Answer) → e ≡ Err x → q ≡ reason_number (meant x.reason) → a ≡ made (verdict.Refused q x.number) x.counts → answer_given a ≡ ended_numbers day F e C O
refused_numbers day F e x C O a p q r = ap answer_given r ∙ ap (λ (j : ℕ). numbers_with (2 ∷ j ∷ x.number ∷ []) x.counts) q ∙ sym (ap (λ (x : Ended). ended_numbers day F x C O) p)

pub untouched_numbers_lem : (q : ℕ) (a : Answer) → a ≡ made (verdict.Refused q 0) (record { symbols = 0; rows = 0; clauses = 0; bindings = 0 }) → answer_given a ≡ untouched_numbers q
untouched_numbers_lem q a r = ap answer_given r
