-- A refusal of an input file by its own check: the answer, and the output, which stays as it was.
use mathlib.Core.Path.{◌≡◌, refl, sym, ap, ◌∙◌}
use mathlib.Core.Bool.{true, false}
use mathlib.Core.List.{List, [], ◌∷◌}
use Prim.Native.Nat.{ℕ}
use Rattle.std.specs.Prelude.{Result, Ok, Err, is_ok, IsErrAnd, ⊤}
use Rattle.unification.proofs.Tests.{true_not_false}
use Rattle.verdict.specs.Verdict.{Verdict, verdict_numbers}
use Rattle.answer.specs.Given.{verdict_coded, verdict_stands}
use Rattle.answer.specs.declared.Verdict as verdict
use Rattle.answer.specs.declared.Verdict.TheVariants as verdicts
use Rattle.answer.proofs.GivenNumbers.{refused_given}
use Rattle.writing.specs.Writing.{Writing, writing_numbers, unless_refused, output_left}
use Rattle.writing_answer.specs.Given.{reason_given, writing_given, own_refusal}
use Rattle.writing_answer.specs.declared.NotWritten.{NotWritten}

ok_no_error : {e : NotWritten} → ◌≡◌ {A = Result ⊤ NotWritten} (Ok tt) (Err e) → ⊥
ok_no_error q = true_not_false refl (ap (λ (r : Result ⊤ NotWritten). is_ok r) q)

-- A file with no refusal of its own stands, and one with a refusal does not.
pub stands_here : (file : ℕ) (v : verdict.Verdict) {u : ⊤} → own_refusal file v ≡ Ok u → verdict_stands v ≡ true
stands_here file verdicts.Open q = refl
stands_here file (verdicts.Accepted n) q = refl
stands_here file (verdicts.Refused number k) q = absurd (ok_no_error (sym q))

pub refused_here : (file : ℕ) (v : verdict.Verdict) {e : NotWritten} → own_refusal file v ≡ Err e → verdict_stands v ≡ false
refused_here file verdicts.Open q = absurd (ok_no_error q)
refused_here file (verdicts.Accepted n) q = absurd (ok_no_error q)
refused_here file (verdicts.Refused number k) q = refl

-- A refusal ends the work.
pub refused_ends : (file : ℕ) (v : verdict.Verdict) (w : Verdict) (next : Writing) {e : NotWritten} → verdict_coded v ≡ verdict_numbers w → own_refusal file v ≡ Err e → writing_numbers (unless_refused file w next) ≡ writing_given (Err e)
refused_ends file verdicts.Open w next c q = absurd (ok_no_error q)
refused_ends file (verdicts.Accepted n) w next c q = absurd (ok_no_error q)
refused_ends file (verdicts.Refused number k) w next c q =
    let r = refused_given number k w c in
    ap (λ (x : Verdict). writing_numbers (unless_refused file x next)) r.1 ∙ ap (λ (n : ℕ). 2 ∷ n ∷ file ∷ k ∷ []) r.2
    ∙ ap (λ (x : Result ⊤ NotWritten). elim x [ Ok u ↦ [] | Err e ↦ 2 ∷ reason_given e.reason ∷ e.file ∷ e.at ∷ [] ]) q

-- And nothing is written.
pub refused_is : (file : ℕ) (v : verdict.Verdict) (w : Verdict) (next : Writing) {e : NotWritten} → verdict_coded v ≡ verdict_numbers w → own_refusal file v ≡ Err e → (X O : List ℕ) → output_left (unless_refused file w next) X O ≡ O
refused_is file verdicts.Open w next c q X O = absurd (ok_no_error q)
refused_is file (verdicts.Accepted n) w next c q X O = absurd (ok_no_error q)
refused_is file (verdicts.Refused number k) w next c q X O = ap (λ (x : Verdict). output_left (unless_refused file x next) X O) (refused_given number k w c).1

-- What `?` hands on.
pub handed_on : (m : Result ℕ NotWritten) {e : NotWritten} → IsErrAnd m (λ y. y ≡ e) → m ≡ Err e
handed_on (Ok n) p = absurd p
handed_on (Err y) p = ap (λ (x : NotWritten). Err x) p
