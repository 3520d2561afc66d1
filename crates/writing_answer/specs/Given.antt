-- The answer as the program gives it, in the four numbers of an answer of a function that writes a file (document 02, Q-8, Q-11 and Q-12).
use Rattle.std.specs.Prelude.{List, [], ◌∷◌, ℕ, Result, Ok, Err, ⊤}
use Rattle.answer.specs.declared.Verdict.{Verdict}
use Rattle.answer.specs.declared.Verdict.TheVariants as verdict
use Rattle.writing_answer.specs.declared.NotWritten.{NotWritten}
use Rattle.writing_answer.specs.declared.WritingReason.{WritingReason}
use Rattle.writing_answer.specs.declared.WritingReason.TheVariants.{ShortOutput, StepInInput, OtherSymbol, TooManyMerged, TooManyConverted, NoneAccepted, OwnRefusal}

abbrev pub reason_given : WritingReason → ℕ
reason_given ShortOutput = 2
reason_given StepInInput = 17
reason_given OtherSymbol = 18
reason_given TooManyMerged = 19
reason_given TooManyConverted = 22
reason_given NoneAccepted = 23
reason_given (OwnRefusal number) = number

abbrev pub writing_given : Result ℕ NotWritten → List ℕ
writing_given (Ok n) = 0 ∷ n ∷ 0 ∷ 0 ∷ []
writing_given (Err e) = 2 ∷ reason_given e.reason ∷ e.file ∷ e.at ∷ []

-- A file's own refusal, if it has one. No promise needs this.
abbrev pub own_refusal : ℕ → Verdict → Result ⊤ NotWritten
own_refusal file verdict.Open = Ok tt
own_refusal file (verdict.Accepted n) = Ok tt
own_refusal file (verdict.Refused number k) = Err (record { reason = OwnRefusal number; file = file; at = k })
