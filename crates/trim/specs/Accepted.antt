-- What the program does with the verdict on a file that is to be trimmed. No promise needs this file.
use Rattle.std.specs.Prelude.{ℕ, Result, Ok, Err}
use Rattle.answer.specs.declared.Verdict.{Verdict}
use Rattle.answer.specs.declared.Verdict.TheVariants.{Open, Accepted, Refused}
use Rattle.writing_answer.specs.declared.NotWritten.{NotWritten}
use Rattle.writing_answer.specs.declared.WritingReason.TheVariants.{NoneAccepted, OwnRefusal}

abbrev pub unless_accepted : Verdict → Result ℕ NotWritten
unless_accepted Open = Err (record { reason = NoneAccepted; file = 1; at = 0 })
unless_accepted (Accepted n) = Ok n
unless_accepted (Refused number k) = Err (record { reason = OwnRefusal number; file = 1; at = k })
