-- What the answer of a read means to the program.
use Rattle.std.specs.Prelude.{ℕ, zero, suc, Result, Ok, Err}
use Rattle.std.specs.declared.ops.ControlFlow.{ControlFlow}
use Rattle.std.specs.declared.ops.ControlFlow.TheVariants.{Continue, Break}

-- What a read means after `done` bytes: bytes that came are so many more, no byte is the end and makes the input whole, and a failed read is no end.
abbrev pub taken_of : {E : Type 0} → ℕ → Result ℕ E → ControlFlow (Result ℕ E) ℕ
taken_of done (Ok zero) = Break (Ok done)
taken_of done (Ok (suc n)) = Continue (suc n)
taken_of done (Err e) = Break (Err e)
