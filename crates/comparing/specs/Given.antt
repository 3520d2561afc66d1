-- The answer as the program gives it, in ten numbers: document 02's answer (Q-5), coded 0, 1 and 2, and its seven numbers.
use Rattle.std.specs.Prelude.{List, ◌∷◌, ℕ, replicate, Option, Some, None, Result, Ok, Err}
use Rattle.comparing.specs.declared.covering.NothingToCompare.{NothingToCompare}

-- 1 yes, with the literals chosen, or 0 no.
abbrev pub choice_given : Option (List ℕ) → List ℕ
choice_given (Some chosen) = 1 ∷ 0 ∷ 0 ∷ chosen
choice_given None = 0 ∷ 0 ∷ 0 ∷ replicate 7 0

abbrev pub Covering : Type 0
Covering = Result (Option (List ℕ)) NothingToCompare

-- One of these, or 2 refused, with the reason 15 and the record 0.
abbrev pub covering_given : Covering → List ℕ
covering_given (Ok choice) = choice_given choice
covering_given (Err nothing) = 2 ∷ 15 ∷ 0 ∷ replicate 7 0
