-- The answer as the program gives it, in seven numbers: document 01's verdict ("Verdict, tables and refusals"), coded 0, 1 and 2, and its counts.
use Rattle.std.specs.Prelude.{Bool, true, false, ◌&&◌, List, [], ◌∷◌, ◌++◌, ℕ, zero, suc, eqb, get_or, replicate, Result, Ok, Err}
use Rattle.std.proofs.Math.Option.{Option, none, some}
use Rattle.record.specs.Record.{pick, File}
use Rattle.derivation.specs.Stored.{literals_cell}
use Rattle.verdict.specs.Refusal.{reason_number}
use Rattle.verdict.specs.Verdict.{verdict_numbers, standing}
use Rattle.force.specs.Flags.{flags_in_force}
use Rattle.entry.specs.declared.entry.Counts.{Counts}
use Rattle.reasons.specs.Reasons.{meant}
use Rattle.answer.specs.declared.Refused.{Refused}
use Rattle.answer.specs.declared.Answer.{Answer}
use Rattle.answer.specs.declared.Verdict.{Verdict}
use Rattle.answer.specs.declared.Verdict.TheVariants as verdict

-- The verdict's three numbers and the counts.
abbrev pub verdict_coded : Verdict → List ℕ
verdict_coded verdict.Open = 0 ∷ 0 ∷ 0 ∷ []
verdict_coded (verdict.Accepted n) = 1 ∷ n ∷ 0 ∷ []
verdict_coded (verdict.Refused q k) = 2 ∷ q ∷ k ∷ []

-- Whether all records stand: the verdict is no refusal.
abbrev pub verdict_stands : Verdict → Bool
verdict_stands verdict.Open = true
verdict_stands (verdict.Accepted n) = true
verdict_stands (verdict.Refused number k) = false

abbrev pub answer_given : Answer → List ℕ
answer_given a = verdict_coded a.verdict ++ (a.symbols ∷ a.rows ∷ a.clauses ∷ a.bindings ∷ [])

abbrev pub numbers_with : List ℕ → Counts → List ℕ
numbers_with v n = v ++ (n.symbols ∷ n.rows ∷ n.clauses ∷ n.bindings ∷ [])

-- Refused before the first record.
abbrev pub untouched_numbers : ℕ → List ℕ
untouched_numbers q = 2 ∷ q ∷ 0 ∷ 0 ∷ 0 ∷ 0 ∷ 0 ∷ []

-- The lowest of the first n clauses that has no literals, by its cell, and is in force, by its flag.
abbrev pub accepts : List ℕ → List ℕ → ℕ → Bool
accepts C L n = eqb (get_or L n 0) 1 && eqb (literals_cell C n) 0

abbrev pub first_accepted : List ℕ → List ℕ → ℕ → Option ℕ
first_accepted C L zero = none
first_accepted C L (suc n) = elim (first_accepted C L n) [ some m ↦ some m | none ↦ pick (accepts C L n) (some n) none ]

abbrev pub standing_numbers : List ℕ → List ℕ → ℕ → List ℕ
standing_numbers C L n = verdict_numbers (standing (first_accepted C L n))

-- The flags before any window is looked at: every clause is in force.
unfoldable pub all_set : List ℕ
all_set = replicate 4096 1

-- How reading ends: all records stand, with the counts after the last, or one is refused.
abbrev pub Ended : Type 0
Ended = Result Counts Refused

-- How the reading of the file F ended, in numbers, on a day.
abbrev pub ended_numbers : ℕ → File → Ended → List ℕ → List ℕ → List ℕ
ended_numbers day F (Ok n) C O = numbers_with (standing_numbers C (flags_in_force day F O n.clauses all_set) n.clauses) n
ended_numbers day F (Err r) C O = numbers_with (2 ∷ reason_number (meant r.reason) ∷ r.number ∷ []) r.counts
