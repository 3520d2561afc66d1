-- Document 02, Q-9: which input clauses of a checked file are present, which clauses then stand, and the answers worked out from that afresh. Nothing here
-- knows of a board.
use Rattle.std.specs.Prelude.{Bool, true, ◌&&◌, List, [], ◌∷◌, ℕ, eqb}
use Rattle.std.specs.Bool.{beq}
use Rattle.std.proofs.Math.Option.{Option, none, some}
use Rattle.record.specs.Record.{pick}
use Rattle.derivation.specs.Derivation.{Derivation, Use, uses}
use Rattle.verdict.specs.Force.{uses_in_force}
use Rattle.verdict.specs.Refusal.{is_input}
use Rattle.verdict.specs.State.{State, derivations, clause_of}
use Rattle.verdict.specs.Verdict.{first_empty}

-- Each input clause is present or withdrawn, by its number. At the start all are present.
abbrev pub Presence : Type 0
Presence = ℕ → Bool

abbrev pub all_present : Presence
all_present n = true

-- Clause n is now present, or withdrawn, and the others are as they were.
abbrev pub changed : Presence → ℕ → Bool → Presence
changed P n present m = pick (eqb m n) present (P m)

-- A clause stands if all input clauses of its derivation are present; an input clause if it is.
abbrev pub all_stand : Presence → List Use → Bool
all_stand P [] = true
all_stand P (u ∷ us) = P u.0 && all_stand P us

abbrev pub stands_with : Presence → Derivation → Bool
stands_with P c = all_stand P (uses c)

-- The lowest standing empty clause whose input clauses are in force on the day, or none.
abbrev pub answer_afresh : ℕ → State → Presence → Option ℕ
answer_afresh day S P = first_empty (λ c. uses_in_force S day c && stands_with P c) (derivations S)

-- The answer to an opening or a call: a clause or none; or refused, with a number and a record.
pub data Answer : Type 0 where
  answered : Option ℕ → Answer
  refused_with : ℕ → ℕ → Answer

-- Its three numbers: 0 none, 1 a clause, 2 refused; the clause or the reason; the record.
abbrev pub answer_numbers : Answer → List ℕ
answer_numbers (answered none) = 0 ∷ 0 ∷ 0 ∷ []
answer_numbers (answered (some n)) = 1 ∷ n ∷ 0 ∷ []
answer_numbers (refused_with number k) = 2 ∷ number ∷ k ∷ []

-- A call withdraws an input clause, by its number, or returns it: then it is present.
pub record Call : Type 0 where
  pub clause : ℕ
  pub present : Bool

-- What a call does to the presence: it is refused where there is no input clause of that number, or it is in that condition already.
abbrev pub after_call : State → Presence → Call → Presence
after_call S P call = pick (is_input (clause_of S call.clause)) (changed P call.clause call.present) P

abbrev pub after_calls : State → Presence → List Call → Presence
after_calls S P [] = P
after_calls S P (call ∷ calls) = after_calls S (after_call S P call) calls

-- The answer to a call, where P says which clauses were present before it: 20 for no input clause of that number, 21 where it is in that condition already, in
-- this order; and else that of the clauses then present.
abbrev pub answer_to_call : ℕ → State → Presence → Call → Answer
answer_to_call day S P call =
    pick (is_input (clause_of S call.clause))
    (pick (beq (P call.clause) call.present) (refused_with 21 0) (answered (answer_afresh day S (changed P call.clause call.present))))
    (refused_with 20 0)
