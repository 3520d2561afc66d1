-- The right literals that a resolve names, looked up and listed: the contracts of the program's functions. No demand needs this file.
use Rattle.std.specs.Prelude.{◌≡◌, Bool, List, [], ◌∷◌, ◌++◌, ℕ, ◌+◌, length, get_or, take, drop, true, false, Some, None, Result, Ok, Err}
use Rattle.std.specs.Prelude as std
use Rattle.std.proofs.Math.Option.{Option, none, some}
use Rattle.record.specs.Record.{pick}
use Rattle.unification.specs.Listed.{listed_from}
use Rattle.unification.specs.Row.{Expression}
use Rattle.derivation.specs.Derivation.{Literal, Derivation}
use Rattle.verdict.specs.Refusal.{literals_in, all_opposite}
use Rattle.verdict.specs.State.{clause_of}
use Rattle.verdict.specs.Step.{atoms}
use Rattle.inference.specs.Stepping.{ClausesStored}
use Rattle.reasons.specs.declared.Reason.{Reason}
use Rattle.reasons.specs.declared.Reason.TheVariants.{NotThere, WrongSigns, NotRising}

-- The expression is listed as number j, after those before it.
pub record AtomListed (L L' : List ℕ) (j : ℕ) (e : Expression) : Type 0 where
  pub added : listed_from L' 0 (j + 1) ≡ listed_from L 0 j ++ (e ∷ [])

-- What the program answers of the right literals, s being the left one's sign: whether all have the other sign, if all exist.
abbrev pub rights_answer : Bool → Option (Derivation × List Literal) → std.Option Bool
rights_answer s none = None
rights_answer s (some y) = Some (all_opposite s y.1)

-- The answer is that of the literals which fields c to g name, and where they exist their atoms are listed.
pub record RightsNamed (O C : List ℕ) (count : ℕ) (numbers : List ℕ) (n : ℕ) (s : Bool) (L : List ℕ) (r : std.Option Bool) : Type 0 where
  pub room : length L ≡ 8
  pub answer : (R : ClausesStored O C count) → r ≡ rights_answer s (literals_in (take n (drop 3 numbers)) (clause_of R.state (get_or numbers 2 0)))
  pub listed : (R : ClausesStored O C count) (y : Derivation × List Literal) → literals_in (take n (drop 3 numbers)) (clause_of R.state (get_or numbers 2 0)) ≡ some y → listed_from L 0 n ≡ atoms y.1

-- Whether a resolve is refused, by the answer and whether the numbers rise.
abbrev pub refusal_of : std.Option Bool → Bool → Result (Unit {0}) Reason
refusal_of None rises = Err NotThere
refusal_of (Some false) rises = pick rises (Err WrongSigns) (Err NotRising)
refusal_of (Some true) rises = pick rises (Ok tt) (Err NotRising)

pub record RightsTested (O C : List ℕ) (count : ℕ) (numbers : List ℕ) (n : ℕ) (s rises : Bool) (L : List ℕ) (q : Result (Unit {0}) Reason) : Type 0 where
  pub answered : std.Option Bool
  pub named : RightsNamed O C count numbers n s L answered
  pub refusal : q ≡ refusal_of answered rises
