-- The flags that the program works out, off what it keeps of the state that reading a file left.
use mathlib.Core.Path.{◌≡◌, subst}
use mathlib.Core.Option.{some}
use mathlib.Core.List.{List}
use Prim.Native.Nat.{ℕ, ◌≤◌, ◌<◌}
use native.Mathlib.Omega.{arith}
use lib.ListN.{length, get_or, replicate, length-map}
use Rattle.record.specs.Record.{pick, File}
use Rattle.derivation.specs.Derivation.{Derivation}
use Rattle.verdict.specs.Force.{uses_in_force}
use Rattle.verdict.specs.State.{State, derivations, clause_of}
use Rattle.verdict.specs.Tables.{Tables}
use Rattle.verdict.specs.Verdict.{Stands}
use Rattle.demands.proofs.Inversions.{entry_below}
use Rattle.entry.specs.Progress.{ReadTo}
use Rattle.entry.proofs.Kept.{fitting_records}
use Rattle.inference.proofs.KeptClauses.{stand_of, stored_of}
use Rattle.force.specs.Flags.{flags_in_force}
use Rattle.force.proofs.FlagLaws.{clause_flag}

pub few_clauses : (F : File) (t : Tables) (S : State) (here : Tables) (N O A : List ℕ) → ReadTo F t S here N O A → length S.clauses ≤ 4096
few_clauses F t S here N O A X = omega (arith, (stand_of X.kept X.few).tally.total, X.few, fitting_records F X.kept.fit)

pub kept_flag : (day : ℕ) (F : File) (t : Tables) (S : State) (here : Tables) (N O A : List ℕ) → ReadTo F t S here N O A → Stands F S → (n : ℕ) (d : Derivation) → clause_of S n ≡ some d
    → get_or (flags_in_force day F O (length S.clauses) (replicate 4096 1)) n 0 ≡ pick (uses_in_force S day d) 1 0
kept_flag day F t S here N O A X st n d p =
    let many = few_clauses F t S here N O A X in
    let below : n < length S.clauses = subst (λ (m : ℕ). n < m) (length-map S.clauses (λ (c : ℕ × Derivation). c.1)) (entry_below (derivations S) n d p) in
    clause_flag day F S st O here.clauses here.bindings (length S.clauses) many n d below (stored_of X.kept X.few n d p)
