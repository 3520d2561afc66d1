-- Document 02, Q-6: which clauses are in force on a day.
use Rattle.std.specs.Prelude.{Bool, true, ◌&&◌, List, [], ◌∷◌, ℕ, eqb, leb}
use Rattle.std.proofs.Math.Option.{Option, none, some}
use Rattle.record.specs.Record.{pick}
use Rattle.derivation.specs.Derivation.{Derivation, Use, uses}
use Rattle.verdict.specs.State.{State, Window}

-- The window of a clause, if it has one: the newest comes first and supersedes the others.
abbrev pub window_of : List Window → ℕ → Option Window
window_of [] n = none
window_of (w ∷ ws) n = pick (eqb w.clause n) (some w) (window_of ws n)

-- Both its days are included; without a window a clause is in force always.
abbrev pub within : ℕ → Option Window → Bool
within day none = true
within day (some w) = leb w.first day && leb day w.last

abbrev pub in_force : List Window → ℕ → ℕ → Bool
in_force ws day n = within day (window_of ws n)

-- A derivation counts on a day if every input clause that it uses is in force, by the windows as the last record leaves them.
abbrev pub all_in_force : List Window → ℕ → List Use → Bool
all_in_force ws day [] = true
all_in_force ws day (u ∷ us) = in_force ws day u.0 && all_in_force ws day us

abbrev pub uses_in_force : State → ℕ → Derivation → Bool
uses_in_force S day c = all_in_force S.windows day (uses c)
