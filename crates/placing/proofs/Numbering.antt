-- The number of the next clause, by how many clauses a record makes.
use mathlib.Core.Path.{◌≡◌, ap, ◌∙◌}
use mathlib.Core.Bool.{Bool, true, false}
use Prim.Native.Nat.{ℕ, suc, ◌+◌}
use native.Mathlib.Omega.{arith}
use Rattle.record.specs.Record.{pick, Record}
use Rattle.record.specs.Sorts.{is_clause, one, clauses_after}

one_after : (n : ℕ) (b : Bool) → n + one b ≡ pick b (suc n) n
one_after n true = omega arith
one_after n false = omega arith

pub next_clause_lem : (n : ℕ) (r : Record) {m : ℕ} → m ≡ one (is_clause r) → n + m ≡ clauses_after n r
next_clause_lem n r e = ap (λ (x : ℕ). n + x) e ∙ one_after n (is_clause r)
