-- A refusal is no success, and has one reason.
use mathlib.Core.Path.{◌≡◌, ap}
use Prim.Native.Nat.{ℕ}
use native.Mathlib.Omega.{arith}
use Rattle.std.specs.Prelude.{Result, Ok, Err, IsErr, IsErrAnd}

pub err_not_ok : {T E : Type 0} {v : T} {r : E} → ◌≡◌ {A = Result T E} (Err r) (Ok v) → ⊥
err_not_ok e = let z : ◌≡◌ {A = ℕ} 0 1 = cc in omega arith

pub same_err : {T E : Type 0} {r s : E} → ◌≡◌ {A = Result T E} (Err r) (Err s) → r ≡ s
same_err e = cc

-- What `?` hands on.
pub handed_on : {T E : Type 0} {x : E} (r : Result T E) → IsErr r × IsErrAnd r (λ e. e ≡ x) → r ≡ Err x
handed_on (Ok v) h = absurd h.1
handed_on (Err e) h = ap Err h.1
