use Prim.Native.Nat.{◌+◌}
use native.Mathlib.Omega.{arith}
use borrow.Author.Tests.{eq-eqb, ne_eqb}
use Rattle.text.proofs.Positions.{wrote_nothing}
use Rattle.terms.proofs.put_closing.Goals as goal

pub returns-then-arity-eq0 : goal.returns-then-arity-eq0
returns-then-arity-eq0 c =
    rw (eq-eqb (c.args.arity + 1) 1 (omega arith)) (wrote_nothing _ _)

pub returns : goal.returns
returns c =
    rw (ne_eqb (c.args.arity + 1) 1 (λ q. omega arith)) c.put_byte.ensures
