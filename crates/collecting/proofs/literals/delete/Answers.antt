use native.Mathlib.Omega.{arith}
use Rattle.collecting.proofs.ListedLiterals.{deleted_zero, deleted_past, deleted_in}
use Rattle.collecting.proofs.literals.delete.Goals as goal

pub returns-then-a-eq0 : goal.returns-then-a-eq0
returns-then-a-eq0 c =
    deleted_zero _ _ _ _ c.if-a-eq0.true

pub returns-then-end-n : goal.returns-then-end-n
returns-then-end-n c =
    deleted_past _ _ _ _ (omega (arith, c.if-end-n.true))

pub returns : goal.returns
returns c =
    deleted_in _ _ _ _ c.if-a-eq0.false (omega arith) c.copy_within.ensures.by_index.0 c.copy_within.ensures.by_index.1
