use mathlib.Core.Path.{refl}
use native.Mathlib.Omega.{arith}
use Rattle.inference.proofs.RightLaws.{so_far_none, so_far_more, right_missing, clause_missing, rights_listed}
use Rattle.inference.proofs.StepTests.{named_clause}
use Rattle.rights.proofs.named_rights.Goals as goal

pub returns-then-c-count : goal.returns-then-c-count
returns-then-c-count c =
    clause_missing c.told-listed refl c.if-c-count.true _

pub loop-j-init : goal.loop-j-init
loop-j-init c =
    so_far_none c.told-listed

pub literal-named-requires : goal.literal-named-requires
literal-named-requires c =
    named_clause c.requires.clauses_stored _ c.if-c-count.false

pub returns-in_default : goal.returns-in_default
returns-in_default c =
    right_missing c.told-numbers (omega arith) c.loop-j.invariant _ _ refl c.literal-named.ensures refl c.if-c-count.false _ c.loop-j-test.true c.in_default.is

pub loop-j-preserved : goal.loop-j-preserved
loop-j-preserved c =
    so_far_more c.told-numbers (omega arith) c.loop-j.invariant _ _ refl c.literal-named.ensures _ c.in-Some.is _ c.list_atom.array_long c.list_atom.ensures

pub returns : goal.returns
returns c =
    rights_listed c.loop-j.invariant (omega arith) refl c.if-c-count.false
