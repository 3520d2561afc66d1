-- Each way out is one law of `Origins`: a factor's parent, the left parent of a resolvent, the right one.
use mathlib.Core.Path.{refl}
use Prim.Native.Nat.{◌+◌, ◌*◌}
use native.Mathlib.Omega.{arith}
use Rattle.named_literals.proofs.Origins.{comes_up, comes_high, factor_up, left_up, right_up, right_passes}
use Rattle.literal_walk.proofs.parent_place.Goals as goal

pub passed_over-requires : goal.passed_over-requires
passed_over-requires c =
    let H = c.requires.stored_literal in
    omega (arith, comes_high H (factor_up H c.origin_code.ensures c.if-origin_code-eq2.true c.part_of-left.ensures c.part_of-right.ensures), c.type_inv.clauses (5 * c.part_of-left.result + 1))

pub returns-then-origin_code-eq2 : goal.returns-then-origin_code-eq2
returns-then-origin_code-eq2 c =
    let H = c.requires.stored_literal in
    comes_up c.passed_over.ensures H (factor_up H c.origin_code.ensures c.if-origin_code-eq2.true c.part_of-left.ensures c.part_of-right.ensures)

pub passed_over-requires-then-n-kept : goal.passed_over-requires-then-n-kept
passed_over-requires-then-n-kept c =
    let H = c.requires.stored_literal in
    omega (arith, comes_high H (left_up H c.origin_code.ensures c.requires.fact c.if-origin_code-eq2.false c.part_of-left.ensures c.part_of-a.ensures c.literals_cell.ensures c.left_over-kept.ensures c.if-n-kept.true), c.type_inv.clauses (5 * c.part_of-left.result + 1))

pub returns-then-n-kept : goal.returns-then-n-kept
returns-then-n-kept c =
    let H = c.requires.stored_literal in
    comes_up c.passed_over-then-n-kept.ensures H (left_up H c.origin_code.ensures c.requires.fact c.if-origin_code-eq2.false c.part_of-left.ensures c.part_of-a.ensures c.literals_cell.ensures c.left_over-kept.ensures c.if-n-kept.true)

pub passed_rights-requires : goal.passed_rights-requires
passed_rights-requires c =
    let H = c.requires.stored_literal in
    right_passes H c.origin_code.ensures c.requires.fact c.if-origin_code-eq2.false c.part_of-left.ensures c.part_of-a.ensures c.literals_cell.ensures c.left_over-kept.ensures c.if-n-kept.false c.part_of-right.ensures (omega (arith, c.type_inv.clauses (5 * c.part_of-right.result + 1)))

pub returns : goal.returns
returns c =
    let H = c.requires.stored_literal in
    comes_up refl H (right_up H c.origin_code.ensures c.requires.fact c.if-origin_code-eq2.false c.part_of-left.ensures c.part_of-a.ensures c.literals_cell.ensures c.left_over-kept.ensures c.if-n-kept.false c.part_of-right.ensures c.passed_rights.ensures c.index_cell-raised.ensures)
