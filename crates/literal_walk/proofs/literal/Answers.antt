-- A number outside the clause names nothing; else the literal is a field of the input clause's record, raised on the way.
use mathlib.Core.Path.{sym, ap, ◌∙◌}
use native.Mathlib.Omega.{arith}
use Rattle.derivation.specs.Derivation.{literals, numbered}
use Rattle.named_literals.specs.Named.{named_literal}
use Rattle.named_literals.proofs.Numbers.{numbered_zero, numbered_past}
use Rattle.named_literals.proofs.Origins.{stored_cells, input_found, input_small}
use Rattle.literal_walk.proofs.literal.Goals as goal

pub returns-then-n-eq0 : goal.returns-then-n-eq0
returns-then-n-eq0 c =
    λ B d s. sym (ap named_literal (ap (numbered (literals d)) c.if-n-eq0.true ∙ numbered_zero (literals d)))

pub returns-then-literals_cell-n : goal.returns-then-literals_cell-n
returns-then-literals_cell-n c =
    λ B d s. sym (ap named_literal (numbered_past (literals d) _ (omega (arith, c.if-literals_cell-n.true, c.literals_cell.ensures, (stored_cells s).literal_count))))

pub input_place-place-requires : goal.input_place-place-requires
input_place-place-requires c =
    record { clause = c.requires; low = omega (arith, c.if-n-eq0.false); high = omega (arith, c.if-literals_cell-n.false, c.literals_cell.ensures) }

pub overflow_sub-place : goal.overflow_sub-place
overflow_sub-place c =
    let small = input_small c.input_place-place.ensures c.requires in omega arith

pub overflow_add-result : goal.overflow_add-result
overflow_add-result c =
    let small = input_small c.input_place-place.ensures c.requires in omega arith

pub returns : goal.returns
returns c =
    input_found c.input_place-place.ensures c.part_of-x.ensures
