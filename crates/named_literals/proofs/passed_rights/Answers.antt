-- Past the first number, and past all four: zeros pass nothing.
use mathlib.Core.Path.{◌∙◌}
use Rattle.named_literals.proofs.Numbers.{one_right, fits_first, fits_second, fits_third, fits_fourth, passed_four}
use Rattle.named_literals.proofs.passed_rights.Goals as goal

pub passed_over-first-requires : goal.passed_over-first-requires
passed_over-first-requires c =
    fits_first c.requires _ c.part_of.ensures

pub returns-then-origin_code-eq3 : goal.returns-then-origin_code-eq3
returns-then-origin_code-eq3 c =
    λ ns H. c.passed_over-first.ensures ∙ one_right H _ _ _ c.part_of.ensures c.origin_code.ensures c.if-origin_code-eq3.true

pub passed_over-second-requires : goal.passed_over-second-requires
passed_over-second-requires c =
    fits_second c.requires _ _ _ c.part_of.ensures c.passed_over-first.ensures c.part_of-2.ensures

pub passed_over-third-requires : goal.passed_over-third-requires
passed_over-third-requires c =
    fits_third c.requires _ _ _ _ _ c.part_of.ensures c.passed_over-first.ensures c.part_of-2.ensures c.passed_over-second.ensures c.part_of-3.ensures

pub passed_over-requires : goal.passed_over-requires
passed_over-requires c =
    fits_fourth c.requires _ _ _ _ _ _ _ c.part_of.ensures c.passed_over-first.ensures c.part_of-2.ensures c.passed_over-second.ensures c.part_of-3.ensures c.passed_over-third.ensures c.part_of-4.ensures

pub returns : goal.returns
returns c =
    λ ns H. passed_four H _ _ _ _ _ _ _ _ _ c.part_of.ensures c.passed_over-first.ensures c.part_of-2.ensures c.passed_over-second.ensures c.part_of-3.ensures c.passed_over-third.ensures c.part_of-4.ensures c.passed_over.ensures
