-- The number in the cell counts, or the variable gets the next one.
use mathlib.Core.Path.{refl, sym, ◌∙◌}
use Rattle.numbering.proofs.Taking.{number_found, number_new}
use Rattle.numbering.proofs.number.Goals as goal

pub has_number-requires : goal.has_number-requires
has_number-requires c =
    record { room = c.requires.numbers.room.list; bound = c.requires.room }

pub returns-then-has_number : goal.returns-then-has_number
returns-then-has_number c =
    number_found c.requires _ _ c.number_cell-cell.ensures refl (sym c.has_number.ensures ∙ c.if-has_number.true)

pub returns : goal.returns
returns c =
    number_new c.requires _ _ c.number_cell-cell.ensures refl (sym c.has_number.ensures ∙ c.if-has_number.false)
