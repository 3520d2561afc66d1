-- By number and index, or by appearance.
use mathlib.Core.Path.{refl, subst}
use Rattle.names.specs.Names.{NameReady}
use Rattle.numbering.specs.declared.Naming.{Naming}
use Rattle.names.proofs.Naming.{name_written}
use Rattle.names.proofs.put_name.Goals as goal

pub put_number-requires : goal.put_number-requires
put_number-requires c =
    let s = c.args in
    subst (λ (m : Naming). NameReady m s.nodes.now s.cells.now s.order.now s.place.count (s.r, s.k)) c.in-ByAppearance.is c.requires

pub returns-in-ByIndex : goal.returns-in-ByIndex
returns-in-ByIndex c =
    rw c.in-ByIndex.is (name_written _ _ _ _ _ _ _ _ _ c.part_of.ensures _ c.put_variable.ensures refl)

pub returns-in-ByAppearance : goal.returns-in-ByAppearance
returns-in-ByAppearance c =
    rw c.in-ByAppearance.is c.put_number.ensures
