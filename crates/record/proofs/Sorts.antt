-- Laws of the sorts of records.
use mathlib.Core.Path.{◌≡◌, refl}
use mathlib.Core.Bool.{Bool, true, false}
use mathlib.Core.List.{List, [], ◌++◌}
use Rattle.record.specs.Record.{Record}
use Rattle.record.specs.Sorts.{unless}

-- What falls away or stays, and what comes behind it.
pub unless_joined : (b : Bool) (r : Record) (rs : List Record) → unless b r rs ≡ unless b r [] ++ rs
unless_joined true r rs = refl
unless_joined false r rs = refl
