-- The days beside a record (document 02, Q-11), as the program tests them before anything else: the contracts of its functions. No demand needs this file.
use Rattle.std.specs.Prelude.{◌&&◌, List, ℕ, eqb, leb, Result, Ok, Err}
use Rattle.record.specs.Record.{pick, kind_of, field_of}
use Rattle.record.specs.declared.Form.{Form}
use Rattle.record.specs.declared.Form.TheVariants.{Old, New}
use Rattle.reasons.specs.declared.Reason.{Reason}
use Rattle.reasons.specs.declared.Reason.TheVariants.{BadKind, OutOfRange}

-- How a record of the new form is refused: for a kind that is not 1 to 7, and for days that are not zero beside a record that is no input clause.
unfoldable pub refused_new_days : List ℕ → Result (Unit {0}) Reason
refused_new_days part =
    pick (leb 1 (kind_of part) && leb (kind_of part) 7)
    (pick (eqb (kind_of part) 4) (Ok tt) (pick (eqb (field_of part 7) 0 && eqb (field_of part 8) 0) (Ok tt) (Err OutOfRange)))
    (Err BadKind)

-- In the old form a record has no days, and none is refused so.
abbrev pub refused_days : Form → List ℕ → Result (Unit {0}) Reason
refused_days Old part = Ok tt
refused_days New part = refused_new_days part
