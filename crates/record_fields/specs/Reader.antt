-- Document 01, "The file": an input clause's literals are read out as seven numbers, beside their count.
use Rattle.std.specs.Prelude.{[], ◌∷◌, ℕ, eqb}
use Rattle.record.specs.Record.{pick, File, record_part, kind_of, count_of, fields_of}
use Rattle.record_fields.specs.declared.ClauseLiterals.{ClauseLiterals}

-- Byte 1 and the seven fields of a record of kind 4; zeros for any other record, and for one that is not wholly inside.
unfoldable pub clause_literals : File → ℕ → ClauseLiterals
clause_literals file k =
    pick (eqb (kind_of (record_part file k)) 4)
    (record { count = count_of (record_part file k); numbers = fields_of (record_part file k) })
    (record { count = 0; numbers = 0 ∷ 0 ∷ 0 ∷ 0 ∷ 0 ∷ 0 ∷ 0 ∷ [] })
