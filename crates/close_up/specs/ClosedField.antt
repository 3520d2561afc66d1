-- A record's numbers closed up field by field, as the program goes. No promise needs this file; what a record becomes stands in the crate trimming.
use Rattle.std.specs.Prelude.{List, ℕ, ◌+◌, ◌%◌, ◌≤◌, ◌<◌, length}
use Rattle.record.specs.Record.{decoded, count_of, field_of}
use Rattle.derivation.specs.Derivation.{literal_of}
use Rattle.derivation.specs.Stored.{literal_number}
use Rattle.renumbering.specs.Renumbering.{Renumbering, renumbered_row_literal}
use Rattle.verdict.specs.Refusal.{kind_of_record}
use Rattle.naming.specs.Naming.{named_in}
use Rattle.naming.specs.declared.Named.{Named}
use Rattle.naming.specs.declared.Named.TheVariants.{Nothing, Symbol, Row, Literal, Clause}

-- The number that becomes of n in a field that names such a thing.
abbrev pub closed_number : Renumbering → Named → ℕ → ℕ
closed_number N Nothing n = n
closed_number N Symbol n = N.symbol n
closed_number N Row n = N.row n
closed_number N Literal n = literal_number (renumbered_row_literal N (literal_of n))
closed_number N Clause n = N.clause n

-- Field i of a record's part, in 16 bits.
abbrev pub closed_field : Renumbering → List ℕ → ℕ → ℕ
closed_field N part i = closed_number N (named_in (kind_of_record (decoded part)) (count_of part) i) (field_of part i) % 65536

-- A field with one behind it, and room for both.
pub record FieldsPlaceable (i : ℕ) (output : List ℕ) (at : ℕ) : Type 0 where
  pub few : i < 6
  pub room : at + 4 ≤ length output
