-- What a field of a record names, as the program asks it. No promise needs this file; what a record names and how its numbers close up stand by lists in the
-- crates marking and trimming.
use Rattle.std.specs.Prelude.{Bool, true, false, List, ℕ, ◌/◌, eqb, leb, ltb, get_or}
use Rattle.record.specs.Record.{pick, otherKind, Kind, symbolKind, variableKind, applicationKind, inputKind, resolveKind, factorKind, severalKind, windowKind}
use Rattle.derivation.specs.Stored.{record_cell}
use Rattle.naming.specs.declared.Named.{Named}
use Rattle.naming.specs.declared.Named.TheVariants.{Nothing, Symbol, Row, Literal, Clause}

-- Field i, from 0 for field a, of a record of a kind whose byte 1 is n.
abbrev pub named_in : Kind → ℕ → ℕ → Named
named_in applicationKind n i = pick (eqb i 0) Symbol (pick (leb i n) Row Nothing)
named_in inputKind n i = pick (ltb i n) Literal Nothing
named_in resolveKind n i = pick (eqb i 0) Clause (pick (eqb i 2) Clause Nothing)
named_in severalKind n i = pick (eqb i 0) Clause (pick (eqb i 2) Clause Nothing)
named_in factorKind n i = pick (eqb i 0) Clause Nothing
named_in windowKind n i = pick (eqb i 0) Clause Nothing
named_in symbolKind n i = Nothing
named_in variableKind n i = Nothing
named_in otherKind n i = Nothing

abbrev pub is_nothing : Named → Bool
is_nothing Nothing = true
is_nothing Symbol = false
is_nothing Row = false
is_nothing Literal = false
is_nothing Clause = false

-- The record of what a field with the number n names, by the tables of symbols, rows and clauses; 0 for nothing.
module _ (symbols rows clauses : List ℕ) where
  abbrev pub record_named : Named → ℕ → ℕ
  record_named Nothing n = 0
  record_named Symbol n = get_or symbols n 0
  record_named Row n = get_or rows n 0
  record_named Literal n = get_or rows (n / 2) 0
  record_named Clause n = record_cell clauses n
