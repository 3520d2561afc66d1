-- The program's way to a trimmed file: one cell a record, 0 where the record goes. No promise needs this file; what a trimmed file is stands in the crate trimming.
use Rattle.std.specs.Prelude.{Bool, true, false, ◌&&◌, List, [], ◌∷◌, map, ℕ, zero, suc, eqb, get_or, set}
use Rattle.record.specs.Record.{pick, File, Record, record_at, otherKind, Kind, symbolKind, variableKind, applicationKind, inputKind, resolveKind, factorKind, severalKind, windowKind, field_a, field_c}
use Rattle.derivation.specs.Derivation.{RowLiteral, input_literals}
use Rattle.derivation.specs.Stored.{record_cell}
use Rattle.renumbering.specs.Renumbering.{Renumbering}
use Rattle.verdict.specs.Refusal.{kind_of_record, argument_rows}
use Rattle.trimming.specs.Trimming.{closed_record, Next, next_after}

-- The tables of symbols, rows and clauses as the check left them: the record of each symbol, of each row's earliest equal one, and of each clause.
module _ (symbols rows clauses : List ℕ) where
  -- The records of what a record names.
  abbrev pub named : Kind → Record → List ℕ
  named applicationKind r = get_or symbols (field_a r) 0 ∷ map (λ a. get_or rows a 0) (argument_rows r)
  named inputKind r = map (λ (l : RowLiteral). get_or rows l.1 0) (input_literals r)
  named resolveKind r = record_cell clauses (field_a r) ∷ record_cell clauses (field_c r) ∷ []
  named severalKind r = record_cell clauses (field_a r) ∷ record_cell clauses (field_c r) ∷ []
  named factorKind r = record_cell clauses (field_a r) ∷ []
  named symbolKind r = []
  named variableKind r = []
  named windowKind r = []
  named otherKind r = []

  -- The marks with those of some records set.
  abbrev pub marked : List ℕ → List ℕ → List ℕ
  marked marks [] = marks
  marked marks (k ∷ ks) = marked (set marks k 1) ks

  -- A record that is marked marks what it names; and so do the first n records of a file, the last one first.
  abbrev pub marked_by : Record → ℕ → List ℕ → List ℕ
  marked_by r k marks = pick (eqb (get_or marks k 0) 0) marks (marked marks (named (kind_of_record r) r))

  unfoldable pub marked_down : File → ℕ → List ℕ → List ℕ
  marked_down file zero marks = marks
  marked_down file (suc k) marks = marked_down file k (marked_by (record_at file k) k marks)

  -- A window of a marked clause that has none yet is marked, and its clause's mark becomes 2; and so with the first n records, the last one first.
  abbrev pub is_window : Kind → Bool
  is_window windowKind = true
  is_window symbolKind = false
  is_window variableKind = false
  is_window applicationKind = false
  is_window inputKind = false
  is_window resolveKind = false
  is_window severalKind = false
  is_window factorKind = false
  is_window otherKind = false

  abbrev pub dated_by : Record → ℕ → List ℕ → List ℕ
  dated_by r k marks =
      pick (is_window (kind_of_record r) && eqb (get_or marks (record_cell clauses (field_a r)) 0) 1) (set (set marks k 1) (record_cell clauses (field_a r)) 2) marks

  unfoldable pub dated_down : File → ℕ → List ℕ → List ℕ
  dated_down file zero marks = marks
  dated_down file (suc k) marks = dated_down file k (dated_by (record_at file k) k marks)

  -- New numbers by old ones, through the records: a marked record's cell has the number that it gets.
  abbrev pub by_records : List ℕ → Renumbering
  by_records numbers = record {
    symbol = λ s. get_or numbers (get_or symbols s 0) 0;
    row = λ r. get_or numbers (get_or rows r 0) 0;
    clause = λ n. get_or numbers (record_cell clauses n) 0;
  }

  -- The number that a record gets, where the next ones are these. A window has none.
  abbrev pub own_number : Next → Kind → ℕ
  own_number n symbolKind = n.symbol
  own_number n variableKind = n.row
  own_number n applicationKind = n.row
  own_number n inputKind = n.clause
  own_number n resolveKind = n.clause
  own_number n severalKind = n.clause
  own_number n factorKind = n.clause
  own_number n windowKind = 0
  own_number n otherKind = 0

  -- The marked ones of some records, the first of which is record k, with new numbers.
  abbrev pub marked_records : (marks numbers : List ℕ) → Next → ℕ → List Record → List Record
  marked_records marks numbers n k [] = []
  marked_records marks numbers n k (r ∷ rs) =
      pick (eqb (get_or marks k 0) 0) (marked_records marks numbers n (suc k) rs)
      (closed_record (by_records numbers) r ∷ marked_records marks (set numbers k (own_number n (kind_of_record r))) (next_after n (kind_of_record r)) (suc k) rs)
