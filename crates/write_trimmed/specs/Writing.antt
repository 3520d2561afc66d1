-- How the program writes the marked records: the contracts of its functions. No promise needs this file; which records they are stands in the crate marking.
use Rattle.std.specs.Prelude.{◌≡◌, List, [], ◌∷◌, map, ℕ, ◌+◌, ◌≤◌, eqb, length, get_or, set}
use Rattle.record.specs.Bytes.{record_bytes}
use Rattle.record.specs.Record.{pick, Record}
use Rattle.record.specs.declared.Form.TheVariants.{Old}
use Rattle.verdict.specs.Refusal.{kind_of_record}
use Rattle.trimming.specs.Trimming.{closed_record, Next, next_after}
use Rattle.marking.specs.Marking.{by_records, own_number}
use Rattle.raising.specs.Wrapped.{wrapped}
use Rattle.placing.specs.Placing.{placed_at, Placed}
use Rattle.write_trimmed.specs.Places.{next_of, Growing, After}
use Rattle.write_trimmed.specs.declared.numbering.Place.{Place}

-- Room for a record.
pub record RecordWritable (p : Place) (output : List ℕ) : Type 0 where
  pub growing : Growing p
  pub room : p.at + 16 ≤ length output

-- A file of at most 4,096 records, and room for every file.
pub record Trimmable (file output : List ℕ) : Type 0 where
  pub short : length file ≤ 65536
  pub room : 65536 ≤ length output

module _ (symbols rows clauses : List ℕ) where
  -- Record k, written at a place: the record, the table of numbers and the next place.
  pub record RecordWritten (r : Record) (k : ℕ) (p : Place) (numbers output : List ℕ) (q : Place) (numbersLeft output_left : List ℕ) : Type 0 where
    pub bytes : output_left ≡ placed_at p.at (record_bytes Old (wrapped (closed_record (by_records symbols rows clauses numbers) r))) output
    pub numbered : numbersLeft ≡ set numbers k (own_number symbols rows clauses (next_of p) (kind_of_record r))
    pub after : After p (kind_of_record r) q

  -- The same of a record that may be unmarked: what it becomes, the table of numbers after it, and the next numbers.
  module _ (marks numbers : List ℕ) (n : Next) (k : ℕ) (r : Record) where
    abbrev pub becomes : List Record
    becomes = pick (eqb (get_or marks k 0) 0) [] (closed_record (by_records symbols rows clauses numbers) r ∷ [])

    abbrev pub numbers_after : List ℕ
    numbers_after = pick (eqb (get_or marks k 0) 0) numbers (set numbers k (own_number symbols rows clauses n (kind_of_record r)))

    abbrev pub numbers_next : Next
    numbers_next = pick (eqb (get_or marks k 0) 0) n (next_after n (kind_of_record r))

  pub record MarkedWritten (marks : List ℕ) (r : Record) (k : ℕ) (p : Place) (numbers output : List ℕ) (q : Place) (numbersLeft output_left : List ℕ) : Type 0 where
    pub placed : Placed Old (map wrapped (becomes marks numbers (next_of p) k r)) output p.at output_left q.at
    pub numbered : numbersLeft ≡ numbers_after marks numbers (next_of p) k r
    pub next : next_of q ≡ numbers_next marks numbers (next_of p) k r
