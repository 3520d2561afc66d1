-- Document 01, "The file": sixteen bytes are a record, with its kind, its count and seven fields. Document 02, Q-11: in the new form a record has four bytes more,
-- two days. What the check does with a file is over its records; besides them the form decides which lengths a file may have.
-- A file's parts are lists of bytes; a byte that a list does not have is 0.
use Rattle.std.specs.Prelude.{Bool, true, false, List, [], ◌∷◌, map, ℕ, zero, suc, ◌+◌, ◌*◌, ◌/◌, eqb, ltb, length, get_or, take, drop}
use Rattle.std.proofs.Math.Option.{Option, none, some}
use Rattle.record.specs.declared.Form.{Form}
use Rattle.record.specs.declared.Form.TheVariants.{Old, New}

-- The first choice where the test holds, the second where it does not.
abbrev pub pick {ℓ} : {A : Type ℓ} → Bool → A → A → A
pick true a b = a
pick false a b = b

-- A file: its form, which is no part of its bytes, and its bytes.
pub record File : Type 0 where
  pub form : Form
  pub bytes : List ℕ

abbrev pub in_form : Form → List ℕ → File
in_form form bytes = record { form = form; bytes = bytes }

abbrev pub old_file : List ℕ → File
old_file bytes = in_form Old bytes

abbrev pub new_file : List ℕ → File
new_file bytes = in_form New bytes

-- A record as the file has it: byte 0, byte 1, the fields a to g, and beside them the first and last day, if the form has days.
pub record Record : Type 0 where
  pub kind : ℕ
  pub count : ℕ
  pub fields : List ℕ
  pub days : Option (ℕ × ℕ)

-- How many bytes a record has.
abbrev pub record_length : Form → ℕ
record_length Old = 16
record_length New = 20

-- How many records are wholly inside the file.
abbrev pub records_in : Form → List ℕ → ℕ
records_in Old bytes = length bytes / 16
records_in New bytes = length bytes / 20

abbrev pub record_count : File → ℕ
record_count file = records_in file.form file.bytes

-- The bytes of a record; none for a record that is not wholly inside the file.
unfoldable pub record_part : File → ℕ → List ℕ
record_part file k = pick (ltb k (record_count file)) (take (record_length file.form) (drop (record_length file.form * k) file.bytes)) []

-- Byte 0 and byte 1 of a record's part.
abbrev pub kind_of : List ℕ → ℕ
kind_of part = get_or part 0 0

abbrev pub count_of : List ℕ → ℕ
count_of part = get_or part 1 0

-- Field number i, from 0 for field a: two bytes from byte 2 on, the low one first.
abbrev pub field_of : List ℕ → ℕ → ℕ
field_of part i = get_or part (2 * i + 2) 0 + 256 * get_or part (2 * i + 3) 0

-- Fields a to g.
abbrev pub fields_of : List ℕ → List ℕ
fields_of part = field_of part 0 ∷ field_of part 1 ∷ field_of part 2 ∷ field_of part 3 ∷ field_of part 4 ∷ field_of part 5 ∷ field_of part 6 ∷ []

-- The first sixteen bytes of a record's part as a record, without days.
abbrev pub decoded : List ℕ → Record
decoded part = record { kind = kind_of part; count = count_of part; fields = fields_of part; days = none }

-- A record with its days: bytes 16 to 19 are two more numbers, the low byte first.
abbrev pub with_days : Record → ℕ → ℕ → Record
with_days r first last = record { kind = r.kind; count = r.count; fields = r.fields; days = some (first, last) }

abbrev pub decoded_in : Form → List ℕ → Record
decoded_in Old part = decoded part
decoded_in New part = with_days (decoded part) (field_of part 7) (field_of part 8)

-- Record k of a file.
abbrev pub record_at : File → ℕ → Record
record_at file k = decoded_in file.form (record_part file k)

-- The first n parts of so many bytes each.
abbrev pub parts : ℕ → ℕ → List ℕ → List (List ℕ)
parts size zero bytes = []
parts size (suc n) bytes = take size bytes ∷ parts size n (drop size bytes)

-- All records of a file, record 0 first.
unfoldable pub records : File → List Record
records file = map (decoded_in file.form) (parts (record_length file.form) (record_count file) file.bytes)

-- The table of kinds; of document 02 are 7, a resolve on several right literals (Q-3), and 8, the window of an input clause, its first and last day
-- (Q-6). A number that the table lacks is `otherKind`.
pub data Kind : Type 0 where
  symbolKind variableKind applicationKind inputKind resolveKind factorKind severalKind windowKind otherKind : Kind

abbrev pub kind_numbered : ℕ → Kind
kind_numbered n =
    pick (eqb n 1) symbolKind
    (pick (eqb n 2) variableKind
    (pick (eqb n 3) applicationKind
    (pick (eqb n 4) inputKind
    (pick (eqb n 5) resolveKind
    (pick (eqb n 6) factorKind
    (pick (eqb n 7) severalKind
    (pick (eqb n 8) windowKind otherKind)))))))

-- Fields of a record by their letters.
abbrev pub field_a : Record → ℕ
field_a r = get_or r.fields 0 0

abbrev pub field_b : Record → ℕ
field_b r = get_or r.fields 1 0

abbrev pub field_c : Record → ℕ
field_c r = get_or r.fields 2 0

abbrev pub field_d : Record → ℕ
field_d r = get_or r.fields 3 0
