-- Document 01, "The file", the other way round: the sixteen bytes of a record, and the file that a list of records makes. Document 02, Q-11: in the new form the
-- days after them.
use Rattle.std.specs.Prelude.{◌≡◌, List, [], ◌∷◌, ◌++◌, ℕ, ◌/◌, ◌%◌, ◌<◌, length, get_or}
use Rattle.std.proofs.Math.Option.{Option, none, some}
use Rattle.record.specs.Record.{Record}
use Rattle.record.specs.declared.Form.{Form}
use Rattle.record.specs.declared.Form.TheVariants.{Old, New}

-- A 16-bit number in front of other bytes: two bytes, the low one first.
abbrev pub low_then_high : ℕ → List ℕ → List ℕ
low_then_high n bytes = n % 256 ∷ n / 256 ∷ bytes

-- Fields a to g as fourteen bytes, in front of other bytes. A field that the list does not have is 0.
abbrev pub field_bytes : List ℕ → List ℕ → List ℕ
field_bytes fields bytes =
    low_then_high (get_or fields 0 0)
    (low_then_high (get_or fields 1 0)
    (low_then_high (get_or fields 2 0)
    (low_then_high (get_or fields 3 0)
    (low_then_high (get_or fields 4 0)
    (low_then_high (get_or fields 5 0)
    (low_then_high (get_or fields 6 0) bytes))))))

-- The first and the last day as four bytes; zeros where a record has none.
abbrev pub day_bytes : Option (ℕ × ℕ) → List ℕ
day_bytes none = 0 ∷ 0 ∷ 0 ∷ 0 ∷ []
day_bytes (some d) = low_then_high d.0 (low_then_high d.1 [])

-- Sixteen bytes: byte 0, byte 1, and the fields; in the new form twenty, with the days.
unfoldable pub record_bytes : Form → Record → List ℕ
record_bytes Old r = r.kind ∷ r.count ∷ field_bytes r.fields []
record_bytes New r = r.kind ∷ r.count ∷ field_bytes r.fields (day_bytes r.days)

-- The bytes that consist of these records, in order and without a header.
unfoldable pub bytes_in : Form → List Record → List ℕ
bytes_in form [] = []
bytes_in form (r ∷ rs) = record_bytes form r ++ bytes_in form rs

-- The old file that consists of them.
abbrev pub file_bytes : List Record → List ℕ
file_bytes rs = bytes_in Old rs

-- Days of 16 bits, as a form has them: none, or two.
abbrev pub DaysFit : Form → Option (ℕ × ℕ) → Type 0
DaysFit Old days = days ≡ none
DaysFit New days = (first : ℕ) × (last : ℕ) × (days ≡ some (first, last)) × (first < 65536) × (last < 65536)

-- A record that the bytes of a form can hold: byte 0 and byte 1 are bytes, there are seven fields of 16 bits, and the form's days.
pub record Fits (form : Form) (r : Record) : Type 0 where
  pub kind_byte : r.kind < 256
  pub count_byte : r.count < 256
  pub seven_fields : length r.fields ≡ 7
  pub fields_bits : (i : ℕ) → get_or r.fields i 0 < 65536
  pub days_fit : DaysFit form r.days

abbrev pub AllFit : Form → List Record → Type 0
AllFit form [] = Unit {0}
AllFit form (r ∷ rs) = Fits form r × AllFit form rs

-- A list of bytes.
abbrev pub Bytes : List ℕ → Type 0
Bytes bytes = (i : ℕ) → get_or bytes i 0 < 256
