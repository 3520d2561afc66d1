-- Document 02, Q-11: a file converted from one form to the other, on its records. In the old form days stand in records of kind 8, in the new one beside their clause.
use Rattle.std.specs.Prelude.{Bool, ◌&&◌, not, List, [], ◌∷◌, ℕ, eqb}
use Rattle.std.proofs.Math.Option.{Option, none, some}
use Rattle.record.specs.Bytes.{bytes_in}
use Rattle.record.specs.Record.{pick, Record, File, in_form, with_days, records, field_a, field_b, field_c}
use Rattle.record.specs.Sorts.{is_window, is_input, clauses_after, unless}
use Rattle.record.specs.declared.Form.{Form}
use Rattle.record.specs.declared.Form.TheVariants.{Old, New}

-- A first and a last day of 0 and 65,535 are always. A clause that no record dates has these days.
abbrev pub always : ℕ × ℕ
always = (0, 65535)

abbrev pub is_always : ℕ × ℕ → Bool
is_always days = eqb days.0 0 && eqb days.1 65535

-- ── From the old form to the new one ──

-- The days of clause n after some records, where it had some before them: a later record of kind 8 supersedes an earlier one.
abbrev pub days_after : ℕ × ℕ → List Record → ℕ → ℕ × ℕ
days_after days [] n = days
days_after days (r ∷ rs) n = days_after (pick (is_window r && eqb (field_a r) n) (field_b r, field_c r) days) rs n

-- The days of clause n after all records of a file, wherever they stand.
abbrev pub last_days : List Record → ℕ → ℕ × ℕ
last_days rs n = days_after always rs n

-- A record with its days: those that supersede for input clause n, and zero for every other record.
abbrev pub new_record : List Record → ℕ → Record → Record
new_record all n r = pick (is_input r) (with_days r (last_days all n).0 (last_days all n).1) (with_days r 0 0)

-- Records of a file that has `all`, where the next clause has the number n. Those of kind 8 fall away, and the others remain in their order.
abbrev pub new_records_from : List Record → ℕ → List Record → List Record
new_records_from all n [] = []
new_records_from all n (r ∷ rs) = unless (is_window r) (new_record all n r) (new_records_from all (clauses_after n r) rs)

abbrev pub to_new_records : List Record → List Record
to_new_records rs = new_records_from rs 0 rs

-- ── From the new form to the old one ──
abbrev pub without_days : Record → Record
without_days r = record { kind = r.kind; count = r.count; fields = r.fields; days = none }

abbrev pub days_or : Option (ℕ × ℕ) → ℕ × ℕ
days_or none = always
days_or (some days) = days

abbrev pub days_beside : Record → ℕ × ℕ
days_beside r = days_or r.days

-- The record of kind 8 that gives clause n its days.
abbrev pub window_record : ℕ → ℕ × ℕ → Record
window_record n days = record { kind = 8; count = 0; fields = n ∷ days.0 ∷ days.1 ∷ 0 ∷ 0 ∷ 0 ∷ 0 ∷ []; days = none }

-- Whether a record is an input clause that is not always in force.
abbrev pub is_dated : Record → Bool
is_dated r = is_input r && not (is_always (days_beside r))

-- Each record without its days, and straight after an input clause that is not always in force, the one record of kind 8 that has them.
abbrev pub old_records_from : ℕ → List Record → List Record
old_records_from n [] = []
old_records_from n (r ∷ rs) = without_days r ∷ unless (not (is_dated r)) (window_record n (days_beside r)) (old_records_from (clauses_after n r) rs)

abbrev pub to_old_records : List Record → List Record
to_old_records rs = old_records_from 0 rs

-- ── A file, in either direction ──
abbrev pub other_form : Form → Form
other_form Old = New
other_form New = Old

-- How many records a file of a form has at most.
abbrev pub most_records : Form → ℕ
most_records Old = 4096
most_records New = 3276

abbrev pub converted_from : Form → List Record → List Record
converted_from Old rs = to_new_records rs
converted_from New rs = to_old_records rs

-- The records of a file in the other form, and the file that they make.
abbrev pub converted : File → List Record
converted file = converted_from file.form (records file)

unfoldable pub converted_file : File → File
converted_file file = in_form (other_form file.form) (bytes_in (other_form file.form) (converted file))
