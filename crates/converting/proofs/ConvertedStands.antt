-- The converted file has the converted records; where they are not too many, it stands in its form with the same contents.
use mathlib.Core.Path.{◌≡◌, refl, ap, ap₂, ◌∙◌}
use mathlib.Core.Bool.{Bool, true, false, ◌&&◌, not}
use mathlib.Core.List.{List, [], ◌∷◌}
use Prim.Native.Nat.{ℕ, suc, ◌+◌, ◌*◌, ◌%◌, ◌≤◌}
use native.Mathlib.Omega.{arith}
use lib.Dec.{eqb, leb, le→leb}
use lib.ListN.{length}
use Rattle.record.specs.Record.{pick, Record, File, record_length, with_days, records}
use Rattle.record.specs.declared.Form.{Form}
use Rattle.record.specs.declared.Form.TheVariants.{Old, New}
use Rattle.record.proofs.Bytes.{file_length, file_records}
use Rattle.record.proofs.Records.{HasDays, Shaped, HaveDays, records_shaped, records_days}
use Rattle.record.specs.Sorts.{is_input, is_window, clauses_after, unless, how_many}
use Rattle.unification.proofs.Tests.{from_t}
use Rattle.verdict.specs.State.{State, empty_state}
use Rattle.verdict.specs.Step.{read, all_stand}
use Rattle.verdict.specs.Verdict.{fitting_length, fitting, ending, Stands}
use Rattle.converting.specs.Converting.{last_days, new_record, new_records_from, days_beside, window_record, is_dated, old_records_from, other_form, most_records, converted_from, converted, converted_file}
use Rattle.converting.proofs.Days.{SameDays}
use Rattle.converting.proofs.KindsDated.{eqb_itself}
use Rattle.converting.proofs.ReadNew.{old_to_new}
use Rattle.converting.proofs.ReadOld.{new_to_old}

-- ── The records' shape ──
unless_shaped : (b : Bool) (r : Record) (rs : List Record) → length r.fields ≡ 7 → Shaped rs → Shaped (unless b r rs)
unless_shaped true r rs h hs = hs
unless_shaped false r rs h hs = (h, hs)

unless_days : (form : Form) (b : Bool) (r : Record) (rs : List Record) → HasDays form r.days → HaveDays form rs → HaveDays form (unless b r rs)
unless_days form true r rs h hs = hs
unless_days form false r rs h hs = (h, hs)

new_shaped : (all : List Record) (n : ℕ) (r : Record) → length r.fields ≡ 7 → length (new_record all n r).fields ≡ 7
new_shaped all n r h = try (is_input r)
  where
    try : (b : Bool) → length (pick b (with_days r (last_days all n).0 (last_days all n).1) (with_days r 0 0)).fields ≡ 7
    try true = h
    try false = h

new_days : (all : List Record) (n : ℕ) (r : Record) → HasDays New (new_record all n r).days
new_days all n r = try (is_input r)
  where
    try : (b : Bool) → HasDays New (pick b (with_days r (last_days all n).0 (last_days all n).1) (with_days r 0 0)).days
    try true = (_, _, refl)
    try false = (_, _, refl)

all_new_shaped : (all : List Record) (n : ℕ) (rs : List Record) → Shaped rs → Shaped (new_records_from all n rs)
all_new_shaped all n [] s = tt
all_new_shaped all n (r ∷ rs) s = unless_shaped (is_window r) (new_record all n r) (new_records_from all (clauses_after n r) rs) (new_shaped all n r s.0) (all_new_shaped all (clauses_after n r) rs s.1)

all_new_days : (all : List Record) (n : ℕ) (rs : List Record) → HaveDays New (new_records_from all n rs)
all_new_days all n [] = tt
all_new_days all n (r ∷ rs) = unless_days New (is_window r) (new_record all n r) (new_records_from all (clauses_after n r) rs) (new_days all n r) (all_new_days all (clauses_after n r) rs)

all_old_shaped : (n : ℕ) (rs : List Record) → Shaped rs → Shaped (old_records_from n rs)
all_old_shaped n [] s = tt
all_old_shaped n (r ∷ rs) s =
    (s.0, unless_shaped (not (is_dated r)) (window_record n (days_beside r)) (old_records_from (clauses_after n r) rs) refl (all_old_shaped (clauses_after n r) rs s.1))

all_old_days : (n : ℕ) (rs : List Record) → HaveDays Old (old_records_from n rs)
all_old_days n [] = tt
all_old_days n (r ∷ rs) = (refl, unless_days Old (not (is_dated r)) (window_record n (days_beside r)) (old_records_from (clauses_after n r) rs) refl (all_old_days (clauses_after n r) rs))

pub converted_shaped : (form : Form) (rs : List Record) → Shaped rs → Shaped (converted_from form rs)
converted_shaped Old rs s = all_new_shaped rs 0 rs s
converted_shaped New rs s = all_old_shaped 0 rs s

pub converted_days : (form : Form) (rs : List Record) → HaveDays (other_form form) (converted_from form rs)
converted_days Old rs = all_new_days rs 0 rs
converted_days New rs = all_old_days 0 rs

-- ── The file ──
pub converted_form : (file : File) → (converted_file file).form ≡ other_form file.form
unfolding converted_file
converted_form file = refl

pub converted_length : (file : File) → length (converted_file file).bytes ≡ record_length (other_form file.form) * length (converted file)
unfolding converted_file
converted_length file = file_length (other_form file.form) (converted file)

pub converted_records : (file : File) → records (converted_file file) ≡ converted file
unfolding converted_file
converted_records file = file_records (other_form file.form) (converted file) (converted_shaped file.form (records file) (records_shaped file)) (converted_days file.form (records file))

many_fit : (form : Form) (m : ℕ) → m ≤ most_records form → fitting_length form (record_length form * m) ≡ true
many_fit Old m h =
    let whole : (16 * m) % 16 ≡ 0 = omega arith in
    ap₂ ◌&&◌ (from_t (leb (16 * m) 65536) (le→leb (16 * m) 65536 (omega arith))) (ap (λ (x : ℕ). eqb x 0) whole ∙ eqb_itself 0)
many_fit New m h =
    let whole : (20 * m) % 20 ≡ 0 = omega arith in
    ap₂ ◌&&◌ (from_t (leb (20 * m) 65520) (le→leb (20 * m) 65520 (omega arith))) (ap (λ (x : ℕ). eqb x 0) whole ∙ eqb_itself 0)

pub converted_fits : (file : File) → length (converted file) ≤ most_records (other_form file.form) → fitting (converted_file file) ≡ true
unfolding converted_file
converted_fits file h = ap (fitting_length (other_form file.form)) (file_length (other_form file.form) (converted file)) ∙ many_fit (other_form file.form) (length (converted file)) h

converted_read : (form : Form) (rs : List Record) (S : State) → HaveDays form rs → read empty_state 0 rs ≡ all_stand S → (T : State) × (read empty_state 0 (converted_from form rs) ≡ all_stand T) × SameDays S T
converted_read Old rs S s q = old_to_new rs S s q
converted_read New rs S s q = new_to_old rs S s q

pub converted_stands : (file : File) (S : State) → Stands file S → length (converted file) ≤ most_records (other_form file.form) → (T : State) × Stands (converted_file file) T × SameDays S T
unfolding ending
converted_stands file S st h =
    let a = converted_read file.form (records file) S (records_days file) st.reads in
    (a.0, record { fits = converted_fits file h; reads = ap (read empty_state 0) (converted_records file) ∙ a.1 }, a.2)

-- ── How many records it has ──
counted_new_lem : (all : List Record) (n : ℕ) (rs : List Record) → length (new_records_from all n rs) + how_many is_window rs ≡ length rs
counted_new_lem all n [] = refl
counted_new_lem all n (r ∷ rs) = try (is_window r) (counted_new_lem all (clauses_after n r) rs)
  where
    try : (b : Bool) → length (new_records_from all (clauses_after n r) rs) + how_many is_window rs ≡ length rs
        → length (unless b (new_record all n r) (new_records_from all (clauses_after n r) rs)) + (pick b 1 0 + how_many is_window rs) ≡ suc (length rs)
    try true ih = omega arith
    try false ih = omega arith

counted_old_lem : (n : ℕ) (rs : List Record) → length (old_records_from n rs) ≡ length rs + how_many is_dated rs
counted_old_lem n [] = refl
counted_old_lem n (r ∷ rs) = try (is_dated r) (counted_old_lem (clauses_after n r) rs)
  where
    try : (b : Bool) → length (old_records_from (clauses_after n r) rs) ≡ length rs + how_many is_dated rs
        → suc (length (unless (not b) (window_record n (days_beside r)) (old_records_from (clauses_after n r) rs))) ≡ suc (length rs) + (pick b 1 0 + how_many is_dated rs)
    try true ih = omega arith
    try false ih = omega arith

pub new_counted : (file : File) → file.form ≡ Old → length (converted file) + how_many is_window (records file) ≡ length (records file)
new_counted file e = ap (λ (form : Form). length (converted_from form (records file)) + how_many is_window (records file)) e ∙ counted_new_lem (records file) 0 (records file)

pub old_counted : (file : File) → file.form ≡ New → length (converted file) ≡ length (records file) + how_many is_dated (records file)
old_counted file e = ap (λ (form : Form). length (converted_from form (records file))) e ∙ counted_old_lem 0 (records file)
