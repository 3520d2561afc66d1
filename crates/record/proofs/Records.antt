-- Laws of the records of a file: how many there are, that each has seven fields and its form's days, which part of the file each is, and which records a
-- part of a file and two files put together have.
use mathlib.Core.Path.{◌≡◌, refl, sym, ap, ◌∙◌}
use mathlib.Core.Option.{Option, none, some}
use mathlib.Core.List.{List, [], ◌∷◌, ◌++◌, map, map-append}
use Prim.Native.Nat.{ℕ, zero, suc, ◌+◌, ◌-◌, ◌*◌, ◌%◌, ◌≤◌, ◌<◌}
use native.Mathlib.Nat.{not-suc-le-zero, le_of_suc-le-suc}
use native.Mathlib.Omega.{arith}
use borrow.Author.Tests.{lt-ltb}
use lib.ListN.{length, take, drop, length-append, length-drop, length-map}
use lib.Seq.{drop-drop, take-append-le, drop-append-le}
use Rattle.record.specs.Record.{Record, File, in_form, old_file, record_length, record_count, record_part, kind_of, count_of, fields_of, decoded_in, record_at, parts, records}
use Rattle.record.specs.declared.Form.{Form}
use Rattle.record.specs.declared.Form.TheVariants.{Old, New}

-- The days that a record of a form has: none, or two.
abbrev pub HasDays : Form → Option (ℕ × ℕ) → Type 0
HasDays Old days = days ≡ none
HasDays New days = (first : ℕ) × (last : ℕ) × (days ≡ some (first, last))

-- Every record of the list has exactly seven fields; and each has the days of a form.
abbrev pub Shaped : List Record → Type 0
Shaped [] = Unit {0}
Shaped (r ∷ rs) = (length r.fields ≡ 7) × Shaped rs

abbrev pub HaveDays : Form → List Record → Type 0
HaveDays form [] = Unit {0}
HaveDays form (r ∷ rs) = HasDays form r.days × HaveDays form rs

parts_length : (size n : ℕ) (bytes : List ℕ) → length (parts size n bytes) ≡ n
parts_length size zero bytes = refl
parts_length size (suc n) bytes = ap suc (parts_length size n (drop size bytes))

pub records_length : (file : File) → length (records file) ≡ record_count file
unfolding records
records_length file =
    length-map (parts (record_length file.form) (record_count file) file.bytes) (decoded_in file.form) ∙ parts_length (record_length file.form) (record_count file) file.bytes

pub decoded_seven : (form : Form) (part : List ℕ) → length (decoded_in form part).fields ≡ 7
decoded_seven Old part = refl
decoded_seven New part = refl

-- Byte 0, byte 1 and the fields are read alike in both forms.
pub decoded_parts : (form : Form) (part : List ℕ) → decoded_in form part ≡ record { kind = kind_of part; count = count_of part; fields = fields_of part; days = (decoded_in form part).days }
decoded_parts Old part = refl
decoded_parts New part = refl

pub decoded_kind : (form : Form) (part : List ℕ) → (decoded_in form part).kind ≡ kind_of part
decoded_kind Old part = refl
decoded_kind New part = refl

pub decoded_count : (form : Form) (part : List ℕ) → (decoded_in form part).count ≡ count_of part
decoded_count Old part = refl
decoded_count New part = refl

pub decoded_fields : (form : Form) (part : List ℕ) → (decoded_in form part).fields ≡ fields_of part
decoded_fields Old part = refl
decoded_fields New part = refl

decoded_days : (form : Form) (part : List ℕ) → HasDays form (decoded_in form part).days
decoded_days Old part = refl
decoded_days New part = (_, _, refl)

all_seven : (form : Form) (ps : List (List ℕ)) → Shaped (map (decoded_in form) ps)
all_seven form [] = tt
all_seven form (p ∷ ps) = (decoded_seven form p, all_seven form ps)

all_days : (form : Form) (ps : List (List ℕ)) → HaveDays form (map (decoded_in form) ps)
all_days form [] = tt
all_days form (p ∷ ps) = (decoded_days form p, all_days form ps)

pub records_shaped : (file : File) → Shaped (records file)
unfolding records
records_shaped file = all_seven file.form (parts (record_length file.form) (record_count file) file.bytes)

pub records_days : (file : File) → HaveDays file.form (records file)
unfolding records
records_days file = all_days file.form (parts (record_length file.form) (record_count file) file.bytes)

-- The part after k starts one record further.
next : (form : Form) (k : ℕ) (bytes : List ℕ) → drop (record_length form * suc k) bytes ≡ drop (record_length form * k) (drop (record_length form) bytes)
next Old k bytes =
    let e : 16 * suc k ≡ 16 + 16 * k = omega arith in
    ap (λ (n : ℕ). drop n bytes) e ∙ sym (drop-drop (16 * k) 16 bytes)
next New k bytes =
    let e : 20 * suc k ≡ 20 + 20 * k = omega arith in
    ap (λ (n : ℕ). drop n bytes) e ∙ sym (drop-drop (20 * k) 20 bytes)

none_dropped : (form : Form) (bytes : List ℕ) → drop (record_length form * 0) bytes ≡ bytes
none_dropped Old bytes = refl
none_dropped New bytes = refl

-- From part k on, the parts go on with the bytes at k records' length.
parts_numbered : (form : Form) (n : ℕ) (bytes : List ℕ) (k : ℕ) → k < n
    → drop k (map (decoded_in form) (parts (record_length form) n bytes)) ≡ decoded_in form (take (record_length form) (drop (record_length form * k) bytes)) ∷ drop (suc k) (map (decoded_in form) (parts (record_length form) n bytes))
parts_numbered form zero bytes k h = absurd (not-suc-le-zero h)
parts_numbered form (suc n) bytes zero h = rw none_dropped refl
parts_numbered form (suc n) bytes (suc k) h = rw next (parts_numbered form n (drop (record_length form) bytes) k (le_of_suc-le-suc h))

pub record_numbered : (file : File) (k : ℕ) → k < record_count file → drop k (records file) ≡ record_at file k ∷ drop (suc k) (records file)
unfolding records record_part
record_numbered file k h = rw (lt-ltb _ _ h) (parts_numbered file.form (record_count file) file.bytes k h)

-- The records from record k on are those of the part of the file that begins with it.
parts_dropped : (form : Form) (k n m : ℕ) (bytes : List ℕ) → m ≡ k + n → map (decoded_in form) (parts (record_length form) n (drop (record_length form * k) bytes)) ≡ drop k (map (decoded_in form) (parts (record_length form) m bytes))
parts_dropped form zero n m bytes e = let same : n ≡ m = omega arith in rw (same, none_dropped) refl
parts_dropped form (suc k) n zero bytes e = absurd (omega arith)
parts_dropped form (suc k) n (suc m) bytes e = rw next (parts_dropped form k n m (drop (record_length form) bytes) (omega arith))

rest_counted : (form : Form) (k : ℕ) (bytes : List ℕ) → record_count (in_form form (drop (record_length form * k) bytes)) ≡ record_count (in_form form bytes) - k
rest_counted Old k bytes = omega (arith, length-drop (16 * k) bytes)
rest_counted New k bytes = omega (arith, length-drop (20 * k) bytes)

pub records_dropped : (form : Form) (bytes : List ℕ) (k : ℕ) → k ≤ record_count (in_form form bytes) → records (in_form form (drop (record_length form * k) bytes)) ≡ drop k (records (in_form form bytes))
unfolding records
records_dropped form bytes k h =
    ap (λ (n : ℕ). map (decoded_in form) (parts (record_length form) n (drop (record_length form * k) bytes))) (rest_counted form k bytes)
    ∙ parts_dropped form k (record_count (in_form form bytes) - k) (record_count (in_form form bytes)) bytes (omega arith)

-- The records of two files put together, where the first has whole records: the first's, then the second's.
parts_joined : (n m k : ℕ) (first second : List ℕ) → k ≡ n + m → length first ≡ 16 * n
    → parts 16 k (first ++ second) ≡ parts 16 n first ++ parts 16 m second
parts_joined zero m k [] second e l = let same : k ≡ m = omega arith in rw same refl
parts_joined zero m k (x ∷ xs) second e l = absurd (omega arith)
parts_joined (suc n) m zero first second e l = absurd (omega arith)
parts_joined (suc n) m (suc k) first second e l =
    rw (take-append-le 16 first second (omega arith), drop-append-le 16 first second (omega arith))
    (ap (λ (ps : List (List ℕ)). take 16 first ∷ ps) (parts_joined n m k (drop 16 first) second (omega arith) (length-drop 16 first ∙ omega arith)))

pub records_joined : (first second : List ℕ) → length first % 16 ≡ 0 → records (old_file (first ++ second)) ≡ records (old_file first) ++ records (old_file second)
unfolding records
records_joined first second l =
    let count : record_count (old_file (first ++ second)) ≡ record_count (old_file first) + record_count (old_file second) = omega (arith, length-append first second) in
    ap (map (decoded_in Old)) (parts_joined (record_count (old_file first)) (record_count (old_file second)) (record_count (old_file (first ++ second))) first second count (omega arith))
    ∙ map-append (decoded_in Old) (parts 16 (record_count (old_file first)) first) (parts 16 (record_count (old_file second)) second)
