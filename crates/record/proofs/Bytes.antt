-- Writing a record and decoding it are inverse to each other, for one record and for a whole file.
use mathlib.Core.Path.{◌≡◌, refl, sym, ap, ap₂, ◌∙◌}
use mathlib.Core.Option.{Option, none, some}
use mathlib.Core.List.{List, [], ◌∷◌, ◌++◌, map, append_assoc}
use Prim.Native.Nat.{ℕ, zero, suc, ◌+◌, ◌*◌, ◌%◌, ◌/◌, ◌≤◌, ◌<◌}
use native.Mathlib.Omega.{arith}
use lib.ListN.{length, get_or, take, drop, take-append-drop, length-append, length-drop, drop_of_length-le}
use lib.Seq.{length-take-le, drop-cons, get_or-drop, get_or-take, take_at, drop_at}
use Rattle.record.specs.Bytes.{low_then_high, field_bytes, day_bytes, record_bytes, bytes_in, DaysFit, Fits, AllFit, Bytes}
use Rattle.record.specs.Record.{Record, File, in_form, record_length, record_count, fields_of, decoded, decoded_in, parts, records}
use Rattle.record.proofs.Records.{HasDays, Shaped, HaveDays, decoded_parts}
use Rattle.record.specs.declared.Form.{Form}
use Rattle.record.specs.declared.Form.TheVariants.{Old, New}

-- ── A list of a known length, by its elements ──

-- n elements from element i on.
elements : List ℕ → ℕ → ℕ → List ℕ
elements l i zero = []
elements l i (suc n) = get_or l i 0 ∷ elements l (suc i) n

elements_all : (l : List ℕ) (i n : ℕ) → length l ≡ i + n → elements l i n ≡ drop i l
unfolding elements
elements_all l i zero e = sym (drop_of_length-le l {i = i} (omega arith))
elements_all l i (suc n) e = ap (λ (k : List ℕ). get_or l i 0 ∷ k) (elements_all l (suc i) n (omega arith)) ∙ sym (drop-cons l i 0 (omega arith))

seven_elements : (l : List ℕ) → length l ≡ 7
    → get_or l 0 0 ∷ get_or l 1 0 ∷ get_or l 2 0 ∷ get_or l 3 0 ∷ get_or l 4 0 ∷ get_or l 5 0 ∷ get_or l 6 0 ∷ [] ≡ l
unfolding elements
seven_elements l e = elements_all l 0 7 e

-- ── One record ──

-- The two bytes of a number give it back, and those that a number is made of are its bytes.
rejoined : (n : ℕ) → n % 256 + 256 * (n / 256) ≡ n
rejoined n = omega arith

low_byte : (l h : ℕ) → l < 256 → (l + 256 * h) % 256 ≡ l
low_byte l h b = omega arith

high_byte : (l h : ℕ) → l < 256 → (l + 256 * h) / 256 ≡ h
high_byte l h b = omega arith

-- Decoding the bytes of a record gives the record back.
pub record_decoded : (form : Form) (r : Record) → length r.fields ≡ 7 → HasDays form r.days → decoded_in form (record_bytes form r) ≡ r
unfolding record_bytes
record_decoded Old r h d =
    let same : (decoded_in Old (record_bytes Old r)).fields ≡ r.fields = simp rejoined (seven_elements r.fields h) in
    λ i. record { kind = r.kind; count = r.count; fields = same i; days = sym d i }
record_decoded New r h d =
    let same : (decoded_in New (record_bytes New r)).fields ≡ r.fields = simp rejoined (seven_elements r.fields h) in
    let days : (decoded_in New (record_bytes New r)).days ≡ r.days = rw d.2 (simp rejoined refl) in
    λ i. record { kind = r.kind; count = r.count; fields = same i; days = days i }

-- The bytes of a decoded part of a record's length are that part.
pub part_written : (form : Form) (part : List ℕ) → length part ≡ record_length form → Bytes part → record_bytes form (decoded_in form part) ≡ part
unfolding record_bytes elements
part_written Old part e b = simp (low_byte, high_byte, b) (elements_all part 0 16 e)
part_written New part e b = simp (low_byte, high_byte, b) (elements_all part 0 20 e)

-- A record's bytes are the first sixteen of what begins with it.
pub decoded_taken : (l : List ℕ) → decoded (take 16 l) ≡ decoded l
decoded_taken l =
    let g : (i : ℕ) → i < 16 → get_or (take 16 l) i 0 ≡ get_or l i 0 = λ i h. get_or-take 16 l i 0 h in
    let f : (i j : ℕ) → i < 16 → j < 16 → get_or (take 16 l) i 0 + 256 * get_or (take 16 l) j 0 ≡ get_or l i 0 + 256 * get_or l j 0 = λ i j h k. ap₂ (λ (a b : ℕ). a + 256 * b) (g i h) (g j k) in
    let kind = g 0 (omega arith) in
    let count = g 1 (omega arith) in
    let a = f 2 3 (omega arith) (omega arith) in
    let b = f 4 5 (omega arith) (omega arith) in
    let d = f 6 7 (omega arith) (omega arith) in
    let e = f 8 9 (omega arith) (omega arith) in
    let h = f 10 11 (omega arith) (omega arith) in
    let m = f 12 13 (omega arith) (omega arith) in
    let n = f 14 15 (omega arith) (omega arith) in
    λ t. record { kind = kind t; count = count t; fields = a t ∷ b t ∷ d t ∷ e t ∷ h t ∷ m t ∷ n t ∷ []; days = none }

days_four : (days : Option (ℕ × ℕ)) → length (day_bytes days) ≡ 4
days_four none = refl
days_four (some d) = refl

pub record_whole : (form : Form) (r : Record) → length (record_bytes form r) ≡ record_length form
unfolding record_bytes
record_whole Old r = refl
record_whole New r = rw (days_four r.days) refl

-- All elements are below a bound: of an empty list, and of a list with one or two more.
record Below (b : ℕ) (xs : List ℕ) : Type 0 where
  at : (i : ℕ) → get_or xs i 0 < b

no_elements : (b : ℕ) → 0 < b → Below b []
no_elements b h = record { at = λ i. h }

one_more : {b x : ℕ} {xs : List ℕ} → x < b → Below b xs → Below b (x ∷ xs)
one_more h hs = record { at = elim [ zero ↦ h | suc i ↦ hs.at i ] }

two_more : {n : ℕ} {bytes : List ℕ} → n < 65536 → Below 256 bytes → Below 256 (low_then_high n bytes)
two_more h hs = one_more (omega arith) (one_more (omega arith) hs)

both : (xs ys : List ℕ) → Bytes xs → Bytes ys → Below 256 (xs ++ ys)
both [] ys h k = record { at = k }
both (x ∷ xs) ys h k = one_more (h 0) (both xs ys (λ i. h (suc i)) k)

-- The bytes of a record that a form can hold are bytes, and a decoded part of bytes is such a record.
fields_below : (fields bytes : List ℕ) → ((i : ℕ) → get_or fields i 0 < 65536) → Below 256 bytes → Below 256 (field_bytes fields bytes)
fields_below fields bytes n hs = two_more (n 0) (two_more (n 1) (two_more (n 2) (two_more (n 3) (two_more (n 4) (two_more (n 5) (two_more (n 6) hs))))))

days_below : (days : Option (ℕ × ℕ)) → DaysFit New days → Below 256 (day_bytes days)
days_below days f = rw f.2 (two_more f.3 (two_more f.4 (no_elements 256 (omega arith))))

pub record_bytes_lem : (form : Form) (r : Record) → Fits form r → Bytes (record_bytes form r)
unfolding record_bytes
record_bytes_lem Old r f = (one_more f.kind_byte (one_more f.count_byte (fields_below r.fields [] f.fields_bits (no_elements 256 (omega arith))))).at
record_bytes_lem New r f = (one_more f.kind_byte (one_more f.count_byte (fields_below r.fields (day_bytes r.days) f.fields_bits (days_below r.days f.days_fit)))).at

sixteen_bits : {l h : ℕ} → l < 256 → h < 256 → l + 256 * h < 65536
sixteen_bits a b = omega arith

days_fit_lem : (form : Form) (part : List ℕ) → Bytes part → DaysFit form (decoded_in form part).days
days_fit_lem Old part b = refl
days_fit_lem New part b = (_, _, refl, sixteen_bits (b 16) (b 17), sixteen_bits (b 18) (b 19))

pub part_fits : (form : Form) (part : List ℕ) → Bytes part → Fits form (decoded_in form part)
part_fits form part b =
    let all : Below 65536 (fields_of part) =
    one_more (sixteen_bits (b 2) (b 3)) (one_more (sixteen_bits (b 4) (b 5)) (one_more (sixteen_bits (b 6) (b 7))
    (one_more (sixteen_bits (b 8) (b 9)) (one_more (sixteen_bits (b 10) (b 11)) (one_more (sixteen_bits (b 12) (b 13))
    (one_more (sixteen_bits (b 14) (b 15)) (no_elements 65536 (omega arith))))))))
    in
    rw (decoded_parts form part) (record { kind_byte = b 0; count_byte = b 1; seven_fields = refl; fields_bits = all.at; days_fit = days_fit_lem form part b })

-- ── A whole file ──

days_shaped : (form : Form) (days : Option (ℕ × ℕ)) → DaysFit form days → HasDays form days
days_shaped Old days f = f
days_shaped New days f = (f.0, f.1, f.2)

pub fits_shaped : (form : Form) (rs : List Record) → AllFit form rs → Shaped rs
fits_shaped form [] f = tt
fits_shaped form (r ∷ rs) f = (f.0.seven_fields, fits_shaped form rs f.1)

pub fits_days : (form : Form) (rs : List Record) → AllFit form rs → HaveDays form rs
fits_days form [] f = tt
fits_days form (r ∷ rs) f = (days_shaped form r.days f.0.days_fit, fits_days form rs f.1)

pub file_length : (form : Form) (rs : List Record) → length (bytes_in form rs) ≡ record_length form * length rs
unfolding bytes_in
file_length Old [] = refl
file_length New [] = refl
file_length Old (r ∷ rs) = length-append (record_bytes Old r) (bytes_in Old rs) ∙ omega (arith, record_whole Old r, file_length Old rs)
file_length New (r ∷ rs) = length-append (record_bytes New r) (bytes_in New rs) ∙ omega (arith, record_whole New r, file_length New rs)

pub file_joined : (form : Form) (rs ss : List Record) → bytes_in form (rs ++ ss) ≡ bytes_in form rs ++ bytes_in form ss
unfolding bytes_in
file_joined form [] ss = refl
file_joined form (r ∷ rs) ss = rw (file_joined form rs ss) (sym (append_assoc (record_bytes form r) (bytes_in form rs) (bytes_in form ss)))

-- Its parts are the records' bytes, one after another.
file_parts : (form : Form) (rs : List Record) → parts (record_length form) (length rs) (bytes_in form rs) ≡ map (record_bytes form) rs
unfolding bytes_in
file_parts form [] = refl
file_parts form (r ∷ rs) =
    rw (take_at (record_bytes form r) (bytes_in form rs) (record_length form) (record_whole form r), drop_at (record_bytes form r) (bytes_in form rs) (record_length form) (record_whole form r))
    (ap (λ (k : List (List ℕ)). record_bytes form r ∷ k) (file_parts form rs))

all_decoded : (form : Form) (rs : List Record) → Shaped rs → HaveDays form rs → map (decoded_in form) (map (record_bytes form) rs) ≡ rs
all_decoded form [] s d = refl
all_decoded form (r ∷ rs) s d = λ i. record_decoded form r s.0 d.0 i ∷ all_decoded form rs s.1 d.1 i

pub file_counted : (form : Form) (rs : List Record) → record_count (in_form form (bytes_in form rs)) ≡ length rs
file_counted Old rs = omega (arith, file_length Old rs)
file_counted New rs = omega (arith, file_length New rs)

-- Its records are those that it was made of.
pub file_records : (form : Form) (rs : List Record) → Shaped rs → HaveDays form rs → records (in_form form (bytes_in form rs)) ≡ rs
unfolding records
file_records form rs s d =
    ap (λ (n : ℕ). map (decoded_in form) (parts (record_length form) n (bytes_in form rs))) (file_counted form rs)
    ∙ ap (map (decoded_in form)) (file_parts form rs) ∙ all_decoded form rs s d

pub file_bytes_lem : (form : Form) (rs : List Record) → AllFit form rs → Bytes (bytes_in form rs)
unfolding bytes_in
file_bytes_lem form [] f = (no_elements 256 (omega arith)).at
file_bytes_lem form (r ∷ rs) f = (both (record_bytes form r) (bytes_in form rs) (record_bytes_lem form r f.0) (file_bytes_lem form rs f.1)).at

-- A part of bytes has bytes.
pub taken_bytes : (n : ℕ) (bytes : List ℕ) → Bytes bytes → Bytes (take n bytes)
taken_bytes zero bytes b i = (no_elements 256 (omega arith)).at i
taken_bytes (suc n) [] b i = (no_elements 256 (omega arith)).at i
taken_bytes (suc n) (x ∷ xs) b zero = b 0
taken_bytes (suc n) (x ∷ xs) b (suc i) = taken_bytes n xs (λ k. b (suc k)) i

dropped_bytes : (n : ℕ) (bytes : List ℕ) → Bytes bytes → Bytes (drop n bytes)
dropped_bytes n bytes b i = rw (get_or-drop n bytes i 0) (b (n + i))

no_bytes : (file : List ℕ) → length file ≡ 0 → [] ≡ file
no_bytes [] l = refl
no_bytes (x ∷ xs) l = absurd (omega arith)

-- A file of n whole records is made of its own records.
record Whole (form : Form) (n : ℕ) (bytes : List ℕ) : Type 0 where
  is : length bytes ≡ record_length form * n

one_there : (form : Form) (n : ℕ) (bytes : List ℕ) → Whole form (suc n) bytes → record_length form ≤ length bytes
one_there Old n bytes w = omega (arith, w.is)
one_there New n bytes w = omega (arith, w.is)

one_less : (form : Form) (n : ℕ) (bytes : List ℕ) → Whole form (suc n) bytes → Whole form n (drop (record_length form) bytes)
one_less Old n bytes w = record { is = length-drop 16 bytes ∙ omega (arith, w.is) }
one_less New n bytes w = record { is = length-drop 20 bytes ∙ omega (arith, w.is) }

none_there : (form : Form) (bytes : List ℕ) → Whole form 0 bytes → length bytes ≡ 0
none_there Old bytes w = omega (arith, w.is)
none_there New bytes w = omega (arith, w.is)

parts_rewritten : (form : Form) (n : ℕ) (bytes : List ℕ) → Whole form n bytes → Bytes bytes → bytes_in form (map (decoded_in form) (parts (record_length form) n bytes)) ≡ bytes
unfolding bytes_in
parts_rewritten form zero bytes w b = no_bytes bytes (none_there form bytes w)
parts_rewritten form (suc n) bytes w b =
    ap₂ ◌++◌
    (part_written form (take (record_length form) bytes) (length-take-le (record_length form) bytes (one_there form n bytes w)) (taken_bytes (record_length form) bytes b))
    (parts_rewritten form n (drop (record_length form) bytes) (one_less form n bytes w) (dropped_bytes (record_length form) bytes b))
    ∙ take-append-drop (record_length form) bytes

-- The length is a multiple of the record's.
abbrev pub WholeRecords : Form → List ℕ → Type 0
WholeRecords Old bytes = length bytes % 16 ≡ 0
WholeRecords New bytes = length bytes % 20 ≡ 0

whole_counted : (form : Form) (bytes : List ℕ) → WholeRecords form bytes → Whole form (record_count (in_form form bytes)) bytes
whole_counted Old bytes l = record { is = omega arith }
whole_counted New bytes l = record { is = omega arith }

pub file_rewritten : (form : Form) (bytes : List ℕ) → WholeRecords form bytes → Bytes bytes → bytes_in form (records (in_form form bytes)) ≡ bytes
unfolding records
file_rewritten form bytes l b = parts_rewritten form (record_count (in_form form bytes)) bytes (whole_counted form bytes l) b

-- The records of a file of bytes fit.
parts_fit : (form : Form) (n : ℕ) (bytes : List ℕ) → Bytes bytes → AllFit form (map (decoded_in form) (parts (record_length form) n bytes))
parts_fit form zero bytes b = tt
parts_fit form (suc n) bytes b =
    (part_fits form (take (record_length form) bytes) (taken_bytes (record_length form) bytes b), parts_fit form n (drop (record_length form) bytes) (dropped_bytes (record_length form) bytes b))

pub records_fit : (file : File) → Bytes file.bytes → AllFit file.form (records file)
unfolding records
records_fit file b = parts_fit file.form (record_count file) file.bytes b
