-- The bytes of a converted file are bytes: its records fit the form.
use mathlib.Core.Path.{◌≡◌, refl, sym, ap, subst}
use mathlib.Core.Bool.{Bool, true, false, ◌&&◌, not}
use mathlib.Core.List.{List, [], ◌∷◌}
use Prim.Native.Nat.{ℕ, zero, suc, ◌+◌, ◌%◌, ◌≤◌, ◌<◌}
use native.Mathlib.Omega.{arith}
use lib.Dec.{eqb, leb, leb→le}
use lib.ListN.{length, get_or}
use Rattle.record.specs.Bytes.{Fits, AllFit, Bytes}
use Rattle.record.specs.Record.{pick, Record, File, with_days, records, record_count, field_a, field_b, field_c}
use Rattle.record.specs.declared.Form.{Form}
use Rattle.record.specs.declared.Form.TheVariants.{Old, New}
use Rattle.record.proofs.Bytes.{file_bytes_lem, records_fit}
use Rattle.record.proofs.Records.{records_length}
use Rattle.record.specs.Sorts.{is_input, is_window, is_clause, clauses_after, unless}
use Rattle.unification.proofs.Tests.{to_t, both_true}
use Rattle.verdict.specs.Verdict.{fitting_length, fitting}
use Rattle.converting.specs.Converting.{always, days_after, last_days, new_record, new_records_from, days_or, days_beside, window_record, is_dated, old_records_from, other_form, converted_from, converted, converted_file}

unless_fits : (form : Form) (b : Bool) (r : Record) (rs : List Record) → Fits form r → AllFit form rs → AllFit form (unless b r rs)
unless_fits form true r rs h hs = hs
unless_fits form false r rs h hs = (h, hs)

-- ── To the new form: days are fields of records, or always ──
record DaysBits (d : ℕ × ℕ) : Type 0 where
  first : d.0 < 65536
  last : d.1 < 65536

after_bits : (d : ℕ × ℕ) (rs : List Record) (n : ℕ) → AllFit Old rs → DaysBits d → DaysBits (days_after d rs n)
after_bits d [] n f h = h
after_bits d (r ∷ rs) n f h = after_bits (pick (is_window r && eqb (field_a r) n) (field_b r, field_c r) d) rs n f.1 (try (is_window r && eqb (field_a r) n))
  where
    try : (b : Bool) → DaysBits (pick b (field_b r, field_c r) d)
    try true = record { first = f.0.fields_bits 1; last = f.0.fields_bits 2 }
    try false = h

with_days_fits : (r : Record) (d : ℕ × ℕ) → Fits Old r → DaysBits d → Fits New (with_days r d.0 d.1)
with_days_fits r d f h = record { kind_byte = f.kind_byte; count_byte = f.count_byte; seven_fields = f.seven_fields; fields_bits = f.fields_bits; days_fit = (_, _, refl, h.first, h.last) }

new_fits : (all : List Record) (n : ℕ) (r : Record) → DaysBits (last_days all n) → Fits Old r → Fits New (new_record all n r)
new_fits all n r h f = try (is_input r)
  where
    try : (b : Bool) → Fits New (pick b (with_days r (last_days all n).0 (last_days all n).1) (with_days r 0 0))
    try true = with_days_fits r (last_days all n) f h
    try false = with_days_fits r (0, 0) f (record { first = omega arith; last = omega arith })

all_new_fit : (all : List Record) (n : ℕ) (rs : List Record) → ((m : ℕ) → DaysBits (last_days all m)) → AllFit Old rs → AllFit New (new_records_from all n rs)
all_new_fit all n [] h f = tt
all_new_fit all n (r ∷ rs) h f = unless_fits New (is_window r) (new_record all n r) (new_records_from all (clauses_after n r) rs) (new_fits all n r (h n) f.0) (all_new_fit all (clauses_after n r) rs h f.1)

-- ── To the old form: clause numbers are below the number of records ──
record Below (b : ℕ) (xs : List ℕ) : Type 0 where
  at : (i : ℕ) → get_or xs i 0 < b

one_more : {b x : ℕ} {xs : List ℕ} → x < b → Below b xs → Below b (x ∷ xs)
one_more h hs = record { at = elim [ zero ↦ h | suc i ↦ hs.at i ] }

none_more : Below 65536 []
none_more = record { at = λ i. omega arith }

window_fits : (n : ℕ) (d : ℕ × ℕ) → n < 65536 → DaysBits d → Fits Old (window_record n d)
window_fits n d l h =
    let small : 0 < 65536 = omega arith in
    record {
      kind_byte = omega arith;
      count_byte = omega arith;
      seven_fields = refl;
      fields_bits = (one_more l (one_more h.first (one_more h.last (one_more small (one_more small (one_more small (one_more small none_more))))))).at;
      days_fit = refl;
    }

beside_bits : (r : Record) → Fits New r → DaysBits (days_beside r)
beside_bits r f = let d = f.days_fit in subst DaysBits (sym (ap days_or d.2)) (record { first = d.3; last = d.4 })

at_most_one : (n : ℕ) (b : Bool) → pick b (suc n) n ≤ suc n
at_most_one n true = omega arith
at_most_one n false = omega arith

all_old_fit : (n : ℕ) (rs : List Record) → n + length rs < 65536 → AllFit New rs → AllFit Old (old_records_from n rs)
all_old_fit n [] l f = tt
all_old_fit n (r ∷ rs) l f =
    let g = at_most_one n (is_clause r) in (
      record { kind_byte = f.0.kind_byte; count_byte = f.0.count_byte; seven_fields = f.0.seven_fields; fields_bits = f.0.fields_bits; days_fit = refl },
      unless_fits Old (not (is_dated r)) (window_record n (days_beside r)) (old_records_from (clauses_after n r) rs) (window_fits n (days_beside r) (omega arith) (beside_bits r f.0)) (all_old_fit (clauses_after n r) rs (omega arith) f.1),
    )

-- ── The file ──
converted_fit : (form : Form) (rs : List Record) → length rs < 65536 → AllFit form rs → AllFit (other_form form) (converted_from form rs)
converted_fit Old rs l f = all_new_fit rs 0 rs (λ m. after_bits always rs m f (record { first = omega arith; last = omega arith })) f
converted_fit New rs l f = all_old_fit 0 rs (omega arith) f

few : (form : Form) (n : ℕ) → fitting_length form n ≡ true → n ≤ 65536
few Old n f = leb→le n 65536 (to_t (leb n 65536) (both_true (leb n 65536) (eqb (n % 16) 0) f).0)
few New n f = let l = leb→le n 65520 (to_t (leb n 65520) (both_true (leb n 65520) (eqb (n % 20) 0) f).0) in omega arith

fewer : (form : Form) (bytes : List ℕ) → length bytes ≤ 65536 → record_count (record { form = form; bytes = bytes }) < 65536
fewer Old bytes l = omega arith
fewer New bytes l = omega arith

pub converted_bytes : (file : File) → fitting file ≡ true → Bytes file.bytes → Bytes (converted_file file).bytes
unfolding converted_file
converted_bytes file f b =
    let n = fewer file.form file.bytes (few file.form (length file.bytes) f) in
    file_bytes_lem (other_form file.form) (converted file) (converted_fit file.form (records file) (subst (λ (m : ℕ). m < 65536) (sym (records_length file)) n) (records_fit file b))
