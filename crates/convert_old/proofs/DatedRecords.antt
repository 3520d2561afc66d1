-- Whether a clause is not always in force, by its bytes; and the records of the old form, counted.
use mathlib.Core.Path.{◌≡◌, refl, sym, ap, ap₂, ◌∙◌}
use mathlib.Core.Bool.{Bool, true, false, ◌&&◌, not}
use mathlib.Core.List.{List}
use Prim.Native.Nat.{ℕ, ◌+◌}
use native.Mathlib.Omega.{arith}
use lib.Dec.{eqb}
use lib.ListN.{length}
use borrow.Author.Tests.{eq-eqb, ne_eqb}
use Rattle.record.specs.Record.{new_file, record_count, decoded_in, records, kind_of, field_of}
use Rattle.record.specs.declared.Form.TheVariants.{New}
use Rattle.record.proofs.Records.{records_length}
use Rattle.record.specs.Sorts.{how_many, one}
use Rattle.converting.specs.Converting.{is_dated, to_old_records}
use Rattle.converting.proofs.ConvertedStands.{old_counted}

-- The tests, and what they come to.
abbrev tested : Bool → Bool → Bool → Bool
tested four zero most = four && not (zero && most)

module _ (part : List ℕ) {k : ℕ} (is_kind : k ≡ kind_of part) where
  pub no_input_lem : ¬ (k ≡ 4) → false ≡ is_dated (decoded_in New part)
  no_input_lem e = sym (ap (λ (b : Bool). tested b (eqb (field_of part 7) 0) (eqb (field_of part 8) 65535)) (ne_eqb (kind_of part) 4 (λ q. e (is_kind ∙ q))))

  module _ (four : k ≡ 4) {first : ℕ} (is_first : first ≡ field_of part 7) where
    is_four : eqb (kind_of part) 4 ≡ true
    is_four = eq-eqb (kind_of part) 4 (sym is_kind ∙ four)

    pub first_day : ¬ (first ≡ 0) → true ≡ is_dated (decoded_in New part)
    first_day e = sym (ap₂ (λ (a b : Bool). tested a b (eqb (field_of part 8) 65535)) is_four (ne_eqb (field_of part 7) 0 (λ q. e (is_first ∙ q))))

    pub last_looked : first ≡ 0 → {last : ℕ} → last ≡ field_of part 8 → not (eqb last 65535) ≡ is_dated (decoded_in New part)
    last_looked z is_last =
        let is_zero = eq-eqb (field_of part 7) 0 (sym is_first ∙ z) in
        ap (λ (n : ℕ). not (eqb n 65535)) is_last ∙ sym (λ i. tested (is_four i) (is_zero i) (eqb (field_of part 8) 65535))

pub one_of : (b c d : Bool) → b ≡ c → b ≡ d → one d ≡ one c
one_of b c d p q = ap one (sym q ∙ p)

pub all_dated : (file : List ℕ) {n : ℕ} → n ≡ record_count (new_file file) + how_many is_dated (records (new_file file)) → n ≡ length (to_old_records (records (new_file file)))
all_dated file e = omega (arith, e, old_counted (new_file file) refl, records_length (new_file file))
