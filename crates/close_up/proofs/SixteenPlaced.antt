-- A record's sixteen bytes, four at a time.
use mathlib.Core.Path.{◌≡◌, refl, sym, ap, ap₂, ◌∙◌}
use mathlib.Core.List.{List, [], ◌∷◌, ◌++◌, map}
use Prim.Native.Nat.{ℕ, ◌+◌, ◌*◌, ◌/◌, ◌%◌, ◌≤◌, ◌<◌}
use native.Mathlib.Omega.{arith}
use lib.ListN.{length}
use Rattle.record.specs.Bytes.{low_then_high, field_bytes, record_bytes}
use Rattle.record.specs.Record.{decoded, kind_of, count_of}
use Rattle.record.specs.declared.Form.TheVariants.{Old}
use Rattle.renumbering.specs.Renumbering.{Renumbering}
use Rattle.verdict.specs.Refusal.{kind_of_record}
use Rattle.trimming.specs.Trimming.{closed_record}
use Rattle.raising.specs.Wrapped.{wrapped}
use Rattle.placing.specs.Placing.{placed_at}
use Rattle.placing.proofs.Placing.{place_length, place_two}
use Rattle.close_up.specs.ClosedField.{closed_field, FieldsPlaceable}
use Rattle.close_up.proofs.ClosedFields.{fields_same}

abbrev pair : ℕ → ℕ → List ℕ
pair a b = low_then_high a (low_then_high b [])

-- Two numbers that a callee gave.
pub pair_placed : (at : ℕ) (output : List ℕ) {a b c d : ℕ} {after : List ℕ} → a ≡ c → b ≡ d → after ≡ placed_at at (pair a b) output → after ≡ placed_at at (pair c d) output
pair_placed at output p q e = e ∙ ap₂ (λ (x y : ℕ). placed_at at (pair x y) output) p q

module _ (N : Renumbering) (part : List ℕ) where
  abbrev fields : ℕ → ℕ → List ℕ
  fields i j = pair (closed_field N part i) (closed_field N part j)

  abbrev sixteen : ℕ → List ℕ
  sixteen head = ((pair head (closed_field N part 0) ++ fields 1 2) ++ fields 3 4) ++ fields 5 6

  sixteen_bytes_lem : (k n : ℕ) → k < 256 → k ≡ kind_of part → n ≡ count_of part → sixteen (k + 256 * n) ≡ record_bytes Old (wrapped (closed_record N (decoded part)))
  unfolding record_bytes
  sixteen_bytes_lem k n h p q =
      let low : (k + 256 * n) % 256 ≡ k = omega arith in
      let high : (k + 256 * n) / 256 ≡ n = omega arith in
      (λ t. (low ∙ p) t ∷ (high ∙ q) t ∷ field_bytes (map (λ (m : ℕ). m % 65536) (sym (fields_same N part (kind_of_record (decoded part))) t)) [])

  module _ (output : List ℕ) (at : ℕ) (room : at + 16 ≤ length output) where
    -- Four bytes behind some that are placed.
    four_more : (xs ys between after : List ℕ) → length xs + 4 ≤ 16 → between ≡ placed_at at xs output → after ≡ placed_at (at + length xs) ys between → after ≡ placed_at at (xs ++ ys) output
    four_more xs ys between after h p q = q ∙ ap (placed_at (at + length xs) ys) p ∙ place_two at xs output (omega arith) ys

    still_room : (xs between : List ℕ) → length xs ≤ 16 → between ≡ placed_at at xs output → length between ≡ length output
    still_room xs between h p = ap (λ (l : List ℕ). length l) p ∙ place_length at xs output (omega arith)

    module _ (k n : ℕ) {first : ℕ} (is_first : first ≡ closed_field N part 0) {one : List ℕ} (p : one ≡ placed_at at (pair (k + 256 * n) first) output) where
      one_placed : one ≡ placed_at at (pair (k + 256 * n) (closed_field N part 0)) output
      one_placed = pair_placed at output refl is_first p

      pub second_room : FieldsPlaceable 1 one (at + 4)
      second_room = record { few = omega arith; room = omega (arith, still_room (pair (k + 256 * n) (closed_field N part 0)) one (omega arith) one_placed) }

      module _ {two : List ℕ} (q : two ≡ placed_at (at + 4) (fields 1 2) one) where
        two_placed : two ≡ placed_at at (pair (k + 256 * n) (closed_field N part 0) ++ fields 1 2) output
        two_placed = four_more (pair (k + 256 * n) (closed_field N part 0)) (fields 1 2) one two (omega arith) one_placed q

        pub third_room : FieldsPlaceable 3 two (at + 8)
        third_room = record { few = omega arith; room = omega (arith, still_room (pair (k + 256 * n) (closed_field N part 0) ++ fields 1 2) two (omega arith) two_placed) }

        module _ {three : List ℕ} (r : three ≡ placed_at (at + 8) (fields 3 4) two) where
          three_placed : three ≡ placed_at at ((pair (k + 256 * n) (closed_field N part 0) ++ fields 1 2) ++ fields 3 4) output
          three_placed = four_more (pair (k + 256 * n) (closed_field N part 0) ++ fields 1 2) (fields 3 4) two three (omega arith) two_placed r

          pub fourth_room : FieldsPlaceable 5 three (at + 12)
          fourth_room = record { few = omega arith; room = omega (arith, still_room ((pair (k + 256 * n) (closed_field N part 0) ++ fields 1 2) ++ fields 3 4) three (omega arith) three_placed) }

          pub record_placed : {four : List ℕ} → k < 256 → k ≡ kind_of part → n ≡ count_of part → four ≡ placed_at (at + 12) (fields 5 6) three
              → four ≡ placed_at at (record_bytes Old (wrapped (closed_record N (decoded part)))) output
          record_placed {four} h is_kind isCount s =
              four_more ((pair (k + 256 * n) (closed_field N part 0) ++ fields 1 2) ++ fields 3 4) (fields 5 6) three four (omega arith) three_placed s
              ∙ ap (λ (xs : List ℕ). placed_at at xs output) (sixteen_bytes_lem k n h is_kind isCount)
