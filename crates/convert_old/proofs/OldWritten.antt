-- A record in the old form at its place, with its window, and all of a file, one after another.
use mathlib.Core.Path.{◌≡◌, refl, sym, ap, ap₂, ◌∙◌}
use mathlib.Core.Bool.{Bool, true, false, not}
use mathlib.Core.List.{List, [], ◌∷◌, ◌++◌, append-nil}
use Prim.Native.Nat.{ℕ, ◌+◌, ◌≤◌, ◌<◌}
use native.Mathlib.Omega.{arith}
use lib.ListN.{length, take, length-append}
use lib.Seq.{length-take-le}
use Rattle.record.specs.Bytes.{low_then_high, record_bytes, bytes_in, Bytes}
use Rattle.record.specs.Record.{Record, new_file, record_count, record_part, decoded, decoded_in, records, field_of}
use Rattle.record.specs.declared.Form.TheVariants.{Old, New}
use Rattle.record.proofs.Bytes.{record_whole}
use Rattle.record.proofs.Sorts.{unless_joined}
use Rattle.record.specs.Sorts.{clauses_after, unless}
use Rattle.converting.specs.Converting.{without_days, days_beside, window_record, is_dated, old_records_from, to_old_records}
use Rattle.placing.specs.Placing.{placed_at, PartPlaceable, Placed, Written}
use Rattle.placing.proofs.Placing.{place_length, place_two, part_length, first_sixteen}
use Rattle.placing.proofs.Going.{Going, ByRecord, going_first, few_now, going_room, going_more, going_end}
use Rattle.convert_old.specs.OldFile.{old_of, NextWritable, OldWritable}

-- ── A window, two numbers at a time ──
abbrev pair : ℕ → ℕ → List ℕ
pair a b = low_then_high a (low_then_high b [])

module _ (output : List ℕ) (at : ℕ) (room : at + 16 ≤ length output) where
  -- Four bytes behind some that are placed.
  four_more : (xs ys between after : List ℕ) → length xs + 4 ≤ 16 → between ≡ placed_at at xs output → after ≡ placed_at (at + length xs) ys between → after ≡ placed_at at (xs ++ ys) output
  four_more xs ys between after h p q = q ∙ ap (placed_at (at + length xs) ys) p ∙ place_two at xs output (omega arith) ys

  pub still_room : (xs between : List ℕ) → length xs ≤ 16 → between ≡ placed_at at xs output → length between ≡ length output
  still_room xs between h p = ap (λ (l : List ℕ). length l) p ∙ place_length at xs output (omega arith)

  module _ (n first last : ℕ) {one : List ℕ} (p : one ≡ placed_at at (pair 8 n) output) where
    pub second_room : at + 4 + 4 ≤ length one
    second_room = omega (arith, still_room (pair 8 n) one (omega arith) p)

    module _ {two : List ℕ} (q : two ≡ placed_at (at + 4) (pair first last) one) where
      two_placed : two ≡ placed_at at (pair 8 n ++ pair first last) output
      two_placed = four_more (pair 8 n) (pair first last) one two (omega arith) p q

      pub third_room : at + 8 + 4 ≤ length two
      third_room = omega (arith, still_room (pair 8 n ++ pair first last) two (omega arith) two_placed)

      module _ {three : List ℕ} (r : three ≡ placed_at (at + 8) (pair 0 0) two) where
        three_placed : three ≡ placed_at at ((pair 8 n ++ pair first last) ++ pair 0 0) output
        three_placed = four_more (pair 8 n ++ pair first last) (pair 0 0) two three (omega arith) two_placed r

        pub fourth_room : at + 12 + 4 ≤ length three
        fourth_room = omega (arith, still_room ((pair 8 n ++ pair first last) ++ pair 0 0) three (omega arith) three_placed)

        pub window_placed : {four : List ℕ} → four ≡ placed_at (at + 12) (pair 0 0) three → four ≡ placed_at at (record_bytes Old (window_record n (first, last))) output
        unfolding record_bytes
        window_placed {four} s = four_more ((pair 8 n ++ pair first last) ++ pair 0 0) (pair 0 0) three four (omega arith) three_placed s

-- ── A record ──
module _ (part : List ℕ) (n : ℕ) (output : List ℕ) (at : ℕ) (asked : NextWritable part n output at) where
  -- What follows the record itself.
  abbrev behind : List Record
  behind = unless (not (is_dated (decoded_in New part))) (window_record n (days_beside (decoded_in New part))) []

  own_bytes : bytes_in Old (old_of n (decoded_in New part)) ≡ record_bytes Old (decoded part) ++ bytes_in Old behind
  unfolding bytes_in
  own_bytes = refl

  long : length (bytes_in Old (old_of n (decoded_in New part))) ≡ 16 + length (bytes_in Old behind)
  long = ap (λ (l : List ℕ). length l) own_bytes ∙ length-append (record_bytes Old (decoded part)) (bytes_in Old behind) ∙ ap (λ (m : ℕ). m + length (bytes_in Old behind)) (record_whole Old (decoded part))

  pub own_room : at + 16 ≤ length output
  own_room = omega (arith, asked.room, long)

  pub part_placeable : PartPlaceable part output at
  part_placeable = record { whole = omega (arith, asked.whole); room = own_room }

  sixteen : length (take 16 part) ≡ 16
  sixteen = length-take-le 16 part (omega (arith, asked.whole))

  module _ (bytes : Bytes part) {between : List ℕ} (p : between ≡ placed_at at (take 16 part) output) where
    first_placed : between ≡ placed_at at (record_bytes Old (decoded part)) output
    first_placed = p ∙ ap (λ (xs : List ℕ). placed_at at xs output) (first_sixteen part (omega (arith, asked.whole)) bytes)

    between_length : length between ≡ length output
    between_length = ap (λ (l : List ℕ). length l) p ∙ place_length at (take 16 part) output (omega (arith, sixteen, own_room))

    -- Always in force, or no input clause: nothing follows.
    pub alone_placed : is_dated (decoded_in New part) ≡ false → Placed Old (old_of n (decoded_in New part)) output at between (at + 16)
    unfolding bytes_in
    alone_placed e =
        let none : bytes_in Old behind ≡ [] = ap (λ (b : Bool). bytes_in Old (unless (not b) (window_record n (days_beside (decoded_in New part))) [])) e in
        let same : record_bytes Old (decoded part) ≡ bytes_in Old (old_of n (decoded_in New part)) = sym (append-nil (record_bytes Old (decoded part))) ∙ ap (λ (xs : List ℕ). record_bytes Old (decoded part) ++ xs) (sym none) in
        record { bytes = first_placed ∙ ap (λ (xs : List ℕ). placed_at at xs output) same; ends = omega (arith, long, ap (λ (l : List ℕ). length l) none) }

    -- Else its window.
    module _ (e : is_dated (decoded_in New part) ≡ true) where
      window_bytes : bytes_in Old behind ≡ record_bytes Old (window_record n (days_beside (decoded_in New part)))
      unfolding bytes_in
      window_bytes =
          ap (λ (b : Bool). bytes_in Old (unless (not b) (window_record n (days_beside (decoded_in New part))) [])) e ∙ append-nil (record_bytes Old (window_record n (days_beside (decoded_in New part))))

      window_long : length (bytes_in Old behind) ≡ 16
      window_long = ap (λ (l : List ℕ). length l) window_bytes ∙ record_whole Old (window_record n (days_beside (decoded_in New part)))

      pub both_room : at + 32 ≤ length output
      both_room = omega (arith, asked.room, long, window_long)

      pub window_room : at + 16 + 16 ≤ length between
      window_room = omega (arith, both_room, between_length)

      pub both_placed : {first last : ℕ} {after : List ℕ} → first ≡ field_of part 7 → last ≡ field_of part 8 → after ≡ placed_at (at + 16) (record_bytes Old (window_record n (first, last))) between
          → Placed Old (old_of n (decoded_in New part)) output at after (at + 32)
      both_placed {first} {last} {after} f l q = record {
        bytes =
            q ∙ ap₂ (λ (x y : ℕ). placed_at (at + 16) (record_bytes Old (window_record n (x, y))) between) f l
            ∙ ap₂ (λ (m : ℕ) (o : List ℕ). placed_at (at + m) (record_bytes Old (window_record n (days_beside (decoded_in New part)))) o) (sym (record_whole Old (decoded part))) first_placed
            ∙ place_two at (record_bytes Old (decoded part)) output (omega (arith, record_whole Old (decoded part), own_room)) (record_bytes Old (window_record n (days_beside (decoded_in New part))))
            ∙ ap (λ (xs : List ℕ). placed_at at xs output) (ap (λ (xs : List ℕ). record_bytes Old (decoded part) ++ xs) (sym window_bytes) ∙ sym own_bytes);
        ends = omega (arith, long, window_long);
      }

-- ── All of them ──
by_record : ByRecord old_records_from old_of
by_record = record {
  on_none = λ n. refl;
  on_more = λ n r rs h. ap (λ (xs : List Record). without_days r ∷ xs) (unless_joined (not (is_dated r)) (window_record n (days_beside r)) (old_records_from (clauses_after n r) rs));
}

abbrev pub OldGoing : List ℕ → List ℕ → List ℕ → ℕ → ℕ → ℕ → Type 0
OldGoing file before output next n k = Going (new_file file) Old old_records_from before output next n k

module _ (file before : List ℕ) (asked : OldWritable file before) where
  short_file : record_count (new_file file) ≤ 4096
  short_file = omega (arith, asked.short)

  pub old_first : OldGoing file before before 0 0 0
  old_first = going_first (new_file file) Old by_record before short_file asked.room

  module _ {output : List ℕ} {next n k : ℕ} (G : OldGoing file before output next n k) where
    module _ (h : k < record_count (new_file file)) {part : List ℕ} (isPart : part ≡ record_part (new_file file) k) where
      pub few_clauses : n < 4096
      few_clauses = few_now (new_file file) Old by_record before short_file asked.room G h isPart

      pub next_writable : NextWritable part n output next
      next_writable = record {
        whole = ap (λ (l : List ℕ). length l) isPart ∙ part_length (new_file file) k h;
        few = omega (arith, few_clauses);
        room = going_room (new_file file) Old by_record before short_file asked.room G h isPart refl;
      }

      pub old_more : {output' : List ℕ} {next' m : ℕ} → Placed Old (old_of n (decoded_in New part)) output next output' next' → m ≡ clauses_after n (decoded part) → OldGoing file before output' next' m (k + 1)
      old_more P q = going_more (new_file file) Old by_record before short_file asked.room G h isPart P q

    pub old_end : record_count (new_file file) ≤ k → Written (bytes_in Old (to_old_records (records (new_file file)))) before output next
    old_end h = going_end (new_file file) Old by_record before short_file asked.room G h
