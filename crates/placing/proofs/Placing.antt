-- Bytes placed in an output one after another: what is left to be written, placed behind what is, comes to the same as the whole.
use mathlib.Core.Path.{◌≡◌, refl, sym, ap, ap₂, ◌∙◌}
use mathlib.Core.Bool.{Bool}
use mathlib.Core.List.{List, [], ◌++◌, append_assoc}
use Prim.Native.Nat.{ℕ, ◌+◌, ◌*◌, ◌≤◌, ◌<◌}
use native.Mathlib.Omega.{arith}
use lib.ListN.{length, take, drop, take-append-drop, length-append, length-drop, drop_of_length-le}
use lib.Seq.{length-take-le, drop-drop, take_at, drop_at}
use borrow.Author.Tests.{lt-ltb}
use Rattle.record.specs.Bytes.{record_bytes, bytes_in, Bytes}
use Rattle.record.specs.Record.{pick, Record, File, in_form, record_length, record_count, record_part, decoded, records}
use Rattle.record.specs.declared.Form.{Form}
use Rattle.record.specs.declared.Form.TheVariants.{Old, New}
use Rattle.record.proofs.Bytes.{part_written, decoded_taken, taken_bytes, file_joined}
use Rattle.record.proofs.Records.{records_length}
use Rattle.placing.specs.Placing.{placed_at, Placed, Written}

pub place_none : (at : ℕ) (output : List ℕ) → placed_at at [] output ≡ output
place_none at output =
    let e : at + 0 ≡ at = omega arith in
    ap (λ (n : ℕ). take at output ++ drop n output) e ∙ take-append-drop at output

module _ (at : ℕ) (xs output : List ℕ) (room : at + length xs ≤ length output) where
  front_length : length (take at output ++ xs) ≡ at + length xs
  front_length = length-append (take at output) xs ∙ ap (λ (n : ℕ). n + length xs) (length-take-le at output (omega arith))

  placed_front : placed_at at xs output ≡ (take at output ++ xs) ++ drop (at + length xs) output
  placed_front = sym (append_assoc (take at output) xs (drop (at + length xs) output))

  pub place_length : length (placed_at at xs output) ≡ length output
  place_length =
      ap (λ (l : List ℕ). length l) placed_front ∙ length-append (take at output ++ xs) (drop (at + length xs) output)
      ∙ omega (arith, front_length, length-drop (at + length xs) output)

  -- Bytes behind those that were placed.
  pub place_two : (ys : List ℕ) → placed_at (at + length xs) ys (placed_at at xs output) ≡ placed_at at (xs ++ ys) output
  place_two ys =
      let n : ℕ = at + length xs in
      let long : at + length (xs ++ ys) ≡ n + length ys = omega (arith, length-append xs ys) in
      let front : take n (placed_at at xs output) ≡ take at output ++ xs = ap (take n) placed_front ∙ take_at (take at output ++ xs) (drop n output) n front_length in
      let back : drop n (placed_at at xs output) ≡ drop n output = ap (drop n) placed_front ∙ drop_at (take at output ++ xs) (drop n output) n front_length in
      let behind : drop (n + length ys) (placed_at at xs output) ≡ drop (n + length ys) output =
      sym (drop-drop (length ys) n (placed_at at xs output)) ∙ ap (drop (length ys)) back ∙ drop-drop (length ys) n output
      in
      ap₂ (λ (a b : List ℕ). a ++ (ys ++ b)) front behind
      ∙ append_assoc (take at output) xs (ys ++ drop (n + length ys) output)
      ∙ sym (ap (λ (l : List ℕ). take at output ++ l) (append_assoc xs ys (drop (n + length ys) output)))
      ∙ sym (ap (λ (m : ℕ). take at output ++ ((xs ++ ys) ++ drop m output)) long)

-- ── Records of a form, one after another ──

-- Of the records of a file `left` are still to be written.
pub record Reached (form : Form) (whole left : List Record) (before output : List ℕ) (next : ℕ) : Type 0 where
  pub size : length output ≡ length before
  pub ends : next + length (bytes_in form left) ≡ length (bytes_in form whole)
  pub bytes : placed_at next (bytes_in form left) output ≡ placed_at 0 (bytes_in form whole) before

module _ (form : Form) (whole : List Record) (before : List ℕ) where
  pub reached_first : Reached form whole whole before before 0
  reached_first = record { size = refl; ends = omega arith; bytes = refl }

  module _ (room : length (bytes_in form whole) ≤ length before) {left : List Record} {output : List ℕ} {next : ℕ} (R : Reached form whole left before output next) where
    module _ (some rest : List Record) (split : left ≡ some ++ rest) where
      joined : bytes_in form left ≡ bytes_in form some ++ bytes_in form rest
      joined = ap (bytes_in form) split ∙ file_joined form some rest

      joined_length : length (bytes_in form left) ≡ length (bytes_in form some) + length (bytes_in form rest)
      joined_length = ap (λ (l : List ℕ). length l) joined ∙ length-append (bytes_in form some) (bytes_in form rest)

      pub reached_room : next + length (bytes_in form some) ≤ length output
      reached_room = omega (arith, joined_length, R.ends, R.size)

      pub reached_more : {output' : List ℕ} {next' : ℕ} → Placed form some output next output' next' → Reached form whole rest before output' next'
      reached_more {output'} {next'} P = record {
        size = ap (λ (l : List ℕ). length l) P.bytes ∙ place_length next (bytes_in form some) output reached_room ∙ R.size;
        ends = omega (arith, joined_length, R.ends, P.ends);
        bytes = ap₂ (λ (n : ℕ) (l : List ℕ). placed_at n (bytes_in form rest) l) P.ends P.bytes
            ∙ place_two next (bytes_in form some) output reached_room (bytes_in form rest)
            ∙ sym (ap (λ (l : List ℕ). placed_at next l output) joined) ∙ R.bytes;
      }

    pub reached_end : left ≡ [] → Written (bytes_in form whole) before output next
    unfolding bytes_in
    reached_end e =
        let z : next ≡ length (bytes_in form whole) = omega (arith, R.ends, ap (λ (rs : List Record). length (bytes_in form rs)) e) in
        let n : 0 + length (bytes_in form whole) ≡ next = omega arith in
        record {
          bytes = sym (ap (λ (rs : List Record). placed_at next (bytes_in form rs) output) e ∙ place_none next output) ∙ R.bytes ∙ ap (λ (m : ℕ). bytes_in form whole ++ drop m before) n;
          ends = z;
        }

-- ── The part of a record ──
pub part_length : (file : File) (k : ℕ) → k < record_count file → length (record_part file k) ≡ record_length file.form
unfolding record_part
part_length file k h = ap (λ (b : Bool). length (pick b (take (record_length file.form) (drop (record_length file.form * k) file.bytes)) [])) (lt-ltb k (record_count file) h) ∙ long file.form file.bytes h
  where
    long : (form : Form) (bytes : List ℕ) → k < record_count (in_form form bytes) → length (take (record_length form) (drop (record_length form * k) bytes)) ≡ record_length form
    long Old bytes l = length-take-le 16 (drop (16 * k) bytes) (omega (arith, length-drop (16 * k) bytes))
    long New bytes l = length-take-le 20 (drop (20 * k) bytes) (omega (arith, length-drop (20 * k) bytes))

-- From the last record on there is none.
pub none_left : (file : File) (k : ℕ) → record_count file ≤ k → drop k (records file) ≡ []
none_left file k h = drop_of_length-le (records file) {i = k} (omega (arith, records_length file))

-- Its first sixteen bytes are those of the record without days.
pub first_sixteen : (part : List ℕ) → 16 ≤ length part → Bytes part → take 16 part ≡ record_bytes Old (decoded part)
first_sixteen part h b = sym (part_written Old (take 16 part) (length-take-le 16 part h) (taken_bytes 16 part b)) ∙ ap (record_bytes Old) (decoded_taken part)
