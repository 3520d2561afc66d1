-- The second file's records placed in the output one after another: what is left of the file comes to the same as the whole.
use mathlib.Core.Path.{◌≡◌, refl, sym, ap, ap₂, ◌∙◌}
use mathlib.Core.Bool.{Bool, true, false}
use mathlib.Core.List.{List, [], ◌∷◌, ◌++◌, map, map-append, append-nil}
use Prim.Native.Nat.{ℕ, suc, ◌+◌, ◌-◌, ◌*◌, ◌≤◌, ◌<◌}
use native.Mathlib.Numerals.{add-one}
use native.Mathlib.Omega.{arith}
use lib.ListN.{length, take, drop, length-append, length-map, drop_of_length-le}
use lib.Seq.{drop-drop}
use borrow.Author.Tests.{lt-ltb}
use borrow.Rule.Slice.PartMut.{mid_of, put_mid}
use Rattle.record.specs.Bytes.{record_bytes, file_bytes, bytes_in}
use Rattle.record.specs.Record.{pick, old_file, Record, record_count, record_part, decoded, records}
use Rattle.record.specs.declared.Form.TheVariants.{Old}
use Rattle.record.proofs.Records.{record_numbered, records_length}
use Rattle.record.proofs.Bytes.{decoded_taken, record_whole, file_length, file_joined}
use Rattle.record.proofs.Sorts.{unless_joined}
use Rattle.record.specs.Sorts.{is_symbol, unless}
use Rattle.merging.specs.Merging.{shifted, symbols_after, without_symbols}
use Rattle.raising.specs.Wrapped.{wrapped}
use Rattle.shifting.specs.Shifting.{is_dropped, shifted_bytes, next_record, NextWritable, NextWritten, SecondWritable, SecondWritten}
use Rattle.raising.proofs.Raising.{tail_lent, tail_back}
use Rattle.placing.specs.Placing.{placed_at}
use Rattle.placing.proofs.Placing.{place_none, place_length, place_two}

-- ── The bytes of records ──

shifted_joined : (rows clauses : ℕ) (rs ss : List Record) → shifted_bytes rows clauses (rs ++ ss) ≡ shifted_bytes rows clauses rs ++ shifted_bytes rows clauses ss
shifted_joined rows clauses rs ss =
    ap file_bytes (map-append (λ (r : Record). wrapped (shifted rows clauses r)) rs ss)
    ∙ file_joined Old (map (λ (r : Record). wrapped (shifted rows clauses r)) rs) (map (λ (r : Record). wrapped (shifted rows clauses r)) ss)

shifted_length : (rows clauses : ℕ) (rs : List Record) → length (shifted_bytes rows clauses rs) ≡ 16 * length rs
shifted_length rows clauses rs =
    file_length Old (map (λ (r : Record). wrapped (shifted rows clauses r)) rs) ∙ ap (λ (n : ℕ). 16 * n) (length-map rs (λ (r : Record). wrapped (shifted rows clauses r)))

-- ── One record more ──

module _ (rest : List ℕ) (s symbols rows clauses : ℕ) (output : List ℕ) (at : ℕ) {b : Bool} (isTest : b ≡ is_dropped symbols s (decoded rest)) where
  next_is : {c : Bool} → b ≡ c → next_record rest s symbols ≡ unless c (decoded rest) []
  next_is e = ap (λ (x : Bool). unless x (decoded rest) []) (sym isTest ∙ e)

  pub next_dropped : b ≡ true → NextWritten rest s symbols rows clauses output at output at
  unfolding bytes_in
  next_dropped e =
      let none : next_record rest s symbols ≡ [] = next_is e in
      record {
        bytes = sym (ap (λ (rs : List Record). placed_at at (shifted_bytes rows clauses rs) output) none ∙ place_none at output);
        ends = omega (arith, ap (λ (rs : List Record). length rs) none);
      }

  module _ (kept : b ≡ false) where
    one : next_record rest s symbols ≡ decoded rest ∷ []
    one = next_is kept

    pub next_room : NextWritable rest s symbols output at → at + 16 ≤ length output
    next_room w = omega (arith, w.room, ap (λ (rs : List Record). length rs) one)

    pub next_put : {part : List ℕ} → part ≡ record_bytes Old (wrapped (shifted rows clauses (decoded rest))) ++ drop 16 (mid_of at (length output - at) output)
        → NextWritten rest s symbols rows clauses output at (put_mid at (length output - at) output part) (at + 16)
    unfolding bytes_in
    next_put {part} p =
        let R : List ℕ = record_bytes Old (wrapped (shifted rows clauses (decoded rest))) in
        let behind : drop 16 (mid_of at (length output - at) output) ≡ drop (at + length R) output =
        ap (drop 16) (tail_lent at output) ∙ drop-drop 16 at output ∙ ap (λ (n : ℕ). drop (at + n) output) (sym (record_whole Old (wrapped (shifted rows clauses (decoded rest)))))
        in
        record {
          bytes =
              tail_back at output part ∙ ap (λ (l : List ℕ). take at output ++ l) (p ∙ ap (λ (l : List ℕ). R ++ l) behind)
              ∙ sym (ap (λ (l : List ℕ). placed_at at l output) (append-nil R)) ∙ sym (ap (λ (rs : List Record). placed_at at (shifted_bytes rows clauses rs) output) one);
          ends = omega (arith, ap (λ (rs : List Record). length rs) one);
        }

-- ── All of them ──

part_decoded : (file : List ℕ) (k : ℕ) → k < record_count (old_file file) → decoded (record_part (old_file file) k) ≡ decoded (drop (16 * k) file)
unfolding record_part
part_decoded file k h =
    ap (λ (b : Bool). decoded (pick b (take 16 (drop (16 * k) file)) [])) (lt-ltb k (record_count (old_file file)) h) ∙ decoded_taken (drop (16 * k) file)

symbols_few : (s : ℕ) (b : Bool) → pick b (suc s) s ≤ suc s
symbols_few s true = omega arith
symbols_few s false = omega arith

-- What is left of the second file from record k on, where s symbols were before.
abbrev left : List ℕ → ℕ → ℕ → ℕ → List Record
left second symbols s k = without_symbols symbols s (drop k (records (old_file second)))

pub record Reached (second : List ℕ) (symbols rows clauses : ℕ) (before : List ℕ) (at : ℕ) (output : List ℕ) (k next s : ℕ) : Type 0 where
  pub few : s ≤ k
  pub size : length output ≡ length before
  pub ends : next + 16 * length (without_symbols symbols s (drop k (records (old_file second)))) ≡ at + 16 * length (without_symbols symbols 0 (records (old_file second)))
  pub bytes : placed_at next (shifted_bytes rows clauses (without_symbols symbols s (drop k (records (old_file second))))) output ≡ placed_at at (shifted_bytes rows clauses (without_symbols symbols 0 (records (old_file second)))) before

module _ (second : List ℕ) (symbols rows clauses : ℕ) (before : List ℕ) (at : ℕ) (asked : SecondWritable second symbols before at) where
  pub reached_first : Reached second symbols rows clauses before at before 0 at 0
  reached_first = record { few = omega arith; size = refl; ends = refl; bytes = refl }

  module _ (output : List ℕ) (k next s : ℕ) (reached : Reached second symbols rows clauses before at output k next s) where
    module _ (inside : k < record_count (old_file second)) {rest : List ℕ} (is_rest : rest ≡ drop (16 * k) second) where
      rest_decoded : decoded rest ≡ decoded (record_part (old_file second) k)
      rest_decoded = ap decoded is_rest ∙ sym (part_decoded second k inside)

      split : {s' : ℕ} → s' ≡ symbols_after s (decoded rest) → left second symbols s k ≡ next_record rest s symbols ++ left second symbols s' (k + 1)
      split {s'} q =
          ap (without_symbols symbols s) (record_numbered (old_file second) k inside ∙ ap (λ (r : Record). r ∷ drop (suc k) (records (old_file second))) (sym rest_decoded))
          ∙ unless_joined (is_dropped symbols s (decoded rest)) (decoded rest) (without_symbols symbols (symbols_after s (decoded rest)) (drop (suc k) (records (old_file second))))
          ∙ ap₂ (λ (n m : ℕ). next_record rest s symbols ++ without_symbols symbols n (drop m (records (old_file second)))) (sym q) (sym (add-one k))

      split_length : {s' : ℕ} → s' ≡ symbols_after s (decoded rest) → length (left second symbols s k) ≡ length (next_record rest s symbols) + length (left second symbols s' (k + 1))
      split_length {s'} q = ap (λ (rs : List Record). length rs) (split q) ∙ length-append (next_record rest s symbols) (left second symbols s' (k + 1))

      next_fits : next + 16 * length (next_record rest s symbols) ≤ length output
      next_fits = omega (arith, split_length refl, reached.ends, reached.size, asked.room)

      pub next_writable : NextWritable rest s symbols output next
      next_writable = record { room = next_fits }

      pub reached_more : {output' : List ℕ} {next' s' : ℕ} → NextWritten rest s symbols rows clauses output next output' next' → s' ≡ symbols_after s (decoded rest)
          → Reached second symbols rows clauses before at output' (k + 1) next' s'
      reached_more {output'} {next'} {s'} w q =
          let N : List ℕ = shifted_bytes rows clauses (next_record rest s symbols) in
          let L : List ℕ = shifted_bytes rows clauses (left second symbols s' (k + 1)) in
          let long : length N ≡ 16 * length (next_record rest s symbols) = shifted_length rows clauses (next_record rest s symbols) in
          let room : next + length N ≤ length output = omega (arith, long, next_fits) in
          let e : next' ≡ next + length N = omega (arith, long, w.ends) in
          let joined : shifted_bytes rows clauses (left second symbols s k) ≡ N ++ L =
          ap (shifted_bytes rows clauses) (split q) ∙ shifted_joined rows clauses (next_record rest s symbols) (left second symbols s' (k + 1))
          in
          record {
            few = omega (arith, reached.few, symbols_few s (is_symbol (decoded rest)));
            size = ap (λ (l : List ℕ). length l) w.bytes ∙ place_length next N output room ∙ reached.size;
            ends = omega (arith, split_length q, reached.ends, w.ends);
            bytes = ap₂ (λ (n : ℕ) (l : List ℕ). placed_at n L l) e w.bytes ∙ place_two next N output room L ∙ sym (ap (λ (l : List ℕ). placed_at next l output) joined) ∙ reached.bytes;
          }

    pub reached_end : record_count (old_file second) ≤ k → SecondWritten second symbols rows clauses before at output next
    unfolding bytes_in
    reached_end h =
        let none : drop k (records (old_file second)) ≡ [] = drop_of_length-le (records (old_file second)) {i = k} (omega (arith, records_length (old_file second))) in
        record {
          bytes = sym (ap (λ (rs : List Record). placed_at next (shifted_bytes rows clauses (without_symbols symbols s rs)) output) none ∙ place_none next output) ∙ reached.bytes;
          ends = omega (arith, ap (λ (rs : List Record). length (without_symbols symbols s rs)) none, reached.ends);
        }
