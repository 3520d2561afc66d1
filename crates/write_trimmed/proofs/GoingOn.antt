-- The marked records written one after another: what is left comes to the same as the whole.
use mathlib.Core.Path.{◌≡◌, refl, sym, ap, ◌∙◌}
use mathlib.Core.Bool.{Bool, true, false}
use mathlib.Core.List.{List, [], ◌∷◌, ◌++◌, map, map-append, append-nil}
use Prim.Native.Nat.{ℕ, suc, ◌+◌, ◌*◌, ◌≤◌, ◌<◌}
use native.Mathlib.Numerals.{add-one}
use native.Mathlib.Omega.{arith}
use lib.Dec.{eqb}
use lib.ListN.{length, get_or, set, drop, length-set, length-map}
use borrow.Author.Tests.{eq-eqb, ne_eqb}
use Rattle.record.specs.Bytes.{record_bytes, bytes_in}
use Rattle.record.specs.Record.{pick, Record, old_file, record_count, record_part, decoded, records, otherKind, Kind, symbolKind, variableKind, applicationKind, inputKind, resolveKind, factorKind, severalKind, windowKind}
use Rattle.record.specs.declared.Form.TheVariants.{Old}
use Rattle.record.proofs.Bytes.{record_whole, file_length}
use Rattle.record.proofs.Records.{record_numbered, records_length}
use Rattle.verdict.specs.Refusal.{kind_of_record}
use Rattle.trimming.specs.Trimming.{closed_record, Next, next_after, first_numbers}
use Rattle.marking.specs.Marking.{by_records, own_number, marked_records}
use Rattle.raising.specs.Wrapped.{wrapped}
use Rattle.placing.specs.Placing.{placed_at, Written}
use Rattle.placing.proofs.Placing.{Reached, reached_first, reached_more, reached_end, none_left, place_none}
use Rattle.write_trimmed.specs.Places.{next_of}
use Rattle.write_trimmed.specs.Writing.{RecordWritable, RecordWritten, becomes, numbers_after, numbers_next, MarkedWritten, Trimmable}
use Rattle.write_trimmed.specs.declared.numbering.Place.{Place}

module _ (symbols rows clauses marks : List ℕ) where
  -- ── One record ──
  module _ (r : Record) (k : ℕ) (p : Place) (numbers output : List ℕ) {m : ℕ} (isMark : m ≡ get_or marks k 0) where
    pub unmarked_written : m ≡ 0 → MarkedWritten symbols rows clauses marks r k p numbers output p numbers output
    unfolding bytes_in
    unmarked_written e =
        let z = eq-eqb (get_or marks k 0) 0 (sym isMark ∙ e) in
        let none : becomes symbols rows clauses marks numbers (next_of p) k r ≡ [] = ap (λ (b : Bool). pick b [] (closed_record (by_records symbols rows clauses numbers) r ∷ [])) z in
        record {
          placed = record {
            bytes = sym (ap (λ (rs : List Record). placed_at p.at (bytes_in Old (map wrapped rs)) output) none ∙ place_none p.at output);
            ends = sym (ap (λ (rs : List Record). p.at + length (bytes_in Old (map wrapped rs))) none ∙ omega arith);
          };
          numbered = sym (ap (λ (b : Bool). pick b numbers (set numbers k (own_number symbols rows clauses (next_of p) (kind_of_record r)))) z);
          next = sym (ap (λ (b : Bool). pick b (next_of p) (next_after (next_of p) (kind_of_record r))) z);
        }

    pub marked_written : {q : Place} {numbersLeft output_left : List ℕ} → ¬ (m ≡ 0) → RecordWritten symbols rows clauses r k p numbers output q numbersLeft output_left
        → MarkedWritten symbols rows clauses marks r k p numbers output q numbersLeft output_left
    unfolding bytes_in
    marked_written h w =
        let z = ne_eqb (get_or marks k 0) 0 (λ e. h (isMark ∙ e)) in
        let one : becomes symbols rows clauses marks numbers (next_of p) k r ≡ closed_record (by_records symbols rows clauses numbers) r ∷ [] = ap (λ (b : Bool). pick b [] (closed_record (by_records symbols rows clauses numbers) r ∷ [])) z in
        let same : bytes_in Old (map wrapped (becomes symbols rows clauses marks numbers (next_of p) k r)) ≡ record_bytes Old (wrapped (closed_record (by_records symbols rows clauses numbers) r)) =
        ap (λ (rs : List Record). bytes_in Old (map wrapped rs)) one ∙ append-nil (record_bytes Old (wrapped (closed_record (by_records symbols rows clauses numbers) r)))
        in
        record {
          placed = record {
            bytes = w.bytes ∙ sym (ap (λ (xs : List ℕ). placed_at p.at xs output) same);
            ends = w.after.at ∙ sym (ap (λ (xs : List ℕ). p.at + length xs) same ∙ ap (λ (n : ℕ). p.at + n) (record_whole Old (wrapped (closed_record (by_records symbols rows clauses numbers) r))));
          };
          numbered = w.numbered ∙ sym (ap (λ (b : Bool). pick b numbers (set numbers k (own_number symbols rows clauses (next_of p) (kind_of_record r)))) z);
          next = w.after.next ∙ sym (ap (λ (b : Bool). pick b (next_of p) (next_after (next_of p) (kind_of_record r))) z);
        }

  -- ── Some records ──
  abbrev pub Marked : List ℕ → Next → ℕ → List Record → List Record
  Marked numbers n k rs = marked_records symbols rows clauses marks numbers n k rs

  split : (numbers : List ℕ) (n : Next) (k : ℕ) (r : Record) (rs : List Record)
      → Marked numbers n k (r ∷ rs) ≡ becomes symbols rows clauses marks numbers n k r ++ Marked (numbers_after symbols rows clauses marks numbers n k r) (numbers_next symbols rows clauses marks numbers n k r) (suc k) rs
  split numbers n k r rs = try (eqb (get_or marks k 0) 0)
    where
      try : (b : Bool)
          → pick b (Marked numbers n (suc k) rs) (closed_record (by_records symbols rows clauses numbers) r ∷ Marked (set numbers k (own_number symbols rows clauses n (kind_of_record r))) (next_after n (kind_of_record r)) (suc k) rs)
          ≡ pick b [] (closed_record (by_records symbols rows clauses numbers) r ∷ [])
          ++ Marked (pick b numbers (set numbers k (own_number symbols rows clauses n (kind_of_record r)))) (pick b n (next_after n (kind_of_record r))) (suc k) rs
      try true = refl
      try false = refl

  fewer : (rs : List Record) (numbers : List ℕ) (n : Next) (k : ℕ) → length (Marked numbers n k rs) ≤ length rs
  fewer [] numbers n k = omega arith
  fewer (r ∷ rs) numbers n k = try (eqb (get_or marks k 0) 0) (fewer rs numbers n (suc k)) (fewer rs (set numbers k (own_number symbols rows clauses n (kind_of_record r))) (next_after n (kind_of_record r)) (suc k))
    where
      try : (b : Bool) → length (Marked numbers n (suc k) rs) ≤ length rs → length (Marked (set numbers k (own_number symbols rows clauses n (kind_of_record r))) (next_after n (kind_of_record r)) (suc k) rs) ≤ length rs
          → length (pick b (Marked numbers n (suc k) rs) (closed_record (by_records symbols rows clauses numbers) r ∷ Marked (set numbers k (own_number symbols rows clauses n (kind_of_record r))) (next_after n (kind_of_record r)) (suc k) rs)) ≤ suc (length rs)
      try true a b = omega arith
      try false a b = omega arith

  -- Numbers grow by one at most.
  pub record NoFaster (n m : Next) : Type 0 where
    pub symbol : m.symbol ≤ n.symbol + 1
    pub row : m.row ≤ n.row + 1
    pub clause : m.clause ≤ n.clause + 1

  same_pace : (n : Next) → NoFaster n n
  same_pace n = record { symbol = omega arith; row = omega arith; clause = omega arith }

  one_pace : (n : Next) (kind : Kind) → NoFaster n (next_after n kind)
  one_pace n symbolKind = record { symbol = omega arith; row = omega arith; clause = omega arith }
  one_pace n variableKind = record { symbol = omega arith; row = omega arith; clause = omega arith }
  one_pace n applicationKind = record { symbol = omega arith; row = omega arith; clause = omega arith }
  one_pace n inputKind = record { symbol = omega arith; row = omega arith; clause = omega arith }
  one_pace n resolveKind = record { symbol = omega arith; row = omega arith; clause = omega arith }
  one_pace n severalKind = record { symbol = omega arith; row = omega arith; clause = omega arith }
  one_pace n factorKind = record { symbol = omega arith; row = omega arith; clause = omega arith }
  one_pace n windowKind = record { symbol = omega arith; row = omega arith; clause = omega arith }
  one_pace n otherKind = record { symbol = omega arith; row = omega arith; clause = omega arith }

  next_pace : (numbers : List ℕ) (n : Next) (k : ℕ) (r : Record) → NoFaster n (numbers_next symbols rows clauses marks numbers n k r)
  next_pace numbers n k r = try (eqb (get_or marks k 0) 0)
    where
      try : (b : Bool) → NoFaster n (pick b n (next_after n (kind_of_record r)))
      try true = same_pace n
      try false = one_pace n (kind_of_record r)

  after_length : (numbers : List ℕ) (n : Next) (k : ℕ) (r : Record) → length (numbers_after symbols rows clauses marks numbers n k r) ≡ length numbers
  after_length numbers n k r = try (eqb (get_or marks k 0) 0)
    where
      try : (b : Bool) → length (pick b numbers (set numbers k (own_number symbols rows clauses n (kind_of_record r)))) ≡ length numbers
      try true = refl
      try false = length-set numbers k (own_number symbols rows clauses n (kind_of_record r))

  becomes_few : (numbers : List ℕ) (n : Next) (k : ℕ) (r : Record) → length (becomes symbols rows clauses marks numbers n k r) ≤ 1
  becomes_few numbers n k r = try (eqb (get_or marks k 0) 0)
    where
      try : (b : Bool) → length (pick b [] (closed_record (by_records symbols rows clauses numbers) r ∷ [])) ≤ 1
      try true = omega arith
      try false = omega arith

  -- ── A file ──
  -- What is written is no longer than the file may be.
  pub marked_short : (file numbers : List ℕ) → length file ≤ 65536 → length (bytes_in Old (map wrapped (Marked numbers first_numbers 0 (records (old_file file))))) ≤ 65536
  marked_short file numbers h =
      omega (arith, file_length Old (map wrapped (Marked numbers first_numbers 0 (records (old_file file)))), length-map (Marked numbers first_numbers 0 (records (old_file file))) wrapped, fewer (records (old_file file)) numbers first_numbers 0, records_length (old_file file))

  module _ (file numbers₀ before : List ℕ) where
    abbrev pub whole : List Record
    whole = map wrapped (Marked numbers₀ first_numbers 0 (records (old_file file)))

    abbrev pub left : List ℕ → Next → ℕ → List Record
    left numbers n k = map wrapped (Marked numbers n k (drop k (records (old_file file))))

    -- Before record k.
    pub record Going (numbers output : List ℕ) (p : Place) (k : ℕ) : Type 0 where
      pub inside : k ≤ record_count (old_file file)
      pub size : length numbers ≡ length numbers₀
      pub at : p.at ≤ 16 * k
      pub symbol : p.symbol ≤ k
      pub row : p.row ≤ k
      pub clause : p.clause ≤ k
      pub reached : Reached Old whole (left numbers (next_of p) k) before output p.at

    module _ (asked : Trimmable file before) where
      room : length (bytes_in Old whole) ≤ length before
      room = omega (arith, marked_short file numbers₀ asked.short, asked.room)

      pub going_first : Going numbers₀ before (record { at = 0; symbol = 0; row = 0; clause = 0 }) 0
      going_first = record {
        inside = omega arith;
        size = refl;
        at = omega arith;
        symbol = omega arith;
        row = omega arith;
        clause = omega arith;
        reached = reached_first Old whole before;
      }

      module _ {numbers output : List ℕ} {p : Place} {k : ℕ} (G : Going numbers output p k) where
        pub going_end : record_count (old_file file) ≤ k → Written (bytes_in Old whole) before output p.at
        going_end h = reached_end Old whole before room G.reached (ap (λ (rs : List Record). map wrapped (Marked numbers (next_of p) k rs)) (none_left (old_file file) k h))

        module _ (h : k < record_count (old_file file)) where
          pub still_writable : RecordWritable p output
          still_writable = record {
            growing = record {
              at = omega (arith, G.at, asked.short);
              symbol = omega (arith, G.symbol, asked.short);
              row = omega (arith, G.row, asked.short);
              clause = omega (arith, G.clause, asked.short);
            };
            room = omega (arith, G.at, asked.short, asked.room, G.reached.size);
          }

          module _ {part : List ℕ} (isPart : part ≡ record_part (old_file file) k) where
            parted : {numbers' : List ℕ} {n' : Next} → numbers' ≡ numbers_after symbols rows clauses marks numbers (next_of p) k (decoded part) → n' ≡ numbers_next symbols rows clauses marks numbers (next_of p) k (decoded part)
                → left numbers (next_of p) k ≡ map wrapped (becomes symbols rows clauses marks numbers (next_of p) k (decoded part)) ++ left numbers' n' (k + 1)
            parted {numbers'} {n'} a b =
                ap (λ (rs : List Record). map wrapped (Marked numbers (next_of p) k rs)) (record_numbered (old_file file) k h ∙ ap (λ (l : List ℕ). decoded l ∷ drop (suc k) (records (old_file file))) (sym isPart))
                ∙ ap (map wrapped) (split numbers (next_of p) k (decoded part) (drop (suc k) (records (old_file file))))
                ∙ map-append wrapped (becomes symbols rows clauses marks numbers (next_of p) k (decoded part)) (Marked (numbers_after symbols rows clauses marks numbers (next_of p) k (decoded part)) (numbers_next symbols rows clauses marks numbers (next_of p) k (decoded part)) (suc k) (drop (suc k) (records (old_file file))))
                ∙ sym (λ t. map wrapped (becomes symbols rows clauses marks numbers (next_of p) k (decoded part)) ++ map wrapped (Marked (a t) (b t) (add-one k t) (drop (add-one k t) (records (old_file file)))))

            pub going_more : {q : Place} {numbers' output' : List ℕ} → MarkedWritten symbols rows clauses marks (decoded part) k p numbers output q numbers' output' → Going numbers' output' q (k + 1)
            going_more {q} {numbers'} {output'} w =
                let pace = next_pace numbers (next_of p) k (decoded part) in
                record {
                  inside = omega arith;
                  size = ap (λ (l : List ℕ). length l) w.numbered ∙ after_length numbers (next_of p) k (decoded part) ∙ G.size;
                  at = omega (arith, w.placed.ends, G.at, file_length Old (map wrapped (becomes symbols rows clauses marks numbers (next_of p) k (decoded part))), length-map (becomes symbols rows clauses marks numbers (next_of p) k (decoded part)) wrapped, becomes_few numbers (next_of p) k (decoded part));
                  symbol = omega (arith, ap (λ (n : Next). n.symbol) w.next, pace.symbol, G.symbol);
                  row = omega (arith, ap (λ (n : Next). n.row) w.next, pace.row, G.row);
                  clause = omega (arith, ap (λ (n : Next). n.clause) w.next, pace.clause, G.clause);
                  reached = reached_more Old whole before room G.reached (map wrapped (becomes symbols rows clauses marks numbers (next_of p) k (decoded part))) (left numbers' (next_of q) (k + 1)) (parted w.numbered w.next) w.placed;
                }
