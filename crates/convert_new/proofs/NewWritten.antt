-- A record in the new form at its place, and all of a file, one after another.
use mathlib.Core.Path.{◌≡◌, refl, sym, ap, ap₂, ◌∙◌}
use mathlib.Core.Bool.{Bool, true, false}
use mathlib.Core.List.{List, [], ◌∷◌, ◌++◌, append-nil}
use Prim.Native.Nat.{ℕ, ◌+◌, ◌*◌, ◌≤◌, ◌<◌}
use native.Mathlib.Omega.{arith}
use lib.ListN.{length, get_or, take}
use lib.Seq.{length-take-le}
use borrow.Author.Tests.{eq-eqb, ne_eqb}
use Rattle.record.specs.Bytes.{low_then_high, record_bytes, bytes_in, Bytes}
use Rattle.record.specs.Record.{pick, Record, old_file, with_days, record_count, record_part, decoded, records, kind_of}
use Rattle.record.specs.declared.Form.TheVariants.{New}
use Rattle.record.proofs.Bytes.{record_whole}
use Rattle.record.proofs.Sorts.{unless_joined}
use Rattle.record.specs.Sorts.{is_input, is_window, clauses_after, unless}
use Rattle.converting.specs.Converting.{last_days, new_record, new_records_from, to_new_records}
use Rattle.day_table.specs.DayTable.{days_at}
use Rattle.placing.specs.Placing.{placed_at, PartPlaceable, Placed, Written}
use Rattle.placing.proofs.Placing.{place_none, place_length, place_two, part_length, first_sixteen}
use Rattle.placing.proofs.Going.{Going, ByRecord, going_first, few_now, going_room, going_more, going_end}
use Rattle.convert_new.specs.NewFile.{day_beside, tabled, new_of, NextWritable, NewWritable}

-- ── A day ──
module _ (part table : List ℕ) (at : ℕ) {k : ℕ} (is_kind : k ≡ kind_of part) where
  pub input_day : {d : ℕ} → k ≡ 4 → d ≡ get_or table at 0 → d ≡ day_beside table at (decoded part)
  input_day e q = q ∙ sym (ap (λ (b : Bool). pick b (get_or table at 0) 0) (eq-eqb (kind_of part) 4 (sym is_kind ∙ e)))

  pub no_day : ¬ (k ≡ 4) → 0 ≡ day_beside table at (decoded part)
  no_day e = sym (ap (λ (b : Bool). pick b (get_or table at 0) 0) (ne_eqb (kind_of part) 4 (λ q. e (is_kind ∙ q))))

-- ── A record ──
module _ (part : List ℕ) (n : ℕ) (table output : List ℕ) (at : ℕ) {k : ℕ} (is_kind : k ≡ kind_of part) where
  pub window_dropped : k ≡ 8 → Placed New (new_of table n (decoded part)) output at output at
  unfolding bytes_in
  window_dropped e =
      let none : new_of table n (decoded part) ≡ [] = ap (λ (b : Bool). unless b (tabled table n (decoded part)) []) (eq-eqb (kind_of part) 8 (sym is_kind ∙ e)) in
      record {
        bytes = sym (ap (λ (rs : List Record). placed_at at (bytes_in New rs) output) none ∙ place_none at output);
        ends = omega (arith, ap (λ (rs : List Record). length (bytes_in New rs)) none);
      }

  module _ (asked : NextWritable part n table output at) (no_window_lem : ¬ (k ≡ 8)) where
    one : new_of table n (decoded part) ≡ tabled table n (decoded part) ∷ []
    one = ap (λ (b : Bool). unless b (tabled table n (decoded part)) []) (ne_eqb (kind_of part) 8 (λ q. no_window_lem (is_kind ∙ q)))

    one_bytes : bytes_in New (new_of table n (decoded part)) ≡ record_bytes New (tabled table n (decoded part))
    unfolding bytes_in
    one_bytes = ap (bytes_in New) one ∙ append-nil (record_bytes New (tabled table n (decoded part)))

    long : length (bytes_in New (new_of table n (decoded part))) ≡ 20
    long = ap (λ (l : List ℕ). length l) one_bytes ∙ record_whole New (tabled table n (decoded part))

    pub next_room : at + 20 ≤ length output
    next_room = omega (arith, asked.room, long)

    sixteen : length (take 16 part) ≡ 16
    sixteen = length-take-le 16 part (omega (arith, asked.whole))

    pub part_placeable : PartPlaceable part output at
    part_placeable = record { whole = omega (arith, asked.whole); room = omega (arith, next_room) }

    pub pair_room : (between : List ℕ) → between ≡ placed_at at (take 16 part) output → at + 16 + 4 ≤ length between
    pair_room between e = omega (arith, next_room, ap (λ (l : List ℕ). length l) e, place_length at (take 16 part) output (omega (arith, sixteen, next_room)))

    parted : Bytes part → (first last : ℕ) → record_bytes New (with_days (decoded part) first last) ≡ take 16 part ++ low_then_high first (low_then_high last [])
    unfolding record_bytes
    parted b first last = sym (ap (λ (l : List ℕ). l ++ low_then_high first (low_then_high last [])) (first_sixteen part (omega (arith, asked.whole)) b))

    pub next_placed : Bytes part → {first last : ℕ} {between after : List ℕ} → first ≡ day_beside table (2 * n) (decoded part) → last ≡ day_beside table (2 * n + 1) (decoded part)
        → between ≡ placed_at at (take 16 part) output → after ≡ placed_at (at + 16) (low_then_high first (low_then_high last [])) between
        → Placed New (new_of table n (decoded part)) output at after (at + 20)
    next_placed b {first} {last} {between} {after} f l p q = record {
      bytes =
          q ∙ ap₂ (λ (m : ℕ) (o : List ℕ). placed_at (at + m) (low_then_high first (low_then_high last [])) o) (sym sixteen) p
          ∙ place_two at (take 16 part) output (omega (arith, sixteen, next_room)) (low_then_high first (low_then_high last []))
          ∙ ap (λ (xs : List ℕ). placed_at at xs output) (sym (parted b first last) ∙ ap₂ (λ (x y : ℕ). record_bytes New (with_days (decoded part) x y)) f l ∙ sym one_bytes);
      ends = omega (arith, long);
    }

-- ── All of them ──
dated : (all : List Record) (table : List ℕ) (n : ℕ) (r : Record) → days_at table n ≡ last_days all n → tabled table n r ≡ new_record all n r
dated all table n r e = try (is_input r)
  where
    try : (b : Bool) → with_days r (pick b (get_or table (2 * n) 0) 0) (pick b (get_or table (2 * n + 1) 0) 0) ≡ pick b (with_days r (last_days all n).0 (last_days all n).1) (with_days r 0 0)
    try true = ap (λ (d : ℕ × ℕ). with_days r d.0 d.1) e
    try false = refl

by_record : (file table output : List ℕ) → NewWritable file table output → ByRecord (new_records_from (records (old_file file))) (new_of table)
by_record file table output asked = record {
  on_none = λ n. refl;
  on_more = λ n r rs h.
      unless_joined (is_window r) (new_record (records (old_file file)) n r) (new_records_from (records (old_file file)) (clauses_after n r) rs)
      ∙ ap (λ (x : Record). unless (is_window r) x [] ++ new_records_from (records (old_file file)) (clauses_after n r) rs) (sym (dated (records (old_file file)) table n r (asked.told n h)));
}

abbrev pub NewGoing : List ℕ → List ℕ → List ℕ → ℕ → ℕ → ℕ → Type 0
NewGoing file before output next n k = Going (old_file file) New (new_records_from (records (old_file file))) before output next n k

module _ (file table before : List ℕ) (asked : NewWritable file table before) where
  short_file : record_count (old_file file) ≤ 4096
  short_file = omega (arith, asked.short)

  pub new_first : NewGoing file before before 0 0 0
  new_first = going_first (old_file file) New (by_record file table before asked) before short_file asked.room

  module _ {output : List ℕ} {next n k : ℕ} (G : NewGoing file before output next n k) where
    module _ (h : k < record_count (old_file file)) {part : List ℕ} (isPart : part ≡ record_part (old_file file) k) where
      pub few_clauses : n < 4096
      few_clauses = few_now (old_file file) New (by_record file table before asked) before short_file asked.room G h isPart

      pub next_writable : NextWritable part n table output next
      next_writable = record {
        whole = ap (λ (l : List ℕ). length l) isPart ∙ part_length (old_file file) k h;
        few = omega (arith, few_clauses);
        room = going_room (old_file file) New (by_record file table before asked) before short_file asked.room G h isPart refl;
      }

      pub new_more : {output' : List ℕ} {next' m : ℕ} → Placed New (new_of table n (decoded part)) output next output' next' → m ≡ clauses_after n (decoded part) → NewGoing file before output' next' m (k + 1)
      new_more P q = going_more (old_file file) New (by_record file table before asked) before short_file asked.room G h isPart P q

    pub new_end : record_count (old_file file) ≤ k → Written (bytes_in New (to_new_records (records (old_file file)))) before output next
    new_end h = going_end (old_file file) New (by_record file table before asked) before short_file asked.room G h
