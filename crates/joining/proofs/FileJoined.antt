-- The bytes that are written are those of the merged file, and its records are counted without it.
use mathlib.Core.Path.{◌≡◌, refl, sym, ap, ap₂, ◌∙◌}
use mathlib.Core.Bool.{Bool, true, false, ◌&&◌}
use mathlib.Core.Option.{Option, none, some}
use mathlib.Core.List.{List, [], ◌∷◌, ◌++◌, map, append_assoc}
use Prim.Native.Nat.{ℕ, suc, ◌+◌, ◌-◌, ◌*◌, ◌/◌, ◌%◌, ◌≤◌, ◌<◌, min}
use native.Mathlib.Omega.{arith}
use lib.Dec.{eqb, leb, ltb, ltb→lt}
use lib.ListN.{length, get_or, take, drop, length-map, length-append, length-drop, length-take}
use lib.Seq.{take_at, drop_at, drop-drop}
use Rattle.record.specs.Bytes.{file_bytes, Fits, AllFit, Bytes}
use Rattle.record.specs.Record.{pick, old_file, Record, records}
use Rattle.record.specs.declared.Form.TheVariants.{Old}
use Rattle.record.proofs.Bytes.{file_length, file_joined, file_rewritten}
use Rattle.record.proofs.Records.{records_length}
use Rattle.record.specs.Sorts.{is_symbol, is_row, is_clause, is_step, how_many, unless}
use Rattle.unification.proofs.Tests.{to_t, both_true, true_not_false}
use Rattle.verdict.specs.State.{State}
use Rattle.verdict.specs.Verdict.{Stands}
use Rattle.demands.proofs.Inversions.{not_below}
use Rattle.demands.proofs.RangeTests.{equal, at_most}
use Rattle.writing.specs.Writing.{Writing, written, refused_with, writing_numbers, output_left}
use Rattle.merging.specs.Answer.{first_where, symbol_list, first_other, room_for, after_checks}
use Rattle.merging.specs.Merging.{shifted, symbols_after, without_symbols, merged, merged_file}
use Rattle.merging.proofs.Counting.{stands_counted}
use Rattle.merging.proofs.ShiftedFits.{shifted_fit}
use Rattle.raising.specs.Wrapped.{wrapped}
use Rattle.shifting.specs.Shifting.{shifted_bytes, SecondWritable, SecondWritten}
use Rattle.writing_answer.specs.Given.{writing_given}
use Rattle.searching.specs.Searching.{found_given}
use Rattle.joining.specs.Joined.{unless_found, too_many, BothStand, Joinable, FileWritten, Joined}
use Rattle.writing_answer.specs.declared.NotWritten.{NotWritten}
use Rattle.writing_answer.specs.declared.WritingReason.{WritingReason}
use Rattle.std.specs.Prelude.{Some, None, Result, Ok, Err, ⊤}
use Rattle.std.specs.Prelude as std

-- ── Records that fit are written as they are ──
small_list : (xs : List ℕ) → ((i : ℕ) → get_or xs i 0 < 65536) → map (λ n. n % 65536) xs ≡ xs
small_list [] h = refl
small_list (x ∷ xs) h = let z : x % 65536 ≡ x = let l = h 0 in omega arith in ap₂ (λ (a : ℕ) (l : List ℕ). a ∷ l) z (small_list xs (λ i. h (suc i)))

wrapped_same : (r : Record) → Fits Old r → wrapped r ≡ r
wrapped_same r F = let e = small_list r.fields F.fields_bits in λ i. record { kind = r.kind; count = r.count; fields = e i; days = r.days }

all_wrapped : (f : Record → Record) (rs : List Record) → AllFit Old (map f rs) → map (λ r. wrapped (f r)) rs ≡ map f rs
all_wrapped f [] F = refl
all_wrapped f (r ∷ rs) F = ap₂ (λ (x : Record) (xs : List Record). x ∷ xs) (wrapped_same (f r) F.0) (all_wrapped f rs F.1)

kept_fit : (f : Record → Record) (n s : ℕ) (rs : List Record) → AllFit Old (map f rs) → AllFit Old (map f (without_symbols n s rs))
kept_fit f n s [] F = tt
kept_fit f n s (r ∷ rs) F = try (is_symbol r && ltb s n) (kept_fit f n (symbols_after s r) rs F.1)
  where
    try : (b : Bool) → AllFit Old (map f (without_symbols n (symbols_after s r) rs)) → AllFit Old (map f (unless b r (without_symbols n (symbols_after s r) rs)))
    try true k = k
    try false k = (F.0, k)

-- ── How many records are left ──
left_many : (n s : ℕ) (rs : List Record) → length (without_symbols n s rs) + min (n - s) (how_many is_symbol rs) ≡ length rs
left_many n s [] = omega arith
left_many n s (r ∷ rs) = try (is_symbol r) (ltb s n) refl (left_many n (symbols_after s r) rs)
  where
    try : (a b : Bool) → ltb s n ≡ b → length (without_symbols n (pick a (suc s) s) rs) + min (n - pick a (suc s) s) (how_many is_symbol rs) ≡ length rs
        → length (unless (a && b) r (without_symbols n (pick a (suc s) s) rs)) + min (n - s) (pick a 1 0 + how_many is_symbol rs) ≡ suc (length rs)
    try true true q ih = let l = ltb→lt s n (to_t (ltb s n) q) in omega arith
    try true false q ih = let l = not_below s n q in omega arith
    try false b q ih = omega arith

ltb_same : (a b c d : ℕ) → (a < b → c < d) → (c < d → a < b) → ltb a b ≡ ltb c d
ltb_same a b c d f g = try (ltb a b) refl (ltb c d) refl
  where
    try : (x : Bool) → ltb a b ≡ x → (y : Bool) → ltb c d ≡ y → x ≡ y
    try true p true q = refl
    try false p false q = refl
    try true p false q = let l = f (ltb→lt a b (to_t (ltb a b) p)) in let m = not_below c d q in absurd (omega arith)
    try false p true q = let l = g (ltb→lt c d (to_t (ltb c d) q)) in let m = not_below a b p in absurd (omega arith)

-- The lengths of a file that stands.
module _ (file : List ℕ) (S : State) (st : Stands (old_file file) S) where
  pub short_file : length file ≤ 65536
  short_file = at_most (length file) 65536 (both_true (leb (length file) 65536) (eqb (length file % 16) 0) st.fits).0

  pub whole_file : length file % 16 ≡ 0
  whole_file = equal (length file % 16) 0 (both_true (leb (length file) 65536) (eqb (length file % 16) 0) st.fits).1

-- A sort of records is no more than there are records; so few are the rows and clauses of a file.
some_many : (sort : Record → Bool) (rs : List Record) → how_many sort rs ≤ length rs
some_many sort [] = omega arith
some_many sort (r ∷ rs) = try (sort r) (some_many sort rs)
  where
    try : (b : Bool) → how_many sort rs ≤ length rs → pick b 1 0 + how_many sort rs ≤ suc (length rs)
    try true l = omega arith
    try false l = omega arith

few_counted : (file : List ℕ) (S : State) → Stands (old_file file) S → (length S.rows ≤ 4096) × (length S.clauses ≤ 4096)
few_counted file S st =
    let c = stands_counted (old_file file) S st in
    let r = c.rows in
    let s = c.clauses in
    let x = some_many is_row (records (old_file file)) in
    let y = some_many is_clause (records (old_file file)) in
    let n = records_length (old_file file) in
    let l = short_file file S st in
    (omega arith, omega arith)

take_all : (xs : List ℕ) → take (length xs) xs ≡ xs
take_all [] = refl
take_all (x ∷ xs) = ap (λ (l : List ℕ). x ∷ l) (take_all xs)

module _ (first second : List ℕ) (symbols rows clauses others : ℕ) (output : List ℕ) (B : BothStand first second symbols rows clauses others output) where
  symbols_first : symbols ≡ how_many is_symbol (records (old_file first))
  symbols_first = let a = (stands_counted (old_file first) B.of_first B.first_stands).symbols in let b = B.symbols_of_first in omega arith

  symbols_second : others ≡ how_many is_symbol (records (old_file second))
  symbols_second = let a = (stands_counted (old_file second) B.of_second B.second_stands).symbols in let b = B.symbols_of_second in omega arith

  merged_many : length (merged (records (old_file first)) (records (old_file second))) + min symbols others ≡ length first / 16 + length second / 16
  merged_many =
      let a = records_length (old_file first) in
      let b = records_length (old_file second) in
      let s = symbols_first in
      let t = symbols_second in
      let c = left_many (how_many is_symbol (records (old_file first))) 0 (records (old_file second)) in
      let d = length-append (records (old_file first)) (map (λ r. shifted (how_many is_row (records (old_file first))) (how_many is_clause (records (old_file first))) r) (without_symbols (how_many is_symbol (records (old_file first))) 0 (records (old_file second)))) in
      let e = length-map (without_symbols (how_many is_symbol (records (old_file first))) 0 (records (old_file second))) (λ r. shifted (how_many is_row (records (old_file first))) (how_many is_clause (records (old_file first))) r) in
      let z : min symbols others ≡ min (how_many is_symbol (records (old_file first)) - 0) (how_many is_symbol (records (old_file second))) = omega arith in
      omega arith

  pub counted_many : too_many (length first) (length second) symbols others ≡ ltb 4096 (length (merged (records (old_file first)) (records (old_file second))))
  counted_many =
      let m = merged_many in
      ltb_same (4096 + min symbols others) (length first / 16 + length second / 16) 4096 (length (merged (records (old_file first)) (records (old_file second)))) (λ x. omega arith) (λ x. omega arith)

  pub to_join : (b : Bool) → b ≡ too_many (length first) (length second) symbols others → b ≡ false → Joinable first second symbols rows clauses output
  to_join b q f = record {
    others = others;
    stand = B;
    few = not_below 4096 (length (merged (records (old_file first)) (records (old_file second)))) (sym counted_many ∙ sym q ∙ f);
  }

-- ── The file is written ──
module _ (first second : List ℕ) (symbols rows clauses : ℕ) (output : List ℕ) (J : Joinable first second symbols rows clauses output) where
  symbols_are : symbols ≡ how_many is_symbol (records (old_file first))
  symbols_are = let a = (stands_counted (old_file first) J.stand.of_first J.stand.first_stands).symbols in let b = J.stand.symbols_of_first in omega arith

  rows_are : rows ≡ how_many is_row (records (old_file first))
  rows_are = let a = (stands_counted (old_file first) J.stand.of_first J.stand.first_stands).rows in let b = J.stand.rows_of_first in omega arith

  clauses_are : clauses ≡ how_many is_clause (records (old_file first))
  clauses_are = let a = (stands_counted (old_file first) J.stand.of_first J.stand.first_stands).clauses in let b = J.stand.clauses_of_first in omega arith

  abbrev kept : List Record
  kept = without_symbols symbols 0 (records (old_file second))

  merged_is : merged (records (old_file first)) (records (old_file second)) ≡ records (old_file first) ++ map (λ r. shifted rows clauses r) kept
  merged_is =
      let a = sym rows_are in
      let b = sym clauses_are in
      let c = sym symbols_are in
      λ i. records (old_file first) ++ map (λ r. shifted (a i) (b i) r) (without_symbols (c i) 0 (records (old_file second)))

  merged_length : length (merged (records (old_file first)) (records (old_file second))) ≡ length first / 16 + length kept
  merged_length =
      ap length merged_is ∙ length-append (records (old_file first)) (map (λ r. shifted rows clauses r) kept) ∙ ap₂ ◌+◌ (records_length (old_file first)) (length-map kept (λ r. shifted rows clauses r))

  -- What copying and writing ask.
  pub copy_room : length first ≤ length output
  copy_room = let a = short_file first J.stand.of_first J.stand.first_stands in let b = J.stand.room in omega arith

  pub second_writable : (copied : List ℕ) (at : ℕ) → at ≡ length first → copied ≡ take (length first) first ++ drop (length first) output → SecondWritable second symbols copied at
  second_writable copied at e q = record {
    whole = whole_file second J.stand.of_second J.stand.second_stands;
    few = short_file second J.stand.of_second J.stand.second_stands;
    room =
        let a = whole_file first J.stand.of_first J.stand.first_stands in
        let b = merged_length in
        let c = J.few in
        let d = J.stand.room in
        let s : length copied ≡ length output = ap length q ∙ length-append (take (length first) first) (drop (length first) output) ∙ ap₂ ◌+◌ (length-take (length first) first) (length-drop (length first) output) ∙ (let x = copy_room in omega arith) in
        omega arith;
  }

  bytes_are : Bytes second → shifted_bytes rows clauses kept ≡ file_bytes (map (λ r. shifted rows clauses r) kept)
  bytes_are b =
      let x = few_counted first J.stand.of_first J.stand.first_stands in
      let y = few_counted second J.stand.of_second J.stand.second_stands in
      let r = J.stand.rows_of_first in
      let c = J.stand.clauses_of_first in
      ap file_bytes (all_wrapped (λ q. shifted rows clauses q) kept (kept_fit (λ q. shifted rows clauses q) symbols 0 (records (old_file second)) (shifted_fit rows clauses (let z = x.0 in omega arith) (let z = x.1 in omega arith) second J.stand.of_second b J.stand.second_stands y.0 y.1)))

  file_is : Bytes first → Bytes second → merged_file first second ≡ first ++ shifted_bytes rows clauses kept
  unfolding merged_file
  file_is a b =
      ap file_bytes merged_is
      ∙ file_joined Old (records (old_file first)) (map (λ r. shifted rows clauses r) kept)
      ∙ ap₂ ◌++◌ (file_rewritten Old first (whole_file first J.stand.of_first J.stand.first_stands) a) (sym (bytes_are b))

  pub both_written : Bytes first → Bytes second → (copied : List ℕ) (at : ℕ) → at ≡ length first → copied ≡ take (length first) first ++ drop (length first) output
      → (left : List ℕ) (end : ℕ) → SecondWritten second symbols rows clauses copied at left end → FileWritten first second output left end
  both_written a b copied at e q left end W = record {
    bytes =
        let X = shifted_bytes rows clauses kept in
        let n : copied ≡ first ++ drop (length first) output = q ∙ ap (λ (l : List ℕ). l ++ drop (length first) output) (take_all first) in
        let f = file_is a b in
        W.bytes
        ∙ ap₂ (λ (i : ℕ) (l : List ℕ). take i l ++ (X ++ drop (i + length X) l)) e n
        ∙ ap₂ (λ (l m : List ℕ). l ++ (X ++ m)) (take_at first (drop (length first) output) (length first) refl) (sym (drop-drop (length X) (length first) (first ++ drop (length first) output)) ∙ ap (drop (length X)) (drop_at first (drop (length first) output) (length first) refl) ∙ drop-drop (length X) (length first) output)
        ∙ sym (append_assoc first X (drop (length first + length X) output))
        ∙ ap₂ (λ (l : List ℕ) (i : ℕ). l ++ drop i output) (sym f) (sym (ap length f ∙ length-append first X));
    ends =
        let X = shifted_bytes rows clauses kept in
        let f = file_is a b in
        let l = length-append first X in
        let m : length X ≡ 16 * length kept = file_length Old (map (λ r. wrapped (shifted rows clauses r)) kept) ∙ ap (λ (i : ℕ). 16 * i) (length-map kept (λ r. wrapped (shifted rows clauses r))) in
        W.ends ∙ (let z = ap length f in omega arith);
  }

  pub short_end : (left : List ℕ) (end : ℕ) → FileWritten first second output left end → end ≤ 65536
  unfolding merged_file
  short_end left end W = let e = W.ends in let n = file_length Old (merged (records (old_file first)) (records (old_file second))) in let l = J.few in omega arith

-- ── The ways of joining ──

-- A search that must find nothing has found nothing.
none_was : (reason : WritingReason) (file : ℕ) (o : std.Option ℕ) {u : ⊤} → unless_found reason file o ≡ Ok u → o ≡ None
none_was reason file None q = refl
none_was reason file (Some k) q = absurd (true_not_false refl (sym (ap (λ (r : Result ⊤ NotWritten). std.is_ok r) q)))

pub nothing_found : (reason : WritingReason) (file : ℕ) (o : std.Option ℕ) {w : Option ℕ} {r : Result ⊤ NotWritten} {u : ⊤} → r ≡ unless_found reason file o → r ≡ Ok u → found_given o ≡ w → none ≡ w
nothing_found reason file o e q g = sym (ap found_given (none_was reason file o (sym e ∙ q))) ∙ g

-- What comes after both checks, by what the searches find.
abbrev after_searches : List Record → Option ℕ → Option ℕ → Option ℕ → Writing
after_searches rs mine theirs other =
    elim mine [
      | some k ↦ refused_with 17 1 k
      | none ↦ elim theirs [ some k ↦ refused_with 17 2 k | none ↦ elim other [ some k ↦ refused_with 18 2 k | none ↦ room_for rs ] ]
    ]

module _ (first second output : List ℕ) (m : Result ℕ NotWritten) where
  refused_joined : (number file k : ℕ) → after_checks (records (old_file first)) (records (old_file second)) ≡ refused_with number file k → writing_given m ≡ 2 ∷ number ∷ file ∷ k ∷ [] → Joined first second output m output
  refused_joined number file k e g = record { answer = g ∙ ap writing_numbers (sym e); bytes = ap (λ (x : Writing). output_left x (merged_file first second) output) (sym e) }

  module _ (q : none ≡ first_where is_step 0 (records (old_file first))) where
    module _ (p : none ≡ first_where is_step 0 (records (old_file second))) where
      module _ (o : none ≡ first_other (symbol_list (records (old_file first))) 0 (records (old_file second))) where
        room_left : after_checks (records (old_file first)) (records (old_file second)) ≡ room_for (merged (records (old_file first)) (records (old_file second)))
        room_left = λ i. after_searches (merged (records (old_file first)) (records (old_file second))) (sym q i) (sym p i) (sym o i)

        pub too_many_lem : ltb 4096 (length (merged (records (old_file first)) (records (old_file second)))) ≡ true → writing_given m ≡ 2 ∷ 19 ∷ 0 ∷ 0 ∷ [] → Joined first second output m output
        too_many_lem t g = refused_joined 19 0 0 (room_left ∙ ap (λ (b : Bool). elim b [ true ↦ refused_with 19 0 0 | false ↦ written (16 * length (merged (records (old_file first)) (records (old_file second)))) ]) t) g

        pub joined_whole : (left : List ℕ) (end : ℕ) → ltb 4096 (length (merged (records (old_file first)) (records (old_file second)))) ≡ false → FileWritten first second output left end → writing_given m ≡ 0 ∷ end ∷ 0 ∷ 0 ∷ [] → Joined first second output m left
        unfolding merged_file
        joined_whole left end t W g =
            let e : after_checks (records (old_file first)) (records (old_file second)) ≡ written (16 * length (merged (records (old_file first)) (records (old_file second)))) =
            room_left ∙ ap (λ (b : Bool). elim b [ true ↦ refused_with 19 0 0 | false ↦ written (16 * length (merged (records (old_file first)) (records (old_file second)))) ]) t
            in
            let l = file_length Old (merged (records (old_file first)) (records (old_file second))) in
            record {
              answer = g ∙ ap (λ (n : ℕ). 0 ∷ n ∷ 0 ∷ 0 ∷ []) (W.ends ∙ l) ∙ ap writing_numbers (sym e);
              bytes = W.bytes ∙ ap (λ (n : ℕ). merged_file first second ++ drop n output) l ∙ ap (λ (x : Writing). output_left x (merged_file first second) output) (sym e);
            }
