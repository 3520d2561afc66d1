-- What the program marks and writes is the trimmed file.
use mathlib.Core.Path.{◌≡◌, refl, sym, ap, ap₂, ◌∙◌, subst}
use mathlib.Core.Bool.{Bool, true, false}
use mathlib.Core.Option.{Option, some}
use mathlib.Core.List.{List, [], ◌∷◌, ◌++◌, map, reverse}
use Prim.Native.Nat.{ℕ, suc, ◌+◌, ◌*◌, ◌%◌, ◌≤◌, ◌<◌}
use native.Mathlib.Omega.{arith}
use lib.Dec.{eqb}
use lib.ListN.{length, get_or, set, length-map, length-reverse, get_or-append}
use Rattle.record.specs.Bytes.{Bytes, AllFit}
use Rattle.record.specs.Record.{pick, File, old_file, Record, record_count, records}
use Rattle.record.specs.declared.Form.TheVariants.{Old}
use Rattle.unification.specs.Row.{Row}
use Rattle.unification.proofs.Tests.{some_injective, some_not_none}
use Rattle.derivation.specs.Derivation.{Derivation}
use Rattle.derivation.specs.Stored.{record_cell}
use Rattle.raising.specs.Wrapped.{wrapped}
use Rattle.verdict.specs.State.{State, entry, derivations, clause_of}
use Rattle.verdict.specs.Tables.{Tables, clause_cells, filled_tables}
use Rattle.verdict.specs.Verdict.{Stands}
use Rattle.demands.proofs.Acceptance.{cells_length}
use Rattle.demands.proofs.Inversions.{entry_below}
use Rattle.demands.proofs.Reading.{few_in, stands_ok}
use Rattle.demands.proofs.Sources.{number_of}
use Rattle.demands.proofs.TableCells.{reversed_at}
use Rattle.demands.proofs.Tabled.{clause_cell_lem}
use Rattle.trimming.specs.Kept.{Kept, kept_for, clause_in}
use Rattle.trimming.specs.Trimming.{first_numbers, trimmed_for}
use Rattle.trimmed.proofs.KeptLaws.{Ordered, stands_ordered, kept_closed}
use Rattle.trimmed.proofs.TrimmedFits.{trimmed_fits}
use Rattle.trimmed.proofs.Within.{itself', within_in}
use Rattle.marking.specs.Marking.{marked_down, dated_down, marked_records}
use Rattle.marking.proofs.ToldFiles.{FileTold, stands_told}
use Rattle.marking.proofs.Marks.{marks_kept, marks_long}
use Rattle.marking.proofs.KeptRecords.{TablesAre, kept_record, kept_is, names_closed, kept_later, top_kept}
use Rattle.marking.proofs.Windows.{marks_are}
use Rattle.marking.proofs.Writing.{written}

-- ── The tables as the check leaves them ──
entry_unmap : {A : Type 0} (f : A → ℕ) (xs : List A) (n j : ℕ) → entry (map f xs) n ≡ some j → (x : A) × (entry xs n ≡ some x) × (f x ≡ j)
entry_unmap f [] n j q = absurd (some_not_none refl q)
entry_unmap {A} f (x ∷ xs) n j q = try (eqb n (length xs)) (ap (λ (m : ℕ). pick (eqb n m) (some (f x)) (entry (map f xs) n)) (sym (length-map xs f)) ∙ q) (entry_unmap f xs n j)
  where
    try : (b : Bool) → pick b (some (f x)) (entry (map f xs) n) ≡ some j → (entry (map f xs) n ≡ some j → (y : A) × (entry xs n ≡ some y) × (f y ≡ j)) → (y : A) × (pick b (some x) (entry xs n) ≡ some y) × (f y ≡ j)
    try true p ih = (x, refl, some_injective p)
    try false p ih = ih p

reversed_cell : {A : Type 0} (f : A → ℕ) (xs : List A) (rest : List ℕ) (n j : ℕ) → entry (map f xs) n ≡ some j → get_or (reverse (map f xs) ++ rest) n 0 ≡ j
reversed_cell f xs rest n j e =
    let z = entry_unmap f xs n j e in
    get_or-append (reverse (map f xs)) rest 0 n (omega (arith, entry_below (map f xs) n j e, length-reverse (map f xs))) ∙ reversed_at f xs n z.0 z.1 ∙ z.2

record_cell_lem : (cs : List (ℕ × Derivation)) (rest : List ℕ) (n j : ℕ) → entry (map (λ (c : ℕ × Derivation). c.0) cs) n ≡ some j → record_cell (clause_cells cs ++ rest) n ≡ j
record_cell_lem cs rest n j e =
    let z = entry_unmap (λ (c : ℕ × Derivation). c.0) cs n j e in
    let l = entry_below cs n z.0 z.1 in
    let here : 5 * n ≡ 5 * n + 0 = omega arith in
    get_or-append (clause_cells cs) rest 0 (5 * n) (omega (arith, cells_length cs)) ∙ ap (λ (i : ℕ). get_or (clause_cells cs) i 0) here ∙ clause_cell_lem cs n 0 z.0 (omega arith) z.1 ∙ z.2

pub filled_are : (S : State) (t : Tables) → TablesAre S (filled_tables S t).symbols (filled_tables S t).rows (filled_tables S t).clauses
filled_are S t = record {
  symbol_cell = λ s j e. reversed_cell (λ (x : ℕ × ℕ). x.0) S.symbols _ s j e;
  row_cell = λ q j e. reversed_cell (λ (x : ℕ × Row). x.0) S.rows _ q j e;
  clause_cell = λ m j e. record_cell_lem S.clauses _ m j e;
}

-- ── Any tables with these cells ──
module _ (file : List ℕ) (S : State) (st : Stands (old_file file) S) (Y R C : List ℕ) (G : TablesAre S Y R C) (n : ℕ) (c : Derivation) (at : clause_of S n ≡ some c)
    (M D : List ℕ) (long : 4096 ≤ length M) (zeros : (j : ℕ) → j < 4096 → get_or M j 0 ≡ 0) (room : 4096 ≤ length D) where
  abbrev F : File
  F = old_file file

  abbrev K : Kept
  K = kept_for S c

  abbrev O : Ordered S
  O = stands_ordered (old_file file) S st

  H : FileTold (old_file file) (record_count (old_file file)) S
  H = stands_told (old_file file) S st

  few : record_count (old_file file) ≤ 4096
  few = few_in Old file st.fits

  own : (kept_for S c).clause n ≡ true
  own = subst (λ (m : ℕ). clause_in c m ≡ true) (number_of (derivations S) O.sourced n c at) (within_in c c itself')

  pub the_marks : (j : ℕ) → j < 4096 → get_or (marked_down Y R C (old_file file) (record_count (old_file file)) (set M (record_cell C n) 1)) j 0 ≡ pick (kept_record (old_file file) (kept_for S c) j) 1 0
  the_marks =
      marks_kept Y R C F (kept_record F K) (record_cell C n) (record_count F) few (λ j h. (kept_is F S H Y R C G K j h).0) (top_kept F S H Y R C G O (stands_ok F S st) n c at own)
      (names_closed F S H Y R C G K (kept_closed S O (stands_ok F S st) n c at)) (kept_later F S H Y R C G O (stands_ok F S st) n c at) M long zeros

  marked_long : 4096 ≤ length (marked_down Y R C (old_file file) (record_count (old_file file)) (set M (record_cell C n) 1))
  marked_long =
      marks_long Y R C F (kept_record F K) (record_cell C n) (record_count F) few (λ j h. (kept_is F S H Y R C G K j h).0) (top_kept F S H Y R C G O (stands_ok F S st) n c at own)
      (names_closed F S H Y R C G K (kept_closed S O (stands_ok F S st) n c at)) (kept_later F S H Y R C G O (stands_ok F S st) n c at) M long zeros

  pub marked_trimmed : marked_records Y R C (dated_down Y R C (old_file file) (record_count (old_file file)) (marked_down Y R C (old_file file) (record_count (old_file file)) (set M (record_cell C n) 1))) D first_numbers 0 (records (old_file file)) ≡ trimmed_for S (some c) (records (old_file file))
  marked_trimmed =
      let E = kept_closed S O (stands_ok F S st) n c at in
      let marks = marked_down Y R C F (record_count F) (set M (record_cell C n) 1) in
      written F S H Y R C G K E few (dated_down Y R C F (record_count F) marks) (marks_are F S H Y R C G K few marks marked_long the_marks) (record_count F) 0 (omega arith) D first_numbers
      (record { long = room; symbols = λ s j e h l. absurd (omega arith); rows = λ q j e h l. absurd (omega arith); clauses = λ m j e h l. absurd (omega arith) })
      (record { symbol = refl; row = refl; clause = refl })

-- ── The tables of the check ──
pub check_marked_trimmed : (file : List ℕ) (S : State) → Stands (old_file file) S → (t : Tables) (n : ℕ) (c : Derivation) → clause_of S n ≡ some c
    → (M D : List ℕ) → 4096 ≤ length M → ((j : ℕ) → j < 4096 → get_or M j 0 ≡ 0) → 4096 ≤ length D
    → marked_records (filled_tables S t).symbols (filled_tables S t).rows (filled_tables S t).clauses (dated_down (filled_tables S t).symbols (filled_tables S t).rows (filled_tables S t).clauses (old_file file) (record_count (old_file file)) (marked_down (filled_tables S t).symbols (filled_tables S t).rows (filled_tables S t).clauses (old_file file) (record_count (old_file file)) (set M (record_cell (filled_tables S t).clauses n) 1))) D first_numbers 0 (records (old_file file))
    ≡ trimmed_for S (some c) (records (old_file file))
check_marked_trimmed file S st t n c at M D long zeros room = marked_trimmed file S st (filled_tables S t).symbols (filled_tables S t).rows (filled_tables S t).clauses (filled_are S t) n c at M D long zeros room

-- ── Fields of 16 bits ──
small_list : (xs : List ℕ) → ((i : ℕ) → get_or xs i 0 < 65536) → map (λ n. n % 65536) xs ≡ xs
small_list [] h = refl
small_list (x ∷ xs) h = ap₂ (λ (y : ℕ) (ys : List ℕ). y ∷ ys) (let l = h 0 in omega arith) (small_list xs (λ i. h (suc i)))

all_wrapped : (rs : List Record) → AllFit Old rs → map wrapped rs ≡ rs
all_wrapped [] h = refl
all_wrapped (r ∷ rs) h =
    ap₂ (λ (x : Record) (xs : List Record). x ∷ xs) (ap (λ (fs : List ℕ). record { kind = r.kind; count = r.count; fields = fs; days = r.days }) (small_list r.fields h.0.fields_bits)) (all_wrapped rs h.1)

pub trimmed_wrapped : (S : State) (o : Option Derivation) (file : List ℕ) → Bytes file → map wrapped (trimmed_for S o (records (old_file file))) ≡ trimmed_for S o (records (old_file file))
trimmed_wrapped S o file b = all_wrapped (trimmed_for S o (records (old_file file))) (trimmed_fits S o file b)
