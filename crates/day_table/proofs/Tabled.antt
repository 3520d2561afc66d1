-- The table of days, step by step: what is left of the file makes the same table as the whole, and the table has the days that supersede.
use mathlib.Core.Path.{◌≡◌, refl, sym, ap, ap₂, ◌∙◌}
use mathlib.Core.Bool.{Bool, true, false, ◌&&◌}
use mathlib.Core.List.{List, [], ◌∷◌}
use Prim.Native.Nat.{ℕ, zero, suc, ◌+◌, ◌*◌, ◌≤◌, ◌<◌}
use native.Mathlib.Numerals.{add-one}
use native.Mathlib.Omega.{arith}
use lib.Dec.{eqb}
use lib.ListN.{length, set, drop, length-set, drop_of_length-le}
use lib.Seq.{get_or-set_same, get_or-set_other}
use borrow.Author.Tests.{eq-eqb, ne_eqb}
use Rattle.record.specs.Record.{pick, Record, old_file, record_count, record_part, decoded, records, kind_of, field_of, field_a, field_b, field_c}
use Rattle.record.proofs.Records.{record_numbered, records_length}
use Rattle.record.specs.Sorts.{is_window}
use Rattle.converting.specs.Converting.{always, days_after}
use Rattle.converting.proofs.KindsDated.{equal}
use Rattle.day_table.specs.DayTable.{days_at, with_days_of, always_below, with_window, with_windows, DaysTold}

-- ── Two cells ──
pub days_length : (n first last : ℕ) (table : List ℕ) → length (with_days_of n first last table) ≡ length table
days_length n first last table = length-set (set table (2 * n) first) (2 * n + 1) last ∙ length-set table (2 * n) first

own_days : (n first last : ℕ) (table : List ℕ) → 2 * n + 1 < length table → days_at (with_days_of n first last table) n ≡ (first, last)
own_days n first last table h =
    let a = get_or-set_other (set table (2 * n) first) (2 * n + 1) (2 * n) last 0 (λ e. omega arith) ∙ get_or-set_same table (2 * n) first 0 (omega arith) in
    let b = get_or-set_same (set table (2 * n) first) (2 * n + 1) last 0 (let l = length-set table (2 * n) first in omega arith) in
    λ i. (a i, b i)

other_days : (n m first last : ℕ) (table : List ℕ) → ¬ (m ≡ n) → days_at (with_days_of m first last table) n ≡ days_at table n
other_days n m first last table h =
    let a = get_or-set_other (set table (2 * m) first) (2 * m + 1) (2 * n) last 0 (λ e. omega arith) ∙ get_or-set_other table (2 * m) (2 * n) first 0 (λ e. h (omega arith)) in
    let b = get_or-set_other (set table (2 * m) first) (2 * m + 1) (2 * n + 1) last 0 (λ e. h (omega arith)) ∙ get_or-set_other table (2 * m) (2 * n + 1) first 0 (λ e. omega arith) in
    λ i. (a i, b i)

-- ── Always ──
pub none_always : (table : List ℕ) → table ≡ always_below 0 table
unfolding always_below
none_always table = refl

pub one_always : (n : ℕ) (table after last : List ℕ) → after ≡ always_below n table → last ≡ with_days_of n 0 65535 after → last ≡ always_below (n + 1) table
unfolding always_below
one_always n table after last e q = q ∙ ap (with_days_of n 0 65535) e ∙ ap (λ (m : ℕ). always_below m table) (sym (add-one n))

always_length : (n : ℕ) (table : List ℕ) → length (always_below n table) ≡ length table
unfolding always_below
always_length zero table = refl
always_length (suc n) table = days_length n 0 65535 (always_below n table) ∙ always_length n table

no_bool : true ≡ false → ⊥
no_bool x = let y : ◌≡◌ {A = ℕ} 0 1 = cc in omega arith

always_told : (n m : ℕ) (table : List ℕ) → 2 * n ≤ length table → m < n → days_at (always_below n table) m ≡ always
unfolding always_below
always_told zero m table l h = absurd (omega arith)
always_told (suc n) m table l h = try (eqb n m) refl (λ k. always_told n m table (omega arith) k)
  where
    try : (b : Bool) → eqb n m ≡ b → (m < n → days_at (always_below n table) m ≡ always) → days_at (with_days_of n 0 65535 (always_below n table)) m ≡ always
    try true e ih =
        let z = equal n m e in
        ap (days_at (with_days_of n 0 65535 (always_below n table))) (sym z) ∙ own_days n 0 65535 (always_below n table) (let k = always_length n table in omega arith)
    try false e ih =
        let z : ¬ (n ≡ m) = λ q. no_bool (sym (eq-eqb n m q) ∙ e) in
        other_days m n 0 65535 (always_below n table) z ∙ ih (omega (arith, z))

-- ── Windows ──
pub window_length : (r : Record) (table : List ℕ) → length (with_window r table) ≡ length table
window_length r table = try (is_window r)
  where
    try : (b : Bool) → length (pick b (with_days_of (field_a r) (field_b r) (field_c r) table) table) ≡ length table
    try true = days_length (field_a r) (field_b r) (field_c r) table
    try false = refl

window_told : (r : Record) (table : List ℕ) (n : ℕ) → 2 * n + 1 < length table → days_at (with_window r table) n ≡ pick (is_window r && eqb (field_a r) n) (field_b r, field_c r) (days_at table n)
window_told r table n h = try (is_window r) (eqb (field_a r) n) refl
  where
    try : (w b : Bool) → eqb (field_a r) n ≡ b → days_at (pick w (with_days_of (field_a r) (field_b r) (field_c r) table) table) n ≡ pick (w && b) (field_b r, field_c r) (days_at table n)
    try false b e = refl
    try true true e =
        let z = equal (field_a r) n e in
        ap (λ (m : ℕ). days_at (with_days_of m (field_b r) (field_c r) table) n) z ∙ own_days n (field_b r) (field_c r) table h
    try true false e = other_days n (field_a r) (field_b r) (field_c r) table (λ q. no_bool (sym (eq-eqb (field_a r) n q) ∙ e))

windows_told : (rs : List Record) (table : List ℕ) (n : ℕ) → 2 * n + 1 < length table → days_at (with_windows rs table) n ≡ days_after (days_at table n) rs n
windows_told [] table n h = refl
windows_told (r ∷ rs) table n h =
    windows_told rs (with_window r table) n (let l = window_length r table in omega arith) ∙ ap (λ (d : ℕ × ℕ). days_after d rs n) (window_told r table n h)

pub days_told : (rs : List Record) (before between after : List ℕ) → 8192 ≤ length before → between ≡ always_below 4096 before → after ≡ with_windows rs between → DaysTold rs before after
days_told rs before between after h p q = record {
  cells = q ∙ ap (with_windows rs) p;
  told = λ n l.
      ap (λ (t : List ℕ). days_at t n) (q ∙ ap (with_windows rs) p)
      ∙ windows_told rs (always_below 4096 before) n (let k = always_length 4096 before in omega arith)
      ∙ ap (λ (d : ℕ × ℕ). days_after d rs n) (always_told 4096 n before h l);
}

-- ── As the program goes ──
pub two_cells : (n first last : ℕ) (table between after : List ℕ) → between ≡ set table (2 * n) first → after ≡ set between (2 * n + 1) last → after ≡ with_days_of n first last table
two_cells n first last table between after p q = q ∙ ap (λ (t : List ℕ). set t (2 * n + 1) last) p

module _ (part before : List ℕ) {k : ℕ} (is_kind : k ≡ kind_of part) where
  pub window_put : {a b d : ℕ} {after : List ℕ} → k ≡ 8 → a ≡ field_of part 0 → b ≡ field_of part 1 → d ≡ field_of part 2 → after ≡ with_days_of a b d before → after ≡ with_window (decoded part) before
  window_put {a} {b} {d} {after} e p q r w =
      w ∙ (λ i. with_days_of (p i) (q i) (r i) before)
      ∙ sym (ap (λ (x : Bool). pick x (with_days_of (field_of part 0) (field_of part 1) (field_of part 2) before) before) (eq-eqb (kind_of part) 8 (sym is_kind ∙ e)))

  pub no_window_lem : ¬ (k ≡ 8) → before ≡ with_window (decoded part) before
  no_window_lem e = sym (ap (λ (x : Bool). pick x (with_days_of (field_of part 0) (field_of part 1) (field_of part 2) before) before) (ne_eqb (kind_of part) 8 (λ q. e (is_kind ∙ q))))

module _ (file : List ℕ) (k : ℕ) (table whole : List ℕ) (same : with_windows (drop k (records (old_file file))) table ≡ whole) where
  pub windows_on : k < record_count (old_file file) → {part after : List ℕ} → part ≡ record_part (old_file file) k → after ≡ with_window (decoded part) table → with_windows (drop (k + 1) (records (old_file file))) after ≡ whole
  windows_on h {part} {after} p q =
      ap₂ (λ (n : ℕ) (t : List ℕ). with_windows (drop n (records (old_file file))) t) (add-one k) (q ∙ ap (λ (l : List ℕ). with_window (decoded l) table) p)
      ∙ sym (ap (λ (rs : List Record). with_windows rs table) (record_numbered (old_file file) k h)) ∙ same

  pub windows_end : record_count (old_file file) ≤ k → table ≡ whole
  windows_end h = sym (ap (λ (rs : List Record). with_windows rs table) (drop_of_length-le (records (old_file file)) {i = k} (omega (arith, records_length (old_file file))))) ∙ same
