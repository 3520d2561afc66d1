-- A new file that stands, converted to the old form and back, has its own bytes again.
use mathlib.Core.Path.{◌≡◌, refl, sym, ap, ap₂, ◌∙◌, subst}
use mathlib.Core.Bool.{Bool, true, false, ◌&&◌, not}
use mathlib.Core.Option.{Option, some}
use mathlib.Core.List.{List, [], ◌∷◌}
use Prim.Native.Nat.{ℕ, suc, ◌%◌, ◌≤◌, ◌<◌}
use native.Mathlib.Omega.{arith}
use lib.Dec.{eqb, leb}
use lib.ListN.{length}
use Rattle.record.specs.Bytes.{bytes_in, Bytes}
use Rattle.record.specs.Record.{pick, Record, File, new_file, with_days, records, field_a, field_b, field_c}
use Rattle.record.specs.declared.Form.TheVariants.{Old, New}
use Rattle.record.proofs.Bytes.{file_records, file_rewritten}
use Rattle.record.proofs.Records.{HasDays, HaveDays, records_shaped, records_days}
use Rattle.record.specs.Sorts.{is_window, is_input, is_clause, clauses_after, unless}
use Rattle.unification.proofs.Lists.{Each}
use Rattle.unification.proofs.Tests.{both_true, true_not_false}
use Rattle.verdict.specs.Refusal.{zero_days}
use Rattle.verdict.specs.State.{State, empty_state}
use Rattle.verdict.specs.Step.{stands, refused, Result, step, read, all_stand, refused_at}
use Rattle.verdict.specs.Verdict.{ending, Stands}
use Rattle.verdict.proofs.Endings.{stands_not_refused}
use Rattle.converting.specs.Converting.{always, is_always, days_after, last_days, new_record, new_records_from, to_new_records, without_days, days_or, days_beside, window_record, is_dated, old_records_from, to_old_records, converted_file}
use Rattle.converting.proofs.ConvertedStands.{converted_shaped, converted_days}
use Rattle.converting.proofs.Days.{by_kind}
use Rattle.converting.proofs.KindsDated.{not_true, equal, eqb_itself}
use Rattle.converting.proofs.ReadOld.{is_always_lem, plain_zero, no_window_lem}

-- ── Records of the new form that stand ──

-- None is a window, and only input clauses have days.
pub record FineNew (r : Record) : Type 0 where
  pub no_window : is_window r ≡ false
  pub zero_beside : is_input r ≡ false → r.days ≡ some (0, 0)

zero_days_lem : (first last : ℕ) → zero_days (some (first, last)) ≡ true → ◌≡◌ {A = Option (ℕ × ℕ)} (some (first, last)) (some (0, 0))
zero_days_lem first last z =
    let t = both_true (eqb first 0) (eqb last 0) z in
    let p = equal first 0 t.0 in
    let q = equal last 0 t.1 in
    λ i. some (p i, q i)

stands_fine : (S : State) (k : ℕ) (r : Record) (S' : State) → HasDays New r.days → step S k r ≡ stands S' → FineNew r
stands_fine S k r S' s q =
    let d = s in
    by_kind S k r S' (FineNew r) q
    (λ kind p n z. record { no_window = n.no_window; zero_beside = λ h. d.2 ∙ zero_days_lem d.0 d.1 (ap zero_days (sym d.2) ∙ plain_zero S k r S' kind p z) })
    (λ e z. record { no_window = ap (λ (n : ℕ). eqb n 8) e; zero_beside = λ h. absurd (true_not_false (ap (λ (n : ℕ). eqb n 4) e) h) })
    (λ e n z. absurd (no_window_lem r d.0 d.1 d.2 e n))

pub read_fine : (rs : List Record) (S : State) (k : ℕ) (S' : State) → HaveDays New rs → read S k rs ≡ all_stand S' → Each FineNew rs
read_fine [] S k S' s q = tt
read_fine (r ∷ rs) S k S' s q = try (step S k r) refl q (λ U z. read_fine rs U (suc k) S' s.1 z)
  where
    try : (o : Result) → step S k r ≡ o → elim o [ stands U ↦ read U (suc k) rs | refused x ↦ refused_at S x k ] ≡ all_stand S' → ((U : State) → read U (suc k) rs ≡ all_stand S' → Each FineNew rs) → Each FineNew (r ∷ rs)
    try (stands U) e z ih = (stands_fine S k r U s.0 e, ih U z)
    try (refused x) e z ih = absurd (stands_not_refused (sym z))

-- ── The days that supersede, in records with their windows straight after them ──
grows : (n : ℕ) (b : Bool) → n ≤ pick b (suc n) n
grows n true = omega arith
grows n false = omega arith

-- A record that is no window is passed over, and so is a window of another clause.
passed_over : (d : ℕ × ℕ) (r : Record) (rs : List Record) (n : ℕ) → is_window r ≡ false → days_after d (without_days r ∷ rs) n ≡ days_after d rs n
passed_over d r rs n e = ap (λ (b : Bool). days_after (pick (b && eqb (field_a r) n) (field_b r, field_c r) d) rs n) e

other_window : (d x : ℕ × ℕ) (b : Bool) (m n : ℕ) (rs : List Record) → eqb m n ≡ false → days_after d (unless b (window_record m x) rs) n ≡ days_after d rs n
other_window d x true m n rs e = refl
other_window d x false m n rs e = ap (λ (c : Bool). days_after (pick c x d) rs n) e

apart : (m n : ℕ) → ¬ (m ≡ n) → eqb m n ≡ false
apart m n h = not_true (eqb m n) (λ t. h (equal m n t))

-- No window after a clause is for an earlier one.
undated_before : (d : ℕ × ℕ) (m n : ℕ) (rs : List Record) → n < m → Each FineNew rs → days_after d (old_records_from m rs) n ≡ d
undated_before d m n [] l f = refl
undated_before d m n (r ∷ rs) l f =
    let h = grows m (is_clause r) in
    passed_over d r (unless (not (is_dated r)) (window_record m (days_beside r)) (old_records_from (clauses_after m r) rs)) n f.0.no_window
    ∙ other_window d (days_beside r) (not (is_dated r)) m n (old_records_from (clauses_after m r) rs) (apart m n (λ e. omega arith))
    ∙ undated_before d (clauses_after m r) n rs (omega arith) f.1

-- ── Back again ──
module _ (all : List Record) where
  window_falls : (n m : ℕ) (x : ℕ × ℕ) (b : Bool) (rs : List Record) → new_records_from all n (unless b (window_record m x) rs) ≡ new_records_from all n rs
  window_falls n m x true rs = refl
  window_falls n m x false rs = refl

  back : (m : ℕ) (rs : List Record) → Each FineNew rs → HaveDays New rs → ((n : ℕ) → m ≤ n → last_days all n ≡ days_after always (old_records_from m rs) n) → new_records_from all m (old_records_from m rs) ≡ rs
  back m [] f s h = refl
  back m (r ∷ rs) f s h =
      ap (λ (b : Bool). unless b (new_record all m (without_days r)) (new_records_from all (clauses_after m r) (unless (not (is_dated r)) (window_record m (days_beside r)) (old_records_from (clauses_after m r) rs)))) f.0.no_window
      ∙ ap₂ (λ (x : Record) (xs : List Record). x ∷ xs) (itself (is_input r) refl) (window_falls (clauses_after m r) m (days_beside r) (not (is_dated r)) (old_records_from (clauses_after m r) rs) ∙ back (clauses_after m r) rs f.1 s.1 later)
    where
      -- What supersedes for the clauses from this one on.
      here : (n : ℕ) → m ≤ n → last_days all n ≡ days_after always (unless (not (is_dated r)) (window_record m (days_beside r)) (old_records_from (clauses_after m r) rs)) n
      here n l = h n l ∙ passed_over always r (unless (not (is_dated r)) (window_record m (days_beside r)) (old_records_from (clauses_after m r) rs)) n f.0.no_window

      after : is_input r ≡ true → clauses_after m r ≡ suc m
      after e = ap (λ (n : ℕ). pick (leb 4 n && leb n 7) (suc m) m) (equal r.kind 4 e)

      first : is_input r ≡ true → (b : Bool) → is_always (days_beside r) ≡ b → days_after always (unless (not (not b)) (window_record m (days_beside r)) (old_records_from (clauses_after m r) rs)) m ≡ days_beside r
      first e true a = let l = after e in undated_before always (clauses_after m r) m rs (omega arith) f.1 ∙ sym (is_always_lem (days_beside r) a)
      first e false a =
          let l = after e in
          ap (λ (c : Bool). days_after (pick c (days_beside r) always) (old_records_from (clauses_after m r) rs) m) (eqb_itself m) ∙ undated_before (days_beside r) (clauses_after m r) m rs (omega arith) f.1

      own : is_input r ≡ true → last_days all m ≡ days_beside r
      own e =
          here m (omega arith) ∙ ap (λ (b : Bool). days_after always (unless (not (b && not (is_always (days_beside r)))) (window_record m (days_beside r)) (old_records_from (clauses_after m r) rs)) m) e
          ∙ first e (is_always (days_beside r)) refl

      itself : (b : Bool) → is_input r ≡ b → pick b (with_days (without_days r) (last_days all m).0 (last_days all m).1) (with_days (without_days r) 0 0) ≡ r
      itself true e =
          let d = s.0 in
          let same : some ((last_days all m).0, (last_days all m).1) ≡ r.days = ap some (own e ∙ ap days_or d.2) ∙ sym d.2 in
          λ i. record { kind = r.kind; count = r.count; fields = r.fields; days = same i }
      itself false e =
          let same = sym (f.0.zero_beside e) in
          λ i. record { kind = r.kind; count = r.count; fields = r.fields; days = same i }

      -- After an input clause the numbers go on past its own; after another record no window stands.
      beyond : (n : ℕ) → clauses_after m r ≤ n → (b : Bool) → is_input r ≡ b
          → days_after always (unless (not (b && not (is_always (days_beside r)))) (window_record m (days_beside r)) (old_records_from (clauses_after m r) rs)) n ≡ days_after always (old_records_from (clauses_after m r) rs) n
      beyond n l true e = let k = after e in other_window always (days_beside r) (not (not (is_always (days_beside r)))) m n (old_records_from (clauses_after m r) rs) (apart m n (λ z. omega arith))
      beyond n l false e = refl

      later : (n : ℕ) → clauses_after m r ≤ n → last_days all n ≡ days_after always (old_records_from (clauses_after m r) rs) n
      later n l = let g = grows m (is_clause r) in here n (omega arith) ∙ beyond n l (is_input r) refl

pub records_again : (rs : List Record) (S : State) → HaveDays New rs → read empty_state 0 rs ≡ all_stand S → to_new_records (to_old_records rs) ≡ rs
records_again rs S s q = back (to_old_records rs) 0 rs (read_fine rs empty_state 0 S s q) s (λ n l. refl)

-- ── The file ──
of_new : (bytes : List ℕ) (S : State) → Stands (new_file bytes) S → Bytes bytes → converted_file (converted_file (new_file bytes)) ≡ new_file bytes
unfolding converted_file ending
of_new bytes S t h =
    let rs = records (new_file bytes) in
    ap (λ (xs : List Record). new_file (bytes_in New (to_new_records xs))) (file_records Old (to_old_records rs) (converted_shaped New rs (records_shaped (new_file bytes))) (converted_days New rs))
    ∙ ap (λ (xs : List Record). new_file (bytes_in New xs)) (records_again rs S (records_days (new_file bytes)) t.reads)
    ∙ ap new_file (file_rewritten New bytes (equal (length bytes % 20) 0 (both_true (leb (length bytes) 65520) (eqb (length bytes % 20) 0) t.fits).1) h)

pub new_again_lem : (file : File) (S : State) → Stands file S → file.form ≡ New → Bytes file.bytes → converted_file (converted_file file) ≡ file
new_again_lem file S st e b =
    let same : file ≡ new_file file.bytes = λ i. record { form = e i; bytes = file.bytes } in
    ap (λ (x : File). converted_file (converted_file x)) same ∙ of_new file.bytes S (subst (λ (x : File). Stands x S) same st) b ∙ sym same
