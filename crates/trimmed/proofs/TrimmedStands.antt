-- The trimmed file of an accepted one stands, and leaves the kept symbols, rows, clauses and windows, renumbered.
use mathlib.Core.Path.{◌≡◌, refl, ap, ap₂, ◌∙◌}
use mathlib.Core.Bool.{Bool, true, false, ◌&&◌}
use mathlib.Core.Option.{Option, none, some}
use mathlib.Core.List.{List, [], ◌∷◌}
use Prim.Native.Nat.{ℕ, suc, ◌*◌, ◌%◌, ◌≤◌}
use native.Mathlib.Omega.{arith}
use lib.Dec.{eqb, leb, le→leb}
use lib.ListN.{length, length-map, length-take, length-drop, length-append}
use Rattle.record.specs.Bytes.{file_bytes}
use Rattle.record.specs.Record.{pick, old_file, Record, records, otherKind, Kind, symbolKind, variableKind, applicationKind, inputKind, resolveKind, factorKind, severalKind, windowKind}
use Rattle.record.specs.declared.Form.TheVariants.{Old}
use Rattle.record.proofs.Bytes.{file_records, file_length}
use Rattle.record.proofs.Records.{Shaped, HaveDays, records_shaped, records_days}
use Rattle.unification.proofs.Tests.{from_t}
use Rattle.derivation.specs.Derivation.{Derivation}
use Rattle.renumbering.specs.Renumbering.{Renumbering}
use Rattle.verdict.specs.Force.{uses_in_force}
use Rattle.verdict.specs.Refusal.{kind_of_record}
use Rattle.verdict.specs.State.{State, empty_state, derivations, clause_of}
use Rattle.verdict.specs.Step.{state_of, Ending, read}
use Rattle.verdict.specs.Verdict.{first_empty, fitting, ending, Stands}
use Rattle.demands.proofs.Reading.{few_records}
use Rattle.demands.proofs.Shared.{shared_start}
use Rattle.trimming.specs.Kept.{Kept, kept_for}
use Rattle.trimming.specs.Trimming.{closed_up, closed_fields, closed_record, Next, next_after, first_numbers, dated_in, is_kept, trimmed_from, trimmed_for, accepted_clause, trimmed_records, trimmed_file}
use Rattle.trimmed.proofs.Closed.{KeptClosed}
use Rattle.trimmed.proofs.KeptLaws.{stands_closed}
use Rattle.trimmed.proofs.Related.{renumbered_window, Trims}
use Rattle.trimmed.proofs.TrimmedRead.{ReadTo, read_trimmed}

-- ── The form of the trimmed records ──
module _ (N : Renumbering) (r : Record) (seven : length r.fields ≡ 7) where
  fields_seven : (kind : Kind) → length (closed_fields N kind r) ≡ 7
  fields_seven symbolKind = seven
  fields_seven variableKind = seven
  fields_seven applicationKind = simp (length-append, length-map, length-take, length-drop) (omega (arith, seven))
  fields_seven inputKind = simp (length-append, length-map, length-take, length-drop) (omega (arith, seven))
  fields_seven resolveKind = simp (length-drop) (omega (arith, seven))
  fields_seven severalKind = simp (length-drop) (omega (arith, seven))
  fields_seven factorKind = simp (length-drop) (omega (arith, seven))
  fields_seven windowKind = simp (length-drop) (omega (arith, seven))
  fields_seven otherKind = seven

module _ (K : Kept) (N : Renumbering) where
  pub trimmed_shaped : (rs : List Record) (n : Next) → Shaped rs → Shaped (trimmed_from K N n rs)
  trimmed_shaped [] n s = tt
  trimmed_shaped (r ∷ rs) n s = try (is_kept K n (kind_of_record r) r rs) (trimmed_shaped rs (next_after n (kind_of_record r)) s.1)
    where
      try : (b : Bool) → Shaped (trimmed_from K N (next_after n (kind_of_record r)) rs) → Shaped (pick b (closed_record N r ∷ trimmed_from K N (next_after n (kind_of_record r)) rs) (trimmed_from K N (next_after n (kind_of_record r)) rs))
      try true h = (fields_seven N r s.0 (kind_of_record r), h)
      try false h = h

  pub trimmed_days : (rs : List Record) (n : Next) → HaveDays Old rs → HaveDays Old (trimmed_from K N n rs)
  trimmed_days [] n d = tt
  trimmed_days (r ∷ rs) n d = try (is_kept K n (kind_of_record r) r rs) (trimmed_days rs (next_after n (kind_of_record r)) d.1)
    where
      try : (b : Bool) → HaveDays Old (trimmed_from K N (next_after n (kind_of_record r)) rs) → HaveDays Old (pick b (closed_record N r ∷ trimmed_from K N (next_after n (kind_of_record r)) rs) (trimmed_from K N (next_after n (kind_of_record r)) rs))
      try true h = (d.0, h)
      try false h = h

  pub trimmed_fewer : (rs : List Record) (n : Next) → length (trimmed_from K N n rs) ≤ length rs
  trimmed_fewer [] n = omega arith
  trimmed_fewer (r ∷ rs) n = try (is_kept K n (kind_of_record r) r rs) (trimmed_fewer rs (next_after n (kind_of_record r)))
    where
      try : (b : Bool) → length (trimmed_from K N (next_after n (kind_of_record r)) rs) ≤ length rs → length (pick b (closed_record N r ∷ trimmed_from K N (next_after n (kind_of_record r)) rs) (trimmed_from K N (next_after n (kind_of_record r)) rs)) ≤ suc (length rs)
      try true h = omega arith
      try false h = omega arith

-- Before any record.
trims_start : (S : State) (K : Kept) (rs : List Record) → Trims S K empty_state empty_state rs
trims_start S K rs = record { symbols = refl; rows = refl; clauses = refl; total = omega arith; inside = λ n d h q. absurd (no_clause_lem q); windows = λ n h. try (dated_in rs n) }
  where
    no_clause_lem : {d : Derivation} → ◌≡◌ {A = Option Derivation} none (some d) → ⊥
    no_clause_lem q = let z : ◌≡◌ {A = ℕ} 0 1 = cc in omega arith

    try : (b : Bool) → none ≡ renumbered_window S K (pick b none none)
    try true = refl
    try false = refl

-- ── The trimmed file ──
module _ (day : ℕ) (file : List ℕ) (S : State) (st : Stands (old_file file) S) (a : ℕ) (c : Derivation) (first : first_empty (uses_in_force S day) (derivations S) ≡ some a) (is_clause : clause_of S a ≡ some c) where
  abbrev pub K : Kept
  K = kept_for S c

  abbrev pub N : Renumbering
  N = closed_up S K

  pub closed : KeptClosed S (kept_for S c)
  closed = stands_closed (old_file file) S st a c is_clause

  pub accepted_with : accepted_clause day S ≡ some c
  accepted_with = ap (λ (o : Option ℕ). elim o [ none ↦ none | some n ↦ clause_of S n ]) first ∙ is_clause

  pub records_are : trimmed_records day file ≡ trimmed_from K N first_numbers (records (old_file file))
  records_are =
      ap (λ (e : Ending). trimmed_for (state_of e) (accepted_clause day (state_of e)) (records (old_file file))) st.reads
      ∙ ap (λ (o : Option Derivation). trimmed_for S o (records (old_file file))) accepted_with

  pub read_on_lem : ReadTo closed empty_state 0 (trimmed_from K N first_numbers (records (old_file file)))
  unfolding ending
  read_on_lem = read_trimmed closed (records (old_file file)) empty_state empty_state 0 0 (records_shaped (old_file file)) (records_days (old_file file)) shared_start tt (trims_start S K (records (old_file file))) st.reads

  abbrev pub left : State
  left = read_on_lem.final

  pub relates : Trims S K S left []
  relates = read_on_lem.trims

  pub records_again : records (old_file (trimmed_file day file)) ≡ trimmed_from K N first_numbers (records (old_file file))
  unfolding trimmed_file
  records_again =
      ap (λ (rs : List Record). records (old_file (file_bytes rs))) records_are
      ∙ file_records Old (trimmed_from K N first_numbers (records (old_file file))) (trimmed_shaped K N (records (old_file file)) first_numbers (records_shaped (old_file file))) (trimmed_days K N (records (old_file file)) first_numbers (records_days (old_file file)))

  pub trimmed_length : length (trimmed_file day file) ≡ 16 * length (trimmed_from K N first_numbers (records (old_file file)))
  unfolding trimmed_file
  trimmed_length = ap (λ (rs : List Record). length (file_bytes rs)) records_are ∙ file_length Old (trimmed_from K N first_numbers (records (old_file file)))

  fits_again : fitting (old_file (trimmed_file day file)) ≡ true
  fits_again =
      let l : length (trimmed_file day file) ≤ 65536 = omega (arith, trimmed_length, trimmed_fewer K N (records (old_file file)) first_numbers, few_records (old_file file) st.fits) in
      let m : length (trimmed_file day file) % 16 ≡ 0 = omega (arith, trimmed_length) in
      ap₂ ◌&&◌ (from_t (leb (length (trimmed_file day file)) 65536) (le→leb (length (trimmed_file day file)) 65536 l)) (ap (λ (n : ℕ). eqb n 0) m)

  pub stands_again : Stands (old_file (trimmed_file day file)) left
  unfolding ending
  stands_again = record { fits = fits_again; reads = ap (read empty_state 0) records_again ∙ read_on_lem.reads }
