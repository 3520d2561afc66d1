-- The records that are kept are the needed ones, in the document's words: numbers count the records of a sort, and the last window of a clause is the one that stays.
use mathlib.Core.Path.{◌≡◌, refl, sym, ap, ap₂, ◌∙◌, subst}
use mathlib.Core.Logic.{◌⊎◌, inl, inr}
use mathlib.Core.Bool.{Bool, true, false, ◌&&◌, not}
use mathlib.Core.Option.{Option, none, some}
use mathlib.Core.List.{List, [], ◌∷◌}
use Prim.Native.Nat.{ℕ, zero, suc, ◌+◌, ◌-◌, ◌≤◌, ◌<◌}
use native.Mathlib.Omega.{arith}
use lib.Dec.{eqb, leb}
use lib.ListN.{length, take, drop}
use lib.Seq.{drop-drop}
use Rattle.record.specs.Record.{pick, old_file, Record, records, otherKind, Kind, symbolKind, variableKind, applicationKind, inputKind, resolveKind, factorKind, severalKind, windowKind, kind_numbered, field_a}
use Rattle.record.specs.Sorts.{is_symbol, is_row, is_clause, one, how_many}
use Rattle.record.specs.declared.Form.TheVariants.{Old}
use Rattle.record.proofs.Records.{HaveDays, records_days}
use Rattle.unification.proofs.Tests.{both_true, true_not_false}
use Rattle.unification.proofs.Repeats.{itself}
use Rattle.derivation.specs.Derivation.{Derivation}
use Rattle.verdict.specs.Refusal.{has_days, kind_of_record}
use Rattle.verdict.specs.State.{State, clause_of}
use Rattle.verdict.specs.Verdict.{Stands}
use Rattle.demands.specs.Conditions.{OneOf, kind_below, kind_above, window_in_new_form}
use Rattle.demands.specs.Demands.{RecordAt}
use Rattle.demands.proofs.RangeTests.{KindOf, of_kind_lem, equal, not_true, at_most}
use Rattle.trimming.specs.Kept.{Kept, kept_for}
use Rattle.trimming.specs.Trimming.{Next, first_numbers, next_after, is_window_of, dated_in, is_kept}
use Rattle.trimming.specs.Used.{UsedClause, UsedRow, Needed, needed_symbol, needed_row, needed_clause, needed_window}
use Rattle.trimmed.proofs.Reaching.{either_true, left_true, right_true}
use Rattle.trimmed.proofs.UsedShown.{used_clauses, used_rows, used_symbols}
use Rattle.trimmed.proofs.KeptRecords.{kept_list, next_at, KeptAt, kept_at, at_kept}

-- ── Numbers count the records of a sort ──

-- A record of the old form has the kind of its number.
old_kind : (r : Record) → r.days ≡ none → kind_of_record r ≡ kind_numbered r.kind
old_kind r d = ap (λ (o : Option (ℕ × ℕ)). pick (has_days o && eqb r.kind 8) otherKind (kind_numbered r.kind)) d

-- What the next numbers are after a record of a kind, whose number is m.
record Counted (n : Next) (kind : Kind) (m : ℕ) : Type 0 where
  symbols : (next_after n kind).symbol ≡ n.symbol + one (eqb m 1)
  rows : (next_after n kind).row ≡ n.row + one (leb 2 m && leb m 3)
  clauses : (next_after n kind).clause ≡ n.clause + one (leb 4 m && leb m 7)

not_not : (b : Bool) → not b ≡ true → b ≡ false
not_not true h = absurd (true_not_false h refl)
not_not false h = refl

-- A number that no kind has.
counted_other : (n : Next) (m : ℕ) → 8 ≤ m → Counted n otherKind m
counted_other n m l =
    let a : eqb m 1 ≡ false = not_true (eqb m 1) (λ t. let z = equal m 1 t in omega arith) in
    let b : (leb 2 m && leb m 3) ≡ false = not_true (leb 2 m && leb m 3) (λ t. let z = at_most m 3 (both_true (leb 2 m) (leb m 3) t).1 in omega arith) in
    let c : (leb 4 m && leb m 7) ≡ false = not_true (leb 4 m && leb m 7) (λ t. let z = at_most m 7 (both_true (leb 4 m) (leb m 7) t).1 in omega arith) in
    record { symbols = unmoved n.symbol ∙ ap (λ (x : Bool). n.symbol + one x) (sym a); rows = unmoved n.row ∙ ap (λ (x : Bool). n.row + one x) (sym b); clauses = unmoved n.clause ∙ ap (λ (x : Bool). n.clause + one x) (sym c) }
  where
    unmoved : (x : ℕ) → x ≡ x + 0
    unmoved x = omega arith

counted : (n : Next) (r : Record) (kind : Kind) → KindOf kind r → Counted n kind r.kind
counted n r symbolKind e = subst (Counted n symbolKind) (sym e) (record { symbols = omega arith; rows = omega arith; clauses = omega arith })
counted n r variableKind e = subst (Counted n variableKind) (sym e) (record { symbols = omega arith; rows = omega arith; clauses = omega arith })
counted n r applicationKind e = subst (Counted n applicationKind) (sym e) (record { symbols = omega arith; rows = omega arith; clauses = omega arith })
counted n r inputKind e = subst (Counted n inputKind) (sym e) (record { symbols = omega arith; rows = omega arith; clauses = omega arith })
counted n r resolveKind e = subst (Counted n resolveKind) (sym e) (record { symbols = omega arith; rows = omega arith; clauses = omega arith })
counted n r factorKind e = subst (Counted n factorKind) (sym e) (record { symbols = omega arith; rows = omega arith; clauses = omega arith })
counted n r severalKind e = subst (Counted n severalKind) (sym e) (record { symbols = omega arith; rows = omega arith; clauses = omega arith })
counted n r windowKind w = subst (Counted n windowKind) (sym w.0) (record { symbols = omega arith; rows = omega arith; clauses = omega arith })
counted n r otherKind (kind_below l) = let e : r.kind ≡ 0 = omega arith in subst (Counted n otherKind) (sym e) (record { symbols = omega arith; rows = omega arith; clauses = omega arith })
counted n r otherKind (kind_above l) = counted_other n r.kind (omega arith)
counted n r otherKind (window_in_new_form e d) = counted_other n r.kind (omega arith)

-- and after some records.
record CountedAll (n : Next) (rs : List Record) : Type 0 where
  symbols : (next_at n rs).symbol ≡ n.symbol + how_many is_symbol rs
  rows : (next_at n rs).row ≡ n.row + how_many is_row rs
  clauses : (next_at n rs).clause ≡ n.clause + how_many is_clause rs

counted_all : (n : Next) (rs : List Record) → CountedAll n rs
counted_all n [] = record { symbols = omega arith; rows = omega arith; clauses = omega arith }
counted_all n (r ∷ rs) =
    let A = counted_all (next_after n (kind_of_record r)) rs in
    let B = counted n r (kind_of_record r) (of_kind_lem r (kind_of_record r) refl) in
    record { symbols = omega (arith, A.symbols, B.symbols); rows = omega (arith, A.rows, B.rows); clauses = omega (arith, A.clauses, B.clauses) }

drop_days : (i : ℕ) (rs : List Record) → HaveDays Old rs → HaveDays Old (drop i rs)
drop_days zero rs d = d
drop_days (suc i) [] d = tt
drop_days (suc i) (r ∷ rs) d = drop_days i rs d.1

-- ── Windows that supersede ──
record LaterWindow (f : ℕ) (rs : List Record) : Type 0 where
  place : ℕ
  window : Record
  after : List Record
  is : drop place rs ≡ window ∷ after
  is_kind : kind_of_record window ≡ windowKind
  of_clause : field_a window ≡ f

window_of_lem : (f : ℕ) (kind : Kind) (r : Record) → is_window_of f kind r ≡ true → (kind ≡ windowKind) × (field_a r ≡ f)
window_of_lem f windowKind r h = (refl, equal (field_a r) f h)
window_of_lem f symbolKind r h = absurd (true_not_false h refl)
window_of_lem f variableKind r h = absurd (true_not_false h refl)
window_of_lem f applicationKind r h = absurd (true_not_false h refl)
window_of_lem f inputKind r h = absurd (true_not_false h refl)
window_of_lem f resolveKind r h = absurd (true_not_false h refl)
window_of_lem f severalKind r h = absurd (true_not_false h refl)
window_of_lem f factorKind r h = absurd (true_not_false h refl)
window_of_lem f otherKind r h = absurd (true_not_false h refl)

dated_by_lem : (f : ℕ) (rs : List Record) → dated_in rs f ≡ true → LaterWindow f rs
dated_by_lem f [] h = absurd (true_not_false h refl)
dated_by_lem f (r ∷ rs) h = try (either_true (is_window_of f (kind_of_record r) r) (dated_in rs f) h) (dated_by_lem f rs)
  where
    try : (is_window_of f (kind_of_record r) r ≡ true) ⊎ (dated_in rs f ≡ true) → (dated_in rs f ≡ true → LaterWindow f rs) → LaterWindow f (r ∷ rs)
    try (inl p) ih = let z = window_of_lem f (kind_of_record r) r p in record { place = 0; window = r; after = rs; is = refl; is_kind = z.0; of_clause = z.1 }
    try (inr p) ih = let A = ih p in record { place = suc A.place; window = A.window; after = A.after; is = A.is; is_kind = A.is_kind; of_clause = A.of_clause }

by_dated : (f : ℕ) (rs : List Record) (i : ℕ) (s : Record) (after : List Record) → drop i rs ≡ s ∷ after → kind_of_record s ≡ windowKind → field_a s ≡ f → dated_in rs f ≡ true
by_dated f [] zero s after d k e = absurd (let z : ◌≡◌ {A = ℕ} 0 (suc (length after)) = ap length d in omega arith)
by_dated f [] (suc i) s after d k e = absurd (let z : ◌≡◌ {A = ℕ} 0 (suc (length after)) = ap length d in omega arith)
by_dated f (r ∷ rs) zero s after d k e =
    let z : r ≡ s = cc in
    left_true (is_window_of f (kind_of_record r) r) (dated_in rs f) (ap (λ (x : Record). is_window_of f (kind_of_record x) x) z ∙ ap (λ (x : Kind). is_window_of f x s) k ∙ ap (λ (x : ℕ). eqb x f) e ∙ itself f)
by_dated f (r ∷ rs) (suc i) s after d k e = right_true (is_window_of f (kind_of_record r) r) (dated_in rs f) (by_dated f rs i s after d k e)

-- ── Kept records are needed, and needed ones are kept ──
module _ (file : List ℕ) (S : State) (st : Stands (old_file file) S) (n : ℕ) (c : Derivation) (at : clause_of S n ≡ some c) where
  abbrev K : Kept
  K = kept_for S c

  days : HaveDays Old (records (old_file file))
  days = records_days (old_file file)

  counts : (k : ℕ) → CountedAll first_numbers (take k (records (old_file file)))
  counts k = counted_all first_numbers (take k (records (old_file file)))

  module _ (k : ℕ) (r : Record) (after : List Record) (here : drop k (records (old_file file)) ≡ r ∷ after) where
    its_days_lem : HaveDays Old (r ∷ after)
    its_days_lem = subst (HaveDays Old) here (drop_days k (records (old_file file)) days)

    -- Records after it.
    later_here : (i : ℕ) → drop (suc k + i) (records (old_file file)) ≡ drop i after
    later_here i = let z : suc k + i ≡ k + suc i = omega arith in ap (λ (x : ℕ). drop x (records (old_file file))) z ∙ sym (drop-drop (suc i) k (records (old_file file))) ∙ ap (drop (suc i)) here

    abbrev Superseded : Type 0
    Superseded = (j : ℕ) (s : Record) → k < j → RecordAt (old_file file) j s → s.kind ≡ 8 → ¬ (field_a s ≡ field_a r)

    not_superseded : dated_in after (field_a r) ≡ false → Superseded
    not_superseded h j s l R e q =
        let z : suc k + (j - suc k) ≡ j = omega arith in
        let d : drop (j - suc k) after ≡ s ∷ R.after = sym (later_here (j - suc k)) ∙ ap (λ (x : ℕ). drop x (records (old_file file))) z ∙ R.here in
        let y = (subst (HaveDays Old) d (drop_days (j - suc k) after its_days_lem.1)).0 in
        true_not_false (by_dated (field_a r) after (j - suc k) s R.after d (old_kind s y ∙ ap kind_numbered e) q) h

    superseded_not : Superseded → dated_in after (field_a r) ≡ false
    superseded_not h = try (dated_in after (field_a r)) refl
      where
        try : (b : Bool) → dated_in after (field_a r) ≡ b → b ≡ false
        try false q = refl
        try true q =
            let A = dated_by_lem (field_a r) after q in
            let e : A.window.kind ≡ 8 = (of_kind_lem A.window windowKind A.is_kind).0 in
            absurd (h (suc k + A.place) A.window (omega arith) (record { after = A.after; here = later_here A.place ∙ A.is }) e A.of_clause)

    abbrev next : Next
    next = next_at first_numbers (take k (records (old_file file)))

    symbol_number : (next_at first_numbers (take k (records (old_file file)))).symbol ≡ how_many is_symbol (take k (records (old_file file)))
    symbol_number = omega (arith, (counts k).symbols)

    row_number : (next_at first_numbers (take k (records (old_file file)))).row ≡ how_many is_row (take k (records (old_file file)))
    row_number = omega (arith, (counts k).rows)

    clause_number_lem : (next_at first_numbers (take k (records (old_file file)))).clause ≡ how_many is_clause (take k (records (old_file file)))
    clause_number_lem = omega (arith, (counts k).clauses)

    row_needed : OneOf r.kind (2 ∷ 3 ∷ []) → K.row next.row ≡ true → Needed (old_file file) S n k r
    row_needed o h = needed_row o ((used_rows (old_file file) S st n c at _).1 (subst (λ (x : ℕ). K.row x ≡ true) row_number h))

    clause_needed : OneOf r.kind (4 ∷ 5 ∷ 6 ∷ 7 ∷ []) → K.clause next.clause ≡ true → Needed (old_file file) S n k r
    clause_needed o h = needed_clause o ((used_clauses (old_file file) S st n c at _).1 (subst (λ (x : ℕ). K.clause x ≡ true) clause_number_lem h))

    kept_needed_lem : (kind : Kind) → KindOf kind r → is_kept K next kind r after ≡ true → Needed (old_file file) S n k r
    kept_needed_lem symbolKind e h = needed_symbol e ((used_symbols (old_file file) S st n c at _).1 (subst (λ (x : ℕ). K.symbol x ≡ true) symbol_number h))
    kept_needed_lem variableKind e h = row_needed (inl e) h
    kept_needed_lem applicationKind e h = row_needed (inr (inl e)) h
    kept_needed_lem inputKind e h = clause_needed (inl e) h
    kept_needed_lem resolveKind e h = clause_needed (inr (inl e)) h
    kept_needed_lem factorKind e h = clause_needed (inr (inr (inl e))) h
    kept_needed_lem severalKind e h = clause_needed (inr (inr (inr (inl e)))) h
    kept_needed_lem windowKind w h =
        let b = both_true (K.clause (field_a r)) (not (dated_in after (field_a r))) h in
        needed_window w.0 ((used_clauses (old_file file) S st n c at (field_a r)).1 b.0) (not_superseded (not_not (dated_in after (field_a r)) b.1))
    kept_needed_lem otherKind e h = absurd (true_not_false h refl)

    -- The kind by its number.
    kept_as : (m : ℕ) → r.kind ≡ m → is_kept K next (kind_of_record r) r after ≡ is_kept K next (kind_numbered m) r after
    kept_as m e = ap (λ (x : Kind). is_kept K next x r after) (old_kind r its_days_lem.0 ∙ ap kind_numbered e)

    row_kept : (m : ℕ) → r.kind ≡ m → is_kept K next (kind_numbered m) r after ≡ K.row next.row → UsedRow S n (how_many is_row (take k (records (old_file file)))) → is_kept K next (kind_of_record r) r after ≡ true
    row_kept m e q u = kept_as m e ∙ q ∙ ap K.row row_number ∙ (used_rows (old_file file) S st n c at _).0 u

    clause_kept_lem : (m : ℕ) → r.kind ≡ m → is_kept K next (kind_numbered m) r after ≡ K.clause next.clause → UsedClause S n (how_many is_clause (take k (records (old_file file)))) → is_kept K next (kind_of_record r) r after ≡ true
    clause_kept_lem m e q u = kept_as m e ∙ q ∙ ap K.clause clause_number_lem ∙ (used_clauses (old_file file) S st n c at _).0 u

    needed_kept_lem : Needed (old_file file) S n k r → is_kept K next (kind_of_record r) r after ≡ true
    needed_kept_lem (needed_symbol e u) = kept_as 1 e ∙ ap K.symbol symbol_number ∙ (used_symbols (old_file file) S st n c at _).0 u
    needed_kept_lem (needed_row (inl e) u) = row_kept 2 e refl u
    needed_kept_lem (needed_row (inr (inl e)) u) = row_kept 3 e refl u
    needed_kept_lem (needed_row (inr (inr o)) u) = absurd o
    needed_kept_lem (needed_clause (inl e) u) = clause_kept_lem 4 e refl u
    needed_kept_lem (needed_clause (inr (inl e)) u) = clause_kept_lem 5 e refl u
    needed_kept_lem (needed_clause (inr (inr (inl e))) u) = clause_kept_lem 6 e refl u
    needed_kept_lem (needed_clause (inr (inr (inr (inl e)))) u) = clause_kept_lem 7 e refl u
    needed_kept_lem (needed_clause (inr (inr (inr (inr o)))) u) = absurd o
    needed_kept_lem (needed_window e u h) =
        kept_as 8 e ∙ ap₂ (λ (x y : Bool). x && not y) ((used_clauses (old_file file) S st n c at (field_a r)).0 u) (superseded_not h)

  pub list_needed : (k : ℕ) → OneOf k (kept_list K file) → (r : Record) → RecordAt (old_file file) k r → Needed (old_file file) S n k r
  list_needed k o r R = from (kept_at K first_numbers 0 (records (old_file file)) k o)
    where
      from : (i : ℕ) × (k ≡ 0 + i) × KeptAt K first_numbers (records (old_file file)) i → Needed (old_file file) S n k r
      from (i, e, A) =
          let z : i ≡ k = omega arith in
          let d : r ∷ R.after ≡ A.here ∷ A.after = sym R.here ∙ ap (λ (x : ℕ). drop x (records (old_file file))) (sym z) ∙ A.is in
          let h : r ≡ A.here = cc in
          let t : R.after ≡ A.after = cc in
          let q : is_kept K (next_at first_numbers (take k (records (old_file file)))) (kind_of_record r) r R.after ≡ true =
          ap₂ (λ (x : Record) (xs : List Record). is_kept K (next_at first_numbers (take k (records (old_file file)))) (kind_of_record x) x xs) h t
          ∙ ap (λ (x : ℕ). is_kept K (next_at first_numbers (take x (records (old_file file)))) (kind_of_record A.here) A.here A.after) (sym z) ∙ A.kept in
          kept_needed_lem k r R.after R.here (kind_of_record r) (of_kind_lem r (kind_of_record r) refl) q

  pub needed_listed : (k : ℕ) (r : Record) → RecordAt (old_file file) k r → Needed (old_file file) S n k r → OneOf k (kept_list K file)
  needed_listed k r R w =
      let z : 0 + k ≡ k = omega arith in
      subst (λ (x : ℕ). OneOf x (kept_list K file)) z (at_kept K first_numbers 0 (records (old_file file)) k r R.after R.here (needed_kept_lem k r R.after R.here w))
