-- In the old form that a new file is converted to, each window stands straight after its clause.
use mathlib.Core.Path.{◌≡◌, refl, sym, ap, ◌∙◌, subst}
use mathlib.Core.Bool.{Bool, true, false, not}
use mathlib.Core.List.{List, [], ◌∷◌, ◌++◌}
use Prim.Native.Nat.{ℕ, suc, ◌+◌}
use native.Mathlib.Omega.{arith}
use lib.Dec.{eqb}
use lib.ListN.{length, length-append}
use Rattle.record.specs.Record.{pick, Record, File, records, field_a, field_b, field_c}
use Rattle.record.specs.declared.Form.{Form}
use Rattle.record.specs.declared.Form.TheVariants.{New}
use Rattle.record.proofs.Records.{HaveDays, records_days}
use Rattle.record.specs.Sorts.{is_input, is_clause, clauses_after, unless, how_many}
use Rattle.unification.proofs.Lists.{Each}
use Rattle.unification.proofs.Tests.{both_true, true_not_false}
use Rattle.verdict.specs.State.{State, empty_state}
use Rattle.verdict.specs.Step.{read, all_stand}
use Rattle.verdict.specs.Verdict.{ending, Stands}
use Rattle.converting.specs.Converting.{always, is_always, without_days, days_beside, window_record, is_dated, old_records_from, to_old_records, converted_from, converted}
use Rattle.converting.specs.Promised.{StraightAfter}
use Rattle.converting.proofs.KindsDated.{equal}
use Rattle.converting.proofs.RoundTrip.{FineNew, read_fine}

-- The same where the next clause has the number n.
record Placed (n : ℕ) (before : List Record) (window : Record) : Type 0 where
  earlier : List Record
  clause : Record
  after : before ≡ earlier ++ (clause ∷ [])
  is_kind : clause.kind ≡ 4
  names : field_a window ≡ n + how_many is_clause earlier
  not_always : ¬ ((field_b window, field_c window) ≡ always)

-- One record more at the front.
in_front : (n : ℕ) (r : Record) (before : List Record) (w : Record) → Placed (clauses_after n r) before w → Placed n (r ∷ before) w
in_front n r before w P = record {
  earlier = r ∷ P.earlier;
  clause = P.clause;
  after = ap (λ (xs : List Record). r ∷ xs) P.after;
  is_kind = P.is_kind;
  names = P.names ∙ try (is_clause r);
  not_always = P.not_always;
}
  where
    try : (b : Bool) → pick b (suc n) n + how_many is_clause P.earlier ≡ n + (pick b 1 0 + how_many is_clause P.earlier)
    try true = omega arith
    try false = omega arith

no_record : (before after : List Record) (w : Record) → ◌≡◌ {A = List Record} [] (before ++ (w ∷ after)) → ⊥
no_record before after w e = let z : ◌≡◌ {A = ℕ} 0 (length (before ++ (w ∷ after))) = ap length e in let l = length-append before (w ∷ after) in omega arith

old_placed : (n : ℕ) (rs : List Record) → Each FineNew rs → (before after : List Record) (w : Record) → old_records_from n rs ≡ before ++ (w ∷ after) → w.kind ≡ 8 → Placed n before w
old_placed n [] f before after w e h = absurd (no_record before after w e)
old_placed n (r ∷ rs) f [] after w e h =
    let same : without_days r ≡ w = cc in
    absurd (true_not_false (ap (λ (x : Record). eqb x.kind 8) same ∙ ap (λ (m : ℕ). eqb m 8) h) f.0.no_window)
old_placed n (r ∷ rs) f (b ∷ bs) after w e h =
    let head : without_days r ≡ b = cc in
    let tail : unless (not (is_dated r)) (window_record n (days_beside r)) (old_records_from (clauses_after n r) rs) ≡ bs ++ (w ∷ after) = cc in
    subst (λ (x : Record). Placed n (x ∷ bs) w) head (try (is_dated r) refl bs tail (λ xs z. old_placed (clauses_after n r) rs f.1 xs after w z h))
  where
    own : is_dated r ≡ true → window_record n (days_beside r) ≡ w → Placed n (without_days r ∷ []) w
    own d s =
        let t = both_true (is_input r) (not (is_always (days_beside r))) d in
        record {
          earlier = [];
          clause = without_days r;
          after = refl;
          is_kind = equal r.kind 4 t.0;
          names = let z : n ≡ field_a w = ap field_a s in omega arith;
          not_always = λ a.
              let same : days_beside r ≡ always = ap (λ (x : Record). (field_b x, field_c x)) s ∙ a in
              let z : not (is_always (days_beside r)) ≡ false = ap (λ (x : ℕ × ℕ). not (is_always x)) same in
              true_not_false t.1 z;
        }

    try : (d : Bool) → is_dated r ≡ d → (bs : List Record) → unless (not d) (window_record n (days_beside r)) (old_records_from (clauses_after n r) rs) ≡ bs ++ (w ∷ after)
        → ((xs : List Record) → old_records_from (clauses_after n r) rs ≡ xs ++ (w ∷ after) → Placed (clauses_after n r) xs w) → Placed n (without_days r ∷ bs) w
    try false d bs z ih = in_front n (without_days r) bs w (ih bs z)
    try true d [] z ih = own d (cc)
    try true d (x ∷ xs) z ih =
        let s : window_record n (days_beside r) ≡ x = cc in
        let t : old_records_from (clauses_after n r) rs ≡ xs ++ (w ∷ after) = cc in
        subst (λ (y : Record). Placed n (without_days r ∷ y ∷ xs) w) s (in_front n (without_days r) (window_record n (days_beside r) ∷ xs) w (in_front (clauses_after n r) (window_record n (days_beside r)) xs w (ih xs t)))

of_records : (rs : List Record) (S : State) → HaveDays New rs → read empty_state 0 rs ≡ all_stand S → (before after : List Record) (w : Record) → to_old_records rs ≡ before ++ (w ∷ after) → w.kind ≡ 8 → StraightAfter before w
of_records rs S s q before after w e h =
    let P = old_placed 0 rs (read_fine rs empty_state 0 S s q) before after w e h in
    record { earlier = P.earlier; clause = P.clause; after = P.after; is_kind = P.is_kind; names = P.names ∙ omega arith; not_always = P.not_always }

pub windows_placed_lem : (file : File) (S : State) → Stands file S → file.form ≡ New → (before after : List Record) (w : Record) → converted file ≡ before ++ (w ∷ after) → w.kind ≡ 8 → StraightAfter before w
unfolding ending
windows_placed_lem file S st n before after w e h =
    of_records (records file) S (subst (λ (x : Form). HaveDays x (records file)) n (records_days file)) st.reads before after w (ap (λ (x : Form). converted_from x (records file)) (sym n) ∙ e) h
