-- Reading a file record by record: every state on the way is in order, and a refusal leaves the state of the records before it.
use mathlib.Core.Path.{◌≡◌, refl, sym, ap, ap₂, ◌∙◌, subst}
use mathlib.Core.Bool.{true}
use mathlib.Core.List.{List, [], ◌∷◌, ◌++◌}
use Prim.Native.Nat.{ℕ, zero, suc, ◌+◌, ◌%◌, ◌≤◌}
use native.Mathlib.Nat.{add-zero, add-suc, suc-add, zero-add}
use native.Mathlib.Omega.{arith}
use lib.Dec.{eqb, leb, eqb→eq, leb→le}
use lib.ListN.{length, take, drop, length-take, length-drop, take-append-drop}
use Rattle.record.specs.Record.{File, in_form, record_count, Record, records}
use Rattle.record.proofs.Bytes.{WholeRecords}
use Rattle.record.proofs.Records.{Shaped, records_length, records_shaped}
use Rattle.unification.specs.Row.{application, no_symbol, row_term}
use Rattle.unification.proofs.Rows.{term_law, row_arities}
use Rattle.unification.proofs.Tests.{to_t, both_true}
use Rattle.demands.specs.Demands.{Reached, ComesTo, before_record, last_state}
use Rattle.verdict.specs.Refusal.{Reason}
use Rattle.verdict.specs.State.{arities, State, empty_state, rows_of, arity_of, row_of, term_of}
use Rattle.verdict.specs.Step.{stands, refused, Result, step, read, all_stand, refused_at, state_of}
use Rattle.verdict.specs.Verdict.{fitting_length, fitting, ending, Stands}
use Rattle.verdict.proofs.Endings.{stands_not_refused, read_on_lem}
use Rattle.demands.proofs.Inversions.{entry_none}
use Rattle.demands.proofs.Standing.{StateOk}
use Rattle.demands.proofs.Steps.{step_ok}
use Rattle.record.specs.declared.Form.{Form}
use Rattle.record.specs.declared.Form.TheVariants.{Old, New}

same_state : {S T : State} {p q : Reason} {j k : ℕ} → refused_at S p j ≡ refused_at T q k → (S ≡ T) × (p ≡ q) × (j ≡ k)
same_state e = (cc, cc, cc)

pub state_more : (n m : ℕ) (S : State) → n ≤ m → StateOk n S → StateOk m S
state_more n m S l h = record { rows_ok = h.rows_ok; few = let k = h.few in omega arith; total_ok = h.total_ok; held_ok = h.held_ok; clauses_ok = h.clauses_ok; inputs_ok = h.inputs_ok }

pub read_ok : (n : ℕ) (S : State) (k : ℕ) (rs : List Record) → Shaped rs → StateOk n S → StateOk (n + length rs) (state_of (read S k rs))
read_ok n S k [] H h = state_more n (n + 0) S (omega arith) h
read_ok n S k (r ∷ rs) H h = try (step S k r) refl (λ T g. read_ok (suc n) T (suc k) rs H.1 g)
  where
    try : (o : Result) → step S k r ≡ o → ((T : State) → StateOk (suc n) T → StateOk (suc n + length rs) (state_of (read T (suc k) rs)))
        → StateOk (n + suc (length rs)) (state_of (elim o [ stands T ↦ read T (suc k) rs | refused q ↦ refused_at S q k ]))
    try (stands T) q ih = rw (add-suc, ← suc-add) (ih T (step_ok n S h k r T H.0 q))
    try (refused p) q ih = state_more n (n + suc (length rs)) S (omega arith) h

pub start_ok : StateOk 0 empty_state
start_ok = record { rows_ok = tt; few = omega arith; total_ok = refl; held_ok = omega arith; clauses_ok = tt; inputs_ok = tt }

-- Where reading is refused, the record and the state before it.
pub record RefusedThere (S : State) (k : ℕ) (rs : List Record) (T : State) (q : Reason) (j : ℕ) : Type 0 where
  pub place : ℕ
  pub number : j ≡ k + place
  pub refused_record : Record
  pub rest : List Record
  pub here : drop place rs ≡ refused_record ∷ rest
  pub before : read S k (take place rs) ≡ all_stand T
  pub refused_by : step T j refused_record ≡ refused q

pub read_refused : (S : State) (k : ℕ) (rs : List Record) (T : State) (q : Reason) (j : ℕ) → read S k rs ≡ refused_at T q j → RefusedThere S k rs T q j
read_refused S k [] T q j e = absurd (stands_not_refused e)
read_refused S k (r ∷ rs) T q j e = try (step S k r) refl e (λ U z. read_refused U (suc k) rs T q j z)
  where
    later : (U : State) → step S k r ≡ stands U → RefusedThere U (suc k) rs T q j → RefusedThere S k (r ∷ rs) T q j
    later U p R = record {
      place = suc R.place;
      number = R.number ∙ suc-add k R.place ∙ sym (add-suc k R.place);
      refused_record = R.refused_record;
      rest = R.rest;
      here = R.here;
      before = ap (λ (o : Result). elim o [ stands W ↦ read W (suc k) (take R.place rs) | refused p ↦ refused_at S p k ]) p ∙ R.before;
      refused_by = R.refused_by;
    }

    at_once : (p : Reason) → step S k r ≡ refused p → refused_at S p k ≡ refused_at T q j → RefusedThere S k (r ∷ rs) T q j
    at_once p z e =
        let w = same_state e in
        record { place = 0; number = sym w.2 ∙ sym (add-zero k); refused_record = r; rest = rs; here = refl; before = ap all_stand w.0; refused_by = ap₂ (λ (W : State) (i : ℕ). step W i r) (sym w.0) (sym w.2) ∙ z ∙ ap refused w.1 }

    try : (o : Result) → step S k r ≡ o → elim o [ stands U ↦ read U (suc k) rs | refused p ↦ refused_at S p k ] ≡ refused_at T q j → ((U : State) → read U (suc k) rs ≡ refused_at T q j → RefusedThere U (suc k) rs T q j) → RefusedThere S k (r ∷ rs) T q j
    try (stands U) p z ih = later U p (ih U z)
    try (refused p) z e ih = at_once p z e

pub shaped_take : (k : ℕ) (rs : List Record) → Shaped rs → Shaped (take k rs)
shaped_take zero rs h = tt
shaped_take (suc k) [] h = tt
shaped_take (suc k) (r ∷ rs) h = (h.0, shaped_take k rs h.1)

shaped_here : (k : ℕ) (rs : List Record) (r : Record) (rest : List Record) → drop k rs ≡ r ∷ rest → Shaped rs → length r.fields ≡ 7
shaped_here zero [] r rest q h = absurd (let z : ◌≡◌ {A = ℕ} 0 1 = cc in omega arith)
shaped_here zero (x ∷ rs) r rest q h = let e : x ≡ r = cc in subst (λ (y : Record). length y.fields ≡ 7) e h.0
shaped_here (suc k) [] r rest q h = absurd (let z : ◌≡◌ {A = ℕ} 0 1 = cc in omega arith)
shaped_here (suc k) (x ∷ rs) r rest q h = shaped_here k rs r rest q h.1

-- A file of fitting length has whole records.
pub whole_records : (form : Form) (bytes : List ℕ) → fitting_length form (length bytes) ≡ true → WholeRecords form bytes
whole_records Old bytes fit = eqb→eq (length bytes % 16) 0 (to_t (eqb (length bytes % 16) 0) (both_true (leb (length bytes) 65536) (eqb (length bytes % 16) 0) fit).1)
whole_records New bytes fit = eqb→eq (length bytes % 20) 0 (to_t (eqb (length bytes % 20) 0) (both_true (leb (length bytes) 65520) (eqb (length bytes % 20) 0) fit).1)

-- A file of fitting length has at most 4,096 records.
pub few_in : (form : Form) (bytes : List ℕ) → fitting_length form (length bytes) ≡ true → record_count (in_form form bytes) ≤ 4096
few_in Old bytes fit =
    let p = both_true (leb (length bytes) 65536) (eqb (length bytes % 16) 0) fit in
    let l : length bytes ≤ 65536 = leb→le (length bytes) 65536 (to_t (leb (length bytes) 65536) p.0) in
    omega arith
few_in New bytes fit =
    let p = both_true (leb (length bytes) 65520) (eqb (length bytes % 20) 0) fit in
    let l : length bytes ≤ 65520 = leb→le (length bytes) 65520 (to_t (leb (length bytes) 65520) p.0) in
    omega arith

module _ (file : File) (fit : fitting file ≡ true) where
  pub few_records : length (records file) ≤ 4096
  few_records = rw (records_length file) (few_in file.form file.bytes fit)

  pub ending_ok : StateOk 4096 (state_of (ending file))
  unfolding ending
  ending_ok = state_more (0 + length (records file)) 4096 (state_of (ending file)) (omega (arith, few_records)) (read_ok 0 empty_state 0 (records file) (records_shaped file) start_ok)

-- A record that reading comes to.
module _ (file : File) (k : ℕ) (S : State) (r : Record) (R : Reached file k S r) where
  pub reached_shaped : Shaped (take k (records file))
  reached_shaped = shaped_take k (records file) (records_shaped file)

  pub reached_seven : length r.fields ≡ 7
  reached_seven = shaped_here k (records file) r R.after R.here (records_shaped file)

  pub reached_ok : StateOk 4096 S
  reached_ok =
      let h : StateOk (0 + length (take k (records file))) S = rw R.before at (read_ok 0 empty_state 0 (take k (records file)) reached_shaped start_ok) in
      state_more (0 + length (take k (records file))) 4096 S (simp length-take (omega (arith, few_records file R.fits))) h

  -- Where it is refused, reading ends there.
  pub reached_refused : (q : Reason) → step S k r ≡ refused q → ending file ≡ refused_at S q k
  unfolding ending
  reached_refused q z =
      let l : length (drop k (records file)) ≡ suc (length R.after) = ap (λ (l : List Record). length l) R.here in
      let n : length (take k (records file)) ≡ k = let m = length-drop k (records file) in simp length-take (omega arith) in
      ap (read empty_state 0) (sym (take-append-drop k (records file)) ∙ ap (λ (l : List Record). take k (records file) ++ l) R.here)
      ∙ read_on_lem empty_state 0 (take k (records file)) (r ∷ R.after) S R.before
      ∙ ap (λ (i : ℕ). read S i (r ∷ R.after)) (zero-add (length (take k (records file))) ∙ n)
      ∙ ap (λ (o : Result). elim o [ stands U ↦ read U (suc k) R.after | refused p ↦ refused_at S p k ]) z

pub comes_ok : (file : File) (S : State) → ComesTo file S → StateOk 4096 S
comes_ok file S (before_record {k} {S = U} {r} R) = reached_ok file k U r R
comes_ok file S (last_state f) = ending_ok file f

pub stands_ok : (file : File) (S : State) → Stands file S → StateOk 4096 S
stands_ok file S st = subst (StateOk 4096) (ap state_of st.reads) (ending_ok file st.fits)

-- A state in order: its terms, and one number of arguments for each symbol.
module _ (S : State) (H : StateOk 4096 S) where
  pub term_of_row : (r : ℕ) → term_of S r ≡ row_term (term_of S) r (row_of S r)
  term_of_row = term_law (arity_of S) (rows_of S) H.rows_ok

  pub one_arity : (r q s : ℕ) (xs ys : List ℕ) → row_of S r ≡ application s xs → row_of S q ≡ application s ys → length xs ≡ length ys
  one_arity = let k = H.few in row_arities (arity_of S) (entry_none (arities S) no_symbol (omega arith)) (rows_of S) H.rows_ok
