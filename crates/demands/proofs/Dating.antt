-- The windows that records leave: which record gives which clause its days.
use mathlib.Core.Path.{◌≡◌, refl, sym, ap, ap₂, ◌∙◌}
use mathlib.Core.Bool.{Bool, true, false, ◌&&◌}
use mathlib.Core.Option.{Option, none, some}
use mathlib.Core.List.{List, [], ◌∷◌}
use Prim.Native.Nat.{ℕ, suc, ◌+◌}
use native.Mathlib.Omega.{arith}
use lib.Dec.{eqb, leb}
use Rattle.record.specs.Record.{pick, File, Record, records, otherKind, Kind, symbolKind, variableKind, applicationKind, inputKind, resolveKind, factorKind, severalKind, windowKind, field_b, field_c}
use Rattle.unification.proofs.Tests.{some_injective, some_not_none}
use Rattle.derivation.specs.Derivation.{resolve, factor}
use Rattle.demands.specs.Conditions.{IsWindow}
use Rattle.demands.specs.Demands.{clauses_of, Dates, by_window, by_days_beside}
use Rattle.verdict.specs.Refusal.{kind_of_record, left_of, right_numbers, right_of, deleted_of}
use Rattle.verdict.specs.State.{State, Window, empty_state, windows_with, next_clause}
use Rattle.verdict.specs.Step.{stands, refused, Result, window_in, unify_resolve, unify_factor, enter_resolvent, enter, step, read, all_stand, refused_at}
use Rattle.verdict.specs.Verdict.{ending, Stands}
use Rattle.demands.proofs.Inversions.{stands_same, step_stands, named_stands, clause_added, never_both}
use Rattle.demands.proofs.RangeTests.{not_true, equal, of_kind_lem}
use Rattle.verdict.proofs.Endings.{ending_stands, stands_not_refused}

-- ── The window that a record gives ──

abbrev pub window_on : ℕ → ℕ → ℕ → Window
window_on clause first last = record { clause = clause; first = first; last = last }

-- The window that a record gives, where n clauses stand before it.
abbrev pub given_by : ℕ → Record → Option (ℕ × ℕ) → Option Window
given_by n r none = pick (eqb r.kind 8) (some (window_in r)) none
given_by n r (some d) = pick (eqb r.kind 4) (some (window_on n d.0 d.1)) none

abbrev pub window_given : ℕ → Record → Option Window
window_given n r = given_by n r r.days

abbrev pub with_given : List Window → Option Window → List Window
with_given ws none = ws
with_given ws (some w) = w ∷ ws

not_eight : (r : Record) → ¬ (r.kind ≡ 8) → eqb r.kind 8 ≡ false
not_eight r n = not_true (eqb r.kind 8) (λ t. n (equal r.kind 8 t))

not_four : (r : Record) → ¬ (r.kind ≡ 4) → eqb r.kind 4 ≡ false
not_four r n = not_true (eqb r.kind 4) (λ t. n (equal r.kind 4 t))

-- A record of another kind than 4 and 8 gives none, and none gives one without days but for kind 8.
pub gives_none : (n : ℕ) (r : Record) → ¬ (r.kind ≡ 8) → ¬ (r.kind ≡ 4) → window_given n r ≡ none
gives_none n r e f = try r.days
  where
    try : (d : Option (ℕ × ℕ)) → given_by n r d ≡ none
    try none = ap (λ (b : Bool). pick b (some (window_in r)) none) (not_eight r e)
    try (some d) = ap (λ (b : Bool). pick b (some (window_on n d.0 d.1)) none) (not_four r f)

pub undated_none : (n : ℕ) (r : Record) → ¬ (r.kind ≡ 8) → r.days ≡ none → window_given n r ≡ none
undated_none n r e d = ap (given_by n r) d ∙ ap (λ (b : Bool). pick b (some (window_in r)) none) (not_eight r e)

of_window_lem : (n : ℕ) (r : Record) → IsWindow r → window_given n r ≡ some (window_in r)
of_window_lem n r w = ap (given_by n r) w.1 ∙ ap (λ (k : ℕ). pick (eqb k 8) (some (window_in r)) none) w.0

of_clause_lem : (n : ℕ) (r : Record) (first last : ℕ) → r.kind ≡ 4 → r.days ≡ some (first, last) → window_given n r ≡ some (window_on n first last)
of_clause_lem n r first last e d = ap (given_by n r) d ∙ ap (λ (k : ℕ). pick (eqb k 4) (some (window_on n first last)) none) e

-- It gives one exactly if it dates a clause.
pub dates_given : {n clause first last : ℕ} {r : Record} → Dates n r clause first last → window_given n r ≡ some (window_on clause first last)
dates_given {n} {r = r} (by_window w) = of_window_lem n r w
dates_given {n} {first = first} {last = last} {r = r} (by_days_beside e d) = of_clause_lem n r first last e d

same_window : {v w : Window} → ◌≡◌ {A = Option Window} (some v) (some w) → v ≡ w
same_window e = some_injective e

pub given_dates : (n : ℕ) (r : Record) (w : Window) → window_given n r ≡ some w → Dates n r w.clause w.first w.last
given_dates n r w q = try r.days refl q
  where
    by : (v : Window) → Dates n r v.clause v.first v.last → v ≡ w → Dates n r w.clause w.first w.last
    by v D e = rw e at D

    try : (d : Option (ℕ × ℕ)) → r.days ≡ d → given_by n r d ≡ some w → Dates n r w.clause w.first w.last
    try none p z = at (eqb r.kind 8) refl z
      where
        at : (b : Bool) → eqb r.kind 8 ≡ b → pick b (some (window_in r)) none ≡ some w → Dates n r w.clause w.first w.last
        at true y x = by (window_in r) (by_window (equal r.kind 8 y, p)) (same_window x)
        at false y x = absurd (some_not_none refl x)
    try (some d) p z = at (eqb r.kind 4) refl z
      where
        at : (b : Bool) → eqb r.kind 4 ≡ b → pick b (some (window_on n d.0 d.1)) none ≡ some w → Dates n r w.clause w.first w.last
        at true y x = by (window_on n d.0 d.1) (by_days_beside (equal r.kind 4 y) p) (same_window x)
        at false y x = absurd (some_not_none refl x)

-- ── What a record leaves of windows and of clauses ──

module _ (S : State) (k : ℕ) (r : Record) (T : State) where
  abbrev given : Option Window
  given = window_given (next_clause S) r

  -- The windows, and how many clauses there are.
  record Left : Type 0 where
    windows_left : T.windows ≡ with_given S.windows given
    clauses_left : next_clause T ≡ next_clause S + clauses_of r

  counted : (n : ℕ) → r.kind ≡ n → clauses_of r ≡ pick (leb 4 n && leb n 7) 1 0
  counted n e = ap (λ (m : ℕ). pick (leb 4 m && leb m 7) 1 0) e

  -- A record of another kind than 4 and 8 leaves the windows as they were.
  unchanged : (U : State) (n : ℕ) → U ≡ T → U.windows ≡ S.windows → r.kind ≡ n → ¬ (n ≡ 8) → ¬ (n ≡ 4) → next_clause U ≡ next_clause S + pick (leb 4 n && leb n 7) 1 0 → Left
  unchanged U n e s i a b c = record {
    windows_left = ap (λ (X : State). X.windows) (sym e) ∙ s ∙ sym (ap (with_given S.windows) (gives_none (next_clause S) r (λ z. a (sym i ∙ z)) (λ z. b (sym i ∙ z))));
    clauses_left = ap next_clause (sym e) ∙ c ∙ sym (ap (λ (m : ℕ). next_clause S + m) (counted n i));
  }

  resolvent_left : (kind : Kind) (n : ℕ) → enter_resolvent S k kind r ≡ stands T → r.kind ≡ n → ¬ (n ≡ 8) → ¬ (n ≡ 4) → ◌≡◌ {A = ℕ} (pick (leb 4 n && leb n 7) 1 0) 1 → Left
  resolvent_left kind n q i a b c =
      let s = named_stands _ (left_of S r) (right_of S kind r) T q in
      let x = clause_added S k (resolve (next_clause S) s.0.0 (field_b r) s.1.0 (right_numbers kind r)) (unify_resolve S s.0 s.1) T s.4 in
      unchanged _ n x.3 refl i a b (omega arith)

  entered : (kind : Kind) → kind_of_record r ≡ kind → enter S k kind r ≡ stands T → Left
  entered symbolKind e q = unchanged _ 1 (stands_same q) refl (of_kind_lem r symbolKind e) (λ z. omega arith) (λ z. omega arith) (omega arith)
  entered variableKind e q = unchanged _ 2 (stands_same q) refl (of_kind_lem r variableKind e) (λ z. omega arith) (λ z. omega arith) (omega arith)
  entered applicationKind e q = unchanged _ 3 (stands_same q) refl (of_kind_lem r applicationKind e) (λ z. omega arith) (λ z. omega arith) (omega arith)
  entered inputKind e q = record {
    windows_left = ap (λ (X : State). X.windows) (sym (stands_same q)) ∙ beside r.days refl;
    clauses_left = ap next_clause (sym (stands_same q)) ∙ let c = counted 4 (of_kind_lem r inputKind e) in omega arith;
  }
    where
      beside : (d : Option (ℕ × ℕ)) → r.days ≡ d → windows_with (next_clause S) r.days S.windows ≡ with_given S.windows given
      beside none p =
          ap (λ (x : Option (ℕ × ℕ)). windows_with (next_clause S) x S.windows) p
          ∙ sym (ap (with_given S.windows) (undated_none (next_clause S) r (λ z. let w = of_kind_lem r inputKind e in omega arith) p))
      beside (some d) p =
          ap (λ (x : Option (ℕ × ℕ)). windows_with (next_clause S) x S.windows) p
          ∙ sym (ap (with_given S.windows) (of_clause_lem (next_clause S) r d.0 d.1 (of_kind_lem r inputKind e) p))
  entered resolveKind e q = resolvent_left resolveKind 5 q (of_kind_lem r resolveKind e) (λ z. omega arith) (λ z. omega arith) refl
  entered severalKind e q = resolvent_left severalKind 7 q (of_kind_lem r severalKind e) (λ z. omega arith) (λ z. omega arith) refl
  entered factorKind e q =
      let s = named_stands _ (left_of S r) (deleted_of S r) T q in
      let c = clause_added S k (factor (next_clause S) s.0.0 (field_b r) (field_c r)) (unify_factor S s.0 s.1) T s.4 in
      unchanged _ 6 c.3 refl (of_kind_lem r factorKind e) (λ z. omega arith) (λ z. omega arith) (omega arith)
  entered windowKind e q =
      let w = of_kind_lem r windowKind e in
      record {
        windows_left = ap (λ (X : State). X.windows) (sym (stands_same q)) ∙ sym (ap (with_given S.windows) (of_window_lem (next_clause S) r w));
        clauses_left = ap next_clause (sym (stands_same q)) ∙ let c = counted 8 w.0 in omega arith;
      }
  entered otherKind e q = absurd (never_both (enter S k otherKind r) q refl)

  left : step S k r ≡ stands T → Left
  left q = entered (kind_of_record r) refl (step_stands S k r T q).1

  pub step_windows : step S k r ≡ stands T → T.windows ≡ with_given S.windows (window_given (next_clause S) r)
  step_windows q = (left q).windows_left

  pub step_clauses : step S k r ≡ stands T → next_clause T ≡ next_clause S + clauses_of r
  step_clauses q = (left q).clauses_left

-- ── What all records leave ──

-- The windows after some records, where n clauses stand before them.
abbrev pub windows_after : ℕ → List Window → List Record → List Window
windows_after n ws [] = ws
windows_after n ws (r ∷ rs) = windows_after (n + clauses_of r) (with_given ws (window_given n r)) rs

pub read_windows : (S : State) (k : ℕ) (rs : List Record) (T : State) → read S k rs ≡ all_stand T → T.windows ≡ windows_after (next_clause S) S.windows rs
read_windows S k [] T q = ap (λ (X : State). X.windows) (sym (ending_stands q))
read_windows S k (r ∷ rs) T q = try (step S k r) refl q (λ U p. read_windows U (suc k) rs T p)
  where
    try : (o : Result) → step S k r ≡ o → elim o [ stands U ↦ read U (suc k) rs | refused p ↦ refused_at S p k ] ≡ all_stand T
        → ((U : State) → read U (suc k) rs ≡ all_stand T → T.windows ≡ windows_after (next_clause U) U.windows rs)
        → T.windows ≡ windows_after (next_clause S + clauses_of r) (with_given S.windows (window_given (next_clause S) r)) rs
    try (stands U) e p ih = ih U p ∙ ap₂ (λ (n : ℕ) (ws : List Window). windows_after n ws rs) (step_clauses S k r U e) (step_windows S k r U e)
    try (refused p) e z ih = absurd (stands_not_refused (sym z))

pub stands_windows : (file : File) (S : State) → Stands file S → S.windows ≡ windows_after 0 [] (records file)
unfolding ending
stands_windows file S st = read_windows empty_state 0 (records file) S st.reads
