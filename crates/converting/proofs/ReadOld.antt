-- The records of a new file that stand, without their days, stand in the old form with the windows of kind 8, and leave a state alike in which each clause has the same days.
use mathlib.Core.Path.{◌≡◌, refl, sym, ap, ap₂, ◌∙◌, subst}
use mathlib.Core.Bool.{Bool, true, false, ◌&&◌, not}
use mathlib.Core.Option.{Option, none, some}
use mathlib.Core.List.{List, [], ◌∷◌}
use Prim.Native.Nat.{ℕ, suc}
use native.Mathlib.Omega.{arith}
use lib.Dec.{eqb}
use Rattle.record.specs.Record.{pick, Record, Kind, otherKind, symbolKind, variableKind, applicationKind, inputKind, resolveKind, factorKind, severalKind, windowKind, kind_numbered}
use Rattle.record.specs.declared.Form.TheVariants.{New}
use Rattle.record.proofs.Records.{HaveDays}
use Rattle.record.specs.Sorts.{clauses_after, unless}
use Rattle.unification.proofs.Tests.{both_true}
use Rattle.verdict.specs.Force.{window_of}
use Rattle.verdict.specs.Refusal.{has_days, zero_days, fields_in_range, in_order, is_input, kind_of_record}
use Rattle.verdict.specs.State.{State, Window, empty_state, with_window, clause_of, next_clause}
use Rattle.verdict.specs.Step.{stands, refused, Result, step, read, all_stand, refused_at}
use Rattle.verdict.proofs.Endings.{ending_stands, stands_not_refused}
use Rattle.converting.specs.Converting.{always, is_always, without_days, days_or, days_beside, window_record, is_dated, old_records_from, to_old_records}
use Rattle.converting.specs.Promised.{window_days, days_in}
use Rattle.converting.proofs.StatesAlike.{Alike, next_alike}
use Rattle.converting.proofs.Days.{next_none, plain_kept, input_added, input_ordered, window_days_lem, by_kind, read_on_stands, OnlyInputs, only_kept, SameDays}
use Rattle.converting.proofs.KindsDated.{equal, eqb_itself, Plain, PlainNumber, dated, plain_dated, input_dated, after_input}
use Rattle.converting.proofs.Stepping.{step_of, step_passed, passed_step, plain_follows, input_follows}

-- Days that are always.
pub is_always_lem : (days : ℕ × ℕ) → is_always days ≡ true → days ≡ always
is_always_lem days e =
    let t = both_true (eqb days.0 0) (eqb days.1 65535) e in
    let p = equal days.0 0 t.0 in
    let q = equal days.1 65535 t.1 in
    λ i. (p i, q i)

-- Beside a record that no day matters to they are zero.
pub plain_zero : (S : State) (k : ℕ) (r : Record) (S' : State) (kind : Kind) → Plain kind → step_of S k kind r ≡ stands S' → zero_days r.days ≡ true
plain_zero S k r S' symbolKind p q = (both_true (zero_days r.days) (fields_in_range symbolKind r) (step_passed S k symbolKind r S' q).tested.0).0
plain_zero S k r S' variableKind p q = (both_true (zero_days r.days) (fields_in_range variableKind r) (step_passed S k variableKind r S' q).tested.0).0
plain_zero S k r S' applicationKind p q = (both_true (zero_days r.days) (fields_in_range applicationKind r) (step_passed S k applicationKind r S' q).tested.0).0
plain_zero S k r S' resolveKind p q = (both_true (zero_days r.days) (fields_in_range resolveKind r) (step_passed S k resolveKind r S' q).tested.0).0
plain_zero S k r S' factorKind p q = (both_true (zero_days r.days) (fields_in_range factorKind r) (step_passed S k factorKind r S' q).tested.0).0
plain_zero S k r S' severalKind p q = (both_true (zero_days r.days) (fields_in_range severalKind r) (step_passed S k severalKind r S' q).tested.0).0
plain_zero S k r S' inputKind p q = absurd p
plain_zero S k r S' windowKind p q = absurd p
plain_zero S k r S' otherKind p q = absurd p

-- A record with days is no window.
pub no_window_lem : (r : Record) (first last : ℕ) → r.days ≡ some (first, last) → r.kind ≡ 8 → kind_of_record r ≡ windowKind → ⊥
no_window_lem r first last d e w =
    let other : kind_of_record r ≡ otherKind = ap₂ (λ (x : Option (ℕ × ℕ)) (n : ℕ). pick (has_days x && eqb n 8) otherKind (kind_numbered n)) d e in
    let z : ◌≡◌ {A = ℕ} 0 1 = cc in
    omega arith

-- What becomes of a record: it stands alone, or with a window straight after it.
pub data Becomes (S T : State) (j : ℕ) (r : Record) (U : State) : Type 0 where
  alone : is_dated r ≡ false → (Z : State) → step T j (without_days r) ≡ stands Z → SameDays U Z → Becomes S T j r U
  followed : is_dated r ≡ true → (Y Z : State) → step T j (without_days r) ≡ stands Y → step Y (suc j) (window_record (next_clause S) (days_beside r)) ≡ stands Z → SameDays U Z → Becomes S T j r U

module _ (S T : State) (D : SameDays S T) (O : OnlyInputs S) (k j : ℕ) (r : Record) (U : State) (first last : ℕ) (new : r.days ≡ some (first, last)) (q : step S k r ≡ stands U) where
  pub record Goes : Type 0 where
    pub becomes : Becomes S T j r U
    pub next : next_clause U ≡ clauses_after (next_clause S) r

  plain_goes : (kind : Kind) → Plain kind → PlainNumber kind r.kind → step_of S k kind r ≡ stands U → Goes
  plain_goes kind p n z =
      let f = plain_follows S T D.alike k j r none U (plain_zero S k r U kind p z) kind p z in
      let s = plain_kept S k r U kind p z in
      let t = plain_kept T j (dated r none) f.next kind p f.steps in
      record {
        becomes = alone (ap (λ (b : Bool). b && not (is_always (days_beside r))) n.no_input) f.next (ap (λ (x : Kind). step_of T j x (without_days r)) (plain_dated r none kind n) ∙ f.steps) (record {
          alike = f.alike;
          days = λ m. ap (λ (ws : List Window). window_days (window_of ws m)) s.windows ∙ D.days m ∙ sym (ap (λ (ws : List Window). window_days (window_of ws m)) t.windows);
        });
        next = s.next ∙ ap (λ (b : Bool). pick b (suc (next_clause S)) (next_clause S)) (sym n.clause);
      }

  -- An input clause, without its days.
  module _ (e : r.kind ≡ 4) (z : step_of S k inputKind r ≡ stands U) (Y : State) (f : step_of T j inputKind (dated r none) ≡ stands Y) (B : Alike U Y) where
    abbrev window : Window
    window = record { clause = next_clause S; first = first; last = last }

    input_step : step T j (without_days r) ≡ stands Y
    input_step = ap (λ (x : Kind). step_of T j x (without_days r)) (input_dated r none e) ∙ f

    kept_days : (n : ℕ) → days_in Y n ≡ days_in S n
    kept_days n = (input_added T j (dated r none) Y f).undated refl n ∙ sym (D.days n)

    new_days : (n : ℕ) → days_in U n ≡ pick (eqb (next_clause S) n) (first, last) (days_in S n)
    new_days n = (input_added S k r U z).dated first last new n

    -- Always in force: nothing is written, and nothing was said of its number before.
    always_kept : (first, last) ≡ always → (n : ℕ) → days_in U n ≡ days_in Y n
    always_kept a n = new_days n ∙ try (eqb (next_clause S) n) refl ∙ sym (kept_days n)
      where
        try : (b : Bool) → eqb (next_clause S) n ≡ b → pick b (first, last) (days_in S n) ≡ days_in S n
        try true h = a ∙ sym (O.others n (ap (λ (m : ℕ). is_input (clause_of S m)) (sym (equal (next_clause S) n h)) ∙ next_none S))
        try false h = refl

    -- The clause that the window names is there.
    named : is_input (clause_of Y (next_clause S)) ≡ true
    named =
        (input_added T j (dated r none) Y f).inputs (next_clause S)
        ∙ ap (λ (b : Bool). pick b true (is_input (clause_of T (next_clause S)))) (ap (eqb (next_clause S)) (sym (next_alike S T D.alike)) ∙ eqb_itself (next_clause S))

    window_step : step Y (suc j) (window_record (next_clause S) (first, last)) ≡ stands (with_window Y (record { clause = next_clause S; first = first; last = last }))
    window_step = passed_step Y (suc j) windowKind (window_record (next_clause S) (first, last)) (with_window Y window) (record {
      tested = (refl, (named, (ap in_order (sym new) ∙ input_ordered S k r U z, tt)));
      outlined = tt;
      entered = refl;
    })

    window_kept : (n : ℕ) → days_in U n ≡ days_in (with_window Y (record { clause = next_clause S; first = first; last = last })) n
    window_kept n = new_days n ∙ ap (pick (eqb (next_clause S) n) (first, last)) (sym (kept_days n)) ∙ sym (window_days_lem window Y.windows n)

    dated_by_lem : (b : Bool) → is_always (first, last) ≡ b → is_dated r ≡ not b
    dated_by_lem b h = ap₂ (λ (n : ℕ) (d : Option (ℕ × ℕ)). eqb n 4 && not (is_always (days_or d))) e new ∙ ap not h

    input_becomes : (b : Bool) → is_always (first, last) ≡ b → Becomes S T j r U
    input_becomes true h = alone (dated_by_lem true h) Y input_step (record { alike = B; days = always_kept (is_always_lem (first, last) h) })
    input_becomes false h =
        followed (dated_by_lem false h) Y (with_window Y window) input_step (ap (λ (d : Option (ℕ × ℕ)). step Y (suc j) (window_record (next_clause S) (days_or d))) new ∙ window_step) (record {
          alike = record { same_arities = B.same_arities; same_rows = B.same_rows; same_clauses = B.same_clauses; same_total = B.same_total };
          days = window_kept;
        })

  input_goes : r.kind ≡ 4 → step_of S k inputKind r ≡ stands U → Goes
  input_goes e z =
      let f = input_follows S T D.alike k j r none U refl z in
      record {
        becomes = input_becomes e z _ f.0 f.1 (is_always (first, last)) refl;
        next = (input_added S k r U z).next ∙ sym (after_input r (next_clause S) e);
      }

  pub record_goes : Goes
  record_goes = by_kind S k r U Goes q plain_goes input_goes (λ n e z. absurd (no_window_lem r first last new n e))

pub record ReadTo (S' T : State) (j : ℕ) (rs : List Record) : Type 0 where
  pub final : State
  pub reads : read T j rs ≡ all_stand final
  pub same : SameDays S' final

read_old : (rs : List Record) (S T S' : State) (k j : ℕ) → HaveDays New rs → SameDays S T → OnlyInputs S → read S k rs ≡ all_stand S' → ReadTo S' T j (old_records_from (next_clause S) rs)
read_old [] S T S' k j s D O q = record { final = T; reads = refl; same = subst (λ (X : State). SameDays X T) (ending_stands q) D }
read_old (r ∷ rs) S T S' k j s D O q = try (step S k r) refl q (λ U Z i B P z. read_old rs U Z S' (suc k) i s.1 B P z)
  where
    here : (U : State) → ((Z : State) (i : ℕ) → SameDays U Z → ReadTo S' Z i (old_records_from (next_clause U) rs)) → next_clause U ≡ clauses_after (next_clause S) r → Becomes S T j r U
        → ReadTo S' T j (old_records_from (next_clause S) (r ∷ rs))
    here U ih n (alone b Z e B) =
        let a = ih Z (suc j) B in
        record {
          final = a.final;
          reads = ap (λ (x : Bool). read T j (without_days r ∷ unless (not x) (window_record (next_clause S) (days_beside r)) (old_records_from (clauses_after (next_clause S) r) rs))) b
              ∙ read_on_stands T Z j (without_days r) (old_records_from (clauses_after (next_clause S) r) rs) e
              ∙ ap (λ (m : ℕ). read Z (suc j) (old_records_from m rs)) (sym n) ∙ a.reads;
          same = a.same;
        }
    here U ih n (followed b Y Z e w B) =
        let a = ih Z (suc (suc j)) B in
        record {
          final = a.final;
          reads = ap (λ (x : Bool). read T j (without_days r ∷ unless (not x) (window_record (next_clause S) (days_beside r)) (old_records_from (clauses_after (next_clause S) r) rs))) b
              ∙ read_on_stands T Y j (without_days r) (window_record (next_clause S) (days_beside r) ∷ old_records_from (clauses_after (next_clause S) r) rs) e
              ∙ read_on_stands Y Z (suc j) (window_record (next_clause S) (days_beside r)) (old_records_from (clauses_after (next_clause S) r) rs) w
              ∙ ap (λ (m : ℕ). read Z (suc (suc j)) (old_records_from m rs)) (sym n) ∙ a.reads;
          same = a.same;
        }

    try : (o : Result) → step S k r ≡ o → elim o [ stands U ↦ read U (suc k) rs | refused x ↦ refused_at S x k ] ≡ all_stand S'
        → ((U Z : State) (i : ℕ) → SameDays U Z → OnlyInputs U → read U (suc k) rs ≡ all_stand S' → ReadTo S' Z i (old_records_from (next_clause U) rs))
        → ReadTo S' T j (old_records_from (next_clause S) (r ∷ rs))
    try (stands U) e z ih =
        let d = s.0 in
        let g = record_goes S T D O k j r U d.0 d.1 d.2 e in
        here U (λ Z i B. ih U Z i B (only_kept S k r U e O) z) g.next g.becomes
    try (refused x) e z ih = absurd (stands_not_refused (sym z))

pub new_to_old : (rs : List Record) (S : State) → HaveDays New rs → read empty_state 0 rs ≡ all_stand S → (T : State) × (read empty_state 0 (to_old_records rs) ≡ all_stand T) × SameDays S T
new_to_old rs S s q =
    let a = read_old rs empty_state empty_state S 0 0 s (record { alike = record { same_arities = refl; same_rows = refl; same_clauses = refl; same_total = refl }; days = λ n. refl }) (record { others = λ n h. refl }) q in
    (a.final, a.reads, a.same)
