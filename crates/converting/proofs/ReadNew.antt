-- The records of an old file that stand, with their days beside them, stand in the new form, and leave a state alike in which each input clause has the days that supersede.
use mathlib.Core.Path.{◌≡◌, refl, sym, ap, ◌∙◌, subst}
use mathlib.Core.Bool.{Bool, true, false, ◌&&◌}
use mathlib.Core.Option.{Option, none, some}
use mathlib.Core.List.{List, [], ◌∷◌}
use Prim.Native.Nat.{ℕ, suc}
use lib.Dec.{eqb, leb}
use Rattle.record.specs.Record.{pick, Record, Kind, inputKind, windowKind, with_days, field_a, field_b, field_c}
use Rattle.record.specs.declared.Form.TheVariants.{Old}
use Rattle.record.proofs.Records.{HaveDays}
use Rattle.record.specs.Sorts.{is_window, clauses_after, unless}
use Rattle.verdict.specs.Force.{window_of}
use Rattle.verdict.specs.Refusal.{zero_days, is_input}
use Rattle.verdict.specs.State.{State, Window, empty_state, entry, clause_of, next_clause}
use Rattle.verdict.specs.Step.{stands, refused, Result, step, read, all_stand, refused_at}
use Rattle.verdict.proofs.Endings.{ending_stands, stands_not_refused}
use Rattle.converting.specs.Converting.{always, days_after, last_days, new_record, new_records_from, to_new_records}
use Rattle.converting.specs.Promised.{window_days, days_in}
use Rattle.converting.proofs.StatesAlike.{Alike, next_alike}
use Rattle.converting.proofs.Days.{plain_kept, InputAdded, input_added, window_added, window_ordered, window_dates, by_kind, only_inputs, SameDays, read_on_stands}
use Rattle.converting.proofs.KindsDated.{equal, eqb_swap, Plain, PlainNumber, dated, plain_dated, input_dated, after_input, after_window}
use Rattle.converting.proofs.Stepping.{step_of, plain_follows, input_follows}

-- ── The days that supersede are those that an old file leaves ──

-- The first day of each clause is not after its last.
pub record Ordered (S : State) : Type 0 where
  pub in_order : (n : ℕ) → leb (days_in S n).0 (days_in S n).1 ≡ true

module _ (S : State) (k : ℕ) (r : Record) (S' : State) (old : r.days ≡ none) (q : step S k r ≡ stands S') where
  pub record Redated : Type 0 where
    pub after : (n : ℕ) → days_in S' n ≡ pick (is_window r && eqb (field_a r) n) (field_b r, field_c r) (days_in S n)
    pub ordered : Ordered S → Ordered S'

  same_days : is_window r ≡ false → ((n : ℕ) → days_in S' n ≡ days_in S n) → Redated
  same_days e h = record {
    after = λ n. h n ∙ sym (ap (λ (b : Bool). pick (b && eqb (field_a r) n) (field_b r, field_c r) (days_in S n)) e);
    ordered = λ O. record { in_order = λ n. ap (λ (d : ℕ × ℕ). leb d.0 d.1) (h n) ∙ O.in_order n };
  }

  window_days_after : r.kind ≡ 8 → step_of S k windowKind r ≡ stands S' → Redated
  window_days_after e z = record {
    after = λ n. window_dates S k r S' z n ∙ sym (ap (λ (m : ℕ). pick (eqb m 8 && eqb (field_a r) n) (field_b r, field_c r) (days_in S n)) e);
    ordered = λ O. record { in_order = λ n. ap (λ (d : ℕ × ℕ). leb d.0 d.1) (window_dates S k r S' z n) ∙ try O n (eqb (field_a r) n) };
  }
    where
      try : Ordered S → (n : ℕ) (b : Bool) → leb (pick b (field_b r, field_c r) (days_in S n)).0 (pick b (field_b r, field_c r) (days_in S n)).1 ≡ true
      try O n true = window_ordered S k r S' z
      try O n false = O.in_order n

  redated : Redated
  redated =
      by_kind S k r S' Redated q
      (λ kind p n z. same_days n.no_window (λ m. ap (λ (ws : List Window). window_days (window_of ws m)) (plain_kept S k r S' kind p z).windows))
      (λ e z. same_days (ap (λ (n : ℕ). eqb n 8) e) ((input_added S k r S' z).undated old))
      (λ n e z. window_days_after n z)

pub read_days : (rs : List Record) (S : State) (k : ℕ) (S' : State) → HaveDays Old rs → read S k rs ≡ all_stand S' → ((n : ℕ) → days_in S' n ≡ days_after (days_in S n) rs n) × (Ordered S → Ordered S')
read_days [] S k S' s q = ((λ n. ap (λ (X : State). days_in X n) (sym (ending_stands q))), (λ O. subst Ordered (ending_stands q) O))
read_days (r ∷ rs) S k S' s q = try (step S k r) refl q (λ U z. read_days rs U (suc k) S' s.1 z)
  where
    try : (o : Result) → step S k r ≡ o → elim o [ stands U ↦ read U (suc k) rs | refused x ↦ refused_at S x k ] ≡ all_stand S'
        → ((U : State) → read U (suc k) rs ≡ all_stand S' → ((n : ℕ) → days_in S' n ≡ days_after (days_in U n) rs n) × (Ordered U → Ordered S'))
        → ((n : ℕ) → days_in S' n ≡ days_after (days_in S n) (r ∷ rs) n) × (Ordered S → Ordered S')
    try (stands U) e z ih =
        let d = redated S k r U s.0 e in
        ((λ n. (ih U z).0 n ∙ ap (λ (x : ℕ × ℕ). days_after x rs n) (d.after n)), (λ O. (ih U z).1 (d.ordered O)))
    try (refused x) e z ih = absurd (stands_not_refused (sym z))

-- ── The records with their days ──
module _ (all : List Record) (ordered : (n : ℕ) → leb (last_days all n).0 (last_days all n).1 ≡ true) where
  -- Each input clause has the days that supersede for it, and no other clause has any.
  pub record DatedBy (T : State) : Type 0 where
    pub days : (n : ℕ) → days_in T n ≡ pick (is_input (clause_of T n)) (last_days all n) always

  -- What becomes of a record: it falls away, or it stands with its days.
  pub data Becomes (S T : State) (j : ℕ) (r : Record) (U : State) : Type 0 where
    falls : is_window r ≡ true → Alike U T → Becomes S T j r U
    remains : is_window r ≡ false → (Z : State) → step T j (new_record all (next_clause S) r) ≡ stands Z → Alike U Z → DatedBy Z → Becomes S T j r U

  module _ (S T : State) (A : Alike S T) (D : DatedBy T) (k j : ℕ) (r : Record) (U : State) (old : r.days ≡ none) (q : step S k r ≡ stands U) where
    pub record Goes : Type 0 where
      pub becomes : Becomes S T j r U
      pub next : next_clause U ≡ clauses_after (next_clause S) r

    plain_goes : (kind : Kind) → Plain kind → PlainNumber kind r.kind → step_of S k kind r ≡ stands U → Goes
    plain_goes kind p n z =
        let f = plain_follows S T A k j r (some (0, 0)) U (ap zero_days old) kind p z in
        let t = plain_kept T j (dated r (some (0, 0))) f.next kind p f.steps in
        let same : new_record all (next_clause S) r ≡ with_days r 0 0 =
        ap (λ (b : Bool). pick b (with_days r (last_days all (next_clause S)).0 (last_days all (next_clause S)).1) (with_days r 0 0)) n.no_input
        in
        record {
          becomes = remains n.no_window f.next (ap (step T j) same ∙ ap (λ (x : Kind). step_of T j x (with_days r 0 0)) (plain_dated r (some (0, 0)) kind n) ∙ f.steps) f.alike (record {
            days = λ m. ap (λ (ws : List Window). window_days (window_of ws m)) t.windows ∙ D.days m ∙ ap (λ (b : Bool). pick b (last_days all m) always) (sym (t.inputs m));
          });
          next = (plain_kept S k r U kind p z).next ∙ ap (λ (b : Bool). pick b (suc (next_clause S)) (next_clause S)) (sym n.clause);
        }

    abbrev its_days : Option (ℕ × ℕ)
    its_days = some ((last_days all (next_clause S)).0, (last_days all (next_clause S)).1)

    input_dates : (Z : State) → InputAdded T Z (some ((last_days all (next_clause S)).0, (last_days all (next_clause S)).1)) → DatedBy Z
    input_dates Z I = record {
      days = λ n.
          I.dated (last_days all (next_clause S)).0 (last_days all (next_clause S)).1 refl n ∙ ap (λ (b : Bool). pick b (last_days all (next_clause S)) (days_in T n)) (eqb_swap (next_clause T) n) ∙ try n (eqb n (next_clause T)) refl
          ∙ ap (λ (b : Bool). pick b (last_days all n) always) (sym (I.inputs n));
    }
      where
        try : (n : ℕ) (b : Bool) → eqb n (next_clause T) ≡ b → pick b (last_days all (next_clause S)) (days_in T n) ≡ pick (pick b true (is_input (clause_of T n))) (last_days all n) always
        try n true e = ap (last_days all) (next_alike S T A ∙ sym (equal n (next_clause T) e))
        try n false e = D.days n

    input_goes : r.kind ≡ 4 → step_of S k inputKind r ≡ stands U → Goes
    input_goes e z =
        let f = input_follows S T A k j r its_days U (ordered (next_clause S)) z in
        let same : new_record all (next_clause S) r ≡ with_days r (last_days all (next_clause S)).0 (last_days all (next_clause S)).1 =
        ap (λ (n : ℕ). pick (eqb n 4) (with_days r (last_days all (next_clause S)).0 (last_days all (next_clause S)).1) (with_days r 0 0)) e
        in
        record {
          becomes = remains (ap (λ (n : ℕ). eqb n 8) e) _ (ap (step T j) same ∙ ap (λ (x : Kind). step_of T j x (dated r its_days)) (input_dated r its_days e) ∙ f.0) f.1 (input_dates _ (input_added T j (dated r its_days) _ f.0));
          next = (input_added S k r U z).next ∙ sym (after_input r (next_clause S) e);
        }

    window_goes : r.kind ≡ 8 → step_of S k windowKind r ≡ stands U → Goes
    window_goes e z =
        let u = window_added S k r U z in
        record {
          becomes = subst (λ (X : State). Becomes S T j r X) u (falls (ap (λ (n : ℕ). eqb n 8) e) (record { same_arities = A.same_arities; same_rows = A.same_rows; same_clauses = A.same_clauses; same_total = A.same_total }));
          next = subst (λ (X : State). next_clause X ≡ clauses_after (next_clause S) r) u (sym (after_window r (next_clause S) e));
        }

    pub record_goes : Goes
    record_goes = by_kind S k r U Goes q plain_goes input_goes (λ n e z. window_goes n z)

  pub record ReadTo (S' T : State) (j : ℕ) (rs : List Record) : Type 0 where
    pub final : State
    pub reads : read T j rs ≡ all_stand final
    pub alike : Alike S' final
    pub dated_by : DatedBy final

  pub read_new : (rs : List Record) (S T S' : State) (k j : ℕ) → HaveDays Old rs → Alike S T → DatedBy T → read S k rs ≡ all_stand S' → ReadTo S' T j (new_records_from all (next_clause S) rs)
  read_new [] S T S' k j s A D q = record { final = T; reads = refl; alike = subst (λ (X : State). Alike X T) (ending_stands q) A; dated_by = D }
  read_new (r ∷ rs) S T S' k j s A D q = try (step S k r) refl q (λ U Z i B E z. read_new rs U Z S' (suc k) i s.1 B E z)
    where
      here : (U : State) → read U (suc k) rs ≡ all_stand S' → ((Z : State) (i : ℕ) → Alike U Z → DatedBy Z → read U (suc k) rs ≡ all_stand S' → ReadTo S' Z i (new_records_from all (next_clause U) rs)) → next_clause U ≡ clauses_after (next_clause S) r → Becomes S T j r U → ReadTo S' T j (new_records_from all (next_clause S) (r ∷ rs))
      here U z ih n (falls w B) =
          let a = ih T j B D z in
          record {
            final = a.final;
            reads = ap (λ (b : Bool). read T j (unless b (new_record all (next_clause S) r) (new_records_from all (clauses_after (next_clause S) r) rs))) w ∙ ap (λ (m : ℕ). read T j (new_records_from all m rs)) (sym n) ∙ a.reads;
            alike = a.alike;
            dated_by = a.dated_by;
          }
      here U z ih n (remains w Z e B E) =
          let a = ih Z (suc j) B E z in
          record {
            final = a.final;
            reads = ap (λ (b : Bool). read T j (unless b (new_record all (next_clause S) r) (new_records_from all (clauses_after (next_clause S) r) rs))) w
                ∙ read_on_stands T Z j (new_record all (next_clause S) r) (new_records_from all (clauses_after (next_clause S) r) rs) e
                ∙ ap (λ (m : ℕ). read Z (suc j) (new_records_from all m rs)) (sym n) ∙ a.reads;
            alike = a.alike;
            dated_by = a.dated_by;
          }

      try : (o : Result) → step S k r ≡ o → elim o [ stands U ↦ read U (suc k) rs | refused x ↦ refused_at S x k ] ≡ all_stand S'
          → ((U Z : State) (i : ℕ) → Alike U Z → DatedBy Z → read U (suc k) rs ≡ all_stand S' → ReadTo S' Z i (new_records_from all (next_clause U) rs))
          → ReadTo S' T j (new_records_from all (next_clause S) (r ∷ rs))
      try (stands U) e z ih =
          let g = record_goes S T A D k j r U s.0 e in
          here U z (ih U) g.next g.becomes
      try (refused x) e z ih = absurd (stands_not_refused (sym z))

-- ── A whole file ──

pub old_to_new : (rs : List Record) (S : State) → HaveDays Old rs → read empty_state 0 rs ≡ all_stand S → (T : State) × (read empty_state 0 (to_new_records rs) ≡ all_stand T) × SameDays S T
old_to_new rs S s q = (a.final, a.reads, record { alike = a.alike; days = λ n. days n (is_input (clause_of S n)) refl })
  where
    d : ((n : ℕ) → days_in S n ≡ last_days rs n) × (Ordered empty_state → Ordered S)
    d = read_days rs empty_state 0 S s q

    a : ReadTo rs (λ n. ap (λ (x : ℕ × ℕ). leb x.0 x.1) (sym (d.0 n)) ∙ (d.1 (record { in_order = λ m. refl })).in_order n) S empty_state 0 (new_records_from rs 0 rs)
    a = read_new rs (λ n. ap (λ (x : ℕ × ℕ). leb x.0 x.1) (sym (d.0 n)) ∙ (d.1 (record { in_order = λ m. refl })).in_order n) rs empty_state empty_state S 0 0 s
        (record { same_arities = refl; same_rows = refl; same_clauses = refl; same_total = refl }) (record { days = λ n. refl }) q

    same : (n : ℕ) → is_input (clause_of S n) ≡ is_input (clause_of a.final n)
    same n = ap (λ ds. is_input (entry ds n)) a.alike.same_clauses

    days : (n : ℕ) (b : Bool) → is_input (clause_of S n) ≡ b → days_in S n ≡ days_in a.final n
    days n true e = d.0 n ∙ sym (a.dated_by.days n ∙ ap (λ (b : Bool). pick b (last_days rs n) always) (sym (same n) ∙ e))
    days n false e = (only_inputs rs S q).others n e ∙ sym (a.dated_by.days n ∙ ap (λ (b : Bool). pick b (last_days rs n) always) (sym (same n) ∙ e))
