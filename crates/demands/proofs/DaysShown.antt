-- What the day changes, and what it leaves as it was.
use mathlib.Core.Path.{◌≡◌, refl, sym, ap, ap₂, ◌∙◌, fun_ext}
use mathlib.Core.Bool.{Bool, true, false}
use mathlib.Core.Option.{Option, none, some}
use mathlib.Core.List.{List, [], ◌∷◌, ◌++◌}
use Prim.Native.Nat.{ℕ, suc, ◌+◌}
use native.Mathlib.Omega.{arith}
use lib.Dec.{eqb}
use lib.ListN.{length, get_or, take, drop, length-append, length-map, get_or-append}
use lib.Seq.{get_or-append-add}
use Rattle.record.specs.Record.{pick, File, Record, records, otherKind, Kind}
use Rattle.unification.proofs.Tests.{some_injective}
use Rattle.derivation.specs.Derivation.{Derivation, Use, uses}
use Rattle.demands.specs.Days.{step_without_windows, read_without_windows, reading_without_windows, every_clause, verdict_without_day, Undated, DaysOnlyChoose}
use Rattle.demands.specs.Conditions.{window_in_new_form}
use Rattle.demands.specs.Demands.{Reached}
use Rattle.verdict.specs.Force.{all_in_force, uses_in_force}
use Rattle.verdict.specs.Readout.{LineWriter, clause_lines, readout_lines}
use Rattle.verdict.specs.Refusal.{Reason, badKind, badLength, shortTable}
use Rattle.verdict.specs.State.{State, Window, empty_state, with_window, entry, derivations, next_clause, clause_of}
use Rattle.verdict.specs.Step.{stands, refused, Result, window_in, enter, step, read, Ending, all_stand, refused_at}
use Rattle.verdict.specs.Tables.{filled_tables}
use Rattle.verdict.specs.Verdict.{Verdict, refusal, accepted, open', check, answer_numbers, answer_of, first_empty, standing, Lengths, fitting, long_enough, ending, Stands, Reading, untouched, read_to, reading, verdict_given, state_given}
use Rattle.demands.proofs.Demanded.{never_refusal}
use Rattle.demands.proofs.Dating.{with_given, undated_none, step_windows}
use Rattle.demands.proofs.Inversions.{stands_same, step_stands, never_both, entry_below}
use Rattle.demands.proofs.RangeTests.{not_true, equal, window_kind, other_kind}
use Rattle.verdict.proofs.Endings.{ending_stands, reading_length, reading_tables, reading_records, stands_not_refused}

-- A refusal is one on every day.
refused_alike_lem : (day other : ℕ) (R : Reading) (q : Reason) (k : ℕ) → verdict_given day R ≡ refusal q k → verdict_given other R ≡ refusal q k
refused_alike_lem day other (untouched p) q k z = z
refused_alike_lem day other (read_to (refused_at S p j)) q k z = z
refused_alike_lem day other (read_to (all_stand S)) q k z = absurd (never_refusal (first_empty (uses_in_force S day) (derivations S)) z)

-- The counts come after the verdict's three numbers.
counts_after : (v w : Verdict) (S : State) → drop 3 (answer_numbers (answer_of v S)) ≡ drop 3 (answer_numbers (answer_of w S))
counts_after v w S = by v ∙ sym (by w)
  where
    by : (x : Verdict) → drop 3 (answer_numbers (answer_of x S)) ≡ length S.symbols ∷ length S.rows ∷ length S.clauses ∷ S.total ∷ []
    by (accepted n) = refl
    by open' = refl
    by (refusal q k) = refl

-- A reading that ends with a state is of a file that stands.
read_whole : (file : File) (lengths : Lengths) (S : State) → reading file lengths ≡ read_to (all_stand S) → Stands file S
read_whole file lengths S e = try (fitting file) refl (long_enough lengths) refl
  where
    refused_before : {q : Reason} → untouched q ≡ read_to (all_stand S) → ⊥
    refused_before p = let z : ◌≡◌ {A = ℕ} 0 1 = cc in omega arith

    same_ending : {d f : Ending} → read_to d ≡ read_to f → d ≡ f
    same_ending p = cc

    try : (b : Bool) → fitting file ≡ b → (c : Bool) → long_enough lengths ≡ c → Stands file S
    try false f c l = absurd (refused_before (sym (reading_length file lengths f) ∙ e))
    try true f false l = absurd (refused_before (sym (reading_tables file lengths f l) ∙ e))
    try true f true l = record { fits = f; reads = same_ending (sym (reading_records file lengths f l) ∙ e) }

-- Without windows every clause is in force.
always_in_force : (day : ℕ) (us : List Use) → all_in_force [] day us ≡ true
always_in_force day [] = refl
always_in_force day (u ∷ us) = always_in_force day us

every_clause_lem : (day : ℕ) (S : State) → S.windows ≡ [] → first_empty (uses_in_force S day) (derivations S) ≡ first_empty every_clause (derivations S)
every_clause_lem day S e = ap (λ (test : Derivation → Bool). first_empty test (derivations S)) (fun_ext (λ c. ap (λ (ws : List Window). all_in_force ws day (uses c)) e ∙ always_in_force day (uses c)))

-- A window leaves everything but the windows.
window_step : (S T : State) (k : ℕ) (r : Record) → r.kind ≡ 8 → step S k r ≡ stands T → T ≡ with_window S (window_in r)
window_step S T k r e q = try r.days refl
  where
    -- A record with days is of no kind 8 and does not stand.
    try : (d : Option (ℕ × ℕ)) → r.days ≡ d → T ≡ with_window S (window_in r)
    try none p = sym (stands_same (sym (ap (λ (kind : Kind). enter S k kind r) (window_kind r (e, p))) ∙ (step_stands S k r T q).1))
    try (some d) p = absurd (never_both (enter S k otherKind r) (sym (ap (λ (kind : Kind). enter S k kind r) (other_kind r (window_in_new_form e p))) ∙ (step_stands S k r T q).1) refl)

pub clause_lines_length : (line : LineWriter) (S : State) (cs : List Derivation) → length (clause_lines line S cs) ≡ length cs
clause_lines_length line S [] = refl
clause_lines_length line S (c ∷ cs) = length-append (clause_lines line S cs) (line S (length cs) c ∷ []) ∙ omega (arith, clause_lines_length line S cs)

-- The lines of the clauses, by number.
pub clause_line_at : (line : LineWriter) (S : State) (ds : List Derivation) (n : ℕ) (d : Derivation) → entry ds n ≡ some d → get_or (clause_lines line S ds) n [] ≡ line S n d
clause_line_at line S [] n d q = let z = entry_below [] n d q in absurd (omega arith)
clause_line_at line S (e ∷ ds) n d q = try (eqb n (length ds)) refl q (λ r. clause_line_at line S ds n d r)
  where
    try : (b : Bool) → eqb n (length ds) ≡ b → pick b (some e) (entry ds n) ≡ some d → (entry ds n ≡ some d → get_or (clause_lines line S ds) n [] ≡ line S n d)
        → get_or (clause_lines line S ds ++ (line S (length ds) e ∷ [])) n [] ≡ line S n d
    try true p r ih =
        let z : n ≡ length (clause_lines line S ds) + 0 = omega (arith, equal n (length ds) p, clause_lines_length line S ds) in
        ap (λ (k : ℕ). get_or (clause_lines line S ds ++ (line S (length ds) e ∷ [])) k []) z
        ∙ get_or-append-add (clause_lines line S ds) (line S (length ds) e ∷ []) 0 []
        ∙ ap₂ (line S) (sym (equal n (length ds) p)) (some_injective r)
    try false p r ih = get_or-append (clause_lines line S ds) (line S (length ds) e ∷ []) [] n (omega (arith, entry_below ds n d r, clause_lines_length line S ds)) ∙ ih r

-- Where reading comes to no window, it is as it was, and leaves no window.
abbrev NoWindow : State → ℕ → List Record → Type 0
NoWindow S k rs = (j : ℕ) (T : State) (r : Record) (after : List Record) → read S k (take j rs) ≡ all_stand T → drop j rs ≡ r ∷ after → Undated r

module _ (S : State) (k : ℕ) (r : Record) (rs : List Record) (h : NoWindow S k (r ∷ rs)) where
  no_window_lem : Undated r
  no_window_lem = h 0 S r rs refl refl

  later_windows : (U : State) → step S k r ≡ stands U → NoWindow U (suc k) rs
  later_windows U e j T q after p d = h (suc j) T q after (ap (λ (o : Result). elim o [ stands W ↦ read W (suc k) (take j rs) | refused x ↦ refused_at S x k ]) e ∙ p) d

  same_step : step S k r ≡ step_without_windows S k r
  same_step = sym (ap (λ (b : Bool). pick b (refused badKind) (step S k r)) (not_true (eqb r.kind 8) (λ t. no_window_lem.0 (equal r.kind 8 t))))

read_alike_lem : (S : State) (k : ℕ) (rs : List Record) → NoWindow S k rs → read S k rs ≡ read_without_windows S k rs
read_alike_lem S k [] h = refl
read_alike_lem S k (r ∷ rs) h =
    try (step S k r) refl (λ U e. read_alike_lem U (suc k) rs (later_windows S k r rs h U e))
    ∙ ap (λ (o : Result). elim o [ stands U ↦ read_without_windows U (suc k) rs | refused reason ↦ refused_at S reason k ]) (same_step S k r rs h)
  where
    try : (o : Result) → step S k r ≡ o → ((U : State) → step S k r ≡ stands U → read U (suc k) rs ≡ read_without_windows U (suc k) rs)
        → ◌≡◌ {A = Ending} (elim o [ stands U ↦ read U (suc k) rs | refused reason ↦ refused_at S reason k ]) (elim o [ stands U ↦ read_without_windows U (suc k) rs | refused reason ↦ refused_at S reason k ])
    try (stands U) e ih = ih U e
    try (refused reason) e ih = refl

windows_stay : (S : State) (k : ℕ) (rs : List Record) (T : State) → NoWindow S k rs → read S k rs ≡ all_stand T → T.windows ≡ S.windows
windows_stay S k [] T h q = ap (λ (X : State). X.windows) (sym (ending_stands q))
windows_stay S k (r ∷ rs) T h q = try (step S k r) refl q (λ U e p. windows_stay U (suc k) rs T (later_windows S k r rs h U e) p)
  where
    try : (o : Result) → step S k r ≡ o → elim o [ stands U ↦ read U (suc k) rs | refused p ↦ refused_at S p k ] ≡ all_stand T
        → ((U : State) → step S k r ≡ stands U → read U (suc k) rs ≡ all_stand T → T.windows ≡ U.windows) → T.windows ≡ S.windows
    try (stands U) e p ih = ih U e p ∙ step_windows S k r U e ∙ ap (with_given S.windows) (undated_none (next_clause S) r (no_window_lem S k r rs h).0 (no_window_lem S k r rs h).1)
    try (refused p) e z ih = absurd (stands_not_refused (sym z))

module _ (file : File) (lengths : Lengths) where
  -- Of a file whose length fits, the records that reading comes to.
  reached_none : fitting file ≡ true → ((k : ℕ) (S : State) (r : Record) → Reached file k S r → Undated r) → NoWindow empty_state 0 (records file)
  reached_none f h j T r after p d = h j T r (record { fits = f; before = p; after = after; here = d })

  reading_alike : ((k : ℕ) (S : State) (r : Record) → Reached file k S r → Undated r) → reading file lengths ≡ reading_without_windows file lengths
  unfolding ending
  reading_alike h = try (fitting file) refl
    where
      try : (b : Bool) → fitting file ≡ b → pick b (pick (long_enough lengths) (read_to (ending file)) (untouched shortTable)) (untouched badLength) ≡ pick b (pick (long_enough lengths) (read_to (read_without_windows empty_state 0 (records file))) (untouched shortTable)) (untouched badLength)
      try true f = ap (λ (e : Ending). pick (long_enough lengths) (read_to e) (untouched shortTable)) (read_alike_lem empty_state 0 (records file) (reached_none f h))
      try false f = refl

  same_verdict_lem : ((k : ℕ) (S : State) (r : Record) → Reached file k S r → Undated r) → (day : ℕ) → verdict_given day (reading file lengths) ≡ verdict_without_day (reading file lengths)
  unfolding ending
  same_verdict_lem h day = by (reading file lengths) refl
    where
      by : (R : Reading) → reading file lengths ≡ R → verdict_given day R ≡ verdict_without_day R
      by (untouched q) e = refl
      by (read_to (refused_at S q k)) e = refl
      by (read_to (all_stand S)) e =
          let st = read_whole file lengths S e in
          ap standing (every_clause_lem day S (windows_stay empty_state 0 (records file) S (reached_none st.fits h) st.reads))

  all_listed_lem : (line : LineWriter) (day : ℕ) → length (readout_lines line day file lengths) ≡ 1 + (check day file lengths).clauses
  unfolding check readout_lines
  all_listed_lem line day =
      let S = state_given (reading file lengths) in
      omega (arith, clause_lines_length line S (derivations S), length-map S.clauses (λ (c : ℕ × Derivation). c.1))

  listed : (line : LineWriter) (day n : ℕ) (c : Derivation) → clause_of (state_given (reading file lengths)) n ≡ some c → get_or (readout_lines line day file lengths) (1 + n) [] ≡ line (state_given (reading file lengths)) n c
  unfolding readout_lines
  listed line day n c q =
      let S = state_given (reading file lengths) in
      let next : 1 + n ≡ suc n = omega arith in
      ap (λ (k : ℕ). get_or (readout_lines line day file lengths) k []) next ∙ clause_line_at line S (derivations S) n c q

  pub days_only_choose : DaysOnlyChoose file lengths
  unfolding check readout_lines
  days_only_choose = record {
    no_clause = λ S T k r e q.
        let w = window_step S T k r e q in
        (ap (λ (X : State). X.symbols) w, ap (λ (X : State). X.rows) w, ap (λ (X : State). X.clauses) w, ap (λ (X : State). X.total) w, λ t. ap (λ (X : State). filled_tables X t) w);
    refusals = λ day other q k z. refused_alike_lem day other (reading file lengths) q k z;
    counts = λ day other. counts_after (verdict_given day (reading file lengths)) (verdict_given other (reading file lengths)) (state_given (reading file lengths));
    clause_lines = λ line day other. refl;
    all_listed = all_listed_lem;
    listed = listed;
    read_alike = reading_alike;
    same_verdict = same_verdict_lem;
  }
