-- What a record does to the number of clauses, to which of them are input clauses, and to their days.
use mathlib.Core.Path.{◌≡◌, refl, sym, ap, ◌∙◌, subst}
use mathlib.Core.Bool.{Bool, true, false}
use mathlib.Core.Option.{Option, none, some}
use mathlib.Core.List.{List, [], ◌∷◌}
use Prim.Native.Nat.{ℕ, suc, ◌≤◌}
use native.Mathlib.Omega.{arith}
use lib.Dec.{eqb, leb}
use lib.ListN.{length}
use Rattle.record.specs.Record.{pick, Record, Kind, otherKind, symbolKind, variableKind, applicationKind, inputKind, resolveKind, factorKind, severalKind, windowKind, field_a, field_b, field_c}
use Rattle.unification.proofs.Tests.{true_not_false}
use Rattle.derivation.specs.Derivation.{input, Derivation, resolve, factor}
use Rattle.verdict.specs.Force.{window_of}
use Rattle.verdict.specs.Refusal.{in_order, is_input, kind_of_record, left_of, right_of, right_numbers, deleted_of}
use Rattle.verdict.specs.State.{State, Window, empty_state, with_clause, with_window, with_days_beside, entry, derivations, clause_of, next_clause}
use Rattle.verdict.specs.Step.{stands, refused, Result, step, read, all_stand, refused_at, unify_resolve, unify_factor, enter_resolvent, enter, new_literals, window_in}
use Rattle.verdict.proofs.Endings.{ending_stands, stands_not_refused}
use Rattle.converting.specs.Converting.{always}
use Rattle.converting.specs.Promised.{window_days, days_in}
use Rattle.converting.proofs.StatesAlike.{Alike}
use Rattle.converting.proofs.KindsDated.{not_true, equal, eqb_swap, KindNumber, of_kind_lem, Plain, PlainNumber, plain_number, clause_kind}
use Rattle.converting.proofs.Stepping.{stands_same, step_of, step_passed, named_adds}

-- ── Clauses by their numbers ──
entry_past : {A : Type 0} (xs : List A) (n : ℕ) → length xs ≤ n → entry xs n ≡ none
entry_past [] n h = refl
entry_past {A} (x ∷ xs) n h =
    let apart : eqb n (length xs) ≡ false = not_true (eqb n (length xs)) (λ t. let e = equal n (length xs) t in omega arith) in
    ap (λ (b : Bool). pick b (some x) (entry xs n)) apart ∙ entry_past xs n (omega arith)

-- The number of the next clause is none's.
pub next_none : (S : State) → is_input (clause_of S (next_clause S)) ≡ false
next_none S = ap is_input (entry_past (derivations S) (next_clause S) (omega arith))

-- A step's clause is no input clause.
step_clause : (d : Derivation) (ds : List Derivation) (n : ℕ) → is_input (some d) ≡ false → is_input (entry (d ∷ ds) n) ≡ is_input (entry ds n)
step_clause d ds n h = try (eqb n (length ds)) refl
  where
    try : (b : Bool) → eqb n (length ds) ≡ b → is_input (pick b (some d) (entry ds n)) ≡ is_input (entry ds n)
    try true q = let e = equal n (length ds) q in h ∙ sym (ap is_input (entry_past ds n (omega arith)))
    try false q = refl

input_clause_lem : (d : Derivation) (ds : List Derivation) (n : ℕ) → is_input (some d) ≡ true → is_input (entry (d ∷ ds) n) ≡ pick (eqb n (length ds)) true (is_input (entry ds n))
input_clause_lem d ds n h = try (eqb n (length ds))
  where
    try : (b : Bool) → is_input (pick b (some d) (entry ds n)) ≡ pick b true (is_input (entry ds n))
    try true = h
    try false = refl

-- One window more.
pub window_days_lem : (w : Window) (ws : List Window) (n : ℕ) → window_days (window_of (w ∷ ws) n) ≡ pick (eqb w.clause n) (w.first, w.last) (window_days (window_of ws n))
window_days_lem w ws n = try (eqb w.clause n)
  where
    try : (b : Bool) → window_days (pick b (some w) (window_of ws n)) ≡ pick b (w.first, w.last) (window_days (window_of ws n))
    try true = refl
    try false = refl

-- ── A record that no day matters to ──
pub record Kept (S S' : State) (kind : Kind) : Type 0 where
  pub windows : S'.windows ≡ S.windows
  pub inputs : (n : ℕ) → is_input (clause_of S' n) ≡ is_input (clause_of S n)
  pub next : next_clause S' ≡ pick (clause_kind kind) (suc (next_clause S)) (next_clause S)

module _ (S : State) (k : ℕ) (r : Record) (S' : State) where
  same_kept : (U : State) (kind : Kind) → U ≡ S' → clause_kind kind ≡ false → U.windows ≡ S.windows → derivations U ≡ derivations S → Kept S S' kind
  same_kept U kind e c w d = subst (λ (X : State). Kept S X kind) e (record {
    windows = w;
    inputs = λ n. ap (λ (ds : List Derivation). is_input (entry ds n)) d;
    next = ap length d ∙ sym (ap (λ (b : Bool). pick b (suc (next_clause S)) (next_clause S)) c);
  })

  clause_kept_lem : (c : Derivation) (kind : Kind) → with_clause S k c ≡ S' → is_input (some c) ≡ false → clause_kind kind ≡ true → Kept S S' kind
  clause_kept_lem c kind e h t = subst (λ (X : State). Kept S X kind) e (record {
    windows = refl;
    inputs = λ n. step_clause c (derivations S) n h;
    next = sym (ap (λ (b : Bool). pick b (suc (next_clause S)) (next_clause S)) t);
  })

  resolvent_kept : (kind : Kind) → clause_kind kind ≡ true → enter_resolvent S k kind r ≡ stands S' → Kept S S' kind
  resolvent_kept kind t q =
      let a = named_adds (λ x y. resolve (next_clause S) x.0 (field_b r) y.0 (right_numbers kind r)) (unify_resolve S) (left_of S r) (right_of S kind r) S k S' q in
      clause_kept_lem (resolve (next_clause S) a.left.0 (field_b r) a.right.0 (right_numbers kind r) a.bindings) kind a.here refl t

  enter_kept : (kind : Kind) → Plain kind → enter S k kind r ≡ stands S' → Kept S S' kind
  enter_kept symbolKind p q = same_kept _ symbolKind (stands_same q) refl refl refl
  enter_kept variableKind p q = same_kept _ variableKind (stands_same q) refl refl refl
  enter_kept applicationKind p q = same_kept _ applicationKind (stands_same q) refl refl refl
  enter_kept resolveKind p q = resolvent_kept resolveKind refl q
  enter_kept severalKind p q = resolvent_kept severalKind refl q
  enter_kept factorKind p q =
      let a = named_adds (λ x y. factor (next_clause S) x.0 (field_b r) (field_c r)) (unify_factor S) (left_of S r) (deleted_of S r) S k S' q in
      clause_kept_lem (factor (next_clause S) a.left.0 (field_b r) (field_c r) a.bindings) factorKind a.here refl refl
  enter_kept inputKind p q = absurd p
  enter_kept windowKind p q = absurd p
  enter_kept otherKind p q = absurd p

  pub plain_kept : (kind : Kind) → Plain kind → step_of S k kind r ≡ stands S' → Kept S S' kind
  plain_kept kind p q = enter_kept kind p (step_passed S k kind r S' q).entered

-- ── An input clause, with the days beside it ──
pub record InputAdded (S S' : State) (days : Option (ℕ × ℕ)) : Type 0 where
  pub inputs : (n : ℕ) → is_input (clause_of S' n) ≡ pick (eqb n (next_clause S)) true (is_input (clause_of S n))
  pub next : next_clause S' ≡ suc (next_clause S)
  pub undated : days ≡ none → (n : ℕ) → days_in S' n ≡ days_in S n
  pub dated : (first last : ℕ) → days ≡ some (first, last) → (n : ℕ) → days_in S' n ≡ pick (eqb (next_clause S) n) (first, last) (days_in S n)

some_is_none : {d : ℕ × ℕ} → ◌≡◌ {A = Option (ℕ × ℕ)} (some d) none → ⊥
some_is_none z = let y : ◌≡◌ {A = ℕ} 0 1 = cc in omega arith

pub input_adds : (S : State) (k m : ℕ) (c : Derivation) (days : Option (ℕ × ℕ)) → m ≡ next_clause S → is_input (some c) ≡ true → InputAdded S (with_days_beside (with_clause S k c) m days) days
input_adds S k m c none e h = record {
  inputs = λ n. input_clause_lem c (derivations S) n h;
  next = refl;
  undated = λ z n. refl;
  dated = λ first last z. absurd (some_is_none (sym z));
}
input_adds S k m c (some days) e h = record {
  inputs = λ n. input_clause_lem c (derivations S) n h;
  next = refl;
  undated = λ z. absurd (some_is_none z);
  dated = λ first last z n.
      let same : days ≡ (first, last) = cc in
      window_days_lem (record { clause = m; first = days.0; last = days.1 }) S.windows n ∙ ap (λ (x : ℕ). pick (eqb x n) (days.0, days.1) (days_in S n)) e ∙ ap (λ (d : ℕ × ℕ). pick (eqb (next_clause S) n) d (days_in S n)) same;
}

module _ (S : State) (k : ℕ) (r : Record) (S' : State) where
  pub input_added : step_of S k inputKind r ≡ stands S' → InputAdded S S' r.days
  input_added q =
      subst (λ (X : State). InputAdded S X r.days) (stands_same (step_passed S k inputKind r S' q).entered) (input_adds S k (next_clause S) (input (next_clause S) (new_literals S r)) r.days refl refl)

  pub input_ordered : step_of S k inputKind r ≡ stands S' → in_order r.days ≡ true
  input_ordered q = (step_passed S k inputKind r S' q).tested.1.1.0

  -- ── A window ──
  pub window_added : step_of S k windowKind r ≡ stands S' → with_window S (window_in r) ≡ S'
  window_added q = stands_same (step_passed S k windowKind r S' q).entered

  pub window_names : step_of S k windowKind r ≡ stands S' → is_input (clause_of S (field_a r)) ≡ true
  window_names q = (step_passed S k windowKind r S' q).tested.1.0

  pub window_ordered : step_of S k windowKind r ≡ stands S' → leb (field_b r) (field_c r) ≡ true
  window_ordered q = (step_passed S k windowKind r S' q).tested.1.1.0

  pub window_dates : step_of S k windowKind r ≡ stands S' → (n : ℕ) → days_in S' n ≡ pick (eqb (field_a r) n) (field_b r, field_c r) (days_in S n)
  window_dates q n = ap (λ (X : State). days_in X n) (sym (window_added q)) ∙ window_days_lem (window_in r) S.windows n

  -- ── A record that stands is one of these ──
  pub by_kind : (X : Type 0) → step S k r ≡ stands S'
      → ((kind : Kind) → Plain kind → PlainNumber kind r.kind → step_of S k kind r ≡ stands S' → X)
      → (r.kind ≡ 4 → step_of S k inputKind r ≡ stands S' → X)
      → (r.kind ≡ 8 → kind_of_record r ≡ windowKind → step_of S k windowKind r ≡ stands S' → X)
      → X
  by_kind X q plain of_input of_window = try (kind_of_record r) refl (of_kind_lem r) q
    where
      try : (kind : Kind) → kind_of_record r ≡ kind → KindNumber kind r.kind → step_of S k kind r ≡ stands S' → X
      try symbolKind e n z = plain symbolKind tt (plain_number symbolKind r.kind tt n) z
      try variableKind e n z = plain variableKind tt (plain_number variableKind r.kind tt n) z
      try applicationKind e n z = plain applicationKind tt (plain_number applicationKind r.kind tt n) z
      try resolveKind e n z = plain resolveKind tt (plain_number resolveKind r.kind tt n) z
      try factorKind e n z = plain factorKind tt (plain_number factorKind r.kind tt n) z
      try severalKind e n z = plain severalKind tt (plain_number severalKind r.kind tt n) z
      try inputKind e n z = of_input n z
      try windowKind e n z = of_window n e z
      try otherKind e n z = absurd (true_not_false (step_passed S k otherKind r S' z).tested.0 refl)

-- ── What every record that stands keeps, records that stand keep ──
module _ (P : State → Type 0) (keeps : (S : State) (k : ℕ) (r : Record) (S' : State) → step S k r ≡ stands S' → P S → P S') where
  pub read_keeps : (S : State) (k : ℕ) (rs : List Record) (S' : State) → read S k rs ≡ all_stand S' → P S → P S'
  read_keeps S k [] S' q p = subst P (ending_stands q) p
  read_keeps S k (r ∷ rs) S' q p = try (step S k r) refl q (λ U z g. read_keeps U (suc k) rs S' z g)
    where
      try : (o : Result) → step S k r ≡ o → elim o [ stands U ↦ read U (suc k) rs | refused x ↦ refused_at S x k ] ≡ all_stand S' → ((U : State) → read U (suc k) rs ≡ all_stand S' → P U → P S') → P S'
      try (stands U) e z ih = ih U z (keeps S k r U e p)
      try (refused x) e z ih = absurd (stands_not_refused (sym z))

pub read_on_stands : (T Z : State) (j : ℕ) (r : Record) (rs : List Record) → step T j r ≡ stands Z → read T j (r ∷ rs) ≡ read Z (suc j) rs
read_on_stands T Z j r rs e = ap (λ (o : Result). elim o [ stands W ↦ read W (suc j) rs | refused x ↦ refused_at T x j ]) e

-- Only input clauses have days other than always.
pub record OnlyInputs (S : State) : Type 0 where
  pub others : (n : ℕ) → is_input (clause_of S n) ≡ false → days_in S n ≡ always

module _ (S : State) (k : ℕ) (r : Record) (S' : State) (q : step S k r ≡ stands S') (O : OnlyInputs S) where
  only_plain : (kind : Kind) → Kept S S' kind → OnlyInputs S'
  only_plain kind K = record { others = λ n h. ap (λ (ws : List Window). window_days (window_of ws n)) K.windows ∙ O.others n (sym (K.inputs n) ∙ h) }

  only_input : (days : Option (ℕ × ℕ)) → InputAdded S S' days → OnlyInputs S'
  only_input days A = record { others = λ n h. try n (eqb n (next_clause S)) refl (sym (A.inputs n) ∙ h) days refl }
    where
      try : (n : ℕ) (b : Bool) → eqb n (next_clause S) ≡ b → pick b true (is_input (clause_of S n)) ≡ false → (d : Option (ℕ × ℕ)) → days ≡ d → days_in S' n ≡ always
      try n true z h d e = absurd (true_not_false refl h)
      try n false z h none e = A.undated e n ∙ O.others n h
      try n false z h (some d) e = A.dated d.0 d.1 e n ∙ ap (λ (b : Bool). pick b (d.0, d.1) (days_in S n)) (eqb_swap (next_clause S) n ∙ z) ∙ O.others n h

  only_window : step_of S k windowKind r ≡ stands S' → OnlyInputs S'
  only_window z = record { others = λ n h. window_dates S k r S' z n ∙ try n (subst (λ (X : State). is_input (clause_of X n) ≡ false) (sym (window_added S k r S' z)) h) (eqb (field_a r) n) refl }
    where
      try : (n : ℕ) → is_input (clause_of S n) ≡ false → (b : Bool) → eqb (field_a r) n ≡ b → pick b (field_b r, field_c r) (days_in S n) ≡ always
      try n h true e = absurd (true_not_false (subst (λ (m : ℕ). is_input (clause_of S m) ≡ true) (equal (field_a r) n e) (window_names S k r S' z)) h)
      try n h false e = O.others n h

  pub only_kept : OnlyInputs S'
  only_kept =
      by_kind S k r S' (OnlyInputs S') q (λ kind p n z. only_plain kind (plain_kept S k r S' kind p z)) (λ e z. only_input r.days (input_added S k r S' z)) (λ n e z. only_window z)

pub only_inputs : (rs : List Record) (S : State) → read empty_state 0 rs ≡ all_stand S → OnlyInputs S
only_inputs rs S q = read_keeps OnlyInputs only_kept empty_state 0 rs S q (record { others = λ n h. refl })

-- Two states alike, in which each clause has the same days.
pub record SameDays (S T : State) : Type 0 where
  pub alike : Alike S T
  pub days : (n : ℕ) → days_in S n ≡ days_in T n
