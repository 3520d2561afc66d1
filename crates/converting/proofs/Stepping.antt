-- A record that stands on a state stands on every state alike, with other days beside it, and leaves states alike.
use mathlib.Core.Path.{◌≡◌, refl, sym, ap, ◌∙◌, subst}
use mathlib.Core.Bool.{Bool, true, false}
use mathlib.Core.Option.{Option, none, some}
use mathlib.Core.List.{List, [], ◌∷◌}
use Prim.Native.Nat.{ℕ}
use native.Mathlib.Omega.{arith}
use Rattle.record.specs.Record.{Record, Kind, otherKind, symbolKind, variableKind, applicationKind, inputKind, resolveKind, factorKind, severalKind, windowKind, field_a, field_b, field_c}
use Rattle.unification.specs.Environment.{Binding}
use Rattle.unification.specs.Row.{Row, row_at, variable}
use Rattle.unification.specs.Unification.{unify, Outcome, unified, failed}
use Rattle.derivation.specs.Derivation.{input, Derivation, resolve, factor, lookup, joined, maximum_index, pairs_with}
use Rattle.verdict.specs.Refusal.{tests, outline_tests, Reason, zero_days, in_order, left_of, right_of, right_numbers, deleted_of}
use Rattle.verdict.specs.State.{State, with_symbol, with_row, with_clause, with_days_beside, record_of_row, next_clause}
use Rattle.verdict.specs.Step.{stands, refused, Result, require, require_all, add_clause, atoms, unify_resolve, unify_factor, on_named, new_application, new_literals, enter_resolvent, enter}
use Rattle.converting.proofs.StatesAlike.{Alike, next_alike, left_alike, right_alike, deleted_alike, literal_rows_alike, applications_alike, tests_alike, outlines_alike, application_alike, literals_alike, with_symbol_lem, with_row_lem, with_clause_lem}
use Rattle.converting.proofs.KindsDated.{Plain, dated}

pub stands_same : {S T : State} → stands S ≡ stands T → S ≡ T
stands_same p = cc

pub refused_not_stands : {q : Reason} {S : State} → refused q ≡ stands S → ⊥
refused_not_stands p = let z : ◌≡◌ {A = ℕ} 0 1 = cc in omega arith

-- ── Tests passed ──
abbrev pub AllPass : List (Bool × Reason) → Type 0
AllPass [] = Unit {0}
AllPass (t ∷ ts) = (t.0 ≡ true) × AllPass ts

all_stand_lem : (ts : List (Bool × Reason)) (next : Result) (S : State) → require_all ts next ≡ stands S → AllPass ts × (next ≡ stands S)
unfolding require
all_stand_lem [] next S q = (tt, q)
all_stand_lem (t ∷ ts) next S q = try t.0 refl q (λ z. all_stand_lem ts next S z)
  where
    try : (b : Bool) → t.0 ≡ b → require b t.1 (require_all ts next) ≡ stands S → (require_all ts next ≡ stands S → AllPass ts × (next ≡ stands S)) → AllPass (t ∷ ts) × (next ≡ stands S)
    try true p z k = ((p, (k z).0), (k z).1)
    try false p z k = absurd (refused_not_stands z)

all_passed : (ts : List (Bool × Reason)) (next : Result) → AllPass ts → require_all ts next ≡ next
unfolding require
all_passed [] next a = refl
all_passed (t ∷ ts) next a = ap (λ (b : Bool). require b t.1 (require_all ts next)) a.0 ∙ all_passed ts next a.1

-- A record of a kind, on a state.
abbrev pub step_of : State → ℕ → Kind → Record → Result
step_of S k kind r = require_all (tests S kind r) (require_all (outline_tests S kind r) (enter S k kind r))

pub record Passed (S : State) (k : ℕ) (kind : Kind) (r : Record) (S' : State) : Type 0 where
  pub tested : AllPass (tests S kind r)
  pub outlined : AllPass (outline_tests S kind r)
  pub entered : enter S k kind r ≡ stands S'

pub step_passed : (S : State) (k : ℕ) (kind : Kind) (r : Record) (S' : State) → step_of S k kind r ≡ stands S' → Passed S k kind r S'
step_passed S k kind r S' q =
    let a = all_stand_lem (tests S kind r) (require_all (outline_tests S kind r) (enter S k kind r)) S' q in
    let b = all_stand_lem (outline_tests S kind r) (enter S k kind r) S' a.1 in
    record { tested = a.0; outlined = b.0; entered = b.1 }

pub passed_step : (S : State) (k : ℕ) (kind : Kind) (r : Record) (S' : State) → Passed S k kind r S' → step_of S k kind r ≡ stands S'
passed_step S k kind r S' p =
    all_passed (tests S kind r) (require_all (outline_tests S kind r) (enter S k kind r)) p.tested
    ∙ all_passed (outline_tests S kind r) (enter S k kind r) p.outlined ∙ p.entered

-- ── A step's clause ──
module _ {A B : Type 0} (clause : A → B → List Binding → Derivation) (outcome : A → B → Outcome) where
  -- The clause that a step has added to one state is added to every other.
  pub record Added (x : Option A) (y : Option B) (S : State) (k : ℕ) (S' : State) : Type 0 where
    pub left : A
    pub right : B
    pub bindings : List Binding
    pub here : with_clause S k (clause left right bindings) ≡ S'
    pub there : (T : State) (j : ℕ) → on_named (λ a b. add_clause T j (clause a b) (outcome a b)) x y ≡ stands (with_clause T j (clause left right bindings))

  pub named_adds : (x : Option A) (y : Option B) (S : State) (k : ℕ) (S' : State) → on_named (λ a b. add_clause S k (clause a b) (outcome a b)) x y ≡ stands S' → Added x y S k S'
  unfolding add_clause
  named_adds none y S k S' q = absurd (refused_not_stands q)
  named_adds (some a) none S k S' q = absurd (refused_not_stands q)
  named_adds (some a) (some b) S k S' q = try (outcome a b) refl q
    where
      try : (o : Outcome) → outcome a b ≡ o → add_clause S k (clause a b) o ≡ stands S' → Added (some a) (some b) S k S'
      try (unified bs n) e z = record { left = a; right = b; bindings = bs; here = stands_same z; there = λ T j. ap (add_clause T j (clause a b)) e }
      try (failed f) e z = absurd (refused_not_stands z)

-- ── The same on a state alike ──
module _ (S T : State) (A : Alike S T) (k j : ℕ) (r : Record) (days : Option (ℕ × ℕ)) (S' : State) where
  pub record Goes (kind : Kind) : Type 0 where
    pub next : State
    pub enters : enter T j kind (dated r days) ≡ stands next
    pub alike : Alike S' next

  row_goes : (w u : Row) (m n : ℕ) → w ≡ u → with_row S m w ≡ S' → Alike S' (with_row T n u)
  row_goes w u m n e q = subst (λ (X : State). Alike X (with_row T n u)) q (with_row_lem S T A m n w u e)

  clause_goes : (c : Derivation) → with_clause S k c ≡ S' → Alike S' (with_clause T j c)
  clause_goes c q = subst (λ (X : State). Alike X (with_clause T j c)) q (with_clause_lem S T A k j c c refl)

  resolvent_alike : (kind : Kind)
      → on_named (λ x y. add_clause T j (resolve (next_clause S) x.0 (field_b r) y.0 (right_numbers kind r)) (unify_resolve S x y)) (left_of S r) (right_of S kind r) ≡ enter_resolvent T j kind r
  resolvent_alike kind = λ i.
      on_named
      (λ x y.
      add_clause T j (resolve (next_alike S T A i) x.0 (field_b r) y.0 (right_numbers kind r))
      (unify (row_at (A.same_rows i)) (A.same_total i) (joined (maximum_index x.0) (lookup x.0) (lookup y.0)) (pairs_with (maximum_index x.0) x.1.1 (atoms y.1))))
      (left_alike S T A r i) (right_alike S T A kind r i)

  resolvent_goes : (kind : Kind) → enter_resolvent S k kind r ≡ stands S' → (U : State) × (enter_resolvent T j kind r ≡ stands U) × Alike S' U
  resolvent_goes kind q =
      let a = named_adds (λ x y. resolve (next_clause S) x.0 (field_b r) y.0 (right_numbers kind r)) (unify_resolve S) (left_of S r) (right_of S kind r) S k S' q in
      let c = resolve (next_clause S) a.left.0 (field_b r) a.right.0 (right_numbers kind r) a.bindings in
      (with_clause T j c, sym (resolvent_alike kind) ∙ a.there T j, clause_goes c a.here)

  factor_alike : on_named (λ x y. add_clause T j (factor (next_clause S) x.0 (field_b r) (field_c r)) (unify_factor S x y)) (left_of S r) (deleted_of S r) ≡ enter T j factorKind r
  factor_alike = λ i.
      on_named (λ x y. add_clause T j (factor (next_alike S T A i) x.0 (field_b r) (field_c r)) (unify (row_at (A.same_rows i)) (A.same_total i) (lookup x.0) ((x.1.1, y.1.1) ∷ [])))
      (left_alike S T A r i) (deleted_alike S T A r i)

  enter_goes : (kind : Kind) → Plain kind → enter S k kind r ≡ stands S' → Goes kind
  enter_goes symbolKind p q = record { next = with_symbol T j r.count; enters = refl; alike = subst (λ (X : State). Alike X (with_symbol T j r.count)) (stands_same q) (with_symbol_lem S T A k j r.count) }
  enter_goes variableKind p q = record { next = _; enters = refl; alike = row_goes (variable (field_a r)) (variable (field_a r)) (record_of_row S k (variable (field_a r))) (record_of_row T j (variable (field_a r))) refl (stands_same q) }
  enter_goes applicationKind p q = record {
    next = _;
    enters = refl;
    alike = row_goes (new_application S r) (new_application T r) (record_of_row S k (new_application S r)) (record_of_row T j (new_application T r)) (application_alike S T A r) (stands_same q);
  }
  enter_goes resolveKind p q = let a = resolvent_goes resolveKind q in record { next = a.0; enters = a.1; alike = a.2 }
  enter_goes severalKind p q = let a = resolvent_goes severalKind q in record { next = a.0; enters = a.1; alike = a.2 }
  enter_goes factorKind p q =
      let a = named_adds (λ x y. factor (next_clause S) x.0 (field_b r) (field_c r)) (unify_factor S) (left_of S r) (deleted_of S r) S k S' q in
      let c = factor (next_clause S) a.left.0 (field_b r) (field_c r) a.bindings in
      record { next = with_clause T j c; enters = sym factor_alike ∙ a.there T j; alike = clause_goes c a.here }
  enter_goes inputKind p q = absurd p
  enter_goes windowKind p q = absurd p
  enter_goes otherKind p q = absurd p

  -- A record that no day matters to.
  pub record Follows (kind : Kind) : Type 0 where
    pub next : State
    pub steps : step_of T j kind (dated r days) ≡ stands next
    pub alike : Alike S' next

  pub plain_follows : zero_days r.days ≡ zero_days days → (kind : Kind) → Plain kind → step_of S k kind r ≡ stands S' → Follows kind
  plain_follows z kind p q =
      let a = step_passed S k kind r S' q in
      let g = enter_goes kind p a.entered in
      record {
        next = g.next;
        steps = passed_step T j kind (dated r days) g.next (record {
          tested = subst AllPass (tests_alike S T A r days z kind p) a.tested;
          outlined = subst AllPass (outlines_alike S T A r days z kind p) a.outlined;
          entered = g.enters;
        });
        alike = g.alike;
      }

  -- An input clause: its days are only to be in order.
  abbrev input_after : State
  input_after = with_days_beside (with_clause T j (input (next_clause T) (new_literals T r))) (next_clause T) days

  beside_alike : (X Y : State) (m n : ℕ) (d e : Option (ℕ × ℕ)) → Alike X Y → Alike (with_days_beside X m d) (with_days_beside Y n e)
  beside_alike X Y m n none none B = record { same_arities = B.same_arities; same_rows = B.same_rows; same_clauses = B.same_clauses; same_total = B.same_total }
  beside_alike X Y m n none (some e) B = record { same_arities = B.same_arities; same_rows = B.same_rows; same_clauses = B.same_clauses; same_total = B.same_total }
  beside_alike X Y m n (some d) none B = record { same_arities = B.same_arities; same_rows = B.same_rows; same_clauses = B.same_clauses; same_total = B.same_total }
  beside_alike X Y m n (some d) (some e) B = record { same_arities = B.same_arities; same_rows = B.same_rows; same_clauses = B.same_clauses; same_total = B.same_total }

  pub input_follows : in_order days ≡ true → step_of S k inputKind r ≡ stands S' → (step_of T j inputKind (dated r days) ≡ stands input_after) × Alike S' input_after
  input_follows o q =
      let a = step_passed S k inputKind r S' q in (
        passed_step T j inputKind (dated r days) input_after (record {
          tested = (a.tested.0, (sym (literal_rows_alike S T A r) ∙ a.tested.1.0, (o, (sym (applications_alike S T A r) ∙ a.tested.1.1.1.0, tt))));
          outlined = tt;
          entered = refl;
        }),
        subst (λ (X : State). Alike X input_after) (stands_same a.entered) (
            beside_alike (with_clause S k (input (next_clause S) (new_literals S r))) (with_clause T j (input (next_clause T) (new_literals T r))) (next_clause S) (next_clause T) r.days days (
            with_clause_lem S T A k j (input (next_clause S) (new_literals S r)) (input (next_clause T) (new_literals T r)) (λ i. input (next_alike S T A i) (literals_alike S T A r i)))),
      )
