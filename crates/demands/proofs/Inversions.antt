-- What the tests of a record say once they have passed, or failed.
use mathlib.Core.Path.{◌≡◌, refl, sym, ap, ap₂, ◌∙◌, subst}
use mathlib.Core.Logic.{◌⊎◌, inl, inr}
use mathlib.Core.Bool.{Bool, true, false, not}
use mathlib.Core.Option.{Option, none, some}
use mathlib.Core.List.{List, [], ◌∷◌, map}
use Prim.Native.Nat.{ℕ, suc, ◌≤◌, ◌<◌}
use native.Mathlib.Omega.{arith}
use lib.Dec.{eqb, leb, ltb, T, eqb→eq, eqb_refl, leb→le, ltb→lt, lt→ltb}
use lib.ListN.{length}
use Rattle.record.specs.Record.{pick, Record, otherKind, Kind, symbolKind, variableKind, applicationKind, inputKind, resolveKind, factorKind, severalKind, windowKind, field_a, field_b, field_c}
use Rattle.unification.specs.Environment.{Binding}
use Rattle.unification.specs.Unification.{Failure, Outcome, unified, failed}
use Rattle.unification.proofs.Lists.{Each}
use Rattle.unification.proofs.Rows.{Below, eqb_below}
use Rattle.unification.proofs.Tests.{to_t, from_t, both_true, true_not_false, some_not_none, some_injective}
use Rattle.derivation.specs.Derivation.{literals, Literal, RowLiteral, input_literals, Derivation, numbered, numbered_all, StrictlyRising}
use Rattle.derivation.proofs.Literals.{leb_false_lt}
use Rattle.verdict.specs.Refusal.{tests, outline_tests, in_order, Reason, reason_number, unification, kind_of_record, in_range, literal_in, literal_named, left_of, right_numbers, literals_in, right_of, deleted_of, is_there, is_input, has_arity, all_below, arguments_there, literal_rows_there, both_there, all_applications, equal_signs, all_opposite, opposite_signs, factor_signs, resolvent_fits, factor_fits, rising, resolve_tests}
use Rattle.verdict.specs.State.{State, with_clause, entry, clause_of, row_of}
use Rattle.verdict.specs.Step.{stands, refused, Result, require, require_all, enter, step, add_clause, on_named}

pub stands_same : {S T : State} → stands S ≡ stands T → S ≡ T
stands_same p = cc

pub refused_injective : {p q : Reason} → refused p ≡ refused q → p ≡ q
refused_injective e = cc

refused_not_stands : {q : Reason} {S : State} → refused q ≡ stands S → ⊥
refused_not_stands p = let z : ◌≡◌ {A = ℕ} 0 1 = cc in omega arith

stands_not_refused : {q : Reason} {S : State} → stands S ≡ refused q → ⊥
stands_not_refused p = let z : ◌≡◌ {A = ℕ} 0 1 = cc in omega arith

-- The test for a reason is the first of a list that fails; all tests of a list pass.
pub data FirstFailing : List (Bool × Reason) → Reason → Type 0 where
  fails_here : {t : Bool × Reason} {ts : List (Bool × Reason)} → t.0 ≡ false → FirstFailing (t ∷ ts) t.1
  passes_here : {t : Bool × Reason} {ts : List (Bool × Reason)} {reason : Reason} → t.0 ≡ true → FirstFailing ts reason → FirstFailing (t ∷ ts) reason

abbrev pub AllPass : List (Bool × Reason) → Type 0
AllPass [] = Unit {0}
AllPass (t ∷ ts) = (t.0 ≡ true) × AllPass ts

pub all_stand_lem : (ts : List (Bool × Reason)) (next : Result) (S : State) → require_all ts next ≡ stands S → AllPass ts × (next ≡ stands S)
unfolding require
all_stand_lem [] next S q = (tt, q)
all_stand_lem (t ∷ ts) next S q = try t.0 refl q (λ z. all_stand_lem ts next S z)
  where
    try : (b : Bool) → t.0 ≡ b → require b t.1 (require_all ts next) ≡ stands S → (require_all ts next ≡ stands S → AllPass ts × (next ≡ stands S)) → AllPass (t ∷ ts) × (next ≡ stands S)
    try true p z k = ((p, (k z).0), (k z).1)
    try false p z k = absurd (refused_not_stands z)

pub all_refused : (ts : List (Bool × Reason)) (next : Result) (q : Reason) → require_all ts next ≡ refused q → FirstFailing ts q ⊎ (AllPass ts × (next ≡ refused q))
unfolding require
all_refused [] next q e = inr (tt, e)
all_refused (t ∷ ts) next q e = try t.0 refl e (λ z. all_refused ts next q z)
  where
    more : t.0 ≡ true → FirstFailing ts q ⊎ (AllPass ts × (next ≡ refused q)) → FirstFailing (t ∷ ts) q ⊎ (AllPass (t ∷ ts) × (next ≡ refused q))
    more p (inl f) = inl (passes_here p f)
    more p (inr f) = inr ((p, f.0), f.1)

    try : (b : Bool) → t.0 ≡ b → require b t.1 (require_all ts next) ≡ refused q → (require_all ts next ≡ refused q → FirstFailing ts q ⊎ (AllPass ts × (next ≡ refused q)))
        → FirstFailing (t ∷ ts) q ⊎ (AllPass (t ∷ ts) × (next ≡ refused q))
    try true p z k = more p (k z)
    try false p z k = inl (subst (FirstFailing (t ∷ ts)) (refused_injective z) (fails_here p))

pub all_passed : (ts : List (Bool × Reason)) (next : Result) → AllPass ts → require_all ts next ≡ next
unfolding require
all_passed [] next a = refl
all_passed (t ∷ ts) next a = ap (λ (b : Bool). require b t.1 (require_all ts next)) a.0 ∙ all_passed ts next a.1

-- A record that stands has passed its tests and is entered.
pub step_stands : (S : State) (k : ℕ) (r : Record) (T : State) → step S k r ≡ stands T → AllPass (tests S (kind_of_record r) r) × (enter S k (kind_of_record r) r ≡ stands T)
step_stands S k r T q =
    let a = all_stand_lem (tests S (kind_of_record r) r) (require_all (outline_tests S (kind_of_record r) r) (enter S k (kind_of_record r) r)) T q in
    (a.0, (all_stand_lem (outline_tests S (kind_of_record r) r) (enter S k (kind_of_record r) r) T a.1).1)

-- A step that stands, or is refused, on the literals that it names.
pub named_stands : {A B : Type 0} (step : A → B → Result) (o : Option A) (p : Option B) (S : State) → on_named step o p ≡ stands S
    → (x : A) × (y : B) × (o ≡ some x) × (p ≡ some y) × (step x y ≡ stands S)
named_stands step none p S q = absurd (refused_not_stands q)
named_stands step (some x) none S q = absurd (refused_not_stands q)
named_stands step (some x) (some y) S q = (x, y, refl, refl, q)

-- A named literal is a literal of a clause that exists.
pub literal_named_lem : (S : State) (c n : ℕ) (x : Derivation × Literal) → literal_named S c n ≡ some x → (clause_of S c ≡ some x.0) × (numbered (literals x.0) n ≡ some x.1)
literal_named_lem S c n x q = clause (clause_of S c) refl q
  where
    pair : {d : Derivation} {l : Literal} → ◌≡◌ {A = Option (Derivation × Literal)} (some (d, l)) (some x) → (d ≡ x.0) × (l ≡ x.1)
    pair p = (ap (λ (y : Derivation × Literal). y.0) (some_injective p), ap (λ (y : Derivation × Literal). y.1) (some_injective p))

    literal : (d : Derivation) (o : Option Literal) → numbered (literals d) n ≡ o → elim o [ some l ↦ some (d, l) | none ↦ none ] ≡ some x → (d ≡ x.0) × (numbered (literals d) n ≡ some x.1)
    literal d none p z = absurd (some_not_none refl z)
    literal d (some l) p z = ((pair z).0, p ∙ ap some (pair z).1)

    clause : (o : Option Derivation) → clause_of S c ≡ o → literal_in n o ≡ some x → (clause_of S c ≡ some x.0) × (numbered (literals x.0) n ≡ some x.1)
    clause none p z = absurd (some_not_none refl z)
    clause (some d) p z =
        let r = literal d (numbered (literals d) n) refl z in
        (p ∙ ap some r.0, subst (λ (e : Derivation). numbered (literals e) n ≡ some x.1) r.0 r.1)

-- The named right literals are literals of a clause that exists.
pub literals_named : (S : State) (c : ℕ) (ns : List ℕ) (x : Derivation × List Literal) → literals_in ns (clause_of S c) ≡ some x → (clause_of S c ≡ some x.0) × (numbered_all (literals x.0) ns ≡ some x.1)
literals_named S c ns x q = clause (clause_of S c) refl q
  where
    pair : {d : Derivation} {ls : List Literal} → ◌≡◌ {A = Option (Derivation × List Literal)} (some (d, ls)) (some x) → (d ≡ x.0) × (ls ≡ x.1)
    pair p = (ap (λ (y : Derivation × List Literal). y.0) (some_injective p), ap (λ (y : Derivation × List Literal). y.1) (some_injective p))

    all : (d : Derivation) (o : Option (List Literal)) → numbered_all (literals d) ns ≡ o → elim o [ some ls ↦ some (d, ls) | none ↦ none ] ≡ some x → (d ≡ x.0) × (numbered_all (literals d) ns ≡ some x.1)
    all d none p z = absurd (some_not_none refl z)
    all d (some ls) p z = ((pair z).0, p ∙ ap some (pair z).1)

    clause : (o : Option Derivation) → clause_of S c ≡ o → literals_in ns o ≡ some x → (clause_of S c ≡ some x.0) × (numbered_all (literals x.0) ns ≡ some x.1)
    clause none p z = absurd (some_not_none refl z)
    clause (some d) p z =
        let r = all d (numbered_all (literals d) ns) refl z in
        (p ∙ ap some r.0, subst (λ (e : Derivation). numbered_all (literals e) ns ≡ some x.1) r.0 r.1)

pub is_there_lem : {A : Type 0} (o : Option A) → is_there o ≡ true → (a : A) × (o ≡ some a)
is_there_lem none q = absurd (true_not_false q refl)
is_there_lem (some a) q = (a, refl)

pub has_arity_lem : (n : ℕ) (o : Option ℕ) → has_arity n o ≡ true → o ≡ some n
has_arity_lem n none q = absurd (true_not_false q refl)
has_arity_lem n (some a) q = ap some (eqb→eq a n (to_t (eqb a n) q))

pub all_below_lem : (n : ℕ) (xs : List ℕ) → all_below n xs ≡ true → Below n xs
all_below_lem n [] q = tt
all_below_lem n (a ∷ xs) q =
    let p = both_true (ltb a n) (all_below n xs) q in
    (ltb→lt a n (to_t (ltb a n) p.0), all_below_lem n xs p.1)

pub rows_below : (n : ℕ) (ls : List RowLiteral) → all_below n (map (λ (l : RowLiteral). l.1) ls) ≡ true → Each (λ (l : RowLiteral). l.1 < n) ls
rows_below n [] q = tt
rows_below n (l ∷ ls) q =
    let p = both_true (ltb l.1 n) (all_below n (map (λ (l : RowLiteral). l.1) ls)) q in
    (ltb→lt l.1 n (to_t (ltb l.1 n) p.0), rows_below n ls p.1)

pub opposite_signs_lem : (s t : Bool) → not (equal_signs s t) ≡ true → t ≡ not s
opposite_signs_lem true true q = absurd (true_not_false q refl)
opposite_signs_lem true false q = refl
opposite_signs_lem false true q = refl
opposite_signs_lem false false q = absurd (true_not_false q refl)

-- Signs that are all opposite: the literals are atoms with the other sign.
pub all_opposite_lem : (s : Bool) (ls : List Literal) → all_opposite s ls ≡ true → ls ≡ map (λ d. (not s, d)) (map (λ (l : Literal). l.1) ls)
all_opposite_lem s [] q = refl
all_opposite_lem s (l ∷ ls) q =
    let p = both_true (not (equal_signs s l.0)) (all_opposite s ls) q in
    ap₂ (λ (b : Bool) (ms : List Literal). (b, l.1) ∷ ms) (opposite_signs_lem s l.0 p.0) (all_opposite_lem s ls p.1)

pub strictly_rising : (ns : List ℕ) → rising ns ≡ true → StrictlyRising ns
strictly_rising [] q = tt
strictly_rising (n ∷ []) q = tt
strictly_rising (n ∷ m ∷ ns) q =
    let p = both_true (ltb n m) (rising (m ∷ ns)) q in
    (ltb→lt n m (to_t (ltb n m) p.0), strictly_rising (m ∷ ns) p.1)

pub equal_signs_lem : (s t : Bool) → equal_signs s t ≡ true → t ≡ s
equal_signs_lem true true q = refl
equal_signs_lem true false q = absurd (true_not_false q refl)
equal_signs_lem false true q = absurd (true_not_false q refl)
equal_signs_lem false false q = refl

pub not_equal : (a b : ℕ) → not (eqb a b) ≡ true → ¬ (a ≡ b)
not_equal a b q p = try (eqb a b) (from_t (eqb a b) (subst (λ (c : ℕ). T (eqb a c)) p (eqb_refl a))) q
  where
    try : (c : Bool) → c ≡ true → not c ≡ true → ⊥
    try true x y = true_not_false y refl
    try false x y = true_not_false x refl

-- Entries of a list that has the newest first.
pub entry_below : {A : Type 0} (xs : List A) (n : ℕ) (a : A) → entry xs n ≡ some a → n < length xs
entry_below [] n a q = absurd (some_not_none refl q)
entry_below (x ∷ xs) n a q = try (eqb n (length xs)) refl q (λ p. entry_below xs n a p)
  where
    try : (b : Bool) → eqb n (length xs) ≡ b → pick b (some x) (entry xs n) ≡ some a → (entry xs n ≡ some a → n < length xs) → n < suc (length xs)
    try true p r k = let z : n ≡ length xs = eqb→eq n (length xs) (to_t (eqb n (length xs)) p) in omega arith
    try false p r k = let z = k r in omega arith

pub entry_more : {A : Type 0} (x : A) (xs : List A) (n : ℕ) (a : A) → entry xs n ≡ some a → entry (x ∷ xs) n ≡ some a
entry_more x xs n a q = rw (eqb_below n (length xs) (entry_below xs n a q)) q

pub entry_new : {A : Type 0} (x : A) (xs : List A) → entry (x ∷ xs) (length xs) ≡ some x
entry_new x xs = rw (from_t (eqb (length xs) (length xs)) (eqb_refl (length xs)))

pub entry_some : {A : Type 0} (xs : List A) (n : ℕ) → n < length xs → (a : A) × (entry xs n ≡ some a)
entry_some [] n l = absurd (omega arith)
entry_some {A} (x ∷ xs) n l = try (eqb n (length xs)) refl (λ m. entry_some xs n m)
  where
    try : (b : Bool) → eqb n (length xs) ≡ b → (n < length xs → (a : A) × (entry xs n ≡ some a)) → (a : A) × (pick b (some x) (entry xs n) ≡ some a)
    try true q ih = (x, refl)
    try false q ih = let m : ¬ (n ≡ length xs) = not_equal n (length xs) (rw q) in ih (omega arith)

pub entry_none : {A : Type 0} (xs : List A) (n : ℕ) → length xs ≤ n → entry xs n ≡ none
entry_none {A} xs n h = try (entry xs n) refl
  where
    try : (o : Option A) → entry xs n ≡ o → o ≡ none
    try none q = refl
    try (some a) q = let z = entry_below xs n a q in absurd (omega arith)

pub entry_each : {A : Type 0} (P : A → Type 0) (xs : List A) → Each P xs → (n : ℕ) (a : A) → entry xs n ≡ some a → P a
entry_each P [] h n a q = absurd (some_not_none refl q)
entry_each P (x ∷ xs) h n a q = try (eqb n (length xs)) q (λ p. entry_each P xs h.1 n a p)
  where
    try : (b : Bool) → pick b (some x) (entry xs n) ≡ some a → (entry xs n ≡ some a → P a) → P a
    try true p z = subst P (some_injective p) h.0
    try false p z = z p

-- A step's clause that is added, or refused by unification.
pub clause_added : (S : State) (k : ℕ) (clause : List Binding → Derivation) (o : Outcome) (T : State) → add_clause S k clause o ≡ stands T → (bs : List Binding) × (n : ℕ) × (o ≡ unified bs n) × (with_clause S k (clause bs) ≡ T)
unfolding add_clause
clause_added S k clause (unified bs n) T q = (bs, n, refl, stands_same q)
clause_added S k clause (failed f) T q = absurd (refused_not_stands q)

pub clause_refused : (S : State) (k : ℕ) (clause : List Binding → Derivation) (o : Outcome) (q : Reason) → add_clause S k clause o ≡ refused q → (f : Failure) × (o ≡ failed f) × (unification f ≡ q)
unfolding add_clause
clause_refused S k clause (unified bs n) q e = absurd (stands_not_refused e)
clause_refused S k clause (failed f) q e = (f, refl, refused_injective e)

pub never_both : {q : Reason} {S : State} (o : Result) → o ≡ stands S → o ≡ refused q → ⊥
never_both o p e = stands_not_refused (sym p ∙ e)

-- The tests of a record of each kind have passed, by name.
pub record PassedApplication (S : State) (r : Record) : Type 0 where
  pub ranged : in_range applicationKind r ≡ true
  pub there : arguments_there S r ≡ true

pub record PassedInput (S : State) (r : Record) : Type 0 where
  pub ranged : in_range inputKind r ≡ true
  pub there : literal_rows_there S r ≡ true
  pub days : in_order r.days ≡ true
  pub applications : all_applications (row_of S) (input_literals r) ≡ true

pub record PassedResolve (S : State) (kind : Kind) (r : Record) : Type 0 where
  pub ranged : in_range kind r ≡ true
  pub there : both_there (left_of S r) (right_of S kind r) ≡ true
  pub rises : rising (right_numbers kind r) ≡ true
  pub signs : opposite_signs S kind r ≡ true
  pub limits : resolvent_fits S kind r ≡ true

pub record PassedFactor (S : State) (r : Record) : Type 0 where
  pub ranged : in_range factorKind r ≡ true
  pub there : both_there (left_of S r) (deleted_of S r) ≡ true
  pub signs : factor_signs S r ≡ true
  pub limits : factor_fits S r ≡ true

pub record PassedWindow (S : State) (r : Record) : Type 0 where
  pub ranged : in_range windowKind r ≡ true
  pub there : is_input (clause_of S (field_a r)) ≡ true
  pub days : leb (field_b r) (field_c r) ≡ true

abbrev pub Passed : State → Kind → Record → Type 0
Passed S symbolKind r = in_range symbolKind r ≡ true
Passed S variableKind r = in_range variableKind r ≡ true
Passed S applicationKind r = PassedApplication S r
Passed S inputKind r = PassedInput S r
Passed S resolveKind r = PassedResolve S resolveKind r
Passed S severalKind r = PassedResolve S severalKind r
Passed S factorKind r = PassedFactor S r
Passed S windowKind r = PassedWindow S r
Passed S otherKind r = ⊥

-- The test that a list has for a number; true where it has none.
abbrev pub test_for : List (Bool × Reason) → ℕ → Bool
test_for [] n = true
test_for (t ∷ ts) n = pick (eqb (reason_number t.1) n) t.0 (test_for ts n)

pub passed_for : (ts : List (Bool × Reason)) → AllPass ts → (n : ℕ) → test_for ts n ≡ true
passed_for [] a n = refl
passed_for (t ∷ ts) a n = try (eqb (reason_number t.1) n) (passed_for ts a.1 n)
  where
    try : (b : Bool) → test_for ts n ≡ true → pick b t.0 (test_for ts n) ≡ true
    try true k = a.0
    try false k = k

resolve_passed : (S : State) (kind : Kind) (r : Record) → AllPass (resolve_tests S kind r) → PassedResolve S kind r
resolve_passed S kind r a =
    let p = passed_for (resolve_tests S kind r) a in
    record { ranged = p 4; there = p 5; rises = p 14; signs = p 8; limits = p 9 }

pub tests_passed : (S : State) (kind : Kind) (r : Record) → AllPass (tests S kind r) → Passed S kind r
tests_passed S symbolKind r a = passed_for (tests S symbolKind r) a 4
tests_passed S variableKind r a = passed_for (tests S variableKind r) a 4
tests_passed S applicationKind r a =
    let p = passed_for (tests S applicationKind r) a in
    record { ranged = p 4; there = p 5 }
tests_passed S inputKind r a =
    let p = passed_for (tests S inputKind r) a in
    record { ranged = p 4; there = p 5; days = p 16; applications = p 7 }
tests_passed S resolveKind r a = resolve_passed S resolveKind r a
tests_passed S severalKind r a = resolve_passed S severalKind r a
tests_passed S factorKind r a =
    let p = passed_for (tests S factorKind r) a in
    record { ranged = p 4; there = p 5; signs = p 8; limits = p 9 }
tests_passed S windowKind r a =
    let p = passed_for (tests S windowKind r) a in
    record { ranged = p 4; there = p 5; days = p 16 }
tests_passed S otherKind r a = true_not_false (passed_for (tests S otherKind r) a 3) refl

pub not_below : (i n : ℕ) → ltb i n ≡ false → n ≤ i
not_below i n q = try (leb n i) refl
  where
    try : (b : Bool) → leb n i ≡ b → n ≤ i
    try true p = leb→le n i (to_t (leb n i) p)
    try false p = let l : i < n = leb_false_lt n i p in absurd (true_not_false (from_t (ltb i n) (lt→ltb i n l)) q)
