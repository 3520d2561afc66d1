-- Rows as terms over variable numbers: the rows of a state have the terms of the rows as written, and equal terms are those of equal rows.
use mathlib.Core.Path.{◌≡◌, refl, sym, ap, ap₂, ◌∙◌, subst}
use mathlib.Core.Bool.{Bool, true, false}
use mathlib.Core.List.{List, [], ◌∷◌, map}
use Prim.Native.Nat.{ℕ, suc, ◌<◌}
use native.Mathlib.Omega.{arith}
use lib.Dec.{eqb, ltb, ltb→lt}
use lib.ListN.{length}
use Rattle.record.specs.Record.{pick, Record, otherKind, Kind, symbolKind, variableKind, applicationKind, inputKind, resolveKind, factorKind, severalKind, windowKind, field_a, field_b, field_c}
use Rattle.unification.specs.Repeated.{IsEarliest, earliest_row}
use Rattle.unification.specs.Row.{variable, Row, application, row_at, term_at, argument_terms}
use Rattle.unification.specs.Term.{Term, app, cons}
use Rattle.unification.proofs.Lists.{Each}
use Rattle.unification.proofs.Repeats.{earliest_equal_lem, earliest_itself, earliest_same, earliest_absent}
use Rattle.unification.proofs.Rows.{eqb_below, below_other}
use Rattle.unification.proofs.Tests.{to_t}
use Rattle.derivation.specs.Derivation.{resolve, factor}
use Rattle.verdict.specs.Refusal.{kind_of_record, argument_rows, left_of, right_numbers, right_of, deleted_of}
use Rattle.demands.specs.Repeats.{with_written, written_after, number_term, term_by_numbers}
use Rattle.verdict.specs.State.{State, rows_of, next_clause, term_of}
use Rattle.verdict.specs.Step.{stands, refused, Result, step, unify_resolve, unify_factor, new_application, enter_resolvent, enter, read, all_stand, refused_at}
use Rattle.demands.proofs.Inversions.{stands_same, step_stands, named_stands, clause_added, not_below, never_both}
use Rattle.verdict.proofs.Endings.{ending_stands, stands_not_refused}
use Rattle.demands.proofs.Shared.{ArgumentsEarliest, SharedRows, Shared, arguments_at, step_shared}

-- ── The term of a row ──

-- It depends on the terms of the rows before alone.
arguments_ext : (f g : ℕ → Term ℕ) (ws : List Row) → ((a : ℕ) → a < length ws → f a ≡ g a) → (xs : List ℕ) → Each (IsEarliest ws) xs → argument_terms f xs ≡ argument_terms g xs
arguments_ext f g ws h [] k = refl
arguments_ext f g ws h (a ∷ xs) k = ap₂ cons (h a k.0.there) (arguments_ext f g ws h xs k.1)

number_ext : (f g : ℕ → Term ℕ) (ws : List Row) → ((a : ℕ) → a < length ws → f a ≡ g a) → (w : Row) → ArgumentsEarliest ws w → number_term f w ≡ number_term g w
number_ext f g ws h (variable v) k = refl
number_ext f g ws h (application s xs) k = ap (app s) (arguments_ext f g ws h xs k)

number_old : (w : Row) (ws : List Row) (a : ℕ) → a < length ws → term_by_numbers ws a ≡ term_by_numbers (w ∷ ws) a
number_old w ws a l = rw (eqb_below a (length ws) l)

pub number_law : (ws : List Row) → SharedRows ws → (r : ℕ) → r < length ws → term_by_numbers ws r ≡ number_term (term_by_numbers ws) (row_at ws r)
number_law [] h r l = absurd (omega arith)
number_law (w ∷ ws) h r l = try (eqb r (length ws)) refl (λ m. number_law ws h.1 r m)
  where
    try : (b : Bool) → eqb r (length ws) ≡ b → (r < length ws → term_by_numbers ws r ≡ number_term (term_by_numbers ws) (row_at ws r))
        → pick b (number_term (term_by_numbers ws) w) (term_by_numbers ws r) ≡ number_term (term_by_numbers (w ∷ ws)) (pick b w (row_at ws r))
    try true q ih = number_ext (term_by_numbers ws) (term_by_numbers (w ∷ ws)) ws (number_old w ws) w h.0
    try false q ih =
        let m = below_other r (length ws) q l in
        ih m ∙ number_ext (term_by_numbers ws) (term_by_numbers (w ∷ ws)) ws (number_old w ws) (row_at ws r) (arguments_at ws h.1 r m)

-- A row and the earliest equal one have one term.
pub earliest_term : (ws : List Row) → SharedRows ws → (r : ℕ) → term_by_numbers ws (earliest_row ws r) ≡ term_by_numbers ws r
earliest_term ws h r = try (ltb r (length ws)) refl
  where
    try : (b : Bool) → ltb r (length ws) ≡ b → term_by_numbers ws (earliest_row ws r) ≡ term_by_numbers ws r
    try true q =
        let l = ltb→lt r (length ws) (to_t (ltb r (length ws)) q) in
        let F = earliest_equal_lem ws r l in
        number_law ws h (earliest_row ws r) F.earliest.there ∙ ap (number_term (term_by_numbers ws)) F.equals ∙ sym (number_law ws h r l)
    try false q = ap (term_by_numbers ws) (earliest_absent ws r (not_below r (length ws) q))

-- ── Rows with equal terms are equal ──

-- Given that the rows ws with equal terms are equal.
module _ (ws : List Row) (alike : (p q : ℕ) → p < length ws → q < length ws → term_by_numbers ws p ≡ term_by_numbers ws q → row_at ws p ≡ row_at ws q) where
  same_number : (p q : ℕ) → IsEarliest ws p → IsEarliest ws q → term_by_numbers ws p ≡ term_by_numbers ws q → p ≡ q
  same_number p q P Q e = sym (earliest_itself ws p P) ∙ earliest_same ws p q P.there Q.there (alike p q P.there Q.there e) ∙ earliest_itself ws q Q

  same_arguments : (xs ys : List ℕ) → Each (IsEarliest ws) xs → Each (IsEarliest ws) ys → argument_terms (term_by_numbers ws) xs ≡ argument_terms (term_by_numbers ws) ys → xs ≡ ys
  same_arguments [] [] h k e = refl
  same_arguments [] (y ∷ ys) h k e = absurd (let z : ◌≡◌ {A = ℕ} 0 1 = cc in omega arith)
  same_arguments (x ∷ xs) [] h k e = absurd (let z : ◌≡◌ {A = ℕ} 0 1 = cc in omega arith)
  same_arguments (x ∷ xs) (y ∷ ys) h k e =
      let first : term_by_numbers ws x ≡ term_by_numbers ws y = cc in
      let rest : argument_terms (term_by_numbers ws) xs ≡ argument_terms (term_by_numbers ws) ys = cc in
      ap₂ (λ (z : ℕ) (zs : List ℕ). z ∷ zs) (same_number x y h.0 k.0 first) (same_arguments xs ys h.1 k.1 rest)

  same_row_lem : (w u : Row) → ArgumentsEarliest ws w → ArgumentsEarliest ws u → number_term (term_by_numbers ws) w ≡ number_term (term_by_numbers ws) u → w ≡ u
  same_row_lem (variable v) (variable x) h k e = let z : v ≡ x = cc in ap variable z
  same_row_lem (variable v) (application t ys) h k e = absurd (let z : ◌≡◌ {A = ℕ} 0 1 = cc in omega arith)
  same_row_lem (application s xs) (variable x) h k e = absurd (let z : ◌≡◌ {A = ℕ} 0 1 = cc in omega arith)
  same_row_lem (application s xs) (application t ys) h k e =
      let z : s ≡ t = cc in
      let arguments : argument_terms (term_by_numbers ws) xs ≡ argument_terms (term_by_numbers ws) ys = cc in
      ap₂ application z (same_arguments xs ys h k arguments)

pub equal_terms : (ws : List Row) → SharedRows ws → (p q : ℕ) → p < length ws → q < length ws → term_by_numbers ws p ≡ term_by_numbers ws q → row_at ws p ≡ row_at ws q
equal_terms [] h p q l m e = absurd (omega arith)
equal_terms (w ∷ ws) h p q l m e = try (eqb p (length ws)) (eqb q (length ws)) refl refl (equal_terms ws h.1) e
  where
    older : ((p q : ℕ) → p < length ws → q < length ws → term_by_numbers ws p ≡ term_by_numbers ws q → row_at ws p ≡ row_at ws q) → (r : ℕ) → r < length ws → number_term (term_by_numbers ws) w ≡ term_by_numbers ws r → w ≡ row_at ws r
    older ih r k z = same_row_lem ws ih w (row_at ws r) h.0 (arguments_at ws h.1 r k) (z ∙ number_law ws h.1 r k)

    try : (b c : Bool) → eqb p (length ws) ≡ b → eqb q (length ws) ≡ c → ((p q : ℕ) → p < length ws → q < length ws → term_by_numbers ws p ≡ term_by_numbers ws q → row_at ws p ≡ row_at ws q)
        → pick b (number_term (term_by_numbers ws) w) (term_by_numbers ws p) ≡ pick c (number_term (term_by_numbers ws) w) (term_by_numbers ws q) → pick b w (row_at ws p) ≡ pick c w (row_at ws q)
    try true true x y ih z = refl
    try true false x y ih z = older ih q (below_other q (length ws) y m) z
    try false true x y ih z = sym (older ih p (below_other p (length ws) x l) (sym z))
    try false false x y ih z = ih p q (below_other p (length ws) x l) (below_other q (length ws) y m) z

-- ── The rows of a state and the rows as written ──

-- The rows that a record which stands leaves.
abbrev pub rows_entered : State → Kind → Record → List Row
rows_entered S variableKind r = variable (field_a r) ∷ rows_of S
rows_entered S applicationKind r = new_application S r ∷ rows_of S
rows_entered S symbolKind r = rows_of S
rows_entered S inputKind r = rows_of S
rows_entered S resolveKind r = rows_of S
rows_entered S severalKind r = rows_of S
rows_entered S factorKind r = rows_of S
rows_entered S windowKind r = rows_of S
rows_entered S otherKind r = rows_of S

resolvent_rows : (S : State) (k : ℕ) (r : Record) (T : State) (kind : Kind) → enter_resolvent S k kind r ≡ stands T → rows_of T ≡ rows_of S
resolvent_rows S k r T kind q =
    let s = named_stands _ (left_of S r) (right_of S kind r) T q in
    let c = clause_added S k (resolve (next_clause S) s.0.0 (field_b r) s.1.0 (right_numbers kind r)) (unify_resolve S s.0 s.1) T s.4 in
    sym (ap rows_of c.3)

pub entered_rows : (S : State) (k : ℕ) (r : Record) (T : State) (kind : Kind) → enter S k kind r ≡ stands T → rows_of T ≡ rows_entered S kind r
entered_rows S k r T symbolKind q = sym (ap rows_of (stands_same q))
entered_rows S k r T variableKind q = sym (ap rows_of (stands_same q))
entered_rows S k r T applicationKind q = sym (ap rows_of (stands_same q))
entered_rows S k r T inputKind q = sym (ap rows_of (stands_same q))
entered_rows S k r T resolveKind q = resolvent_rows S k r T resolveKind q
entered_rows S k r T severalKind q = resolvent_rows S k r T severalKind q
entered_rows S k r T factorKind q =
    let s = named_stands _ (left_of S r) (deleted_of S r) T q in
    let c = clause_added S k (factor (next_clause S) s.0.0 (field_b r) (field_c r)) (unify_factor S s.0 s.1) T s.4 in
    sym (ap rows_of c.3)
entered_rows S k r T windowKind q = sym (ap rows_of (stands_same q))
entered_rows S k r T otherKind q = absurd (never_both (enter S k otherKind r) q refl)

-- A row added changes no term of those before it.
term_stays : (w : Row) (ws : List Row) (r : ℕ) → r < length ws → term_at (w ∷ ws) r ≡ term_at ws r
term_stays w ws r l = rw (eqb_below r (length ws) l)

pub terms_stay_lem : (S : State) (k : ℕ) (r : Record) (T : State) → step S k r ≡ stands T → (q : ℕ) → q < length (rows_of S) → term_of T q ≡ term_of S q
terms_stay_lem S k r T e q l = ap (λ (ws : List Row). term_at ws q) (entered_rows S k r T (kind_of_record r) (step_stands S k r T e).1) ∙ by (kind_of_record r)
  where
    by : (kind : Kind) → term_at (rows_entered S kind r) q ≡ term_at (rows_of S) q
    by variableKind = term_stays (variable (field_a r)) (rows_of S) q l
    by applicationKind = term_stays (new_application S r) (rows_of S) q l
    by symbolKind = refl
    by inputKind = refl
    by resolveKind = refl
    by severalKind = refl
    by factorKind = refl
    by windowKind = refl
    by otherKind = refl

-- Two lists of rows with the same terms at the same numbers.
pub record SameTerms (ws us : List Row) : Type 0 where
  pub same_length : length ws ≡ length us
  pub terms : (r : ℕ) → term_by_numbers ws r ≡ term_by_numbers us r

pub no_rows : SameTerms [] []
no_rows = record { same_length = refl; terms = λ r. refl }

one_more : (ws us : List Row) → SameTerms ws us → (w u : Row) → number_term (term_by_numbers ws) w ≡ number_term (term_by_numbers us) u → SameTerms (w ∷ ws) (u ∷ us)
one_more ws us A w u e = record { same_length = ap suc A.same_length; terms = λ r i. pick (eqb r (A.same_length i)) (e i) (A.terms r i) }

arguments_same : (ws us : List Row) → SharedRows ws → SameTerms ws us → (xs : List ℕ) → argument_terms (term_by_numbers ws) (map (earliest_row ws) xs) ≡ argument_terms (term_by_numbers us) xs
arguments_same ws us h A [] = refl
arguments_same ws us h A (x ∷ xs) = ap₂ cons (earliest_term ws h x ∙ A.terms x) (arguments_same ws us h A xs)

after_same : (S : State) (us : List Row) (r : Record) → SharedRows (rows_of S) → SameTerms (rows_of S) us → (kind : Kind) → SameTerms (rows_entered S kind r) (with_written us kind r)
after_same S us r h A variableKind = one_more (rows_of S) us A (variable (field_a r)) (variable (field_a r)) refl
after_same S us r h A applicationKind = one_more (rows_of S) us A (new_application S r) (application (field_a r) (argument_rows r)) (ap (app (field_a r)) (arguments_same (rows_of S) us h A (argument_rows r)))
after_same S us r h A symbolKind = A
after_same S us r h A inputKind = A
after_same S us r h A resolveKind = A
after_same S us r h A severalKind = A
after_same S us r h A factorKind = A
after_same S us r h A windowKind = A
after_same S us r h A otherKind = A

step_same : (S : State) (us : List Row) (k : ℕ) (r : Record) (T : State) → Shared S → SameTerms (rows_of S) us → step S k r ≡ stands T → SameTerms (rows_of T) (with_written us (kind_of_record r) r)
step_same S us k r T h A q =
    subst (λ (ws : List Row). SameTerms ws (with_written us (kind_of_record r) r)) (sym (entered_rows S k r T (kind_of_record r) (step_stands S k r T q).1)) (after_same S us r h.rows_shared A (kind_of_record r))

-- All along, by the records read.
pub record ReadSame (S : State) (us : List Row) : Type 0 where
  pub shared : Shared S
  pub same : SameTerms (rows_of S) us

pub read_same : (S : State) (k : ℕ) (rs : List Record) (us : List Row) (T : State) → ReadSame S us → read S k rs ≡ all_stand T → ReadSame T (written_after us rs)
read_same S k [] us T h q = subst (λ (U : State). ReadSame U us) (ending_stands q) h
read_same S k (r ∷ rs) us T h q = try (step S k r) refl q (λ U g p. read_same U (suc k) rs (with_written us (kind_of_record r) r) T g p)
  where
    try : (o : Result) → step S k r ≡ o → elim o [ stands U ↦ read U (suc k) rs | refused p ↦ refused_at S p k ] ≡ all_stand T
        → ((U : State) → ReadSame U (with_written us (kind_of_record r) r) → read U (suc k) rs ≡ all_stand T → ReadSame T (written_after (with_written us (kind_of_record r) r) rs))
        → ReadSame T (written_after (with_written us (kind_of_record r) r) rs)
    try (stands U) e p ih = ih U (record { shared = step_shared S k r U h.shared e; same = step_same S us k r U h.shared h.same e }) p
    try (refused p) e z ih = absurd (stands_not_refused (sym z))
