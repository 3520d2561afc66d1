-- A record that stands adds what the table of kinds says.
use mathlib.Core.Path.{◌≡◌, refl, sym, ap, ◌∙◌, subst, subst₂}
use mathlib.Core.Bool.{Bool, true, false}
use mathlib.Core.Option.{Option, none, some}
use mathlib.Core.List.{List, [], ◌∷◌, map}
use Prim.Native.Nat.{ℕ, zero, suc, ◌+◌, ◌*◌, ◌/◌, ◌%◌, ◌≤◌, ◌<◌}
use native.Mathlib.Omega.{arith}
use lib.Dec.{eqb, leb}
use lib.ListN.{length, get_or, take, drop, length-take, length-drop, length-map}
use lib.Seq.{get_or-take, get_or-drop}
use Rattle.record.specs.Record.{pick, Record, otherKind, Kind, symbolKind, variableKind, applicationKind, inputKind, resolveKind, factorKind, severalKind, windowKind, field_a, field_b, field_c}
use Rattle.unification.specs.Environment.{Binding, Environment}
use Rattle.unification.specs.Repeated.{earliest_equal, or_same}
use Rattle.unification.specs.Row.{variable, Row}
use Rattle.unification.specs.Unification.{unify, most_work, most_links, unified, Pair, unifying, no_room, Reaches}
use Rattle.unification.proofs.Failures.{unified_reached}
use Rattle.unification.proofs.Limits.{bindings_8192, work_16384}
use Rattle.unification.proofs.Lists.{Each}
use Rattle.unification.proofs.Repeats.{FoundEqual, earliest_none, earliest_found, earliest_equal_lem}
use Rattle.unification.proofs.Rows.{Below}
use Rattle.unification.proofs.Tests.{both_true, some_not_none, some_injective}
use Rattle.derivation.proofs.Literals.{each_numbered}
use Rattle.derivation.specs.Derivation.{RowLiteral, literal_of, input_literals, resolve, factor, numbered}
use Rattle.demands.specs.Conditions.{field_numbered, of_application, of_input}
use Rattle.demands.specs.Demands.{EarliestEqual, RecordOfRow, own_record, earliest_record, Binds, Adds, adds_symbol, adds_variable, adds_application, adds_input, adds_resolvent, adds_factor, adds_window}
use Rattle.verdict.specs.Refusal.{kind_of_record, in_range, has_arity, all_below, argument_rows, left_of, right_numbers, right_of, deleted_of}
use Rattle.verdict.specs.State.{State, entry, rows_of, arity_of, row_of, earliest_of, record_of_row, next_clause}
use Rattle.verdict.specs.Step.{stands, step, unify_resolve, unify_factor, new_application, new_literals, enter_resolvent, enter}
use Rattle.demands.proofs.RangeTests.{IsResolve, on_one, on_several, of_kind_lem, range_fits, equal, unequal}
use Rattle.demands.proofs.StepTests.{resolves, factors}
use Rattle.demands.proofs.Inversions.{tests_passed, stands_same, step_stands, named_stands, clause_added, all_below_lem, rows_below, entry_some, Passed}

-- The number of a literal is the field that it is read off.
number_back : (n : ℕ) → 2 * (literal_of n).1 + pick (literal_of n).0 1 0 ≡ n
number_back n = try (eqb (n % 2) 1) refl
  where
    try : (b : Bool) → eqb (n % 2) 1 ≡ b → 2 * (n / 2) + pick b 1 0 ≡ n
    try true q = let e = equal (n % 2) 1 q in omega arith
    try false q = let e = unequal (n % 2) 1 q in omega arith

numbered_literal_lem : (xs : List ℕ) (i : ℕ) (l : RowLiteral) → numbered (map literal_of xs) (suc i) ≡ some l → l ≡ literal_of (get_or xs i 0)
numbered_literal_lem [] i l q = absurd (some_not_none refl q)
numbered_literal_lem (x ∷ xs) zero l q = sym (some_injective q)
numbered_literal_lem (x ∷ xs) (suc i) l q = numbered_literal_lem xs i l q

numbered_few : (xs : List ℕ) (i : ℕ) (l : RowLiteral) → numbered (map literal_of xs) (suc i) ≡ some l → i < length xs
numbered_few [] i l q = absurd (some_not_none refl q)
numbered_few (x ∷ xs) zero l q = omega arith
numbered_few (x ∷ xs) (suc i) l q = let z = numbered_few xs i l q in omega arith

-- Elements of a list that is mapped.
element_of : (P : ℕ → Type 0) (xs : List ℕ) → Each P xs → (i : ℕ) → i < length xs → P (get_or xs i 0)
element_of P [] h i l = absurd (omega arith)
element_of P (x ∷ xs) h zero l = h.0
element_of P (x ∷ xs) h (suc i) l = element_of P xs h.1 i (omega arith)

element_mapped : (f : ℕ → ℕ) (xs : List ℕ) (i : ℕ) → i < length xs → get_or (map f xs) i 0 ≡ f (get_or xs i 0)
element_mapped f [] i l = absurd (omega arith)
element_mapped f (x ∷ xs) zero l = refl
element_mapped f (x ∷ xs) (suc i) l = element_mapped f xs i (omega arith)

numbered_mapped : (f : RowLiteral → RowLiteral) (xs : List RowLiteral) (i : ℕ) (l : RowLiteral) → numbered (map f xs) (suc i) ≡ some l → (x : RowLiteral) × (numbered xs (suc i) ≡ some x) × (f x ≡ l)
numbered_mapped f [] i l q = absurd (some_not_none refl q)
numbered_mapped f (x ∷ xs) zero l q = (x, refl, some_injective q)
numbered_mapped f (x ∷ xs) (suc i) l q = numbered_mapped f xs i l q

-- The record that the table of rows has for a new row.
record_of_row_lem : (S : State) (k : ℕ) (w : Row) → RecordOfRow S k w (record_of_row S k w)
record_of_row_lem S k w = try (earliest_equal w (rows_of S)) refl
  where
    counted : length (map (λ (u : ℕ × Row). u.0) S.rows) ≡ length (rows_of S)
    counted = length-map S.rows (λ (u : ℕ × Row). u.0) ∙ sym (length-map S.rows (λ (u : ℕ × Row). u.1))

    found : (q : ℕ) → FoundEqual w (rows_of S) q → (e : (j : ℕ) × (entry (map (λ (u : ℕ × Row). u.0) S.rows) q ≡ some j)) → RecordOfRow S k w (or_same k (entry (map (λ (u : ℕ × Row). u.0) S.rows) q))
    found q F e = subst (RecordOfRow S k w) (sym (ap (or_same k) e.1)) (earliest_record F.earliest F.equals e.1)

    try : (o : Option ℕ) → earliest_equal w (rows_of S) ≡ o → RecordOfRow S k w (elim o [ none ↦ k | some q ↦ or_same k (entry (map (λ (u : ℕ × Row). u.0) S.rows) q) ])
    try none e = own_record (λ q l z. earliest_none w (rows_of S) e q (omega (arith, l, length-map S.rows (λ (u : ℕ × Row). u.1))) z)
    try (some q) e =
        let F = earliest_found w (rows_of S) q e in
        found q F (entry_some (map (λ (u : ℕ × Row). u.0) S.rows) q (omega (arith, F.earliest.there, counted)))

module _ (S : State) (k : ℕ) (r : Record) (T : State) (seven : length r.fields ≡ 7) where
  literal_read : (i : ℕ) (l : RowLiteral) → numbered (input_literals r) (1 + i) ≡ some l → 2 * l.1 + pick l.0 1 0 ≡ field_numbered r i
  literal_read i l q =
      let e : 1 + i ≡ suc i = omega arith in
      let p : numbered (map literal_of (take r.count r.fields)) (suc i) ≡ some l = subst (λ (n : ℕ). numbered (input_literals r) n ≡ some l) e q in
      let a = numbered_few (take r.count r.fields) i l p in
      let c : i < r.count = let w = length-take r.count r.fields in omega arith in
      ap (λ (x : RowLiteral). 2 * x.1 + pick x.0 1 0) (numbered_literal_lem (take r.count r.fields) i l p) ∙ number_back (get_or (take r.count r.fields) i 0) ∙ get_or-take r.count r.fields i 0 c

  -- Rows that are named, and the earliest equal ones that are taken for them.
  earliest_taken : (row : ℕ) → row < length (rows_of S) → EarliestEqual S row (earliest_of S row)
  earliest_taken row l = let F = earliest_equal_lem (rows_of S) row l in record { earliest = F.earliest; equals = F.equals }

  argument_read : (i : ℕ) → i < r.count → length (argument_rows r) ≡ r.count → Below (length (rows_of S)) (argument_rows r) → EarliestEqual S (field_numbered r (1 + i)) (get_or (map (earliest_of S) (argument_rows r)) i 0)
  argument_read i c l h =
      let m : i < length (argument_rows r) = omega arith in
      subst₂ (EarliestEqual S) (get_or-take r.count (drop 1 r.fields) i 0 c ∙ get_or-drop 1 r.fields i 0) (sym (element_mapped (earliest_of S) (argument_rows r) i m)) (earliest_taken (get_or (argument_rows r) i 0) (element_of (λ a. a < length (rows_of S)) (argument_rows r) h i m))

  literal_taken : (i : ℕ) (l : RowLiteral) → numbered (new_literals S r) (1 + i) ≡ some l → Each (λ (x : RowLiteral). x.1 < length (rows_of S)) (input_literals r)
      → (row : ℕ) × (2 * row + pick l.0 1 0 ≡ field_numbered r i) × EarliestEqual S row l.1
  literal_taken i l q h =
      let e : 1 + i ≡ suc i = omega arith in
      let m = numbered_mapped (λ (x : RowLiteral). (x.0, earliest_of S x.1)) (input_literals r) i l (subst (λ (n : ℕ). numbered (new_literals S r) n ≡ some l) e q) in
      let x = m.0 in
      let s : x.0 ≡ l.0 = ap (λ (y : RowLiteral). y.0) m.2 in
      let below = each_numbered (λ (y : RowLiteral). y.1 < length (rows_of S)) (input_literals r) (suc i) x m.1 h in
      (x.1, ap (λ (b : Bool). 2 * x.1 + pick b 1 0) (sym s) ∙ literal_read i x (subst (λ (n : ℕ). numbered (input_literals r) n ≡ some x) (sym e) m.1), subst (EarliestEqual S x.1) (ap (λ (y : RowLiteral). y.1) m.2) (earliest_taken x.1 below))

  -- What unification adds, with the limits as numbers.
  bound : (ρ : Environment) (pairs : List Pair) (bs : List Binding) (n : ℕ) → unify (row_of S) S.total ρ pairs ≡ unified bs n → Binds S ρ pairs bs
  bound ρ pairs bs n q =
      let R = unified_reached (row_of S) most_links (no_room S.total) ρ most_work (unifying [] pairs) bs n q in
      record {
        work = R.0;
        within = omega (arith, R.1, work_16384);
        comes_to = subst (λ (b : ℕ). Reaches (row_of S) most_links (λ made. leb b (S.total + length made)) ρ R.0 (unifying [] pairs) (unifying bs [])) bindings_8192 R.2;
      }

  resolvent_adds : (kind : Kind) → IsResolve kind → kind_of_record r ≡ kind → enter_resolvent S k kind r ≡ stands T → Adds S k r T
  resolvent_adds kind i e q =
      let s = named_stands _ (left_of S r) (right_of S kind r) T q in
      let c = clause_added S k (resolve (next_clause S) s.0.0 (field_b r) s.1.0 (right_numbers kind r)) (unify_resolve S s.0 s.1) T s.4 in
      adds_resolvent (resolves S r kind i s.0 s.1 e s.2 s.3) (bound _ _ c.0 c.1 c.2) (sym c.3)

  adds : (kind : Kind) → kind_of_record r ≡ kind → Passed S kind r → enter S k kind r ≡ stands T → Adds S k r T
  adds symbolKind e a q = adds_symbol (of_kind_lem r symbolKind e) (sym (stands_same q))
  adds variableKind e a q = adds_variable (of_kind_lem r variableKind e) (record_of_row_lem S k (variable (field_a r))) (sym (stands_same q))
  adds applicationKind e a q =
      let n = of_kind_lem r applicationKind e in
      let h : r.count ≤ 6 = (range_fits r (of_application n) (subst (λ (x : Kind). in_range x r ≡ true) (sym e) a.ranged)).0 in
      let l : length (argument_rows r) ≡ r.count = simp (length-take, length-drop) (omega arith) in
      let t = both_true (has_arity r.count (arity_of S (field_a r))) (all_below (length (rows_of S)) (argument_rows r)) a.there in
      adds_application n (length-map (argument_rows r) (earliest_of S) ∙ l) (λ i c. argument_read i c l (all_below_lem (length (rows_of S)) (argument_rows r) t.1)) (record_of_row_lem S k (new_application S r)) (sym (stands_same q))
  adds inputKind e a q =
      let n = of_kind_lem r inputKind e in
      let h : r.count ≤ 7 = (range_fits r (of_input n) (subst (λ (x : Kind). in_range x r ≡ true) (sym e) a.ranged)).0 in
      let l : length (new_literals S r) ≡ r.count = simp (length-map, length-take) (omega arith) in
      adds_input n l (λ i l p. literal_taken i l p (rows_below (length (rows_of S)) (input_literals r) a.there)) (sym (stands_same q))
  adds resolveKind e a q = resolvent_adds resolveKind on_one e q
  adds severalKind e a q = resolvent_adds severalKind on_several e q
  adds factorKind e a q =
      let s = named_stands _ (left_of S r) (deleted_of S r) T q in
      let c = clause_added S k (factor (next_clause S) s.0.0 (field_b r) (field_c r)) (unify_factor S s.0 s.1) T s.4 in
      adds_factor (factors S r s.0 s.1 e s.2 s.3) (bound _ _ c.0 c.1 c.2) (sym c.3)
  adds windowKind e a q = adds_window (of_kind_lem r windowKind e) (sym (stands_same q))
  adds otherKind e a q = absurd a

  pub step_adds : step S k r ≡ stands T → Adds S k r T
  step_adds q =
      let a = step_stands S k r T q in
      adds (kind_of_record r) refl (tests_passed S (kind_of_record r) r a.0) a.1
