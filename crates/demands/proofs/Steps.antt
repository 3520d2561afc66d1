-- A record that stands leaves a state in order.
use mathlib.Core.Path.{◌≡◌, refl, sym, ap, ◌∙◌, subst}
use mathlib.Core.Bool.{Bool, true, ◌&&◌, not}
use mathlib.Core.Option.{some}
use mathlib.Core.List.{List, [], ◌∷◌, ◌++◌, map}
use Prim.Native.Nat.{ℕ, suc, ◌+◌, ◌≤◌, ◌<◌}
use native.Mathlib.Omega.{arith}
use lib.Dec.{eqb, leb, leb→le}
use lib.ListN.{length, drop, length-take, length-drop, length-map}
use Rattle.record.specs.Record.{Record, otherKind, Kind, symbolKind, variableKind, applicationKind, inputKind, resolveKind, factorKind, severalKind, windowKind, field_a, field_b, field_c}
use Rattle.unification.specs.Environment.{Binding}
use Rattle.unification.specs.Repeated.{IsEarliest}
use Rattle.unification.specs.Row.{variable, Row}
use Rattle.unification.specs.Unification.{most_bindings, unified}
use Rattle.unification.proofs.Lists.{Each, each_more}
use Rattle.unification.proofs.Repeats.{earliest_equal_lem, all_earliest}
use Rattle.unification.proofs.Room.{bindings_fit}
use Rattle.unification.proofs.Rows.{Below}
use Rattle.unification.proofs.Tests.{to_t, both_true, some_injective}
use Rattle.derivation.specs.Derivation.{literals, input, Literal, RowLiteral, input_literals, Derivation, resolve, factor, numbered, numbered_all, StrictlyRising, pairs_with, placed, maximum_index, joined, lookup, uses}
use Rattle.derivation.proofs.Validity.{Valid, signed}
use Rattle.verdict.specs.Refusal.{most_literals, most_index, kind_of_record, zeros, argument_rows, left_of, right_numbers, right_of, deleted_of, has_arity, all_below, equal_signs, opposite_signs, factor_signs, result_fits}
use Rattle.verdict.specs.State.{State, rows_of, derivations, arity_of, clause_of, row_of, earliest_of, record_of_row, next_clause}
use Rattle.verdict.specs.Step.{window_in, stands, step, add_clause, atoms, unify_resolve, unify_factor, new_application, new_literals, enter_resolvent, enter}
use Rattle.demands.proofs.RangeTests.{fields_of_lem}
use Rattle.demands.proofs.Inversions.{tests_passed, stands_same, step_stands, named_stands, literal_named_lem, literals_named, has_arity_lem, all_below_lem, rows_below, all_opposite_lem, strictly_rising, equal_signs_lem, not_equal, entry_new, clause_added, PassedResolve, PassedFactor, Passed}
use Rattle.demands.proofs.Standing.{window_added, StateOk, literals_enough, index_enough, inputs_append, inputs_kept, no_chains, symbol_added, row_added, clause_entered, order_of, inputs_of, ChainsAfter, resolve_chains, factor_chains}

-- What a resolve or a factor that came to its unification has named.
pub record NamedResolve (S : State) (r : Record) (ns : List ℕ) (x : Derivation × Literal) (y : Derivation × List Literal) : Type 0 where
  pub is_left : clause_of S (field_a r) ≡ some x.0
  pub is_left_literal : numbered (literals x.0) (field_b r) ≡ some x.1
  pub is_right : clause_of S (field_c r) ≡ some y.0
  pub are_right_literals : numbered_all (literals y.0) ns ≡ some y.1
  pub rises : StrictlyRising ns
  pub signs : y.1 ≡ signed (not x.1.0) (atoms y.1)
  pub literals_fit : length (literals (resolve (next_clause S) x.0 (field_b r) y.0 ns [])) ≤ most_literals
  pub index_fits : maximum_index x.0 + maximum_index y.0 ≤ most_index

pub record NamedFactor (S : State) (r : Record) (x y : Derivation × Literal) : Type 0 where
  pub is_parent : clause_of S (field_a r) ≡ some x.0
  pub same_parent : y.0 ≡ x.0
  pub is_kept : numbered (literals x.0) (field_b r) ≡ some x.1
  pub is_deleted : numbered (literals x.0) (field_c r) ≡ some y.1
  pub signs : y.1.0 ≡ x.1.0
  pub different : ¬ (field_b r ≡ field_c r)
  pub literals_fit : length (literals (factor (next_clause S) x.0 (field_b r) (field_c r) [])) ≤ most_literals
  pub index_fits : maximum_index x.0 ≤ most_index

fits : (c : Derivation) → result_fits c ≡ true → (length (literals c) ≤ most_literals) × (maximum_index c ≤ most_index)
fits c q =
    let p = both_true (leb (length (literals c)) most_literals) (leb (maximum_index c) most_index) q in
    (leb→le (length (literals c)) most_literals (to_t (leb (length (literals c)) most_literals) p.0), leb→le (maximum_index c) most_index (to_t (leb (maximum_index c) most_index) p.1))

pub signs_resolve : (S : State) (kind : Kind) (r : Record) (x : Derivation × Literal) (y : Derivation × List Literal) → left_of S r ≡ some x → right_of S kind r ≡ some y → opposite_signs S kind r ≡ true → y.1 ≡ signed (not x.1.0) (atoms y.1)
signs_resolve S kind r x y p q s = all_opposite_lem x.1.0 y.1 (rw (p, q) at s)

pub signs_factor : (S : State) (r : Record) (x y : Derivation × Literal) → left_of S r ≡ some x → deleted_of S r ≡ some y → factor_signs S r ≡ true → (y.1.0 ≡ x.1.0) × ¬ (field_b r ≡ field_c r)
signs_factor S r x y p q s =
    let t : (equal_signs x.1.0 y.1.0 && not (eqb (field_b r) (field_c r))) ≡ true = rw (p, q) at s in
    let b = both_true (equal_signs x.1.0 y.1.0) (not (eqb (field_b r) (field_c r))) t in
    (equal_signs_lem x.1.0 y.1.0 b.0, not_equal (field_b r) (field_c r) b.1)

pub same_parent_lem : (S : State) (r : Record) (x y : Derivation × Literal) → left_of S r ≡ some x → deleted_of S r ≡ some y → y.0 ≡ x.0
same_parent_lem S r x y p q = some_injective (sym (literal_named_lem S (field_a r) (field_c r) y q).0 ∙ (literal_named_lem S (field_a r) (field_b r) x p).0)

pub named_resolve : (S : State) (kind : Kind) (r : Record) (x : Derivation × Literal) (y : Derivation × List Literal) → left_of S r ≡ some x → right_of S kind r ≡ some y → PassedResolve S kind r → NamedResolve S r (right_numbers kind r) x y
named_resolve S kind r x y p q a =
    let l = literal_named_lem S (field_a r) (field_b r) x p in
    let m = literals_named S (field_c r) (right_numbers kind r) y q in
    let f = fits (resolve (next_clause S) x.0 (field_b r) y.0 (right_numbers kind r) []) (rw (p, q) at a.limits) in
    record { is_left = l.0; is_left_literal = l.1; is_right = m.0; are_right_literals = m.1; rises = strictly_rising (right_numbers kind r) a.rises; signs = signs_resolve S kind r x y p q a.signs; literals_fit = f.0; index_fits = f.1 }

pub named_factor : (S : State) (r : Record) (x y : Derivation × Literal) → left_of S r ≡ some x → deleted_of S r ≡ some y → PassedFactor S r → NamedFactor S r x y
named_factor S r x y p q a =
    let l = literal_named_lem S (field_a r) (field_b r) x p in
    let m = literal_named_lem S (field_a r) (field_c r) y q in
    let e = same_parent_lem S r x y p q in
    let s = signs_factor S r x y p q a.signs in
    let f = fits (factor (next_clause S) x.0 (field_b r) (field_c r) []) (rw (p, q) at a.limits) in
    record { is_parent = l.0; same_parent = e; is_kept = l.1; is_deleted = subst (λ (c : Derivation). numbered (literals c) (field_c r) ≡ some y.1) e m.1; signs = s.0; different = s.1; literals_fit = f.0; index_fits = f.1 }

module _ (n : ℕ) (S : State) (H : StateOk n S) (k : ℕ) (r : Record) (T : State) where
  abbrev ws : List Row
  ws = rows_of S

  -- The bindings of a step are unification's, so its clause is valid.
  pub valid_resolve : (ns : List ℕ) (x : Derivation × Literal) (y : Derivation × List Literal) → NamedResolve S r ns x y → (bs : List Binding) (m : ℕ) → unify_resolve S x y ≡ unified bs m → Valid (row_of S) (resolve (next_clause S) x.0 (field_b r) y.0 ns bs)
  valid_resolve ns x y N bs m u = (
    (order_of n S H (field_a r) x.0 N.is_left).valid,
    (order_of n S H (field_c r) y.0 N.is_right).valid,
    (x.1.0, x.1.1, atoms y.1, N.is_left_literal, N.are_right_literals ∙ ap some N.signs, N.rises, (S.total, m, u)),
  )

  pub valid_factor : (x y : Derivation × Literal) → NamedFactor S r x y → (bs : List Binding) (m : ℕ) → unify_factor S x y ≡ unified bs m → Valid (row_of S) (factor (next_clause S) x.0 (field_b r) (field_c r) bs)
  valid_factor x y N bs m u = (
    (order_of n S H (field_a r) x.0 N.is_parent).valid,
    (x.1.0, x.1.1, y.1.1, N.is_kept, N.is_deleted ∙ ap (λ (b : Bool). some (b, y.1.1)) N.signs, N.different, (S.total, m, u)),
  )

  resolve_entered : (ns : List ℕ) (x : Derivation × Literal) (y : Derivation × List Literal) → NamedResolve S r ns x y → add_clause S k (resolve (next_clause S) x.0 (field_b r) y.0 ns) (unify_resolve S x y) ≡ stands T → StateOk (suc n) T
  resolve_entered ns x y N q =
      let X = order_of n S H (field_a r) x.0 N.is_left in
      let Y = order_of n S H (field_c r) y.0 N.is_right in
      let c = clause_added S k (resolve (next_clause S) x.0 (field_b r) y.0 ns) (unify_resolve S x y) T q in
      let z = subst (ChainsAfter n S H (joined (maximum_index x.0) (lookup x.0) (lookup y.0))) c.2 (resolve_chains n S H x y X Y (field_b r) ns N.is_left_literal N.are_right_literals) in
      let new = resolve (next_clause S) x.0 (field_b r) y.0 ns c.0 in
      subst (StateOk (suc n)) c.3 (clause_entered n S H k new (room_left c.0 c.1 c.2)
      (record { valid = valid_resolve ns x y N c.0 c.1 c.2; known = (X.known, Y.known); chains = z.0; literals_fit = N.literals_fit; index_fits = N.index_fits })
      (inputs_kept new (derivations S) (uses x.0 ++ uses y.0) (inputs_append (derivations S) (uses x.0) (uses y.0) (inputs_of n S H (field_a r) x.0 N.is_left) (inputs_of n S H (field_c r) y.0 N.is_right))))
    where
      room_left : (bs : List Binding) (m : ℕ) → unify_resolve S x y ≡ unified bs m → S.total + length bs ≤ most_bindings
      room_left bs m u = bindings_fit (row_of S) S.total (joined (maximum_index x.0) (lookup x.0) (lookup y.0)) (pairs_with (maximum_index x.0) x.1.1 (atoms y.1)) bs m u H.held_ok

  factor_entered : (x y : Derivation × Literal) → NamedFactor S r x y → add_clause S k (factor (next_clause S) x.0 (field_b r) (field_c r)) (unify_factor S x y) ≡ stands T → StateOk (suc n) T
  factor_entered x y N q =
      let X = order_of n S H (field_a r) x.0 N.is_parent in
      let c = clause_added S k (factor (next_clause S) x.0 (field_b r) (field_c r)) (unify_factor S x y) T q in
      let z = subst (ChainsAfter n S H (lookup x.0)) c.2 (factor_chains n S H x y X (field_b r) (field_c r) N.is_kept N.is_deleted) in
      let new = factor (next_clause S) x.0 (field_b r) (field_c r) c.0 in
      subst (StateOk (suc n)) c.3 (clause_entered n S H k new (room_left c.0 c.1 c.2)
      (record { valid = valid_factor x y N c.0 c.1 c.2; known = X.known; chains = z.0; literals_fit = N.literals_fit; index_fits = N.index_fits })
      (inputs_kept new (derivations S) (uses x.0) (inputs_of n S H (field_a r) x.0 N.is_parent)))
    where
      room_left : (bs : List Binding) (m : ℕ) → unify_factor S x y ≡ unified bs m → S.total + length bs ≤ most_bindings
      room_left bs m u = bindings_fit (row_of S) S.total (lookup x.0) ((x.1.1, y.1.1) ∷ []) bs m u H.held_ok

  argument_count_lem : length r.fields ≡ 7 → r.count ≤ 6 → length (argument_rows r) ≡ r.count
  argument_count_lem l h = simp (length-take, length-drop) (omega arith)

  few_literals : r.count ≤ 7 → length (placed 1 (new_literals S r)) ≤ 7
  few_literals h = simp (length-map, length-take) (omega arith)

  -- The rows that a record names, taken as the earliest equal ones, are there.
  arguments_below : (xs : List ℕ) → Below (length (rows_of S)) xs → Below (length (rows_of S)) (map (earliest_of S) xs)
  arguments_below xs h = each_more (IsEarliest ws) (λ r. r < length ws) (λ r E. E.there) (map (earliest_of S) xs) (all_earliest ws xs h)

  literals_below : (ls : List RowLiteral) → Each (λ (l : RowLiteral). l.1 < length (rows_of S)) ls → Each (λ (l : RowLiteral). l.1 < length (rows_of S)) (map (λ (l : RowLiteral). (l.0, earliest_of S l.1)) ls)
  literals_below [] h = tt
  literals_below (l ∷ ls) h = ((earliest_equal_lem ws l.1 h.0).earliest.there, literals_below ls h.1)

  resolvent_entered : (kind : Kind) → PassedResolve S kind r → enter_resolvent S k kind r ≡ stands T → StateOk (suc n) T
  resolvent_entered kind a q =
      let s = named_stands _ (left_of S r) (right_of S kind r) T q in
      resolve_entered (right_numbers kind r) s.0 s.1 (named_resolve S kind r s.0 s.1 s.2 s.3 a) s.4

  entered : (kind : Kind) → length r.fields ≡ 7 → Passed S kind r → enter S k kind r ≡ stands T → StateOk (suc n) T
  entered symbolKind l a q = subst (StateOk (suc n)) (stands_same q) (symbol_added n S H k r.count)
  entered variableKind l a q = subst (StateOk (suc n)) (stands_same q) (row_added n S H (record_of_row S k (variable (field_a r))) (variable (field_a r)) tt)
  entered applicationKind l a q =
      let c = both_true (leb r.count 6) (zeros (drop (1 + r.count) r.fields)) (fields_of_lem r applicationKind a.ranged) in
      let t = both_true (has_arity r.count (arity_of S (field_a r))) (all_below (length ws) (argument_rows r)) a.there in
      let z = argument_count_lem l (leb→le r.count 6 (to_t (leb r.count 6) c.0)) in
      subst (StateOk (suc n)) (stands_same q) (row_added n S H (record_of_row S k (new_application S r)) (new_application S r)
      (has_arity_lem r.count (arity_of S (field_a r)) t.0 ∙ ap some (sym (length-map (argument_rows r) (earliest_of S) ∙ z)), arguments_below (argument_rows r) (all_below_lem (length ws) (argument_rows r) t.1)))
  entered inputKind l a q =
      let c = both_true (leb r.count 7) (zeros (drop r.count r.fields)) a.ranged in
      let f = few_literals (leb→le r.count 7 (to_t (leb r.count 7) c.0)) in
      let h = H.held_ok in
      let ok = clause_entered n S H k (input (next_clause S) (new_literals S r)) (omega arith)
      (record { valid = tt; known = literals_below (input_literals r) (rows_below (length ws) (input_literals r) a.there); chains = no_chains ws (S.total + 0) (lookup (input (next_clause S) (new_literals S r))) (λ x. refl); literals_fit = omega (arith, literals_enough, f); index_fits = index_enough })
      (entry_new (input (next_clause S) (new_literals S r)) (derivations S), tt)
      in
      subst (StateOk (suc n)) (stands_same q) (record { rows_ok = ok.rows_ok; few = ok.few; total_ok = ok.total_ok; held_ok = ok.held_ok; clauses_ok = ok.clauses_ok; inputs_ok = ok.inputs_ok })
  entered resolveKind l a q = resolvent_entered resolveKind a q
  entered severalKind l a q = resolvent_entered severalKind a q
  entered factorKind l a q =
      let s = named_stands _ (left_of S r) (deleted_of S r) T q in
      factor_entered s.0 s.1 (named_factor S r s.0 s.1 s.2 s.3 a) s.4
  entered windowKind l a q = subst (StateOk (suc n)) (stands_same q) (window_added n S H (window_in r))
  entered otherKind l a q = absurd a

  pub step_ok : length r.fields ≡ 7 → step S k r ≡ stands T → StateOk (suc n) T
  step_ok l q =
      let a = step_stands S k r T q in
      entered (kind_of_record r) l (tests_passed S (kind_of_record r) r a.0) a.1
