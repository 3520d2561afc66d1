-- A state that reading comes to later: rows, earliest rows and clauses of the earlier one are as they were.
use mathlib.Core.Path.{◌≡◌, refl, sym, ◌∙◌, subst}
use mathlib.Core.Option.{some}
use mathlib.Core.List.{List, [], ◌∷◌}
use Prim.Native.Nat.{ℕ, suc, ◌≤◌, ◌<◌}
use native.Mathlib.Omega.{arith}
use lib.ListN.{length}
use Rattle.record.specs.Record.{Record, otherKind, Kind, symbolKind, variableKind, applicationKind, inputKind, resolveKind, factorKind, severalKind, windowKind, field_a, field_b, field_c}
use Rattle.unification.specs.Row.{variable, Row}
use Rattle.unification.proofs.Repeats.{row_old, earliest_old}
use Rattle.derivation.specs.Derivation.{input, Derivation, resolve, factor}
use Rattle.verdict.specs.Refusal.{kind_of_record, left_of, right_numbers, right_of, deleted_of}
use Rattle.verdict.specs.State.{State, with_row, with_clause, arities, rows_of, row_of, derivations, clause_of, earliest_of, record_of_row, next_clause}
use Rattle.verdict.specs.Step.{stands, refused, Result, step, unify_resolve, unify_factor, new_application, new_literals, enter_resolvent, enter, read, all_stand, refused_at}
use Rattle.verdict.proofs.Endings.{ending_stands, stands_not_refused}
use Rattle.demands.proofs.Inversions.{stands_same, never_both, step_stands, named_stands, clause_added, entry_more}

pub record Grown (A S : State) : Type 0 where
  pub symbols : length (arities A) ≤ length (arities S)
  pub count : next_clause A ≤ next_clause S
  pub longer : length (rows_of A) ≤ length (rows_of S)
  pub rows : (r : ℕ) → r < length (rows_of A) → row_of S r ≡ row_of A r
  pub earliest : (r : ℕ) → r < length (rows_of A) → earliest_of S r ≡ earliest_of A r
  pub clauses : (n : ℕ) (d : Derivation) → clause_of A n ≡ some d → clause_of S n ≡ some d

pub grown_same : (S : State) → Grown S S
grown_same S = record { symbols = omega arith; count = omega arith; longer = omega arith; rows = λ r l. refl; earliest = λ r l. refl; clauses = λ n d q. q }

pub grown_on : (A B S : State) → Grown A B → Grown B S → Grown A S
grown_on A B S G H = record {
  symbols = let x = G.symbols in let y = H.symbols in omega arith;
  count = let x = G.count in let y = H.count in omega arith;
  longer = let x = G.longer in let y = H.longer in omega arith;
  rows = λ r l. H.rows r (let x = G.longer in omega arith) ∙ G.rows r l;
  earliest = λ r l. H.earliest r (let x = G.longer in omega arith) ∙ G.earliest r l;
  clauses = λ n d q. H.clauses n d (G.clauses n d q);
}

module _ (S : State) (k : ℕ) (r : Record) (T : State) where
  row_grown : (j : ℕ) (w : Row) → with_row S j w ≡ T → Grown S T
  row_grown j w q = subst (Grown S) q (record { symbols = omega arith; count = omega arith; longer = omega arith; rows = λ i l. row_old w (rows_of S) i l; earliest = λ i l. earliest_old w (rows_of S) i l; clauses = λ n d p. p })

  clause_grown : (c : Derivation) → with_clause S k c ≡ T → Grown S T
  clause_grown c q = subst (Grown S) q (record { symbols = omega arith; count = omega arith; longer = omega arith; rows = λ i l. refl; earliest = λ i l. refl; clauses = λ n d p. entry_more c (derivations S) n d p })

  resolvent_grown : (kind : Kind) → enter_resolvent S k kind r ≡ stands T → Grown S T
  resolvent_grown kind q =
      let s = named_stands _ (left_of S r) (right_of S kind r) T q in
      let c = clause_added S k (resolve (next_clause S) s.0.0 (field_b r) s.1.0 (right_numbers kind r)) (unify_resolve S s.0 s.1) T s.4 in
      clause_grown (resolve (next_clause S) s.0.0 (field_b r) s.1.0 (right_numbers kind r) c.0) c.3

  entered_grown : (kind : Kind) → enter S k kind r ≡ stands T → Grown S T
  entered_grown symbolKind q = subst (Grown S) (stands_same q) (record { symbols = omega arith; count = omega arith; longer = omega arith; rows = λ i l. refl; earliest = λ i l. refl; clauses = λ n d p. p })
  entered_grown variableKind q = row_grown (record_of_row S k (variable (field_a r))) (variable (field_a r)) (stands_same q)
  entered_grown applicationKind q = row_grown (record_of_row S k (new_application S r)) (new_application S r) (stands_same q)
  entered_grown inputKind q =
      subst (Grown S) (stands_same q) (record { symbols = omega arith; count = omega arith; longer = omega arith; rows = λ i l. refl; earliest = λ i l. refl; clauses = λ n d p. entry_more (input (next_clause S) (new_literals S r)) (derivations S) n d p })
  entered_grown resolveKind q = resolvent_grown resolveKind q
  entered_grown severalKind q = resolvent_grown severalKind q
  entered_grown factorKind q =
      let s = named_stands _ (left_of S r) (deleted_of S r) T q in
      let c = clause_added S k (factor (next_clause S) s.0.0 (field_b r) (field_c r)) (unify_factor S s.0 s.1) T s.4 in
      clause_grown (factor (next_clause S) s.0.0 (field_b r) (field_c r) c.0) c.3
  entered_grown windowKind q = subst (Grown S) (stands_same q) (record { symbols = omega arith; count = omega arith; longer = omega arith; rows = λ i l. refl; earliest = λ i l. refl; clauses = λ n d p. p })
  entered_grown otherKind q = absurd (never_both (enter S k otherKind r) q refl)

  pub step_grown : step S k r ≡ stands T → Grown S T
  step_grown q = entered_grown (kind_of_record r) (step_stands S k r T q).1

pub read_grown : (rs : List Record) (A : State) (k : ℕ) (S : State) → read A k rs ≡ all_stand S → Grown A S
read_grown [] A k S q = subst (Grown A) (ending_stands q) (grown_same A)
read_grown (r ∷ rs) A k S q = try (step A k r) refl q (λ U z. read_grown rs U (suc k) S z)
  where
    try : (o : Result) → step A k r ≡ o → elim o [ stands U ↦ read U (suc k) rs | refused x ↦ refused_at A x k ] ≡ all_stand S → ((U : State) → read U (suc k) rs ≡ all_stand S → Grown U S) → Grown A S
    try (stands U) e z ih = grown_on A U S (step_grown A k r U e) (ih U z)
    try (refused x) e z ih = absurd (stands_not_refused (sym z))
