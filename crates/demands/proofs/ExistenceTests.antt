-- The tests of what exists say what the condition of 5 says.
use mathlib.Core.Path.{◌≡◌, refl, sym, ap, ◌∙◌, subst}
use mathlib.Core.Logic.{◌⊎◌, inl, inr}
use mathlib.Core.Bool.{Bool, true, false}
use mathlib.Core.Option.{Option, none, some}
use mathlib.Core.List.{List, [], ◌∷◌, map}
use Prim.Native.Nat.{ℕ, zero, suc, ◌+◌, ◌-◌, ◌/◌, ◌≤◌, ◌<◌}
use native.Mathlib.Omega.{arith}
use lib.Dec.{eqb, leb, ltb}
use lib.ListN.{length, get_or, take, drop, length-take, length-drop, length-map, get_or-map}
use lib.Seq.{get_or-take, get_or-drop}
use Rattle.record.specs.Record.{pick, Record, Kind, applicationKind, inputKind, factorKind, windowKind, kind_numbered, field_a, field_b, field_c}
use Rattle.unification.specs.Row.{Row}
use Rattle.unification.proofs.Lists.{map_map}
use Rattle.unification.proofs.Tests.{both_true, true_not_false, some_not_none, some_injective}
use Rattle.derivation.specs.Derivation.{literals, input, resolve, factor, Literal, RowLiteral, literal_of, input_literals, Derivation, numbered, numbered_all}
use Rattle.derivation.proofs.Literals.{numbered_cons}
use Rattle.demands.specs.Conditions.{OneOf, field_numbered, IsWindow, RightLiterals, NamesClause, left_clause, right_clause, factored_clause, dated_clause, Names, left_literal, right_literal, kept_literal, deleted_literal, NotThere, no_symbol_there, other_arity, no_argument_row, no_literal_row, no_clause, no_literal, derived_clause}
use Rattle.verdict.specs.Refusal.{zero_days, tests, resolve_tests, kind_of_record, argument_rows, literal_in, literal_named, left_of, right_numbers, literals_in, right_of, deleted_of, is_there, is_input, has_arity, all_below, arguments_there, literal_rows_there, both_there}
use Rattle.verdict.specs.State.{arities, State, entry, rows_of, derivations, arity_of, clause_of}
use Rattle.demands.proofs.Inversions.{literal_named_lem, literals_named, is_there_lem, has_arity_lem, all_below_lem, entry_below, test_for}
use Rattle.demands.proofs.RangeTests.{at_most, either_false, second_false, not_true, not_under, of_kind_lem, kind_at, window_kind, unequal, IsResolve, on_one, on_several, right_literals_lem, resolve_kind}

-- 5: what exists.
pub entry_there : {A : Type 0} (xs : List A) (n : ℕ) → entry xs n ≡ none → length xs ≤ n
entry_there [] n q = omega arith
entry_there {A} (x ∷ xs) n q = try (eqb n (length xs)) refl q (λ z. entry_there xs n z)
  where
    try : (b : Bool) → eqb n (length xs) ≡ b → pick b (some x) (entry xs n) ≡ none → (entry xs n ≡ none → length xs ≤ n) → suc (length xs) ≤ n
    try true p z k = absurd (some_not_none z refl)
    try false p z k = let l = k z in let d = unequal n (length xs) p in omega arith

numbered_there : {A : Type 0} (xs : List A) (n : ℕ) → numbered xs n ≡ none → (n ≡ 0) ⊎ (length xs < n)
numbered_there [] zero q = inl refl
numbered_there [] (suc n) q = inr (omega arith)
numbered_there (x ∷ xs) zero q = inl refl
numbered_there (x ∷ xs) (suc zero) q = absurd (some_not_none q refl)
numbered_there (x ∷ xs) (suc (suc n)) q = try (numbered_there xs (suc n) q)
  where
    try : (suc n ≡ 0) ⊎ (length xs < suc n) → (suc (suc n) ≡ 0) ⊎ (suc (length xs) < suc (suc n))
    try (inl e) = absurd (omega arith)
    try (inr l) = inr (omega arith)

pub numbered_within : {A : Type 0} (xs : List A) (n : ℕ) (a : A) → numbered xs n ≡ some a → (1 ≤ n) × (n ≤ length xs)
numbered_within [] n a q = absurd (some_not_none refl q)
numbered_within (x ∷ xs) zero a q = absurd (some_not_none refl q)
numbered_within (x ∷ xs) (suc zero) a q = (omega arith, omega arith)
numbered_within (x ∷ xs) (suc (suc n)) a q = let z = numbered_within xs (suc n) a q in (omega arith, omega arith)

below_false : (n : ℕ) (xs : List ℕ) → all_below n xs ≡ false → (i : ℕ) × (i < length xs) × (n ≤ get_or xs i 0)
below_false n [] q = absurd (true_not_false refl q)
below_false n (a ∷ xs) q = try (either_false (ltb a n) (all_below n xs) q) (λ z. below_false n xs z)
  where
    try : (ltb a n ≡ false) ⊎ (all_below n xs ≡ false) → (all_below n xs ≡ false → (i : ℕ) × (i < length xs) × (n ≤ get_or xs i 0)) → (i : ℕ) × (i < length (a ∷ xs)) × (n ≤ get_or (a ∷ xs) i 0)
    try (inl p) k = (0, omega arith, not_under a n p)
    try (inr p) k = (suc (k p).0, let l = (k p).1 in omega arith, (k p).2)

below_true : (n : ℕ) (xs : List ℕ) → all_below n xs ≡ true → (i : ℕ) → i < length xs → get_or xs i 0 < n
below_true n [] q i l = absurd (omega arith)
below_true n (a ∷ xs) q zero l = (all_below_lem n (a ∷ xs) q).0
below_true n (a ∷ xs) q (suc i) l = below_true n xs (both_true (ltb a n) (all_below n xs) q).1 i (omega arith)

pub is_input_lem : (o : Option Derivation) → is_input o ≡ true → (number : ℕ) × (ls : List RowLiteral) × (o ≡ some (input number ls))
is_input_lem none q = absurd (true_not_false q refl)
is_input_lem (some (input number ls)) q = (number, ls, refl)
is_input_lem (some (resolve number l a t ns bs)) q = absurd (true_not_false q refl)
is_input_lem (some (factor number c a b bs)) q = absurd (true_not_false q refl)

module _ (S : State) (r : Record) (seven : length r.fields ≡ 7) where
  many_rows : length (rows_of S) ≡ length S.rows
  many_rows = length-map S.rows (λ (w : ℕ × Row). w.1)

  many_symbols : length (arities S) ≡ length S.symbols
  many_symbols = length-map S.symbols (λ (s : ℕ × ℕ). s.1)

  many_clauses : length (derivations S) ≡ length S.clauses
  many_clauses = length-map S.clauses (λ (c : ℕ × Derivation). c.1)

  argument_at : (i : ℕ) → i < r.count → get_or (argument_rows r) i 0 ≡ field_numbered r (1 + i)
  argument_at i l = get_or-take r.count (drop 1 r.fields) i 0 l ∙ get_or-drop 1 r.fields i 0

  abbrev literal_rows : List ℕ
  literal_rows = map (λ (l : RowLiteral). l.1) (input_literals r)

  pub literal_row_at : (i : ℕ) → i < r.count → get_or literal_rows i 0 ≡ field_numbered r i / 2
  literal_row_at i l =
      ap (λ (xs : List ℕ). get_or xs i 0) (map_map (λ (x : RowLiteral). x.1) literal_of (take r.count r.fields))
      ∙ get_or-map (λ (n : ℕ). n / 2) (take r.count r.fields) i 0
      ∙ ap (λ (n : ℕ). n / 2) (get_or-take r.count r.fields i 0 l)

  -- Of an application.
  pub arguments_absent : kind_of_record r ≡ applicationKind → arguments_there S r ≡ false → NotThere S r
  arguments_absent e q = try (either_false (has_arity r.count (arity_of S (field_a r))) (all_below (length (rows_of S)) (argument_rows r)) q)
    where
      k : r.kind ≡ 3
      k = of_kind_lem r applicationKind e

      arity : (o : Option ℕ) → arity_of S (field_a r) ≡ o → has_arity r.count o ≡ false → NotThere S r
      arity none p z = no_symbol_there k (let l = entry_there (arities S) (field_a r) p in omega (arith, many_symbols))
      arity (some n) p z = other_arity k p (λ y. unequal n r.count z (sym y))

      try : (has_arity r.count (arity_of S (field_a r)) ≡ false) ⊎ (all_below (length (rows_of S)) (argument_rows r) ≡ false) → NotThere S r
      try (inl p) = arity (arity_of S (field_a r)) refl p
      try (inr p) =
          let z = below_false (length (rows_of S)) (argument_rows r) p in
          let l : z.0 < r.count = let w : z.0 < length (argument_rows r) = z.1 in let y = length-take r.count (drop 1 r.fields) in omega arith in
          let v : length S.rows ≤ field_numbered r (1 + z.0) = let a = argument_at z.0 l in let b = z.2 in omega (arith, many_rows) in
          no_argument_row k (1 + z.0) (omega arith) (omega arith) v

  -- Of an input clause.
  pub literal_rows_absent : kind_of_record r ≡ inputKind → literal_rows_there S r ≡ false → NotThere S r
  literal_rows_absent e q =
      let z = below_false (length (rows_of S)) literal_rows q in
      let l : z.0 < r.count = let w = z.1 in let y = length-map (input_literals r) (λ (l : RowLiteral). l.1) in let x = length-map (take r.count r.fields) literal_of in let v = length-take r.count r.fields in omega arith in
      no_literal_row (of_kind_lem r inputKind e) z.0 l (let a = literal_row_at z.0 l in let b = z.2 in omega (arith, many_rows))

  -- Of a step.
  literal_absent : (c n : ℕ) → NamesClause r c → Names r c n → is_there (literal_named S c n) ≡ false → NotThere S r
  literal_absent c n names-clause names q = clause (clause_of S c) refl q
    where
      literal : (d : Derivation) → clause_of S c ≡ some d → (o : Option Literal) → numbered (literals d) n ≡ o → is_there {A = Derivation × Literal} (elim o [ some l ↦ some (d, l) | none ↦ none ]) ≡ false → NotThere S r
      literal d p none z y = no_literal names p (numbered_there (literals d) n z)
      literal d p (some l) z y = absurd (true_not_false refl y)

      clause : (o : Option Derivation) → clause_of S c ≡ o → is_there (literal_in n o) ≡ false → NotThere S r
      clause none p z = no_clause names-clause (let l = entry_there (derivations S) c p in omega (arith, many_clauses))
      clause (some d) p z = literal d p (numbered (literals d) n) refl z

  -- Of right literals: the clause does not exist, or one of the literals.
  numbers_absent : (d : Derivation) (ms : List ℕ) → numbered_all (literals d) ms ≡ none → (n : ℕ) × OneOf n ms × (numbered (literals d) n ≡ none)
  numbers_absent d [] q = absurd (some_not_none q refl)
  numbers_absent d (n ∷ ms) q = try (numbered (literals d) n) refl (numbered_all (literals d) ms) refl q (λ z. numbers_absent d ms z)
    where
      try : (o : Option Literal) → numbered (literals d) n ≡ o → (p : Option (List Literal)) → numbered_all (literals d) ms ≡ p → ◌≡◌ {A = Option (List Literal)} (elim o [ none ↦ none | some l ↦ elim p [ none ↦ none | some ls ↦ some (l ∷ ls) ] ]) none
          → (numbered_all (literals d) ms ≡ none → (m : ℕ) × OneOf m ms × (numbered (literals d) m ≡ none)) → (m : ℕ) × OneOf m (n ∷ ms) × (numbered (literals d) m ≡ none)
      try none e p f z k = (n, inl refl, e)
      try (some l) e none f z k = let w = k f in (w.0, inr w.1, w.2)
      try (some l) e (some ls) f z k = absurd (some_not_none z refl)

  rights_absent : (ns : List ℕ) → RightLiterals r ns → is_there (literals_in ns (clause_of S (field_c r))) ≡ false → NotThere S r
  rights_absent ns R q = clause (clause_of S (field_c r)) refl q
    where
      all : (d : Derivation) → clause_of S (field_c r) ≡ some d → (o : Option (List Literal)) → numbered_all (literals d) ns ≡ o → is_there {A = Derivation × List Literal} (elim o [ some ls ↦ some (d, ls) | none ↦ none ]) ≡ false → NotThere S r
      all d p none z y = let w = numbers_absent d ns z in no_literal (right_literal R w.1) p (numbered_there (literals d) w.0 w.2)
      all d p (some ls) z y = absurd (true_not_false refl y)

      clause : (o : Option Derivation) → clause_of S (field_c r) ≡ o → is_there (literals_in ns o) ≡ false → NotThere S r
      clause none p z = no_clause (right_clause R) (let l = entry_there (derivations S) (field_c r) p in omega (arith, many_clauses))
      clause (some d) p z = all d p (numbered_all (literals d) ns) refl z

  pub resolve_absent : (kind : Kind) → IsResolve kind → kind_of_record r ≡ kind → both_there (left_of S r) (right_of S kind r) ≡ false → NotThere S r
  resolve_absent kind i e q = try (either_false (is_there (left_of S r)) (is_there (right_of S kind r)) q)
    where
      R : RightLiterals r (right_numbers kind r)
      R = right_literals_lem r kind i e

      try : (is_there (left_of S r) ≡ false) ⊎ (is_there (right_of S kind r) ≡ false) → NotThere S r
      try (inl p) = literal_absent (field_a r) (field_b r) (left_clause R) (left_literal R) p
      try (inr p) = rights_absent (right_numbers kind r) R p

  pub factor_absent : kind_of_record r ≡ factorKind → both_there (left_of S r) (deleted_of S r) ≡ false → NotThere S r
  factor_absent e q = try (either_false (is_there (left_of S r)) (is_there (deleted_of S r)) q)
    where
      k : r.kind ≡ 6
      k = of_kind_lem r factorKind e

      try : (is_there (left_of S r) ≡ false) ⊎ (is_there (deleted_of S r) ≡ false) → NotThere S r
      try (inl p) = literal_absent (field_a r) (field_b r) (factored_clause k) (kept_literal k) p
      try (inr p) = literal_absent (field_a r) (field_c r) (factored_clause k) (deleted_literal k) p

  -- Of a window.
  pub window_absent : kind_of_record r ≡ windowKind → is_input (clause_of S (field_a r)) ≡ false → NotThere S r
  window_absent e q = try (clause_of S (field_a r)) refl q
    where
      k : IsWindow r
      k = of_kind_lem r windowKind e

      try : (o : Option Derivation) → clause_of S (field_a r) ≡ o → is_input o ≡ false → NotThere S r
      try none p z = no_clause (dated_clause k) (let l = entry_there (derivations S) (field_a r) p in omega (arith, many_clauses))
      try (some d) p z = derived_clause k p (λ number ls y. true_not_false (ap (λ (x : Derivation). is_input (some x)) y) z)

  -- The test for a number fails, by the record's kind.
  abbrev TestFails : ℕ → Type 0
  TestFails n = test_for (tests S (kind_of_record r) r) n ≡ false

  pub at_number : (k n : ℕ) → r.kind ≡ k → eqb k 8 ≡ false → test_for (tests S (kind_numbered k) r) n ≡ false → TestFails n
  at_number k n e h q = subst (λ (kind : Kind). test_for (tests S kind r) n ≡ false) (sym (kind_at r k e h)) q

  pub at_window : (n : ℕ) → IsWindow r → test_for (tests S windowKind r) n ≡ false → TestFails n
  at_window n w q = subst (λ (kind : Kind). test_for (tests S kind r) n ≡ false) (sym (window_kind r w)) q

  named_within : (c n : ℕ) → is_there (literal_named S c n) ≡ true → (d : Derivation) × (clause_of S c ≡ some d) × (c < length S.clauses) × (1 ≤ n) × (n ≤ length (literals d))
  named_within c n q =
      let x = is_there_lem (literal_named S c n) q in
      let l = literal_named_lem S c n x.0 x.1 in
      let w = numbered_within (literals x.0.0) n x.0.1 l.1 in
      (x.0.0, l.0, let z = entry_below (derivations S) c x.0.0 l.0 in omega (arith, many_clauses), w.0, w.1)

  pub resolve_test : (kind : Kind) → IsResolve kind → kind_of_record r ≡ kind → (n : ℕ) → test_for (resolve_tests S kind r) n ≡ false → TestFails n
  resolve_test kind on_one e n q = subst (λ (k : Kind). test_for (tests S k r) n ≡ false) (sym e) q
  resolve_test kind on_several e n q = subst (λ (k : Kind). test_for (tests S k r) n ≡ false) (sym e) q

  -- What is absent on the left or on the right makes the test of both fail.
  resolve_fails_lem : {ns : List ℕ} → RightLiterals r ns → (is_there (left_of S r) ≡ true → is_there (literals_in ns (clause_of S (field_c r))) ≡ true → ⊥) → TestFails 5
  resolve_fails_lem {ns} R never =
      let k = resolve_kind r R in
      resolve_test k.0 k.1 k.2 5 (not_true (both_there (left_of S r) (right_of S k.0 r)) (λ t.
      let b = both_true (is_there (left_of S r)) (is_there (right_of S k.0 r)) t in
      never b.0 (subst (λ (ms : List ℕ). is_there (literals_in ms (clause_of S (field_c r))) ≡ true) k.3 b.1)))

  factor_fails_lem : r.kind ≡ 6 → (is_there (left_of S r) ≡ true → is_there (deleted_of S r) ≡ true → ⊥) → TestFails 5
  factor_fails_lem e never = at_number 6 5 e refl (not_true (both_there (left_of S r) (deleted_of S r)) (λ t. let b = both_true (is_there (left_of S r)) (is_there (deleted_of S r)) t in never b.0 b.1))

  -- The clause of a window.
  window_fails : IsWindow r → (is_input (clause_of S (field_a r)) ≡ true → ⊥) → TestFails 5
  window_fails w never = at_window 5 w (not_true (is_input (clause_of S (field_a r))) never)

  -- A clause that does not exist.
  rights_within : (ns : List ℕ) → is_there (literals_in ns (clause_of S (field_c r))) ≡ true → (d : Derivation) × (ls : List Literal) × (clause_of S (field_c r) ≡ some d) × (numbered_all (literals d) ns ≡ some ls) × (field_c r < length S.clauses)
  rights_within ns q =
      let x = is_there_lem (literals_in ns (clause_of S (field_c r))) q in
      let l = literals_named S (field_c r) ns x.0 x.1 in
      (x.0.0, x.0.1, l.0, l.1, let z = entry_below (derivations S) (field_c r) x.0.0 l.0 in omega (arith, many_clauses))

  no_clause_fails : {c : ℕ} → NamesClause r c → length S.clauses ≤ c → TestFails 5
  no_clause_fails (left_clause R) l = resolve_fails_lem R (λ p q. let z = (named_within (field_a r) (field_b r) p).2 in omega arith)
  no_clause_fails (right_clause {ns} R) l = resolve_fails_lem R (λ p q. let z = (rights_within ns q).4 in omega arith)
  no_clause_fails (factored_clause e) l = factor_fails_lem e (λ p q. let z = (named_within (field_a r) (field_b r) p).2 in omega arith)
  no_clause_fails (dated_clause e) l = window_fails e (λ t.
      let x = is_input_lem (clause_of S (field_a r)) t in
      let z = entry_below (derivations S) (field_a r) (input x.0 x.1) x.2 in
      omega (arith, many_clauses))

  -- A literal that does not exist in a clause that does.
  abbrev Outside : Derivation → ℕ → Type 0
  Outside d n = (n ≡ 0) ⊎ (length (literals d) < n)

  one_outside : (d : Derivation) (n : ℕ) → Outside d n → 1 ≤ n → n ≤ length (literals d) → ⊥
  one_outside d n (inl z) a b = omega arith
  one_outside d n (inr z) a b = omega arith

  named_outside : (c n : ℕ) (d : Derivation) → clause_of S c ≡ some d → Outside d n → is_there (literal_named S c n) ≡ true → ⊥
  named_outside c n d p h t =
      let w = named_within c n t in
      let e : w.0 ≡ d = some_injective (sym w.1 ∙ p) in
      one_outside d n h w.3 (subst (λ (x : Derivation). n ≤ length (literals x)) e w.4)

  one_numbered : (d : Derivation) (ns : List ℕ) (ls : List Literal) → numbered_all (literals d) ns ≡ some ls → (n : ℕ) → OneOf n ns → (l : Literal) × (numbered (literals d) n ≡ some l)
  one_numbered d [] ls q n m = absurd m
  one_numbered d (k ∷ ns) ls q n (inl e) = let z = numbered_cons (literals d) k ns ls q in (z.0, ap (numbered (literals d)) e ∙ z.2)
  one_numbered d (k ∷ ns) ls q n (inr m) = let z = numbered_cons (literals d) k ns ls q in one_numbered d ns z.1 z.3 n m

  right_outside : (ns : List ℕ) (n : ℕ) (d : Derivation) → OneOf n ns → clause_of S (field_c r) ≡ some d → Outside d n → is_there (literals_in ns (clause_of S (field_c r))) ≡ true → ⊥
  right_outside ns n d m p h t =
      let w = rights_within ns t in
      let e : w.0 ≡ d = some_injective (sym w.2 ∙ p) in
      let o = one_numbered w.0 ns w.1 w.3 n m in
      let b = numbered_within (literals w.0) n o.0 o.1 in
      one_outside d n h b.0 (subst (λ (x : Derivation). n ≤ length (literals x)) e b.1)

  no_literal_fails : {c n : ℕ} (d : Derivation) → Names r c n → clause_of S c ≡ some d → Outside d n → TestFails 5
  no_literal_fails d (left_literal R) p h = resolve_fails_lem R (λ t u. named_outside (field_a r) (field_b r) d p h t)
  no_literal_fails {n = n} d (right_literal {ns} R m) p h = resolve_fails_lem R (λ t u. right_outside ns n d m p h u)
  no_literal_fails d (kept_literal e) p h = factor_fails_lem e (λ t u. named_outside (field_a r) (field_b r) d p h t)
  no_literal_fails d (deleted_literal e) p h = factor_fails_lem e (λ t u. named_outside (field_a r) (field_c r) d p h u)

  arguments_fail : r.kind ≡ 3 → ((arity_of S (field_a r) ≡ some r.count) × (all_below (length (rows_of S)) (argument_rows r) ≡ true) → ⊥) → TestFails 5
  arguments_fail e never = at_number 3 5 e refl (not_true (arguments_there S r) (λ t.
      let p = both_true (has_arity r.count (arity_of S (field_a r))) (all_below (length (rows_of S)) (argument_rows r)) t in
      never (has_arity_lem r.count (arity_of S (field_a r)) p.0, p.1)))

  argument_there : (i : ℕ) → 1 ≤ i → i ≤ r.count → r.count ≤ 6 → all_below (length (rows_of S)) (argument_rows r) ≡ true → field_numbered r i < length S.rows
  argument_there i a b c t =
      let n : i - 1 < length (argument_rows r) = simp (length-take, length-drop) (omega arith) in
      let z = below_true (length (rows_of S)) (argument_rows r) t (i - 1) n in
      let y = argument_at (i - 1) (omega arith) in
      let e : 1 + (i - 1) ≡ i = omega arith in
      let x : field_numbered r (1 + (i - 1)) ≡ field_numbered r i = ap (field_numbered r) e in
      omega (arith, many_rows)

  literal_row_there : (i : ℕ) → i < r.count → r.count ≤ 7 → literal_rows_there S r ≡ true → field_numbered r i / 2 < length S.rows
  literal_row_there i a c t =
      let n : i < length literal_rows = simp (length-map, length-take) (omega arith) in
      let z = below_true (length (rows_of S)) literal_rows t i n in
      let y = literal_row_at i a in
      omega (arith, many_rows)

  -- 5 holds: its test fails, or that of 4 does.
  pub not_there : NotThere S r → (TestFails 4) ⊎ (TestFails 5)
  not_there (no_symbol_there e l) = inr (arguments_fail e (λ p. let z = entry_below (arities S) (field_a r) r.count p.0 in omega (arith, many_symbols)))
  not_there (other_arity e p n) = inr (arguments_fail e (λ q. n (some_injective (sym q.0 ∙ p))))
  not_there (no_argument_row e i a b l) = try (leb r.count 6) refl
    where
      try : (b : Bool) → leb r.count 6 ≡ b → (TestFails 4) ⊎ (TestFails 5)
      try true q = inr (arguments_fail e (λ p. let z = argument_there i a b (at_most r.count 6 q) p.1 in omega arith))
      try false q = inl (at_number 3 4 e refl (second_false (zero_days r.days) _ (rw q refl)))
  not_there (no_literal_row e i a l) = try (leb r.count 7) refl
    where
      try : (b : Bool) → leb r.count 7 ≡ b → (TestFails 4) ⊎ (TestFails 5)
      try true q = inr (at_number 4 5 e refl (not_true (literal_rows_there S r) (λ t. let z = literal_row_there i a (at_most r.count 7 q) t in omega arith)))
      try false q = inl (at_number 4 4 e refl (rw q refl))
  not_there (no_clause names l) = inr (no_clause_fails names l)
  not_there (no_literal {d = d} names p h) = inr (no_literal_fails d names p h)
  not_there (derived_clause e p n) = inr (window_fails e (λ t. let x = is_input_lem (clause_of S (field_a r)) t in n x.0 x.1 (some_injective (sym p ∙ x.2))))
