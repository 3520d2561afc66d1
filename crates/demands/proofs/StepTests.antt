-- The tests of literals, signs, sizes and days say what the conditions of 7, 8, 9, 14 and 16 say.
use mathlib.Core.Path.{◌≡◌, refl, sym, ap, ◌∙◌, subst}
use mathlib.Core.Logic.{◌⊎◌, inl, inr}
use mathlib.Core.Bool.{Bool, true, false, ◌&&◌, not}
use mathlib.Core.Option.{Option, none, some}
use mathlib.Core.List.{List, [], ◌∷◌, map}
use Prim.Native.Nat.{ℕ, zero, suc, ◌+◌, ◌≤◌, ◌<◌}
use native.Mathlib.Omega.{arith}
use lib.Dec.{eqb, leb, ltb, eqb_refl, ltb→lt}
use lib.ListN.{length, get_or, take, drop, length-take, length-drop, length-map, length-append}
use lib.Seq.{get_or-take, get_or-drop}
use Rattle.record.specs.Record.{Record, Kind, inputKind, factorKind, severalKind, windowKind, field_a, field_b, field_c}
use Rattle.unification.specs.Row.{variable, Row, application}
use Rattle.unification.proofs.Tests.{to_t, from_t, both_true, true_not_false}
use Rattle.derivation.specs.Derivation.{literals, Literal, RowLiteral, literal_of, input_literals, Derivation, resolve, factor, numbered, without, without_all, raise_literal, maximum_index}
use Rattle.derivation.proofs.Literals.{leb_false_lt}
use Rattle.demands.specs.Conditions.{OneOf, field_numbered, LiteralOnVariable, NotRising, DaysCrossed, in_window, beside_clause, Resolves, Factors, SignsUnfit, equal_in_resolve, opposite_in_factor, one_literal_twice, ResultOver, resolvent_literals, resolvent_index, factor_literals, factor_index}
use Rattle.verdict.specs.Refusal.{tests, most_literals, most_index, kind_of_record, in_range, literal_in, literal_named, left_of, right_numbers, literals_in, right_of, deleted_of, is_there, both_there, is_application, all_applications, equal_signs, all_opposite, rising, in_order, on_both, opposite_signs, factor_signs, result_fits, resolvent_fits, factor_fits}
use Rattle.verdict.specs.State.{State, clause_of, row_of, next_clause}
use Rattle.demands.proofs.ExistenceTests.{at_number, at_window, resolve_test, literal_row_at}
use Rattle.demands.proofs.Inversions.{literal_named_lem, literals_named, is_there_lem, test_for}
use Rattle.demands.proofs.RangeTests.{at_most, either_false, equal, not_true, not_under, of_kind_lem, fields_of_lem, several_fits, IsResolve, on_one, on_several, right_literals_lem, resolve_kind}
use Rattle.demands.proofs.Steps.{same_parent_lem}

-- 7: literals on variables.
variable_found : (row : ℕ → Row) (ls : List RowLiteral) → all_applications row ls ≡ false → (i : ℕ) × (v : ℕ) × (i < length ls) × (row (get_or (map (λ (l : RowLiteral). l.1) ls) i 0) ≡ variable v)
variable_found row [] q = absurd (true_not_false refl q)
variable_found row (l ∷ ls) q = try (row l.1) refl q (λ z. variable_found row ls z)
  where
    try : (w : Row) → row l.1 ≡ w → (is_application w && all_applications row ls) ≡ false
        → (all_applications row ls ≡ false → (i : ℕ) × (v : ℕ) × (i < length ls) × (row (get_or (map (λ (l : RowLiteral). l.1) ls) i 0) ≡ variable v))
        → (i : ℕ) × (v : ℕ) × (i < length (l ∷ ls)) × (row (get_or (map (λ (l : RowLiteral). l.1) (l ∷ ls)) i 0) ≡ variable v)
    try (variable v) p z k = (0, v, omega arith, p)
    try (application s xs) p z k = (suc (k z).0, (k z).1, let a = (k z).2 in omega arith, (k z).3)

variable_not_application : {v s : ℕ} {xs : List ℕ} → variable v ≡ application s xs → ⊥
variable_not_application p = let z : ◌≡◌ {A = ℕ} 0 1 = cc in omega arith

applications_only : (row : ℕ → Row) (ls : List RowLiteral) → all_applications row ls ≡ true → (i v : ℕ) → i < length ls → ¬ (row (get_or (map (λ (l : RowLiteral). l.1) ls) i 0) ≡ variable v)
applications_only row [] q i v a = absurd (omega arith)
applications_only row (l ∷ ls) q zero v a = λ e. true_not_false (both_true (is_application (row l.1)) (all_applications row ls) q).0 (ap is_application e)
applications_only row (l ∷ ls) q (suc i) v a = applications_only row ls (both_true (is_application (row l.1)) (all_applications row ls) q).1 i v (omega arith)

-- Steps on literals that exist.
module _ (S : State) (r : Record) where
  named_there : (c n : ℕ) (d : Derivation) (l : Literal) → clause_of S c ≡ some d → numbered (literals d) n ≡ some l → literal_named S c n ≡ some (d, l)
  named_there c n d l p q = ap (literal_in n) p ∙ ap (λ (o : Option Literal). elim o [ some x ↦ some (d, x) | none ↦ none ]) q

  pub resolves_left : {left right : Derivation} {l : Literal} {ns : List ℕ} {ms : List Literal} → Resolves S r left right l ns ms → left_of S r ≡ some (left, l)
  resolves_left {left} {right} {l} N = named_there (field_a r) (field_b r) left l N.is_left N.is_left_literal

  pub resolves_right : {left right : Derivation} {l : Literal} {ns : List ℕ} {ms : List Literal} → Resolves S r left right l ns ms → literals_in ns (clause_of S (field_c r)) ≡ some (right, ms)
  resolves_right {left} {right} {l} {ns} {ms} N = ap (literals_in ns) N.is_right ∙ ap (λ (o : Option (List Literal)). elim o [ some x ↦ some (right, x) | none ↦ none ]) N.are_right_literals

  -- The kind of a resolve, with its right literals by that kind.
  pub record ResolveKind (right : Derivation) (ns : List ℕ) (ms : List Literal) : Type 0 where
    pub kind : Kind
    pub is_resolve : IsResolve kind
    pub is_kind : kind_of_record r ≡ kind
    pub numbers : right_numbers kind r ≡ ns
    pub named : right_of S kind r ≡ some (right, ms)

  pub kind_of_resolve : {left right : Derivation} {l : Literal} {ns : List ℕ} {ms : List Literal} → Resolves S r left right l ns ms → ResolveKind right ns ms
  kind_of_resolve {right = right} {ms = ms} N =
      let k = resolve_kind r N.is_resolve in
      record {
        kind = k.0;
        is_resolve = k.1;
        is_kind = k.2;
        numbers = k.3;
        named = ap (λ (xs : List ℕ). literals_in xs (clause_of S (field_c r))) k.3 ∙ resolves_right N;
      }

  pub factors_kept : {parent : Derivation} {l m : Literal} → Factors S r parent l m → left_of S r ≡ some (parent, l)
  factors_kept {parent} {l} {m} N = named_there (field_a r) (field_b r) parent l N.is_parent N.is_kept

  pub factors_deleted : {parent : Derivation} {l m : Literal} → Factors S r parent l m → deleted_of S r ≡ some (parent, m)
  factors_deleted {parent} {l} {m} N = named_there (field_a r) (field_c r) parent m N.is_parent N.is_deleted

  pub resolves : (kind : Kind) → IsResolve kind → (x : Derivation × Literal) (y : Derivation × List Literal) → kind_of_record r ≡ kind → left_of S r ≡ some x → right_of S kind r ≡ some y → Resolves S r x.0 y.0 x.1 (right_numbers kind r) y.1
  resolves kind i x y e p q =
      let a = literal_named_lem S (field_a r) (field_b r) x p in
      let b = literals_named S (field_c r) (right_numbers kind r) y q in
      record { is_resolve = right_literals_lem r kind i e; is_left = a.0; is_left_literal = a.1; is_right = b.0; are_right_literals = b.1 }

  pub factors : (x y : Derivation × Literal) → kind_of_record r ≡ factorKind → left_of S r ≡ some x → deleted_of S r ≡ some y → Factors S r x.0 x.1 y.1
  factors x y e p q =
      let a = literal_named_lem S (field_a r) (field_b r) x p in
      let b = literal_named_lem S (field_a r) (field_c r) y q in
      record { is_factor = of_kind_lem r factorKind e; is_parent = a.0; is_kept = a.1; is_deleted = subst (λ (c : Derivation). numbered (literals c) (field_c r) ≡ some y.1) (same_parent_lem S r x y p q) b.1 }

  pub both_named : {A B : Type 0} (o : Option A) (p : Option B) → both_there o p ≡ true → (x : A) × (y : B) × (o ≡ some x) × (p ≡ some y)
  both_named o p q =
      let b = both_true (is_there o) (is_there p) q in
      let x = is_there_lem o b.0 in
      let y = is_there_lem p b.1 in
      (x.0, y.0, x.1, y.1)

module _ (S : State) (r : Record) (seven : length r.fields ≡ 7) where
  pub literal_on_variable : kind_of_record r ≡ inputKind → all_applications (row_of S) (input_literals r) ≡ false → LiteralOnVariable S r
  literal_on_variable e q =
      let z = variable_found (row_of S) (input_literals r) q in
      let l : z.0 < r.count = let w = z.2 in let x = length-map (take r.count r.fields) literal_of in let v = length-take r.count r.fields in omega arith in
      record {
        is_input = of_kind_lem r inputKind e;
        literal = z.0;
        is_literal = l;
        number = z.1;
        on_variable = ap (row_of S) (sym (literal_row_at S r seven z.0 l)) ∙ z.3;
      }

  -- 7 holds: its test fails, or that of 4 does.
  pub on_variable_fails : LiteralOnVariable S r → (test_for (tests S (kind_of_record r) r) 4 ≡ false) ⊎ (test_for (tests S (kind_of_record r) r) 7 ≡ false)
  on_variable_fails L = try (leb r.count 7) refl
    where
      try : (b : Bool) → leb r.count 7 ≡ b → (test_for (tests S (kind_of_record r) r) 4 ≡ false) ⊎ (test_for (tests S (kind_of_record r) r) 7 ≡ false)
      try true q =
          let h = at_most r.count 7 q in
          let n : L.literal < length (input_literals r) = let a = L.is_literal in simp (length-map, length-take) (omega arith) in
          inr (at_number S r seven 4 7 L.is_input refl (not_true (all_applications (row_of S) (input_literals r)) (λ t.
          applications_only (row_of S) (input_literals r) t L.literal L.number n (ap (row_of S) (literal_row_at S r seven L.literal L.is_literal) ∙ L.on_variable))))
      try false q = inl (at_number S r seven 4 4 L.is_input refl (rw q refl))

  -- 8: signs.
  signs_equal : (s t : Bool) → not (equal_signs s t) ≡ false → s ≡ t
  signs_equal true true q = refl
  signs_equal true false q = absurd (true_not_false refl q)
  signs_equal false true q = absurd (true_not_false refl q)
  signs_equal false false q = refl

  signs_opposite : (s t : Bool) → equal_signs s t ≡ false → ¬ (s ≡ t)
  signs_opposite true true q e = true_not_false refl q
  signs_opposite true false q e = true_not_false refl e
  signs_opposite false true q e = true_not_false e refl
  signs_opposite false false q e = true_not_false refl q

  equal_signs_lem : (s t : Bool) → s ≡ t → equal_signs s t ≡ true
  equal_signs_lem true true e = refl
  equal_signs_lem true false e = absurd (true_not_false refl e)
  equal_signs_lem false true e = absurd (true_not_false e refl)
  equal_signs_lem false false e = refl

  -- 14: numbers that do not strictly rise.
  falls_at : (xs : List ℕ) → rising xs ≡ false → (i : ℕ) × (suc i < length xs) × (get_or xs (suc i) 0 ≤ get_or xs i 0)
  falls_at [] q = absurd (true_not_false refl q)
  falls_at (n ∷ []) q = absurd (true_not_false refl q)
  falls_at (n ∷ m ∷ xs) q = try (either_false (ltb n m) (rising (m ∷ xs)) q) (λ z. falls_at (m ∷ xs) z)
    where
      try : (ltb n m ≡ false) ⊎ (rising (m ∷ xs) ≡ false) → (rising (m ∷ xs) ≡ false → (i : ℕ) × (suc i < length (m ∷ xs)) × (get_or (m ∷ xs) (suc i) 0 ≤ get_or (m ∷ xs) i 0)) → (i : ℕ) × (suc i < length (n ∷ m ∷ xs)) × (get_or (n ∷ m ∷ xs) (suc i) 0 ≤ get_or (n ∷ m ∷ xs) i 0)
      try (inl p) k = (0, omega arith, not_under n m p)
      try (inr p) k = let z = k p in (suc z.0, let l = z.1 in omega arith, z.2)

  rises_at : (xs : List ℕ) → rising xs ≡ true → (i : ℕ) → suc i < length xs → get_or xs i 0 < get_or xs (suc i) 0
  rises_at [] q i l = absurd (omega arith)
  rises_at (n ∷ []) q i l = absurd (omega arith)
  rises_at (n ∷ m ∷ xs) q zero l = ltb→lt n m (to_t (ltb n m) (both_true (ltb n m) (rising (m ∷ xs)) q).0)
  rises_at (n ∷ m ∷ xs) q (suc i) l = rises_at (m ∷ xs) (both_true (ltb n m) (rising (m ∷ xs)) q).1 i (omega arith)

  right_at : (i : ℕ) → i < r.count → get_or (right_numbers severalKind r) i 0 ≡ field_numbered r (3 + i)
  right_at i l = get_or-take r.count (drop 3 r.fields) i 0 l ∙ get_or-drop 3 r.fields i 0

  right_count_lem : r.count ≤ 4 → length (right_numbers severalKind r) ≡ r.count
  right_count_lem l = simp (length-take, length-drop) (omega (arith, seven))

  pub few_rights : (kind : Kind) → IsResolve kind → in_range kind r ≡ true → (1 ≤ length (right_numbers kind r)) × (length (right_numbers kind r) ≤ 4)
  few_rights kind on_one q = (omega arith, omega arith)
  few_rights kind on_several q = let f = several_fits r (fields_of_lem r severalKind q) in let c = right_count_lem f.0.0 in (omega arith, omega arith)

  pub not_rising : (kind : Kind) → IsResolve kind → kind_of_record r ≡ kind → in_range kind r ≡ true → rising (right_numbers kind r) ≡ false → NotRising r
  not_rising kind on_one e q z = absurd (true_not_false refl z)
  not_rising kind on_several k q z =
      let f = several_fits r (fields_of_lem r severalKind q) in
      let w = falls_at (right_numbers severalKind r) z in
      let c = right_count_lem f.0.0 in
      let l : 1 + w.0 < r.count = let y = w.1 in omega arith in
      let a = right_at w.0 (omega arith) in
      let b = right_at (suc w.0) (omega arith) in
      let e : 3 + suc w.0 ≡ 4 + w.0 = omega arith in
      let x : field_numbered r (3 + suc w.0) ≡ field_numbered r (4 + w.0) = ap (field_numbered r) e in
      record { is_several = of_kind_lem r severalKind k; place = w.0; is_place = l; falls = let y = w.2 in omega arith }

  -- 14 holds: its test fails, or that of 4 does.
  pub rising_fails : NotRising r → (test_for (tests S (kind_of_record r) r) 4 ≡ false) ⊎ (test_for (tests S (kind_of_record r) r) 14 ≡ false)
  rising_fails F = try (in_range severalKind r) refl
    where
      try : (b : Bool) → in_range severalKind r ≡ b → (test_for (tests S (kind_of_record r) r) 4 ≡ false) ⊎ (test_for (tests S (kind_of_record r) r) 14 ≡ false)
      try false q = inl (at_number S r seven 7 4 F.is_several refl q)
      try true q =
          let c = right_count_lem (several_fits r (fields_of_lem r severalKind q)).0.0 in
          let k = F.is_place in
          let a = right_at F.place (omega arith) in
          let b = right_at (suc F.place) (omega arith) in
          let e : 3 + suc F.place ≡ 4 + F.place = omega arith in
          let x : field_numbered r (3 + suc F.place) ≡ field_numbered r (4 + F.place) = ap (field_numbered r) e in
          inr (at_number S r seven 7 14 F.is_several refl (not_true (rising (right_numbers severalKind r)) (λ t. let z = rises_at (right_numbers severalKind r) t F.place (omega arith) in let y = F.falls in omega arith)))

  -- 16: crossed days, of a window and beside a clause.
  pub days_cross : kind_of_record r ≡ windowKind → leb (field_b r) (field_c r) ≡ false → DaysCrossed r
  days_cross e q = in_window (of_kind_lem r windowKind e) (leb_false_lt (field_b r) (field_c r) q)

  pub beside_cross : kind_of_record r ≡ inputKind → in_order r.days ≡ false → DaysCrossed r
  beside_cross e q = try r.days refl q
    where
      try : (d : Option (ℕ × ℕ)) → r.days ≡ d → in_order d ≡ false → DaysCrossed r
      try none p z = absurd (true_not_false refl z)
      try (some d) p z = beside_clause (of_kind_lem r inputKind e) p (leb_false_lt d.0 d.1 z)

  pub days_fail : DaysCrossed r → test_for (tests S (kind_of_record r) r) 16 ≡ false
  days_fail (in_window w l) = at_window S r seven 16 w (not_true (leb (field_b r) (field_c r)) (λ t. let z = at_most (field_b r) (field_c r) t in omega arith))
  days_fail (beside_clause {first} {last} e d l) =
      at_number S r seven 4 16 e refl (ap in_order d ∙ not_true (leb first last) (λ t. let z = at_most first last t in omega arith))

  -- 8, of a resolve: one of the right signs equals the left one.
  one_equal : (s : Bool) (ms : List Literal) → all_opposite s ms ≡ false → (m : Literal) × OneOf m ms × (s ≡ m.0)
  one_equal s [] q = absurd (true_not_false refl q)
  one_equal s (m ∷ ms) q = try (either_false (not (equal_signs s m.0)) (all_opposite s ms) q) (λ z. one_equal s ms z)
    where
      try : (not (equal_signs s m.0) ≡ false) ⊎ (all_opposite s ms ≡ false) → (all_opposite s ms ≡ false → (n : Literal) × OneOf n ms × (s ≡ n.0)) → (n : Literal) × OneOf n (m ∷ ms) × (s ≡ n.0)
      try (inl p) k = (m, inl refl, signs_equal s m.0 p)
      try (inr p) k = let z = k p in (z.0, inr z.1, z.2)

  not_opposite : (s : Bool) (ms : List Literal) (m : Literal) → OneOf m ms → s ≡ m.0 → all_opposite s ms ≡ true → ⊥
  not_opposite s [] m o e q = o
  not_opposite s (n ∷ ms) m (inl p) e q = true_not_false (both_true (not (equal_signs s n.0)) (all_opposite s ms) q).0 (ap not (equal_signs_lem s n.0 (e ∙ ap (λ (x : Literal). x.0) p)))
  not_opposite s (n ∷ ms) m (inr p) e q = not_opposite s ms m p e (both_true (not (equal_signs s n.0)) (all_opposite s ms) q).1

  pub resolve_signs : (kind : Kind) → IsResolve kind → kind_of_record r ≡ kind → both_there (left_of S r) (right_of S kind r) ≡ true → opposite_signs S kind r ≡ false → SignsUnfit S r
  resolve_signs kind i e t q =
      let n = both_named S r (left_of S r) (right_of S kind r) t in
      by n.0 n.1 n.2 n.3
    where
      by : (x : Derivation × Literal) (y : Derivation × List Literal) → left_of S r ≡ some x → right_of S kind r ≡ some y → SignsUnfit S r
      by x y a b = let z = one_equal x.1.0 y.1 (rw (a, b) at q) in equal_in_resolve (resolves S r kind i x y e a b) z.0 z.1 z.2

  pub factor_signs_lem : kind_of_record r ≡ factorKind → both_there (left_of S r) (deleted_of S r) ≡ true → factor_signs S r ≡ false → SignsUnfit S r
  factor_signs_lem e t q =
      let n = both_named S r (left_of S r) (deleted_of S r) t in
      by n.0 n.1 n.2 n.3
    where
      twice : (b : Bool) → eqb (field_b r) (field_c r) ≡ b → not b ≡ false → SignsUnfit S r
      twice true p z = one_literal_twice (of_kind_lem r factorKind e) (equal (field_b r) (field_c r) p)
      twice false p z = absurd (true_not_false refl z)

      try : (x y : Derivation × Literal) → left_of S r ≡ some x → deleted_of S r ≡ some y → (equal_signs x.1.0 y.1.0 ≡ false) ⊎ (not (eqb (field_b r) (field_c r)) ≡ false) → SignsUnfit S r
      try x y a b (inl p) = opposite_in_factor (factors S r x y e a b) (signs_opposite x.1.0 y.1.0 p)
      try x y a b (inr p) = twice (eqb (field_b r) (field_c r)) refl p

      by : (x y : Derivation × Literal) → left_of S r ≡ some x → deleted_of S r ≡ some y → SignsUnfit S r
      by x y a b = try x y a b (either_false (equal_signs x.1.0 y.1.0) (not (eqb (field_b r) (field_c r))) (rw (a, b) at q))

  pub signs_fail : SignsUnfit S r → test_for (tests S (kind_of_record r) r) 8 ≡ false
  signs_fail (equal_in_resolve {left} {right} {l} {ns} {ms} N m o e) =
      let K = kind_of_resolve S r N in
      resolve_test S r seven K.kind K.is_resolve K.is_kind 8 (rw (resolves_left S r N, K.named) (not_true (all_opposite l.0 ms) (not_opposite l.0 ms m o e)))
  signs_fail (opposite_in_factor {parent} {l} {m} N n) = at_number S r seven 6 8 N.is_factor refl (rw (factors_kept S r N, factors_deleted S r N) (ap (λ (b : Bool). b && not (eqb (field_b r) (field_c r))) (not_true (equal_signs l.0 m.0) (λ t. n (same_signs l.0 m.0 t)))))
    where
      same_signs : (s t : Bool) → equal_signs s t ≡ true → s ≡ t
      same_signs true true q = refl
      same_signs true false q = sym q
      same_signs false true q = q
      same_signs false false q = refl
  signs_fail (one_literal_twice e q) = at_number S r seven 6 8 e refl (not_true (factor_signs S r) (λ t. different t))
    where
      one : eqb (field_b r) (field_c r) ≡ true
      one = subst (λ (n : ℕ). eqb (field_b r) n ≡ true) q (from_t (eqb (field_b r) (field_b r)) (eqb_refl (field_b r)))

      different : factor_signs S r ≡ true → ⊥
      different t = true_not_false (both_true (on_both (λ x y. equal_signs x.1.0 y.1.0) (left_of S r) (deleted_of S r)) (not (eqb (field_b r) (field_c r))) t).1 (ap not one)

  -- 9: the result's size. Without bindings, its literals are those of the parents but the ones named.
  literals_128 : most_literals ≡ 128
  unfolding most_literals
  literals_128 = refl

  index_4096 : most_index ≡ 4096
  unfolding most_index
  index_4096 = refl

  resolvent_length : (left right : Derivation) (ns : List ℕ) → length (literals (resolve (next_clause S) left (field_b r) right ns [])) ≡ length (without (literals left) (field_b r)) + length (without_all (literals right) ns)
  resolvent_length left right ns =
      length-append (without (literals left) (field_b r)) (map (raise_literal (maximum_index left)) (without_all (literals right) ns))
      ∙ ap (λ (n : ℕ). length (without (literals left) (field_b r)) + n) (length-map (without_all (literals right) ns) (raise_literal (maximum_index left)))

  unfit : (c : Derivation) → result_fits c ≡ false → (128 < length (literals c)) ⊎ (4096 < maximum_index c)
  unfit c q = try (either_false (leb (length (literals c)) most_literals) (leb (maximum_index c) most_index) q)
    where
      try : (leb (length (literals c)) most_literals ≡ false) ⊎ (leb (maximum_index c) most_index ≡ false) → (128 < length (literals c)) ⊎ (4096 < maximum_index c)
      try (inl p) = inl (subst (λ (n : ℕ). n < length (literals c)) literals_128 (leb_false_lt (length (literals c)) most_literals p))
      try (inr p) = inr (subst (λ (n : ℕ). n < maximum_index c) index_4096 (leb_false_lt (maximum_index c) most_index p))

  fit : (c : Derivation) → result_fits c ≡ true → (length (literals c) ≤ 128) × (maximum_index c ≤ 4096)
  fit c q =
      let p = both_true (leb (length (literals c)) most_literals) (leb (maximum_index c) most_index) q in
      (subst (λ (n : ℕ). length (literals c) ≤ n) literals_128 (at_most (length (literals c)) most_literals p.0), subst (λ (n : ℕ). maximum_index c ≤ n) index_4096 (at_most (maximum_index c) most_index p.1))

  pub resolvent_over : (kind : Kind) → IsResolve kind → kind_of_record r ≡ kind → both_there (left_of S r) (right_of S kind r) ≡ true → resolvent_fits S kind r ≡ false → ResultOver S r
  resolvent_over kind i e t q =
      let n = both_named S r (left_of S r) (right_of S kind r) t in
      by n.0 n.1 n.2 n.3
    where
      by : (x : Derivation × Literal) (y : Derivation × List Literal) → left_of S r ≡ some x → right_of S kind r ≡ some y → ResultOver S r
      by x y a b = try (unfit (resolve (next_clause S) x.0 (field_b r) y.0 (right_numbers kind r) []) (rw (a, b) at q))
        where
          try : (128 < length (literals (resolve (next_clause S) x.0 (field_b r) y.0 (right_numbers kind r) []))) ⊎ (4096 < maximum_index x.0 + maximum_index y.0) → ResultOver S r
          try (inl l) = resolvent_literals (resolves S r kind i x y e a b) (subst (λ (n : ℕ). 128 < n) (resolvent_length x.0 y.0 (right_numbers kind r)) l)
          try (inr l) = resolvent_index (resolves S r kind i x y e a b) l

  pub factor_over : kind_of_record r ≡ factorKind → both_there (left_of S r) (deleted_of S r) ≡ true → factor_fits S r ≡ false → ResultOver S r
  factor_over e t q =
      let n = both_named S r (left_of S r) (deleted_of S r) t in
      by n.0 n.1 n.2 n.3
    where
      by : (x y : Derivation × Literal) → left_of S r ≡ some x → deleted_of S r ≡ some y → ResultOver S r
      by x y a b = try (unfit (factor (next_clause S) x.0 (field_b r) (field_c r) []) (rw (a, b) at q))
        where
          try : (128 < length (without (literals x.0) (field_c r))) ⊎ (4096 < maximum_index x.0) → ResultOver S r
          try (inl l) = factor_literals (factors S r x y e a b) l
          try (inr l) = factor_index (factors S r x y e a b) l

  resolvent_fails : {left right : Derivation} {l : Literal} {ns : List ℕ} {ms : List Literal} → Resolves S r left right l ns ms → ¬ (result_fits (resolve (next_clause S) left (field_b r) right ns []) ≡ true) → test_for (tests S (kind_of_record r) r) 9 ≡ false
  resolvent_fails {left} {right} {l} {ns} {ms} N n =
      let K = kind_of_resolve S r N in
      resolve_test S r seven K.kind K.is_resolve K.is_kind 9 (rw (resolves_left S r N, K.named) (not_true (result_fits (resolve (next_clause S) left (field_b r) right (right_numbers K.kind r) []))
      (λ t. n (subst (λ (xs : List ℕ). result_fits (resolve (next_clause S) left (field_b r) right xs []) ≡ true) K.numbers t))))

  factor_fails_lem : {parent : Derivation} {l m : Literal} → Factors S r parent l m → ¬ (result_fits (factor (next_clause S) parent (field_b r) (field_c r) []) ≡ true) → test_for (tests S (kind_of_record r) r) 9 ≡ false
  factor_fails_lem {parent} {l} {m} N n = at_number S r seven 6 9 N.is_factor refl (rw (factors_kept S r N, factors_deleted S r N) (not_true (result_fits (factor (next_clause S) parent (field_b r) (field_c r) [])) n))

  pub result_fails : ResultOver S r → test_for (tests S (kind_of_record r) r) 9 ≡ false
  result_fails (resolvent_literals {left} {right} {ns = ns} N l) = resolvent_fails N (λ t. let z = (fit (resolve (next_clause S) left (field_b r) right ns []) t).0 in let y = resolvent_length left right ns in omega arith)
  result_fails (resolvent_index {left} {right} {ns = ns} N l) = resolvent_fails N (λ t. let z : maximum_index left + maximum_index right ≤ 4096 = (fit (resolve (next_clause S) left (field_b r) right ns []) t).1 in omega arith)
  result_fails (factor_literals {parent} N l) = factor_fails_lem N (λ t. let z : length (without (literals parent) (field_c r)) ≤ 128 = (fit (factor (next_clause S) parent (field_b r) (field_c r) []) t).0 in omega arith)
  result_fails (factor_index {parent} N l) = factor_fails_lem N (λ t. let z : maximum_index parent ≤ 4096 = (fit (factor (next_clause S) parent (field_b r) (field_c r) []) t).1 in omega arith)
