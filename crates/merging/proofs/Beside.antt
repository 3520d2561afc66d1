-- The second file's records, shifted, stand behind the first's wherever they stand alone.
use mathlib.Core.Path.{◌≡◌, refl, sym, ap, ap₂, ◌∙◌, subst}
use mathlib.Core.Bool.{Bool, true, false, ◌&&◌}
use mathlib.Core.Option.{Option, none, some}
use mathlib.Core.List.{List, [], ◌∷◌, ◌++◌, map}
use Prim.Native.Nat.{ℕ, suc, ◌+◌, ◌≤◌, ◌<◌}
use native.Mathlib.Nat.{suc-add}
use native.Mathlib.Omega.{arith}
use lib.Dec.{eqb, leb, ltb, lt→ltb, eqb_refl}
use lib.ListN.{length, get_or, drop}
use Rattle.record.specs.Record.{pick, Record, otherKind, Kind, symbolKind, variableKind, applicationKind, inputKind, resolveKind, factorKind, severalKind, windowKind, field_a}
use Rattle.record.specs.Sorts.{is_symbol, is_step}
use Rattle.unification.specs.Row.{variable, Row}
use Rattle.unification.proofs.Lists.{Each}
use Rattle.unification.proofs.Rows.{Below}
use Rattle.unification.proofs.Tests.{from_t, both_true, true_not_false}
use Rattle.derivation.specs.Derivation.{input, RowLiteral, input_literals, Derivation}
use Rattle.verdict.specs.Refusal.{tests, outline_tests, kind_of_record, zeros, zero_days, argument_rows, has_arity, all_below, is_input, is_application, all_applications}
use Rattle.verdict.specs.State.{State, Window, with_symbol, with_row, with_clause, with_window, windows_with, with_days_beside, arities, rows_of, derivations, arity_of, clause_of, row_of, record_of_row, next_clause}
use Rattle.verdict.specs.Step.{stands, Result, require_all, new_application, new_literals, window_in, enter, step}
use Rattle.demands.proofs.Inversions.{all_passed, stands_same, step_stands, tests_passed, Passed, has_arity_lem, all_below_lem, rows_below, entry_below, entry_more, entry_new, entry_some, entry_each}
use Rattle.demands.proofs.RangeTests.{of_kind_lem, equal, not_true}
use Rattle.merging.specs.Merging.{shifted}
use Rattle.merging.proofs.Shifts.{shifted_symbol, shifted_variable, shifted_arguments, shifted_after, shifted_head, raised_literal, shifted_literals, shifted_past, shifted_clause, shifted_day, shifted_unused}

-- ── The two states ──

abbrev IsInput : Derivation → Type 0
IsInput d = is_input (some d) ≡ true

abbrev pub raised_window : ℕ → Window → Window
raised_window n w = record { clause = w.clause + n; first = w.first; last = w.last }

-- M is what the first file, which leaves S, and so many records of the second, which leave T, leave together.
pub record Beside (S T M : State) : Type 0 where
  pub of_first : (s a : ℕ) → arity_of S s ≡ some a → arity_of M s ≡ some a
  pub of_second : (s a : ℕ) → arity_of T s ≡ some a → arity_of M s ≡ some a
  pub as_first : length (arities T) ≤ length (arities S) → length (arities M) ≡ length (arities S)
  pub as_second : length (arities S) ≤ length (arities T) → length (arities M) ≡ length (arities T)
  pub rows_many : length (rows_of M) ≡ length (rows_of T) + length (rows_of S)
  pub shapes : (r : ℕ) → is_application (row_of M (r + length (rows_of S))) ≡ is_application (row_of T r)
  pub clauses_many : length (derivations M) ≡ length (derivations T) + length (derivations S)
  pub inputs : Each (λ (d : Derivation). is_input (some d) ≡ true) (derivations M)
  pub windows : M.windows ≡ map (raised_window (length (derivations S))) T.windows ++ S.windows

-- ── Tests ──

pub eqb_raised : (a b c : ℕ) → eqb (a + c) (b + c) ≡ eqb a b
eqb_raised a b c = try (eqb a b) refl
  where
    try : (x : Bool) → eqb a b ≡ x → eqb (a + c) (b + c) ≡ x
    try true q = let e = equal a b q in subst (λ (n : ℕ). eqb (a + c) (n + c) ≡ true) e (from_t (eqb (a + c) (a + c)) (eqb_refl (a + c)))
    try false q = not_true (eqb (a + c) (b + c)) (λ t. let z = equal (a + c) (b + c) t in let e : a ≡ b = omega arith in true_not_false (subst (λ (n : ℕ). eqb a n ≡ true) e (from_t (eqb a a) (eqb_refl a))) q)

below_raised : (n m : ℕ) (xs : List ℕ) → Below n xs → all_below (n + m) (map (λ x. x + m) xs) ≡ true
below_raised n m [] h = refl
below_raised n m (x ∷ xs) h = ap₂ ◌&&◌ (from_t (ltb (x + m) (n + m)) (lt→ltb (x + m) (n + m) (let l = h.0 in omega arith))) (below_raised n m xs h.1)

rows_raised : (n m : ℕ) (c : ℕ) (q : Record) (ls : List RowLiteral) → Each (λ (l : RowLiteral). l.1 < n) ls → all_below (n + m) (map (λ (l : RowLiteral). l.1) (map (raised_literal m c q) ls)) ≡ true
rows_raised n m c q [] h = refl
rows_raised n m c q (l ∷ ls) h = ap₂ ◌&&◌ (from_t (ltb (l.1 + m) (n + m)) (lt→ltb (l.1 + m) (n + m) (let z = h.0 in omega arith))) (rows_raised n m c q ls h.1)

shapes_raised : (row other : ℕ → Row) (m c : ℕ) (q : Record) → ((r : ℕ) → is_application (other (r + m)) ≡ is_application (row r)) → (ls : List RowLiteral) → all_applications other (map (raised_literal m c q) ls) ≡ all_applications row ls
shapes_raised row other m c q h [] = refl
shapes_raised row other m c q h (l ∷ ls) = ap₂ ◌&&◌ (h l.1) (shapes_raised row other m c q h ls)

-- A record of a kind, on a state.
abbrev step_of : State → ℕ → Kind → Record → Result
step_of S k kind r = require_all (tests S kind r) (require_all (outline_tests S kind r) (enter S k kind r))

module _ (S T M : State) (B : Beside S T M) (k j : ℕ) (r : Record) (T' : State) (seven : length r.fields ≡ 7) where
  abbrev r' : Record
  r' = shifted (length (rows_of S)) (length (derivations S)) r

  pub record Goes (kind : Kind) : Type 0 where
    pub next : State
    pub steps : step_of M j kind (shifted (length (rows_of S)) (length (derivations S)) r) ≡ stands next
    pub beside : Beside S T' next

  -- One row more on both sides.
  row_beside : (a b : ℕ) (w u : Row) → is_application w ≡ is_application u → with_row T a u ≡ T' → Beside S T' (with_row M b w)
  row_beside a b w u e q = subst (λ (X : State). Beside S X (with_row M b w)) q (record {
    of_first = B.of_first;
    of_second = B.of_second;
    as_first = B.as_first;
    as_second = B.as_second;
    rows_many = ap suc B.rows_many ∙ sym (suc-add (length (rows_of T)) (length (rows_of S)));
    shapes = λ n. ap (λ (x : ℕ). is_application (pick (eqb (n + length (rows_of S)) x) w (row_of M (n + length (rows_of S))))) B.rows_many ∙ ap (λ (x : Bool). is_application (pick x w (row_of M (n + length (rows_of S))))) (eqb_raised n (length (rows_of T)) (length (rows_of S))) ∙ either n (eqb n (length (rows_of T)));
    clauses_many = B.clauses_many;
    inputs = B.inputs;
    windows = B.windows;
  })
    where
      either : (n : ℕ) (x : Bool) → is_application (pick x w (row_of M (n + length (rows_of S)))) ≡ is_application (pick x u (row_of T n))
      either n true = e
      either n false = B.shapes n

  -- A symbol that both have, and one that is new to both.
  pub symbol_dropped : (a : ℕ) → length (arities T) < length (arities S) → arity_of S (length (arities T)) ≡ some a → with_symbol T k a ≡ T' → Beside S T' M
  symbol_dropped a l h q = subst (λ (X : State). Beside S X M) q (record {
    of_first = B.of_first;
    of_second = both;
    as_first = λ z. B.as_first (omega arith);
    as_second = λ z. B.as_first (omega arith) ∙ omega arith;
    rows_many = B.rows_many;
    shapes = B.shapes;
    clauses_many = B.clauses_many;
    inputs = B.inputs;
    windows = B.windows;
  })
    where
      both : (s b : ℕ) → arity_of (with_symbol T k a) s ≡ some b → arity_of M s ≡ some b
      both s b p = try (eqb s (length (arities T))) refl p
        where
          try : (x : Bool) → eqb s (length (arities T)) ≡ x → pick x (some a) (arity_of T s) ≡ some b → arity_of M s ≡ some b
          try true e z = ap (arity_of M) (equal s (length (arities T)) e) ∙ B.of_first (length (arities T)) a h ∙ z
          try false e z = B.of_second s b z

  symbol_kept : length (arities S) ≤ length (arities T) → (a : ℕ) → with_symbol T k a ≡ T' → Beside S T' (with_symbol M j a)
  symbol_kept l a q = subst (λ (X : State). Beside S X (with_symbol M j a)) q (record {
    of_first = λ s b p. entry_more a (arities M) s b (B.of_first s b p);
    of_second = both;
    as_first = λ z. absurd (omega arith);
    as_second = λ z. ap suc (B.as_second l);
    rows_many = B.rows_many;
    shapes = B.shapes;
    clauses_many = B.clauses_many;
    inputs = B.inputs;
    windows = B.windows;
  })
    where
      both : (s b : ℕ) → arity_of (with_symbol T k a) s ≡ some b → arity_of (with_symbol M j a) s ≡ some b
      both s b p = try (eqb s (length (arities T))) refl p
        where
          try : (x : Bool) → eqb s (length (arities T)) ≡ x → pick x (some a) (arity_of T s) ≡ some b → arity_of (with_symbol M j a) s ≡ some b
          try true e z = ap (arity_of (with_symbol M j a)) (equal s (length (arities T)) e ∙ sym (B.as_second l)) ∙ entry_new a (arities M) ∙ z
          try false e z = entry_more a (arities M) s b (B.of_second s b z)

  -- The days beside an input clause are its window.
  days_raised : (days : Option (ℕ × ℕ)) → windows_with (next_clause M) days M.windows ≡ map (raised_window (length (derivations S))) (windows_with (next_clause T) days T.windows) ++ S.windows
  days_raised none = B.windows
  days_raised (some d) = ap₂ (λ (n : ℕ) (ws : List Window). record { clause = n; first = d.0; last = d.1 } ∷ ws) B.clauses_many B.windows

  clause_beside : (n m : ℕ) (ls ms : List RowLiteral) (days : Option (ℕ × ℕ)) → with_days_beside (with_clause T k (input n ls)) (next_clause T) days ≡ T' → Beside S T' (with_days_beside (with_clause M j (input m ms)) (next_clause M) days)
  clause_beside n m ls ms days q = subst (λ (X : State). Beside S X (with_days_beside (with_clause M j (input m ms)) (next_clause M) days)) q (record {
    of_first = B.of_first;
    of_second = B.of_second;
    as_first = B.as_first;
    as_second = B.as_second;
    rows_many = B.rows_many;
    shapes = B.shapes;
    clauses_many = ap suc B.clauses_many ∙ sym (suc-add (length (derivations T)) (length (derivations S)));
    inputs = (refl, B.inputs);
    windows = days_raised days;
  })

  window_beside : (w u : Window) → w ≡ raised_window (length (derivations S)) u → with_window T u ≡ T' → Beside S T' (with_window M w)
  window_beside w u e q = subst (λ (X : State). Beside S X (with_window M w)) q (record {
    of_first = B.of_first;
    of_second = B.of_second;
    as_first = B.as_first;
    as_second = B.as_second;
    rows_many = B.rows_many;
    shapes = B.shapes;
    clauses_many = B.clauses_many;
    inputs = B.inputs;
    windows = ap₂ (λ (x : Window) (ws : List Window). x ∷ ws) e B.windows;
  })

  -- ── The record shifted, by its kind ──
  symbol_goes : kind_of_record r ≡ symbolKind → length (arities S) ≤ length (arities T) → Passed T symbolKind r → enter T k symbolKind r ≡ stands T' → Goes symbolKind
  symbol_goes e l a q = record {
    next = with_symbol M j r.count;
    steps = all_passed (tests M symbolKind r') (enter M j symbolKind r') (ap (λ (fs : List ℕ). zero_days r.days && (leb r.count 6 && zeros fs)) (shifted_symbol (length (rows_of S)) (length (derivations S)) r (of_kind_lem r symbolKind e)) ∙ a, tt);
    beside = symbol_kept l r.count (stands_same q);
  }

  variable_goes : kind_of_record r ≡ variableKind → Passed T variableKind r → enter T k variableKind r ≡ stands T' → Goes variableKind
  variable_goes e a q =
      let same = shifted_variable (length (rows_of S)) (length (derivations S)) r (of_kind_lem r variableKind e) in
      record {
        next = with_row M (record_of_row M j (variable (field_a r'))) (variable (field_a r'));
        steps = all_passed (tests M variableKind r') (enter M j variableKind r') (ap (λ (fs : List ℕ). zero_days r.days && (eqb r.count 0 && leb (get_or fs 0 0) 63 && zeros (drop 1 fs))) same ∙ a, tt);
        beside = row_beside (record_of_row T k (variable (field_a r))) (record_of_row M j (variable (field_a r'))) (variable (field_a r')) (variable (field_a r)) refl (stands_same q);
      }

  application_goes : kind_of_record r ≡ applicationKind → Passed T applicationKind r → enter T k applicationKind r ≡ stands T' → Goes applicationKind
  application_goes e a q =
      let n = of_kind_lem r applicationKind e in
      let rest = shifted_after (length (rows_of S)) (length (derivations S)) r n in
      let arguments = shifted_arguments (length (rows_of S)) (length (derivations S)) r n in
      let head = shifted_head (length (rows_of S)) (length (derivations S)) r n seven in
      let t = both_true (has_arity r.count (arity_of T (field_a r))) (all_below (length (rows_of T)) (argument_rows r)) a.there in
      let arity : arity_of M (field_a r') ≡ some r.count = ap (arity_of M) head ∙ B.of_second (field_a r) r.count (has_arity_lem r.count (arity_of T (field_a r)) t.0) in
      let has : has_arity r.count (arity_of M (field_a r')) ≡ true = ap (has_arity r.count) arity ∙ from_t (eqb r.count r.count) (eqb_refl r.count) in
      let below : all_below (length (rows_of M)) (argument_rows r') ≡ true =
      ap₂ all_below B.rows_many arguments ∙ below_raised (length (rows_of T)) (length (rows_of S)) (argument_rows r) (all_below_lem (length (rows_of T)) (argument_rows r) t.1)
      in
      record {
        next = with_row M (record_of_row M j (new_application M r')) (new_application M r');
        steps = all_passed (tests M applicationKind r') (enter M j applicationKind r') (ap (λ (fs : List ℕ). zero_days r.days && (leb r.count 6 && zeros fs)) rest ∙ a.ranged, (ap₂ ◌&&◌ has below, tt));
        beside = row_beside (record_of_row T k (new_application T r)) (record_of_row M j (new_application M r')) (new_application M r') (new_application T r) refl (stands_same q);
      }

  input_goes : kind_of_record r ≡ inputKind → Passed T inputKind r → enter T k inputKind r ≡ stands T' → Goes inputKind
  input_goes e a q =
      let n = of_kind_lem r inputKind e in
      let rest = shifted_past (length (rows_of S)) (length (derivations S)) r n in
      let ls = shifted_literals (length (rows_of S)) (length (derivations S)) r n in
      record {
        next = with_days_beside (with_clause M j (input (next_clause M) (new_literals M r'))) (next_clause M) r.days;
        steps = all_passed (tests M inputKind r') (enter M j inputKind r') (
          ap (λ (fs : List ℕ). leb r.count 7 && zeros fs) rest ∙ a.ranged,
          (
            ap₂ (λ (x : ℕ) (l : List RowLiteral). all_below x (map (λ (y : RowLiteral). y.1) l)) B.rows_many ls ∙ rows_raised (length (rows_of T)) (length (rows_of S)) (length (derivations S)) r (input_literals r) (rows_below (length (rows_of T)) (input_literals r) a.there),
            (a.days, (ap (all_applications (row_of M)) ls ∙ shapes_raised (row_of T) (row_of M) (length (rows_of S)) (length (derivations S)) r B.shapes (input_literals r) ∙ a.applications, tt)),
          ),
        );
        beside = clause_beside (next_clause T) (next_clause M) (new_literals T r) (new_literals M r') r.days (stands_same q);
      }

  input_there : (n : ℕ) → is_input (clause_of T n) ≡ true → is_input (clause_of M (n + length (derivations S))) ≡ true
  input_there n h = found (clause_of T n) refl h
    where
      found : (o : Option Derivation) → clause_of T n ≡ o → is_input o ≡ true → is_input (clause_of M (n + length (derivations S))) ≡ true
      found none e z = absurd (true_not_false z refl)
      found (some d) e z =
          let l = entry_below (derivations T) n d e in
          let m = B.clauses_many in
          let s = entry_some (derivations M) (n + length (derivations S)) (omega arith) in
          ap is_input s.1 ∙ entry_each IsInput (derivations M) B.inputs (n + length (derivations S)) s.0 s.1

  window_goes : kind_of_record r ≡ windowKind → Passed T windowKind r → enter T k windowKind r ≡ stands T' → Goes windowKind
  window_goes e a q =
      let n = (of_kind_lem r windowKind e).0 in
      let rest = shifted_unused (length (rows_of S)) (length (derivations S)) r n in
      let clause = shifted_clause (length (rows_of S)) (length (derivations S)) r n seven in
      let first = shifted_day (length (rows_of S)) (length (derivations S)) r 1 (omega arith) (omega arith) n seven in
      let last = shifted_day (length (rows_of S)) (length (derivations S)) r 2 (omega arith) (omega arith) n seven in
      record {
        next = with_window M (window_in r');
        steps = all_passed (tests M windowKind r') (enter M j windowKind r') (
          ap (λ (fs : List ℕ). eqb r.count 0 && zeros fs) rest ∙ a.ranged,
          (ap (λ (x : ℕ). is_input (clause_of M x)) clause ∙ input_there (field_a r) a.there, (ap₂ leb first last ∙ a.days, tt)),
        );
        beside = window_beside (window_in r') (window_in r) (λ i. record { clause = clause i; first = first i; last = last i }) (stands_same q);
      }

  -- A record that is no step, and no symbol that the first file has, goes.
  kind_goes : (kind : Kind) → kind_of_record r ≡ kind → is_step r ≡ false → (is_symbol r ≡ true → length (arities S) ≤ length (arities T)) → Passed T kind r → enter T k kind r ≡ stands T' → Goes kind
  kind_goes symbolKind e n l a q = symbol_goes e (l (ap (λ (x : ℕ). eqb x 1) (of_kind_lem r symbolKind e))) a q
  kind_goes variableKind e n l a q = variable_goes e a q
  kind_goes applicationKind e n l a q = application_goes e a q
  kind_goes inputKind e n l a q = input_goes e a q
  kind_goes resolveKind e n l a q = absurd (true_not_false (ap (λ (x : ℕ). leb 5 x && leb x 7) (of_kind_lem r resolveKind e)) n)
  kind_goes severalKind e n l a q = absurd (true_not_false (ap (λ (x : ℕ). leb 5 x && leb x 7) (of_kind_lem r severalKind e)) n)
  kind_goes factorKind e n l a q = absurd (true_not_false (ap (λ (x : ℕ). leb 5 x && leb x 7) (of_kind_lem r factorKind e)) n)
  kind_goes windowKind e n l a q = window_goes e a q
  kind_goes otherKind e n l a q = absurd a

  pub record_goes : step T k r ≡ stands T' → is_step r ≡ false → (is_symbol r ≡ true → length (arities S) ≤ length (arities T)) → Goes (kind_of_record r)
  record_goes q n l =
      let a = step_stands T k r T' q in
      kind_goes (kind_of_record r) refl n l (tests_passed T (kind_of_record r) r a.0) a.1
