-- Every record of a file that stands tells its part, and the tables have for every symbol, row and clause the record that declares it.
use mathlib.Core.Path.{◌≡◌, refl, sym, ap, ◌∙◌, subst}
use mathlib.Core.Bool.{Bool, true, false}
use mathlib.Core.Option.{Option, none, some}
use mathlib.Core.List.{List, [], ◌∷◌, ◌++◌}
use Prim.Native.Nat.{ℕ, suc, ◌+◌, ◌<◌}
use native.Mathlib.Nat.{add-zero}
use native.Mathlib.Omega.{arith}
use lib.Dec.{eqb, ltb}
use borrow.Author.Tests.{ltb-true, ltb-false}
use lib.ListN.{length, take, drop, length-map, length-drop}
use Rattle.record.specs.Record.{pick, File, Record, record_at, record_part, record_count, records, otherKind, Kind, symbolKind, variableKind, applicationKind, inputKind, resolveKind, factorKind, severalKind, windowKind, field_a, field_b, field_c}
use Rattle.record.proofs.Records.{decoded_seven, records_length, record_numbered}
use Rattle.unification.specs.Repeated.{IsEarliest, earliest_equal, or_same, earliest_row}
use Rattle.unification.specs.Row.{variable, Row, application, row_at}
use Rattle.unification.proofs.Lists.{each_more}
use Rattle.unification.proofs.Repeats.{row_old, row_new, earliest_new, FoundEqual, earliest_none, earliest_found, earliest_itself, earliest_same, earliest_old}
use Rattle.unification.proofs.Tests.{both_true, some_injective, some_not_none}
use Rattle.derivation.specs.Derivation.{input, RowLiteral, input_literals, Derivation, resolve, factor, clause_number}
use Rattle.verdict.specs.Refusal.{kind_of_record, argument_rows, has_arity, all_below, left_of, right_numbers, right_of, deleted_of, is_input}
use Rattle.verdict.specs.State.{State, empty_state, with_symbol, with_row, with_clause, entry, arities, arity_of, rows_of, derivations, clause_of, earliest_of, record_of_row}
use Rattle.verdict.specs.Step.{stands, refused, Result, step, read, all_stand, refused_at, unify_resolve, unify_factor, new_application, new_literals, enter_resolvent, enter}
use Rattle.verdict.specs.Verdict.{ending, Stands}
use Rattle.verdict.proofs.Endings.{ending_stands, stands_not_refused}
use Rattle.demands.proofs.Advance.{take_next}
use Rattle.demands.proofs.Inversions.{tests_passed, stands_same, step_stands, named_stands, literal_named_lem, literals_named, all_below_lem, rows_below, has_arity_lem, clause_added, entry_below, entry_new, entry_some, Passed}
use Rattle.demands.proofs.RangeTests.{equal}
use Rattle.demands.proofs.Sources.{Sourced, step_sourced, number_of}
use Rattle.trimming.specs.Trimming.{Next, first_numbers, next_after}
use Rattle.marking.proofs.Told.{symbol_records, row_records, clause_records, rows_counted, clauses_counted, numbers_of, after, numbers_at, kind_at, Before, RowTold, ClauseTold, ResolveTold, Told, Extends, extends_itself, extends_symbol, extends_row, extends_clause, before_more, same_arguments, told_more}

-- Kinds that declare a row, and those that declare a clause.
abbrev pub RowKind : Kind → Type 0
RowKind variableKind = Unit {0}
RowKind applicationKind = Unit {0}
RowKind symbolKind = ⊥
RowKind inputKind = ⊥
RowKind resolveKind = ⊥
RowKind severalKind = ⊥
RowKind factorKind = ⊥
RowKind windowKind = ⊥
RowKind otherKind = ⊥

abbrev pub ClauseKind : Kind → Type 0
ClauseKind inputKind = Unit {0}
ClauseKind resolveKind = Unit {0}
ClauseKind severalKind = Unit {0}
ClauseKind factorKind = Unit {0}
ClauseKind symbolKind = ⊥
ClauseKind variableKind = ⊥
ClauseKind applicationKind = ⊥
ClauseKind windowKind = ⊥
ClauseKind otherKind = ⊥

-- Record j, one of the first k, declares symbol s; the earliest row that equals row q; clause m.
abbrev pub SymbolIs : File → ℕ → ℕ → ℕ → Type 0
SymbolIs F k s j = (j < k) × (kind_at F j ≡ symbolKind) × ((numbers_at F j).symbol ≡ s)

abbrev pub RowIs : File → State → ℕ → ℕ → ℕ → Type 0
RowIs F S k q j = (j < k) × RowKind (kind_at F j) × ((numbers_at F j).row ≡ earliest_of S q)

abbrev pub ClauseIs : File → ℕ → ℕ → ℕ → Type 0
ClauseIs F k m j = (j < k) × ClauseKind (kind_at F j) × ((numbers_at F j).clause ≡ m)

pub record FileTold (F : File) (k : ℕ) (S : State) : Type 0 where
  pub numbers : numbers_at F k ≡ numbers_of S
  pub sourced : Sourced (derivations S)
  pub told : (j : ℕ) → j < k → Told S j (numbers_at F j) (kind_at F j) (record_at F j)
  pub symbol_is : (s j : ℕ) → entry (symbol_records S) s ≡ some j → SymbolIs F k s j
  pub row_is : (q j : ℕ) → entry (row_records S) q ≡ some j → RowIs F S k q j
  pub clause_is : (m j : ℕ) → entry (clause_records S) m ≡ some j → ClauseIs F k m j

-- ── One record more ──
one_more : (P : ℕ → ℕ → Type 0) (k : ℕ) (cells : List ℕ) → ((n j : ℕ) → entry cells n ≡ some j → P n j) → P (length cells) k → (n j : ℕ) → entry (k ∷ cells) n ≡ some j → P n j
one_more P k cells f p n j q = try (eqb n (length cells)) refl q
  where
    try : (b : Bool) → eqb n (length cells) ≡ b → pick b (some k) (entry cells n) ≡ some j → P n j
    try true e z = subst (P n) (some_injective z) (subst (λ (i : ℕ). P i k) (sym (equal n (length cells) e)) p)
    try false e z = f n j z

before_of : (k : ℕ) (cells : List ℕ) → ((n j : ℕ) → entry cells n ≡ some j → j < k) → (n : ℕ) → n < length cells → Before cells k n
before_of k cells f n l = let z = entry_some cells n l in (z.0, z.1, f n z.0 z.1)

after_append : (n : Next) (rs : List Record) (r : Record) → after n (rs ++ (r ∷ [])) ≡ next_after (after n rs) (kind_of_record r)
after_append n [] r = refl
after_append n (x ∷ rs) r = after_append (next_after n (kind_of_record x)) rs r

pub numbers_next_lem : (F : File) (k : ℕ) → k < record_count F → numbers_at F (suc k) ≡ next_after (numbers_at F k) (kind_at F k)
numbers_next_lem F k l = ap (after first_numbers) (take_next k (records F) (record_at F k) (drop (suc k) (records F)) (record_numbered F k l)) ∙ after_append first_numbers (take k (records F)) (record_at F k)

module _ (F : File) (k : ℕ) (S : State) (H : FileTold F k S) where
  abbrev r : Record
  r = record_at F k

  -- What one record adds.
  record New (kind : Kind) (T : State) : Type 0 where
    new_told : Told T k (numbers_of S) kind (record_at F k)
    extends : Extends S T
    next_numbers : numbers_of T ≡ next_after (numbers_of S) kind
    new_symbols : (s j : ℕ) → entry (symbol_records T) s ≡ some j → SymbolIs F (suc k) s j
    new_rows : (q j : ℕ) → entry (row_records T) q ≡ some j → RowIs F T (suc k) q j
    new_clauses : (m j : ℕ) → entry (clause_records T) m ≡ some j → ClauseIs F (suc k) m j

  old_symbols : (s j : ℕ) → entry (symbol_records S) s ≡ some j → SymbolIs F (suc k) s j
  old_symbols s j e = let z = H.symbol_is s j e in (let l = z.0 in omega arith, z.1, z.2)

  old_rows : (q j : ℕ) → entry (row_records S) q ≡ some j → RowIs F S (suc k) q j
  old_rows q j e = let z = H.row_is q j e in (let l = z.0 in omega arith, z.1, z.2)

  old_clauses : (m j : ℕ) → entry (clause_records S) m ≡ some j → ClauseIs F (suc k) m j
  old_clauses m j e = let z = H.clause_is m j e in (let l = z.0 in omega arith, z.1, z.2)

  row_before : (q : ℕ) → q < length (rows_of S) → Before (row_records S) k q
  row_before q l = before_of k (row_records S) (λ n j e. (H.row_is n j e).0) q (omega (arith, rows_counted S))

  clause_before : (m : ℕ) (d : Derivation) → clause_of S m ≡ some d → Before (clause_records S) k m
  clause_before m d e = before_of k (clause_records S) (λ n j z. (H.clause_is n j z).0) m (omega (arith, clauses_counted S, entry_below (derivations S) m d e))

  -- A symbol.
  symbol_new : (a : ℕ) → kind_at F k ≡ symbolKind → New symbolKind (with_symbol S k a)
  symbol_new a e = record {
    new_told = entry_new k (symbol_records S);
    extends = extends_symbol S k a;
    next_numbers = refl;
    new_symbols = one_more (SymbolIs F (suc k)) k (symbol_records S) old_symbols (omega arith, e, ap (λ (n : Next). n.symbol) H.numbers);
    new_rows = old_rows;
    new_clauses = old_clauses;
  }

  -- A row: its record is its own, or that of the earliest equal row.
  record RowNew (w : Row) (x : ℕ) : Type 0 where
    own : IsEarliest (w ∷ rows_of S) (length (rows_of S)) → x ≡ k
    is_row : (x < suc k) × RowKind (kind_at F x) × ((numbers_at F x).row ≡ earliest_row (w ∷ rows_of S) (length (rows_of S)))

  row_record_lem : (w : Row) → RowKind (kind_at F k) → RowNew w (record_of_row S k w)
  row_record_lem w K = try (earliest_equal w (rows_of S)) refl
    where
      found : (q j : ℕ) → FoundEqual w (rows_of S) q → entry (row_records S) q ≡ some j → RowIs F S k q j → RowNew w (or_same k (entry (row_records S) q))
      found q j A e b =
          let l = A.earliest.there in
          let same : row_at (w ∷ rows_of S) q ≡ row_at (w ∷ rows_of S) (length (rows_of S)) = row_old w (rows_of S) q l ∙ A.equals ∙ sym (row_new w (rows_of S)) in
          subst (RowNew w) (sym (ap (or_same k) e)) (record {
            own = λ E. absurd (E.first q l same);
            is_row = (omega (arith, b.0), b.1, b.2 ∙ sym (earliest_old w (rows_of S) q l) ∙ earliest_same (w ∷ rows_of S) q (length (rows_of S)) (omega arith) (omega arith) same);
          })

      try : (o : Option ℕ) → earliest_equal w (rows_of S) ≡ o → RowNew w (elim o [ none ↦ k | some q ↦ or_same k (entry (row_records S) q) ])
      try none e = record {
        own = λ E. refl;
        is_row = (omega arith, K, ap (λ (n : Next). n.row) H.numbers ∙ sym (earliest_itself (w ∷ rows_of S) (length (rows_of S)) (earliest_new w (rows_of S) (λ q l y. earliest_none w (rows_of S) e q l y))));
      }
      try (some q) e =
          let A = earliest_found w (rows_of S) q e in
          let z = entry_some (row_records S) q (omega (arith, A.earliest.there, rows_counted S)) in
          found q z.0 A z.1 (H.row_is q z.0 z.1)

  abbrev rowed : Row → State
  rowed w = with_row S (record_of_row S k w) w

  row_told : (w : Row) → RowNew w (record_of_row S k w) → RowTold (with_row S (record_of_row S k w) w) k (length (rows_of S)) w
  row_told w N = (
    row_new w (rows_of S),
    omega arith,
    λ E. ap (entry (record_of_row S k w ∷ row_records S)) (sym (rows_counted S)) ∙ entry_new (record_of_row S k w) (row_records S) ∙ ap some (N.own E),
  )

  row_new' : (kind : Kind) (w : Row) → RowNew w (record_of_row S k w) → next_after (numbers_of S) kind ≡ numbers_of (with_row S (record_of_row S k w) w) → Told (with_row S (record_of_row S k w) w) k (numbers_of S) kind (record_at F k) → New kind (with_row S (record_of_row S k w) w)
  row_new' kind w N n t = record {
    new_told = t;
    extends = extends_row S (record_of_row S k w) w;
    next_numbers = sym n;
    new_symbols = old_symbols;
    new_rows = one_more (RowIs F (rowed w) (suc k)) (record_of_row S k w) (row_records S)
        (λ q j e. let z = old_rows q j e in (z.0, z.1, z.2 ∙ sym (earliest_old w (rows_of S) q (omega (arith, entry_below (row_records S) q j e, rows_counted S)))))
        (subst (λ (i : ℕ). RowIs F (rowed w) (suc k) i (record_of_row S k w)) (sym (rows_counted S)) N.is_row);
    new_clauses = old_clauses;
  }

  -- A clause.
  clause_told : (c : Derivation) → ClauseTold (with_clause S k c) k (length (derivations S)) c
  clause_told c = (entry_new c (derivations S), ap (entry (k ∷ clause_records S)) (sym (clauses_counted S)) ∙ entry_new k (clause_records S))

  clause_new : (kind : Kind) (c : Derivation) → ClauseKind (kind_at F k) → next_after (numbers_of S) kind ≡ numbers_of (with_clause S k c) → Told (with_clause S k c) k (numbers_of S) kind (record_at F k) → New kind (with_clause S k c)
  clause_new kind c K n t = record {
    new_told = t;
    extends = extends_clause S k c;
    next_numbers = sym n;
    new_symbols = old_symbols;
    new_rows = old_rows;
    new_clauses = one_more (ClauseIs F (suc k)) k (clause_records S) old_clauses (omega arith, K, ap (λ (n : Next). n.clause) H.numbers ∙ sym (clauses_counted S));
  }

  number : (m : ℕ) (d : Derivation) → clause_of S m ≡ some d → clause_number d ≡ m
  number m d e = number_of (derivations S) H.sourced m d e

  later_before : (c : Derivation) (m : ℕ) → Before (clause_records S) k m → Before (clause_records (with_clause S k c)) k m
  later_before c m b = (b.0, (extends_clause S k c).clauses m b.0 b.1, b.2)

  module _ (T : State) where
    resolvent_new : (kind : Kind) → ClauseKind (kind_at F k) → ((c : Derivation) → next_after (numbers_of S) kind ≡ numbers_of (with_clause S k c)) → ((U : State) → ResolveTold U k (length (derivations S)) (record_at F k) → Told U k (numbers_of S) kind (record_at F k)) → enter_resolvent S k kind (record_at F k) ≡ stands T → New kind T
    resolvent_new kind K n f q =
        let s = named_stands _ (left_of S r) (right_of S kind r) T q in
        let c = clause_added S k (resolve (length (derivations S)) s.0.0 (field_b r) s.1.0 (right_numbers kind r)) (unify_resolve S s.0 s.1) T s.4 in
        let a = (literal_named_lem S (field_a r) (field_b r) s.0 s.2).0 in
        let b = (literals_named S (field_c r) (right_numbers kind r) s.1 s.3).0 in
        let d = resolve (length (derivations S)) s.0.0 (field_b r) s.1.0 (right_numbers kind r) c.0 in
        subst (New kind) c.3 (clause_new kind d K (n d) (f (with_clause S k d) (record {
          left = s.0.0;
          right = s.1.0;
          literal = field_b r;
          literals = right_numbers kind r;
          bindings = c.0;
          is_told = clause_told d;
          is_left = number (field_a r) s.0.0 a;
          is_right = number (field_c r) s.1.0 b;
          left_before = later_before d (field_a r) (clause_before (field_a r) s.0.0 a);
          right_before = later_before d (field_c r) (clause_before (field_c r) s.1.0 b);
        })))

    factor_new : ClauseKind (kind_at F k) → enter S k factorKind (record_at F k) ≡ stands T → New factorKind T
    factor_new K q =
        let s = named_stands _ (left_of S r) (deleted_of S r) T q in
        let c = clause_added S k (factor (length (derivations S)) s.0.0 (field_b r) (field_c r)) (unify_factor S s.0 s.1) T s.4 in
        let a = (literal_named_lem S (field_a r) (field_b r) s.0 s.2).0 in
        let d = factor (length (derivations S)) s.0.0 (field_b r) (field_c r) c.0 in
        subst (New factorKind) c.3 (clause_new factorKind d K refl (record {
          parent = s.0.0;
          kept = field_b r;
          deleted = field_c r;
          bindings = c.0;
          is_told = clause_told d;
          is_parent = number (field_a r) s.0.0 a;
          parent_before = later_before d (field_a r) (clause_before (field_a r) s.0.0 a);
        }))

    input_new : ClauseKind (kind_at F k) → Passed S inputKind (record_at F k) → New inputKind (with_clause S k (input (length (derivations S)) (new_literals S (record_at F k))))
    input_new K a =
        clause_new inputKind (input (length (derivations S)) (new_literals S r)) K refl
        (clause_told (input (length (derivations S)) (new_literals S r)), each_more (λ (l : RowLiteral). l.1 < length (rows_of S)) (λ (l : RowLiteral). Before (row_records S) k l.1) (λ l m. row_before l.1 m) (input_literals r) (rows_below (length (rows_of S)) (input_literals r) a.there))

    application_new : RowKind (kind_at F k) → Passed S applicationKind (record_at F k) → New applicationKind (with_row S (record_of_row S k (new_application S (record_at F k))) (new_application S (record_at F k)))
    application_new K a =
        let w = new_application S r in
        let N = row_record_lem w K in
        let t = both_true (has_arity r.count (arity_of S (field_a r))) (all_below (length (rows_of S)) (argument_rows r)) a.there in
        let X = extends_row S (record_of_row S k w) w in
        let y = entry_below (arities S) (field_a r) r.count (has_arity_lem r.count (arity_of S (field_a r)) t.0) in
        let same = length-map S.symbols (λ (s : ℕ × ℕ). s.0) ∙ sym (length-map S.symbols (λ (s : ℕ × ℕ). s.1)) in
        let b = each_more (λ q. q < length (rows_of S)) (Before (row_records S) k) row_before (argument_rows r) (all_below_lem (length (rows_of S)) (argument_rows r) t.1) in
        row_new' applicationKind w N refl (
          subst (λ (xs : List ℕ). RowTold (rowed w) k (length (rows_of S)) (application (field_a r) xs)) (same_arguments S (rowed w) X k (argument_rows r) b) (row_told w N),
          before_of k (symbol_records S) (λ n j e. (H.symbol_is n j e).0) (field_a r) (omega arith),
          each_more (Before (row_records S) k) (Before (row_records (rowed w)) k) (before_more S (rowed w) X k) (argument_rows r) b,
        )

    window_told : (o : Option Derivation) → clause_of S (field_a (record_at F k)) ≡ o → is_input o ≡ true → Told S k (numbers_of S) windowKind (record_at F k)
    window_told none e i = absurd (let z : ◌≡◌ {A = ℕ} 0 1 = cc in omega arith)
    window_told (some (input number' ls)) e i = (ls, e ∙ ap (λ (m : ℕ). some (input m ls)) (number (field_a r) (input number' ls) e), clause_before (field_a r) (input number' ls) e)
    window_told (some (resolve number' x a y ns bs)) e i = absurd (let z : ◌≡◌ {A = ℕ} 0 1 = cc in omega arith)
    window_told (some (factor number' x a b bs)) e i = absurd (let z : ◌≡◌ {A = ℕ} 0 1 = cc in omega arith)

    entered : (kind : Kind) → kind_at F k ≡ kind → Passed S kind (record_at F k) → enter S k kind (record_at F k) ≡ stands T → New kind T
    entered symbolKind e a q = subst (New symbolKind) (stands_same q) (symbol_new r.count e)
    entered variableKind e a q = let N = row_record_lem (variable (field_a r)) (subst RowKind (sym e) tt) in subst (New variableKind) (stands_same q) (row_new' variableKind (variable (field_a r)) N refl (row_told (variable (field_a r)) N))
    entered applicationKind e a q = subst (New applicationKind) (stands_same q) (application_new (subst RowKind (sym e) tt) a)
    entered inputKind e a q =
        let N = input_new (subst ClauseKind (sym e) tt) a in
        subst (New inputKind) (stands_same q) (record {
          new_told = N.new_told;
          extends = record { symbols = N.extends.symbols; rows = N.extends.rows; clauses = N.extends.clauses; derived = N.extends.derived; more = N.extends.more; same = N.extends.same; earliest = N.extends.earliest; stays = N.extends.stays };
          next_numbers = N.next_numbers;
          new_symbols = N.new_symbols;
          new_rows = N.new_rows;
          new_clauses = N.new_clauses;
        })
    entered resolveKind e a q = resolvent_new resolveKind (subst ClauseKind (sym e) tt) (λ c. refl) (λ U t. t) q
    entered severalKind e a q = resolvent_new severalKind (subst ClauseKind (sym e) tt) (λ c. refl) (λ U t. t) q
    entered factorKind e a q = factor_new (subst ClauseKind (sym e) tt) q
    entered windowKind e a q =
        let X = extends_itself S in
        subst (New windowKind) (stands_same q) (record {
          new_told = window_told (clause_of S (field_a r)) refl a.there;
          extends = record { symbols = X.symbols; rows = X.rows; clauses = X.clauses; derived = X.derived; more = X.more; same = X.same; earliest = X.earliest; stays = X.stays };
          next_numbers = refl;
          new_symbols = old_symbols;
          new_rows = old_rows;
          new_clauses = old_clauses;
        })
    entered otherKind e a q = absurd a

    told_next : k < record_count F → step S k (record_at F k) ≡ stands T → FileTold F (suc k) T
    told_next l q =
        let a = step_stands S k r T q in
        let N = entered (kind_at F k) refl (tests_passed S (kind_at F k) r a.0) a.1 in
        record {
          numbers = numbers_next_lem F k l ∙ ap (λ (n : Next). next_after n (kind_at F k)) H.numbers ∙ sym N.next_numbers;
          sourced = step_sourced S k r T (decoded_seven F.form (record_part F k)) q H.sourced;
          told = λ j m. each j m N (ltb j k) refl;
          symbol_is = N.new_symbols;
          row_is = N.new_rows;
          clause_is = N.new_clauses;
        }
      where
        each : (j : ℕ) → j < suc k → New (kind_at F k) T → (b : Bool) → ltb j k ≡ b → Told T j (numbers_at F j) (kind_at F j) (record_at F j)
        each j m N true e = told_more S T N.extends j (numbers_at F j) (kind_at F j) (record_at F j) (H.told j (ltb-true j k e))
        each j m N false e =
            let z = ltb-false j k e in
            let y : k ≡ j = omega arith in
            subst (λ (i : ℕ). Told T i (numbers_at F i) (kind_at F i) (record_at F i)) y (subst (λ (n : Next). Told T k n (kind_at F k) (record_at F k)) (sym H.numbers) N.new_told)

-- ── The whole file ──
read_told : (F : File) (k : ℕ) (S : State) (rs : List Record) (T : State) → drop k (records F) ≡ rs → FileTold F k S → read S k rs ≡ all_stand T → FileTold F (k + length rs) T
read_told F k S [] T d H q = subst (λ (i : ℕ). FileTold F i T) (sym (add-zero k)) (subst (FileTold F k) (ending_stands q) H)
read_told F k S (r ∷ rs) T d H q = try (step S k r) refl q (λ U G p. read_told F (suc k) U rs T here.1 G p)
  where
    below : k < record_count F
    below = let n = records_length F in let l = length-drop k (records F) in let m = ap length d in omega arith

    here : (record_at F k ≡ r) × (drop (suc k) (records F) ≡ rs)
    here = let e = sym (record_numbered F k below) ∙ d in (cc, cc)

    try : (o : Result) → step S k r ≡ o → elim o [ stands U ↦ read U (suc k) rs | refused p ↦ refused_at S p k ] ≡ all_stand T
        → ((U : State) → FileTold F (suc k) U → read U (suc k) rs ≡ all_stand T → FileTold F (suc k + length rs) T) → FileTold F (k + suc (length rs)) T
    try (stands U) e p ih = subst (λ (i : ℕ). FileTold F i T) (omega arith) (ih U (told_next F k S H U below (ap (step S k) here.0 ∙ e)) p)
    try (refused p) e z ih = absurd (stands_not_refused (sym z))

pub stands_told : (F : File) (S : State) → Stands F S → FileTold F (record_count F) S
unfolding ending
stands_told F S st =
    let z = read_told F 0 empty_state (records F) S refl (record { numbers = refl; sourced = tt; told = λ j l. absurd (omega arith); symbol_is = λ s j e. absurd (some_not_none refl e); row_is = λ q j e. absurd (some_not_none refl e); clause_is = λ m j e. absurd (some_not_none refl e) }) st.reads in
    subst (λ (i : ℕ). FileTold F i S) (omega (arith, records_length F)) z
