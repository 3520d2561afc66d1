-- Records of kind 1 to 4: what the program makes of them is what the definition makes of them.
use mathlib.Core.Path.{◌≡◌, refl, sym, ap, ap₂, ◌∙◌, subst}
use mathlib.Core.Bool.{Bool, true, false, ◌&&◌}
use mathlib.Core.Option.{Option, none, some}
use mathlib.Core.List.{List, [], ◌∷◌, ◌++◌, map, reverse, reverse-cons, append-nil}
use Prim.Native.Nat.{ℕ, ◌+◌, ◌≤◌, ◌<◌}
use native.Mathlib.Nat.{add-zero}
use native.Mathlib.Numerals.{add-one}
use native.Mathlib.Omega.{arith}
use lib.Dec.{eqb, leb, ltb, eqb→eq, leb→le, ltb→lt}
use lib.ListN.{length, get_or, take, drop, set, length-map, get_or-append, length-reverse}
use lib.Seq.{length-take-le, get_or_at}
use borrow.Author.Tests.{eq-eqb}
use Rattle.record.specs.Record.{pick, File, Record, record_count, record_part, kind_of, count_of, field_of, fields_of, decoded, record_at, symbolKind, variableKind, applicationKind, inputKind, field_a}
use Rattle.record.proofs.Records.{decoded_parts}
use Rattle.unification.specs.Repeated.{earliest_equal, or_same}
use Rattle.unification.specs.Row.{variable, Row}
use Rattle.unification.proofs.Lists.{Each}
use Rattle.unification.proofs.Repeats.{earliest_found}
use Rattle.unification.proofs.Tests.{to_t, both_true, some_not_none, some_injective}
use Rattle.derivation.specs.Derivation.{literals, input, RowLiteral, literal_of, input_literals, Derivation, placed, maximum_index, own_bindings}
use Rattle.derivation.specs.Stored.{cells_of_origin, origin_table_of}
use Rattle.distinct.specs.Rows.{with_node, row_with_cells}
use Rattle.entry.specs.Program.{Entered, repeat_cells, taken_arguments, taken_literals, row_found, no_variable, more_symbols, more_rows, more_clauses, SymbolLeft, symbol_left, symbol_entered, RowLeft, row_left, row_entered, variable_entered, application_there, application_entered, InputLeft, input_left, input_entered}
use Rattle.tables.specs.Cells.{with_clause_cells}
use Rattle.fields.specs.Fields.{arity_in}
use Rattle.entry.specs.Progress.{cells_of_row, cells_after, counts_of, Kept, Plain, Next}
use Rattle.verdict.specs.Refusal.{outOfRange, notThere, crossedDays, variableLiteral, kind_of_record, in_order, zeros, in_range, argument_rows, has_arity, all_below, arguments_there, all_applications}
use Rattle.verdict.specs.State.{arities, State, with_symbol, with_row, with_clause, with_days_beside, entry, rows_of, derivations, arity_of, row_of, earliest_of, record_of_row, next_clause}
use Rattle.verdict.specs.Step.{stands, Result, require, new_application, new_literals, step}
use Rattle.verdict.specs.Tables.{Tables, symbol_cells, row_cells, clause_cells, binding_cells, filled, filled_tables, bindings_of}
use Rattle.demands.proofs.Acceptance.{cells_length}
use Rattle.demands.proofs.Advance.{RowFits}
use Rattle.entry.proofs.Entering.{row_found_lem, variable_tests, row_written, clause_written, variable_cells, application_cells, input_cells}
use Rattle.entry.proofs.Filling.{filled_set, filled_five, filled_low}
use Rattle.demands.proofs.Inversions.{all_below_lem, rows_below, not_equal, entry_below, entry_more, entry_none, entry_some, not_below}
use Rattle.entry.proofs.Kept.{stand, Sizes, sizes, few_records, same_rows, few_symbols, few_rows, few_clauses, rows_fit_lem, kept_next}
use Rattle.demands.proofs.RangeTests.{kind_at}
use Rattle.demands.proofs.Resolution.{at_kind}
use Rattle.entry.specs.declared.entry.Counts.{Counts}
use Rattle.std.specs.Prelude.{Ok, Err}
use Rattle.reasons.specs.declared.Reason.{Reason}
use Rattle.reasons.specs.declared.Reason.TheVariants.{OutOfRange, NotThere, CrossedDays, VariableLiteral}

-- The cells of symbols and rows, one more.
pub record_cells_more : {A : Type 0} (k : ℕ) (x : A) (xs : List (ℕ × A)) → reverse (map (λ (y : ℕ × A). y.0) ((k, x) ∷ xs)) ≡ reverse (map (λ (y : ℕ × A). y.0) xs) ++ (k ∷ [])
record_cells_more {A} k x xs = reverse-cons k (map (λ (y : ℕ × A). y.0) xs)

pub record_cells_length : {A : Type 0} (xs : List (ℕ × A)) → length (reverse (map (λ (y : ℕ × A). y.0) xs)) ≡ length xs
record_cells_length {A} xs = length-reverse (map (λ (y : ℕ × A). y.0) xs) ∙ length-map xs (λ (y : ℕ × A). y.0)

-- A list that has the newest first, read from its other end.
reversed_entry : (xs : List ℕ) (q j : ℕ) → entry xs q ≡ some j → get_or (reverse xs) q 0 ≡ j
reversed_entry [] q j e = absurd (some_not_none refl e)
reversed_entry (x ∷ xs) q j e = try (eqb q (length xs)) refl e (λ z. reversed_entry xs q j z)
  where
    try : (b : Bool) → eqb q (length xs) ≡ b → pick b (some x) (entry xs q) ≡ some j → (entry xs q ≡ some j → get_or (reverse xs) q 0 ≡ j) → get_or (reverse (x ∷ xs)) q 0 ≡ j
    try true p z ih =
        let i : q ≡ length xs = eqb→eq q (length xs) (to_t (eqb q (length xs)) p) in
        ap (λ (l : List ℕ). get_or l q 0) (reverse-cons x xs) ∙ get_or_at (reverse xs) x [] 0 q (length-reverse xs ∙ sym i) ∙ some_injective z
    try false p z ih =
        let m = entry_below xs q j z in
        ap (λ (l : List ℕ). get_or l q 0) (reverse-cons x xs) ∙ get_or-append (reverse xs) (x ∷ []) 0 q (omega (arith, length-reverse xs, m)) ∙ ih z

-- The symbol of a number, in the table.
symbol_cell_lem : (xs : List (ℕ × ℕ)) (P : ℕ × ℕ → Type 0) → Each P xs → (s : ℕ) → s < length xs → (x : ℕ × ℕ) × (entry (map (λ (y : ℕ × ℕ). y.1) xs) s ≡ some x.1) × (get_or (reverse (map (λ (y : ℕ × ℕ). y.0) xs)) s 0 ≡ x.0) × P x
symbol_cell_lem [] P h s l = absurd (omega arith)
symbol_cell_lem (x ∷ xs) P h s l = try (eqb s (length xs)) refl (λ m. symbol_cell_lem xs P h.1 s m)
  where
    front : List ℕ
    front = reverse (map (λ (y : ℕ × ℕ). y.0) xs)

    more : reverse (map (λ (y : ℕ × ℕ). y.0) (x ∷ xs)) ≡ front ++ (x.0 ∷ [])
    more = reverse-cons x.0 (map (λ (y : ℕ × ℕ). y.0) xs)

    size : length (reverse (map (λ (y : ℕ × ℕ). y.0) xs)) ≡ length xs
    size = record_cells_length xs

    count : length (map (λ (y : ℕ × ℕ). y.1) xs) ≡ length xs
    count = length-map xs (λ (y : ℕ × ℕ). y.1)

    try : (b : Bool) → eqb s (length xs) ≡ b → (s < length xs → (x : ℕ × ℕ) × (entry (map (λ (y : ℕ × ℕ). y.1) xs) s ≡ some x.1) × (get_or (reverse (map (λ (y : ℕ × ℕ). y.0) xs)) s 0 ≡ x.0) × P x)
        → (z : ℕ × ℕ) × (entry (map (λ (y : ℕ × ℕ). y.1) (x ∷ xs)) s ≡ some z.1) × (get_or (reverse (map (λ (y : ℕ × ℕ). y.0) (x ∷ xs))) s 0 ≡ z.0) × P z
    try true q ih =
        let e : s ≡ length xs = eqb→eq s (length xs) (to_t (eqb s (length xs)) q) in
        (x, rw (eq-eqb s (length (map (λ (y : ℕ × ℕ). y.1) xs)) (e ∙ sym count)), ap (λ (l : List ℕ). get_or l s 0) more ∙ get_or_at front x.0 [] 0 s (size ∙ sym e), h.0)
    try false q ih =
        let n : ¬ (s ≡ length xs) = not_equal s (length xs) (rw q) in
        let m : s < length xs = omega arith in
        let r = ih m in
        (r.0, entry_more x.1 (map (λ (y : ℕ × ℕ). y.1) xs) s r.0.1 r.1, ap (λ (l : List ℕ). get_or l s 0) more ∙ get_or-append front (x.0 ∷ []) 0 s (omega (arith, size)) ∙ r.2, r.3)

module _ (F : File) (t : Tables) (k : ℕ) (S : State) (n : Counts) (here : Tables) (N O A : List ℕ) (K : Kept F t k S n here N O A) (l : k < record_count F) where
  abbrev rec : Record
  rec = decoded (record_part F k)

  abbrev part : List ℕ
  part = record_part F k

  Z : Sizes t
  Z = sizes t K.long

  below : k < 4096
  below = few_records F t k S n here N O A K l

  pub symbols_here : here.symbols ≡ filled 4096 (symbol_cells S) t.symbols
  symbols_here = ap (λ (x : Tables). x.symbols) K.tables

  pub rows_here : here.rows ≡ filled 4096 (row_cells S) t.rows
  rows_here = ap (λ (x : Tables). x.rows) K.tables

  pub clauses_here : here.clauses ≡ filled 20480 (clause_cells S.clauses) t.clauses
  clauses_here = ap (λ (x : Tables). x.clauses) K.tables

  pub bindings_here : here.bindings ≡ filled 32768 (binding_cells (derivations S)) t.bindings
  bindings_here = ap (λ (x : Tables). x.bindings) K.tables

  symbols_size : length (symbol_cells S) ≡ length S.symbols
  symbols_size = record_cells_length S.symbols

  rows_size : length (row_cells S) ≡ length S.rows
  rows_size = record_cells_length S.rows

  -- One symbol more.
  symbol_table : (s : ℕ) → set here.symbols n.symbols k ≡ filled 4096 (symbol_cells (with_symbol S k s)) t.symbols
  symbol_table s =
      ap₂ (λ (x : List ℕ) (i : ℕ). set x i k) symbols_here (ap (λ (c : Counts). c.symbols) K.counts)
      ∙ filled_set 4096 (symbol_cells S) t.symbols (length S.symbols) k symbols_size (omega (arith, few_symbols F t k S n here N O A K l, below))
      ∙ ap (λ (x : List ℕ). filled 4096 x t.symbols) (sym (record_cells_more k s S.symbols))

  symbol_counts : (s : ℕ) → more_symbols n ≡ counts_of (with_symbol S k s)
  symbol_counts s = ap more_symbols K.counts ∙ (λ i. record { symbols = add-one (length S.symbols) i; rows = length S.rows; clauses = length S.clauses; bindings = S.total })

  abbrev with_symbols : List ℕ → Tables
  with_symbols x = record { symbols = x; rows = here.rows; clauses = here.clauses; bindings = here.bindings }

  pub symbol_read : Plain F k → kind_of_record rec ≡ symbolKind → (e : Entered) (symbols' : List ℕ) → symbol_left e symbols' ≡ symbol_entered (record_part F k) k n here.symbols
      → Next F t k S (record { symbols = symbols'; rows = here.rows; clauses = here.clauses; bindings = here.bindings }) N O A e
  unfolding symbol_entered require
  symbol_read plain kd e symbols' E = subst (λ (x : SymbolLeft). Next F t k S (with_symbols x.symbols) N O A x.answer) (sym E) (try (in_range symbolKind rec) refl)
    where
      at : step S k (record_at F k) ≡ require (in_range symbolKind rec) outOfRange (stands (with_symbol S k rec.count))
      at = plain S ∙ at_kind S k rec symbolKind kd

      made : here ≡ filled_tables S t → with_symbols (set here.symbols n.symbols k) ≡ filled_tables (with_symbol S k rec.count) t
      made h = λ i. record { symbols = symbol_table rec.count i; rows = rows_here i; clauses = clauses_here i; bindings = bindings_here i }

      try : (b : Bool) → in_range symbolKind rec ≡ b → Next F t k S (with_symbols (pick b (symbol_left (Ok (more_symbols n)) (set here.symbols n.symbols k)) (symbol_left (Err OutOfRange) here.symbols)).symbols) N O A (pick b (symbol_left (Ok (more_symbols n)) (set here.symbols n.symbols k)) (symbol_left (Err OutOfRange) here.symbols)).answer
      try true q =
          let p = at ∙ ap (λ (b : Bool). require b outOfRange (stands (with_symbol S k rec.count))) q in
          (with_symbol S k rec.count, p, kept_next F t k S n here N O A K l (with_symbol S k rec.count) p (more_symbols n) (with_symbols (set here.symbols n.symbols k)) N O A (symbol_counts rec.count) (made K.tables) K.nodes K.origins K.values)
      try false q = (at ∙ ap (λ (b : Bool). require b outOfRange (stands (with_symbol S k rec.count))) q, K.tables, K.nodes, K.origins, K.values)

  -- One row more, with record j in the table of rows.
  row_table : (j : ℕ) (w : Row) → set here.rows n.rows j ≡ filled 4096 (row_cells (with_row S j w)) t.rows
  row_table j w =
      ap₂ (λ (x : List ℕ) (i : ℕ). set x i j) rows_here (ap (λ (c : Counts). c.rows) K.counts)
      ∙ filled_set 4096 (row_cells S) t.rows (length S.rows) j rows_size (omega (arith, few_rows F t k S n here N O A K l, below))
      ∙ ap (λ (x : List ℕ). filled 4096 x t.rows) (sym (record_cells_more j w S.rows))

  row_counts : (j : ℕ) (w : Row) → more_rows n ≡ counts_of (with_row S j w)
  row_counts j w = ap more_rows K.counts ∙ (λ i. record { symbols = length S.symbols; rows = add-one (length S.rows) i; clauses = length S.clauses; bindings = S.total })

  -- The record of a row that is there, off the table.
  record_read : (q : ℕ) → q < length S.rows → (j : ℕ) → entry (map (λ (u : ℕ × Row). u.0) S.rows) q ≡ some j → get_or here.rows q 0 ≡ j
  record_read q m j e =
      ap (λ (x : List ℕ). get_or x q 0) rows_here
      ∙ filled_low 4096 (row_cells S) t.rows (omega (arith, rows_size, few_rows F t k S n here N O A K l, below)) q (omega (arith, rows_size))
      ∙ reversed_entry (map (λ (u : ℕ × Row). u.0) S.rows) q j e

  abbrev with_rows : List ℕ → Tables
  with_rows x = record { symbols = here.symbols; rows = x; clauses = here.clauses; bindings = here.bindings }

  abbrev RowNext : RowLeft → Type 0
  RowNext x = Next F t k S (with_rows x.rows) x.nodes O A x.answer

  many : length (rows_of S) < 4096
  many = omega (arith, same_rows F t k S n here N O A K l, few_rows F t k S n here N O A K l, below)

  rows_count : n.rows ≡ length (rows_of S)
  rows_count = ap (λ (c : Counts). c.rows) K.counts ∙ sym (same_rows F t k S n here N O A K l)

  abbrev fitting : Each RowFits (rows_of S)
  fitting = rows_fit_lem F t k S n here N O A K l

  few : length (rows_of S) ≤ 4096
  few = omega (arith, many)

  -- A row that is entered, with its cells or as a repeat.
  row_entered_lem : (w : Row) (code : ℕ) (ns : List ℕ) → code ∷ ns ≡ cells_of_row w → step S k (record_at F k) ≡ stands (with_row S (record_of_row S k w) w) → RowNext (row_entered ns k code n here.rows N)
  unfolding row_entered
  row_entered_lem w code ns c at = subst (λ (o : Option ℕ). RowNext (row_found o ns k code n here.rows N)) (sym found) (try (earliest_equal w (rows_of S)) refl)
    where
      found : row_with_cells N n.rows (code ∷ ns) ≡ earliest_equal w (rows_of S)
      found = ap (λ (i : ℕ). row_with_cells N i (code ∷ ns)) rows_count ∙ row_found_lem (rows_of S) fitting few N K.nodes w (code ∷ ns) c

      next : (j : ℕ) → step S k (record_at F k) ≡ stands (with_row S j w) → (cells : List ℕ) → cells ≡ cells_after (rows_of S) w → RowNext (row_left (Ok (more_rows n)) (set here.rows n.rows j) (with_node N n.rows cells))
      next j s cells e = (
        with_row S j w,
        s,
        kept_next F t k S n here N O A K l (with_row S j w) s (more_rows n) (with_rows (set here.rows n.rows j)) (with_node N n.rows cells) O A (row_counts j w)
            (λ i. record { symbols = symbols_here i; rows = row_table j w i; clauses = clauses_here i; bindings = bindings_here i })
            (ap (λ (i : ℕ). with_node N i cells) rows_count ∙ row_written (rows_of S) fitting few N K.nodes w cells e many) K.origins K.values,
      )

      counted : length (map (λ (u : ℕ × Row). u.0) S.rows) ≡ length (rows_of S)
      counted = length-map S.rows (λ (u : ℕ × Row). u.0) ∙ sym (same_rows F t k S n here N O A K l)

      try : (o : Option ℕ) → earliest_equal w (rows_of S) ≡ o → RowNext (row_found o ns k code n here.rows N)
      try none q =
          next k (at ∙ ap (λ (o : Option ℕ). stands (with_row S (elim o [ none ↦ k | some q ↦ or_same k (entry (map (λ (u : ℕ × Row). u.0) S.rows) q) ]) w)) q) (code ∷ ns)
          (c ∙ sym (ap (λ (o : Option ℕ). elim o [ none ↦ cells_of_row w | some q ↦ repeat_cells q ]) q))
      try (some p) q =
          let F' = earliest_found w (rows_of S) p q in
          let e = entry_some (map (λ (u : ℕ × Row). u.0) S.rows) p (omega (arith, F'.earliest.there, counted)) in
          let r = record_read p (omega (arith, F'.earliest.there, same_rows F t k S n here N O A K l)) e.0 e.1 in
          next (get_or here.rows p 0) (at ∙ ap (λ (o : Option ℕ). stands (with_row S (elim o [ none ↦ k | some q ↦ or_same k (entry (map (λ (u : ℕ × Row). u.0) S.rows) q) ]) w)) q ∙ ap (λ (j : ℕ). stands (with_row S j w)) (ap (or_same k) e.1 ∙ sym r)) (repeat_cells p)
          (sym (ap (λ (o : Option ℕ). elim o [ none ↦ cells_of_row w | some q ↦ repeat_cells q ]) q))

  pub variable_read : Plain F k → kind_of_record rec ≡ variableKind → (e : Entered) (rows' N' : List ℕ) → row_left e rows' N' ≡ variable_entered (record_part F k) k n here.rows N
      → Next F t k S (record { symbols = here.symbols; rows = rows'; clauses = here.clauses; bindings = here.bindings }) N' O A e
  unfolding variable_entered require
  variable_read plain kd e rows' N' E = subst RowNext (sym E) (try (in_range variableKind rec) refl)
    where
      at : step S k (record_at F k) ≡ require (in_range variableKind rec) outOfRange (stands (with_row S (record_of_row S k (variable (field_a rec))) (variable (field_a rec))))
      at = plain S ∙ at_kind S k rec variableKind kd

      try : (b : Bool) → in_range variableKind rec ≡ b → RowNext (pick b (row_entered (fields_of part) k 1 n here.rows N) (row_left (Err OutOfRange) here.rows N))
      try true q = row_entered_lem (variable (field_a rec)) 1 (fields_of part) (variable_cells part q) (at ∙ ap (λ (b : Bool). require b outOfRange (stands (with_row S (record_of_row S k (variable (field_a rec))) (variable (field_a rec))))) q)
      try false q = (at ∙ ap (λ (b : Bool). require b outOfRange (stands (with_row S (record_of_row S k (variable (field_a rec))) (variable (field_a rec))))) q, K.tables, K.nodes, K.origins, K.values)

  -- The arity of a symbol, off its record.
  arity_read : (s : ℕ) → arity_in F here.symbols n.symbols s ≡ arity_of S s
  arity_read s = ap₂ (λ (x : List ℕ) (m : ℕ). arity_in F x m s) symbols_here (ap (λ (c : Counts). c.symbols) K.counts) ∙ try (ltb s (length S.symbols)) refl
    where
      few : length (symbol_cells S) ≤ 4096
      few = omega (arith, symbols_size, few_symbols F t k S n here N O A K l, below)

      try : (b : Bool) → ltb s (length S.symbols) ≡ b → pick b (some (count_of (record_part F (get_or (filled 4096 (symbol_cells S) t.symbols) s 0)))) none ≡ arity_of S s
      try true q =
          let m : s < length S.symbols = ltb→lt s (length S.symbols) (to_t (ltb s (length S.symbols)) q) in
          let r = symbol_cell_lem S.symbols (λ (x : ℕ × ℕ). count_of (record_part F x.0) ≡ x.1) (stand F t k S n here N O A K l).tally.arities_read s m in
          ap (λ (j : ℕ). some (count_of (record_part F j))) (filled_low 4096 (symbol_cells S) t.symbols few s (omega (arith, symbols_size)) ∙ r.2) ∙ ap some r.3 ∙ sym r.1
      try false q =
          let m : length S.symbols ≤ s = not_below s (length S.symbols) q in
          let c : length (arities S) ≡ length S.symbols = length-map S.symbols (λ (x : ℕ × ℕ). x.1) in
          sym (entry_none (arities S) s (omega arith))

  pub application_read : Plain F k → kind_of_record rec ≡ applicationKind → (e : Entered) (rows' N' : List ℕ) → row_left e rows' N' ≡ application_entered F (record_part F k) k n here.symbols here.rows N
      → Next F t k S (record { symbols = here.symbols; rows = rows'; clauses = here.clauses; bindings = here.bindings }) N' O A e
  unfolding application_entered application_there require
  application_read plain kd e rows' N' E = subst RowNext (sym E) (try (in_range applicationKind rec) refl)
    where
      last : Result
      last = stands (with_row S (record_of_row S k (new_application S rec)) (new_application S rec))

      at : step S k (record_at F k) ≡ require (in_range applicationKind rec) outOfRange (require (arguments_there S rec) notThere (stands (with_row S (record_of_row S k (new_application S rec)) (new_application S rec))))
      at = plain S ∙ at_kind S k rec applicationKind kd

      there : application_there F part n here.symbols ≡ arguments_there S rec
      there = ap₂ (λ (o : Option ℕ) (m : ℕ). has_arity (count_of part) o && all_below m (argument_rows rec)) (arity_read (field_of part 0)) rows_count

      arguments : application_there F part n here.symbols ≡ true → Each (λ r. r < length (rows_of S)) (argument_rows rec)
      arguments p = all_below_lem (length (rows_of S)) (argument_rows rec) (both_true (has_arity (count_of part) (arity_of S (field_a rec))) (all_below (length (rows_of S)) (argument_rows rec)) (sym there ∙ p)).1

      second : in_range applicationKind rec ≡ true → (b : Bool) → application_there F part n here.symbols ≡ b → RowNext (pick b (row_entered (taken_arguments N (fields_of part)) k (2 + count_of part) n here.rows N) (row_left (Err NotThere) here.rows N))
      second q true p = row_entered_lem (new_application S rec) (2 + count_of part) (taken_arguments N (fields_of part)) (application_cells (rows_of S) fitting few N K.nodes part q (arguments p)) (at ∙ ap₂ (λ (a b : Bool). require a outOfRange (require b notThere last)) q (sym there ∙ p))
      second q false p = (at ∙ ap₂ (λ (a b : Bool). require a outOfRange (require b notThere last)) q (sym there ∙ p), K.tables, K.nodes, K.origins, K.values)

      try : (b : Bool) → in_range applicationKind rec ≡ b → RowNext (pick b (pick (application_there F part n here.symbols) (row_entered (taken_arguments N (fields_of part)) k (2 + count_of part) n here.rows N) (row_left (Err NotThere) here.rows N)) (row_left (Err OutOfRange) here.rows N))
      try true q = second q (application_there F part n here.symbols) refl
      try false q = (at ∙ ap (λ (b : Bool). require b outOfRange (require (arguments_there S rec) notThere last)) q, K.tables, K.nodes, K.origins, K.values)

  -- One clause more, with the cells of a clause that adds bindings up to h.
  pub clause_table : (c : Derivation) (a b d e : ℕ) → a ≡ length (literals c) → b ≡ maximum_index c → d ≡ bindings_of (derivations S) → e ≡ length (own_bindings c)
      → with_clause_cells here.clauses n.clauses k a b d e ≡ filled 20480 (clause_cells (with_clause S k c).clauses) t.clauses
  clause_table c a b d e pa pb pd pe =
      (λ i. with_clause_cells (clauses_here i) (ap (λ (x : Counts). x.clauses) K.counts i) k (pa i) (pb i) (pd i) (pe i))
      ∙ filled_five 20480 (clause_cells S.clauses) t.clauses (length S.clauses) k (length (literals c)) (maximum_index c) (bindings_of (derivations S)) (length (own_bindings c)) (cells_length S.clauses) (omega (arith, few_clauses F t k S n here N O A K l, below))

  clauses_count : n.clauses ≡ length (derivations S)
  clauses_count = ap (λ (x : Counts). x.clauses) K.counts ∙ sym (length-map S.clauses (λ (c : ℕ × Derivation). c.1))

  pub clause_origin : (c : Derivation) (cells : List ℕ) → cells ≡ cells_of_origin c → with_node O n.clauses cells ≡ origin_table_of (derivations (with_clause S k c))
  clause_origin c cells e =
      ap (λ (i : ℕ). with_node O i cells) clauses_count
      ∙ clause_written (derivations S) (stand F t k S n here N O A K l).sourced O K.origins c cells e (omega (arith, length-map S.clauses (λ (c : ℕ × Derivation). c.1), few_clauses F t k S n here N O A K l, below))

  abbrev with_clauses : List ℕ → Tables
  with_clauses x = record { symbols = here.symbols; rows = here.rows; clauses = x; bindings = here.bindings }

  abbrev InputNext : InputLeft → Type 0
  InputNext x = Next F t k S (with_clauses x.clauses) N x.origins A x.answer

  -- The state with the clause that the record makes, and its step.
  abbrev days : Option (ℕ × ℕ)
  days = (record_at F k).days

  abbrev made : Derivation
  made = input (next_clause S) (new_literals S rec)

  abbrev with_made : State
  with_made = with_days_beside (with_clause S k made) (next_clause S) days

  abbrev rows_there : Bool
  rows_there = all_below (length (rows_of S)) (map (λ (x : RowLiteral). x.1) (input_literals rec))

  abbrev input_tests : Bool → Bool → Bool → Bool → Result
  input_tests ranged there ordered applied = require ranged outOfRange (require there notThere (require ordered crossedDays (require applied variableLiteral (stands with_made))))

  input_step : kind_of (record_part F k) ≡ 4 → step S k (record_at F k) ≡ input_tests (in_range inputKind rec) rows_there (in_order days) (all_applications (row_of S) (input_literals rec))
  input_step four =
      ap (step S k) (decoded_parts F.form part)
      ∙ at_kind S k (record { kind = kind_of part; count = count_of part; fields = fields_of part; days = days }) inputKind (kind_at (record { kind = kind_of part; count = count_of part; fields = fields_of part; days = days }) 4 four refl)

  -- The cells of the clause, and what is left of a record that stands.
  abbrev input_stands : InputLeft
  input_stands = input_left (Ok (more_clauses n)) (with_clause_cells here.clauses n.clauses k (count_of part) 1 n.bindings 0) (with_node O n.clauses (1 ∷ taken_literals N (fields_of part)))

  abbrev input_refused : Reason → InputLeft
  input_refused r = input_left (Err r) here.clauses O

  pub input_read : kind_of (record_part F k) ≡ 4 → (e : Entered) (clauses' O' : List ℕ) → input_left e clauses' O' ≡ input_entered F.form (record_part F k) k n here.clauses N O
      → Next F t k S (record { symbols = here.symbols; rows = here.rows; clauses = clauses'; bindings = here.bindings }) N O' A e
  unfolding input_entered require
  input_read four e clauses' O' E = subst InputNext (sym E) (try (in_range inputKind rec) refl)
    where
      rows : all_below n.rows (map (λ (x : RowLiteral). x.1) (input_literals rec)) ≡ rows_there
      rows = ap (λ (m : ℕ). all_below m (map (λ (x : RowLiteral). x.1) (input_literals rec))) rows_count

      small : in_range inputKind rec ≡ true → count_of part ≡ length (placed 1 (new_literals S rec))
      small q =
          let d = both_true (leb rec.count 7) (zeros (drop rec.count rec.fields)) q in
          let m : rec.count ≤ 7 = leb→le rec.count 7 (to_t (leb rec.count 7) d.0) in
          sym (length-map (new_literals S rec) (λ (x : RowLiteral). (x.0, (x.1, 1))) ∙ length-map (input_literals rec) (λ (x : RowLiteral). (x.0, earliest_of S x.1)) ∙ length-map (take rec.count rec.fields) literal_of ∙ length-take-le rec.count rec.fields m)

      counts : more_clauses n ≡ counts_of with_made
      counts = ap more_clauses K.counts ∙ (λ i. record { symbols = length S.symbols; rows = length S.rows; clauses = add-one (length S.clauses) i; bindings = sym (add-zero S.total) i })

      tables : in_range inputKind rec ≡ true → with_clauses input_stands.clauses ≡ filled_tables with_made t
      tables q = λ i. record { symbols = symbols_here i; rows = rows_here i; clauses = clause_table made (count_of part) 1 n.bindings 0 (small q) refl (ap (λ (x : Counts). x.bindings) K.counts ∙ (stand F t k S n here N O A K l).ok.total_ok) refl i; bindings = (bindings_here ∙ ap (λ (x : List ℕ). filled 32768 x t.bindings) (sym (append-nil (binding_cells (derivations S))))) i }

      below_all : all_below n.rows (map (λ (x : RowLiteral). x.1) (input_literals rec)) ≡ true → Each (λ (x : RowLiteral). x.1 < length (rows_of S)) (input_literals rec)
      below_all p = rows_below (length (rows_of S)) (input_literals rec) (sym rows ∙ p)

      origin : in_range inputKind rec ≡ true → Each (λ (x : RowLiteral). x.1 < length (rows_of S)) (input_literals rec) → input_stands.origins ≡ origin_table_of (derivations with_made)
      origin q h = clause_origin made (1 ∷ taken_literals N (fields_of part)) (input_cells (rows_of S) fitting few N K.nodes part (next_clause S) q h)

      fourth : in_range inputKind rec ≡ true → all_below n.rows (map (λ (x : RowLiteral). x.1) (input_literals rec)) ≡ true → in_order days ≡ true → (b : Bool) → no_variable N (input_literals rec) ≡ b
          → InputNext (pick b input_stands (input_refused VariableLiteral))
      fourth q p d b v = by b (sym (variable_tests (rows_of S) (rows_fit_lem F t k S n here N O A K l) (omega (arith, many)) N K.nodes (input_literals rec) (below_all p)) ∙ v)
        where
          path : (b : Bool) → all_applications (row_of S) (input_literals rec) ≡ b → step S k (record_at F k) ≡ require b variableLiteral (stands with_made)
          path b z = input_step four ∙ (λ i. input_tests (q i) ((sym rows ∙ p) i) (d i) (z i))

          by : (b : Bool) → all_applications (row_of S) (input_literals rec) ≡ b → InputNext (pick b input_stands (input_refused VariableLiteral))
          by true z = (with_made, path true z, kept_next F t k S n here N O A K l with_made (path true z) (more_clauses n) (with_clauses input_stands.clauses) N input_stands.origins A counts (tables q) K.nodes (origin q (below_all p)) K.values)
          by false z = (path false z, K.tables, K.nodes, K.origins, K.values)

      third : in_range inputKind rec ≡ true → all_below n.rows (map (λ (x : RowLiteral). x.1) (input_literals rec)) ≡ true → (b : Bool) → in_order days ≡ b
          → InputNext (pick b (pick (no_variable N (input_literals rec)) input_stands (input_refused VariableLiteral)) (input_refused CrossedDays))
      third q p true d = fourth q p d (no_variable N (input_literals rec)) refl
      third q p false d = (input_step four ∙ (λ i. input_tests (q i) ((sym rows ∙ p) i) (d i) (all_applications (row_of S) (input_literals rec))), K.tables, K.nodes, K.origins, K.values)

      second : in_range inputKind rec ≡ true → (b : Bool) → all_below n.rows (map (λ (x : RowLiteral). x.1) (input_literals rec)) ≡ b
          → InputNext (pick b (pick (in_order days) (pick (no_variable N (input_literals rec)) input_stands (input_refused VariableLiteral)) (input_refused CrossedDays)) (input_refused NotThere))
      second q true p = third q p (in_order days) refl
      second q false p = (input_step four ∙ (λ i. input_tests (q i) ((sym rows ∙ p) i) (in_order days) (all_applications (row_of S) (input_literals rec))), K.tables, K.nodes, K.origins, K.values)

      try : (b : Bool) → in_range inputKind rec ≡ b
          → InputNext (pick b (pick (all_below n.rows (map (λ (x : RowLiteral). x.1) (input_literals rec))) (pick (in_order days) (pick (no_variable N (input_literals rec)) input_stands (input_refused VariableLiteral)) (input_refused CrossedDays)) (input_refused NotThere)) (input_refused OutOfRange))
      try true q = second q (all_below n.rows (map (λ (x : RowLiteral). x.1) (input_literals rec))) refl
      try false q = (input_step four ∙ (λ i. input_tests (q i) rows_there (in_order days) (all_applications (row_of S) (input_literals rec))), K.tables, K.nodes, K.origins, K.values)
