-- The merged file stands, with the clauses, the days and the symbols of both files.
use mathlib.Core.Path.{◌≡◌, refl, sym, ap, ap₂, ◌∙◌}
use mathlib.Core.Logic.{◌↔◌}
use mathlib.Core.Bool.{Bool, true, false, ◌&&◌}
use mathlib.Core.Option.{Option, none, some}
use mathlib.Core.List.{List, [], ◌∷◌, ◌++◌, map, reverse, append-nil}
use Prim.Native.Nat.{ℕ, zero, suc, ◌+◌, ◌-◌, ◌%◌, ◌≤◌, ◌<◌}
use native.Mathlib.Nat.{zero-add}
use native.Mathlib.Omega.{arith}
use lib.Dec.{eqb, leb, ltb, ltb→lt}
use lib.ListN.{length, drop, length-map, drop_of_length-le}
use borrow.Author.Tests.{le-leb, eq-eqb}
use Rattle.record.specs.Record.{pick, File, old_file, Record, records}
use Rattle.record.proofs.Bytes.{file_length, file_records}
use Rattle.record.proofs.Records.{Shaped, HaveDays, records_shaped, records_days}
use Rattle.record.specs.Sorts.{is_symbol, is_row, is_clause, is_step, how_many, unless}
use Rattle.record.specs.declared.Form.TheVariants.{Old}
use Rattle.unification.specs.Row.{Row, application, no_symbol, row_at}
use Rattle.unification.specs.Term.{Term, app, nil}
use Rattle.unification.proofs.Lists.{Each, map_each}
use Rattle.unification.proofs.Tests.{to_t, true_not_false, some_not_none}
use Rattle.derivation.specs.Derivation.{literals, input, resolve, factor, Literal, RowLiteral, Derivation, clause_number}
use Rattle.derivation.proofs.Literals.{leb_false_lt}
use Rattle.derivation.proofs.Known.{KnownRows, KnownLiteral, known_literals}
use Rattle.unification.specs.Repeated.{IsEarliest}
use Rattle.demands.specs.Conditions.{TableShort}
use Rattle.demands.specs.Demands.{InForce}
use Rattle.verdict.specs.Force.{window_of, uses_in_force}
use Rattle.verdict.specs.Refusal.{Reason, is_input, is_application}
use Rattle.demands.specs.Repeats.{written_after, written_rows, number_term, term_by_numbers}
use Rattle.verdict.specs.State.{State, empty_state, rows_of, derivations, clause_of}
use Rattle.verdict.specs.Step.{read, all_stand}
use Rattle.verdict.specs.Tables.{Tables, lengths_of}
use Rattle.verdict.specs.Verdict.{Answer, refusal, check, standing, first_empty, fitting, ending, Stands}
use Rattle.demands.proofs.Demanded.{long_enough_lem, stands_check}
use Rattle.demands.proofs.InForceShown.{in_force_lem, of_in_force}
use Rattle.demands.proofs.Inversions.{entry_some, entry_each, not_below}
use Rattle.demands.proofs.RangeTests.{not_true, equal, at_most}
use Rattle.verdict.proofs.Endings.{read_on_lem}
use Rattle.demands.proofs.Shared.{shared_start}
use Rattle.demands.proofs.Sources.{Sourced, step_sourced, number_of}
use Rattle.demands.proofs.WrittenRows.{ReadSame, read_same, no_rows}
use Rattle.merging.specs.Answer.{first_where, symbol_list, first_other}
use Rattle.merging.specs.Merging.{shifted, symbols_after, without_symbols, merged, merged_file}
use Rattle.merging.specs.Promised.{longer, clauses_written, days_in, Merged}
use Rattle.merging.proofs.Behind.{none_here, Behind, read_behind}
use Rattle.merging.proofs.Beside.{Beside, raised_window}
use Rattle.merging.proofs.ClausesRead.{input_clauses, clause_by, written_later, read_clauses, read_inputs}
use Rattle.merging.proofs.Counting.{stands_counted, stands_listed}
use Rattle.merging.proofs.ReadKeeps.{stands_keeps}
use Rattle.merging.proofs.Searches.{Alike, none_alike}
use Rattle.merging.proofs.Shifts.{shifted_seven}
use Rattle.merging.proofs.TermsShifted.{Further, all_further, clauses_shifted}
use Rattle.merging.proofs.WindowsKept.{stands_there, days_first, days_second, within_days}

-- ── Lists of records ──
pub list_many : (rs : List Record) → length (symbol_list rs) ≡ how_many is_symbol rs
list_many [] = refl
list_many (r ∷ rs) = try (is_symbol r) (list_many rs)
  where
    try : (b : Bool) → length (symbol_list rs) ≡ how_many is_symbol rs → length {A = ℕ} (elim b [ true ↦ r.count ∷ symbol_list rs | false ↦ symbol_list rs ]) ≡ pick b 1 0 + how_many is_symbol rs
    try true e = omega arith
    try false e = omega arith

shaped_joined : (rs ss : List Record) → Shaped rs → Shaped ss → Shaped (rs ++ ss)
shaped_joined [] ss h k = k
shaped_joined (r ∷ rs) ss h k = (h.0, shaped_joined rs ss h.1 k)

shaped_shifted : (m c n s : ℕ) (rs : List Record) → Shaped rs → Shaped (map (λ r. shifted m c r) (without_symbols n s rs))
shaped_shifted m c n s [] h = tt
shaped_shifted m c n s (r ∷ rs) h = try (is_symbol r && ltb s n) (shaped_shifted m c n (symbols_after s r) rs h.1)
  where
    try : (b : Bool) → Shaped (map (λ q. shifted m c q) (without_symbols n (symbols_after s r) rs)) → Shaped (map (λ q. shifted m c q) (unless b r (without_symbols n (symbols_after s r) rs)))
    try true k = k
    try false k = (shifted_seven m c r h.0, k)

pub merged_shaped : (first second : List ℕ) → Shaped (merged (records (old_file first)) (records (old_file second)))
merged_shaped first second =
    shaped_joined (records (old_file first)) _ (records_shaped (old_file first)) (shaped_shifted (how_many is_row (records (old_file first))) (how_many is_clause (records (old_file first))) (how_many is_symbol (records (old_file first))) 0 (records (old_file second)) (records_shaped (old_file second)))

-- Records of the old form have no days.
days_joined : (rs ss : List Record) → HaveDays Old rs → HaveDays Old ss → HaveDays Old (rs ++ ss)
days_joined [] ss h k = k
days_joined (r ∷ rs) ss h k = (h.0, days_joined rs ss h.1 k)

days_shifted : (m c n s : ℕ) (rs : List Record) → HaveDays Old rs → HaveDays Old (map (λ r. shifted m c r) (without_symbols n s rs))
days_shifted m c n s [] h = tt
days_shifted m c n s (r ∷ rs) h = try (is_symbol r && ltb s n) (days_shifted m c n (symbols_after s r) rs h.1)
  where
    try : (b : Bool) → HaveDays Old (map (λ q. shifted m c q) (without_symbols n (symbols_after s r) rs)) → HaveDays Old (map (λ q. shifted m c q) (unless b r (without_symbols n (symbols_after s r) rs)))
    try true k = k
    try false k = (h.0, k)

pub merged_days : (first second : List ℕ) → HaveDays Old (merged (records (old_file first)) (records (old_file second)))
merged_days first second =
    days_joined (records (old_file first)) _ (records_days (old_file first)) (days_shifted (how_many is_row (records (old_file first))) (how_many is_clause (records (old_file first))) (how_many is_symbol (records (old_file first))) 0 (records (old_file second)) (records_days (old_file second)))

-- The symbols of records put together, shifted, and left out.
list_joined : (rs ss : List Record) → symbol_list (rs ++ ss) ≡ symbol_list rs ++ symbol_list ss
list_joined [] ss = refl
list_joined (r ∷ rs) ss = try (is_symbol r) (list_joined rs ss)
  where
    try : (b : Bool) → symbol_list (rs ++ ss) ≡ symbol_list rs ++ symbol_list ss
        → ◌≡◌ {A = List ℕ} (elim b [ true ↦ r.count ∷ symbol_list (rs ++ ss) | false ↦ symbol_list (rs ++ ss) ]) ((elim b [ true ↦ r.count ∷ symbol_list rs | false ↦ symbol_list rs ]) ++ symbol_list ss)
    try true e = ap (λ (l : List ℕ). r.count ∷ l) e
    try false e = e

list_shifted : (m c : ℕ) (rs : List Record) → symbol_list (map (λ r. shifted m c r) rs) ≡ symbol_list rs
list_shifted m c [] = refl
list_shifted m c (r ∷ rs) = ap (λ (l : List ℕ). elim (is_symbol r) [ true ↦ r.count ∷ l | false ↦ l ]) (list_shifted m c rs)

list_kept : (n s : ℕ) (rs : List Record) → symbol_list (without_symbols n s rs) ≡ drop (n - s) (symbol_list rs)
list_kept n s [] = nothing (n - s)
  where
    nothing : (m : ℕ) → [] ≡ drop {A = ℕ} m []
    nothing zero = refl
    nothing (suc m) = refl
list_kept n s (r ∷ rs) = try (is_symbol r) refl (ltb s n) refl (list_kept n (symbols_after s r) rs)
  where
    one_dropped : s < n → drop (n - s) (r.count ∷ symbol_list rs) ≡ drop (n - suc s) (symbol_list rs)
    one_dropped l = let e : n - s ≡ suc (n - suc s) = omega arith in ap (λ (m : ℕ). drop m (r.count ∷ symbol_list rs)) e

    none_dropped : n ≤ s → (xs : List ℕ) → drop (n - s) xs ≡ xs
    none_dropped l xs = let e : n - s ≡ 0 = omega arith in ap (λ (m : ℕ). drop m xs) e

    try : (b : Bool) → is_symbol r ≡ b → (c : Bool) → ltb s n ≡ c → symbol_list (without_symbols n (pick b (suc s) s) rs) ≡ drop (n - pick b (suc s) s) (symbol_list rs)
        → symbol_list (unless (b && c) r (without_symbols n (pick b (suc s) s) rs)) ≡ drop (n - s) (elim b [ true ↦ r.count ∷ symbol_list rs | false ↦ symbol_list rs ])
    try true z true l ih = ih ∙ sym (one_dropped (ltb→lt s n (to_t (ltb s n) l)))
    try true z false l ih =
        let m = not_below s n l in
        ap (λ (b : Bool). elim b [ true ↦ r.count ∷ symbol_list (without_symbols n (suc s) rs) | false ↦ symbol_list (without_symbols n (suc s) rs) ]) z
        ∙ ap (λ (xs : List ℕ). r.count ∷ xs) (ih ∙ (let e : n - suc s ≡ 0 = omega arith in ap (λ (m : ℕ). drop m (symbol_list rs)) e))
        ∙ sym (none_dropped m (r.count ∷ symbol_list rs))
    try false z c l ih = ap (λ (b : Bool). elim b [ true ↦ r.count ∷ symbol_list (without_symbols n s rs) | false ↦ symbol_list (without_symbols n s rs) ]) z ∙ ih

-- Two lists that agree: the first, and what the second has past it, is the longer.
first_longer : (xs ys : List ℕ) → length ys ≤ length xs → xs ++ drop (length xs) ys ≡ xs
first_longer xs ys l = ap (λ (zs : List ℕ). xs ++ zs) (drop_of_length-le ys {i = length xs} l) ∙ append-nil xs

second_longer : (xs ys : List ℕ) → Alike xs ys → length xs ≤ length ys → xs ++ drop (length xs) ys ≡ ys
second_longer [] ys h l = refl
second_longer (x ∷ xs) [] h l = absurd (omega arith)
second_longer (x ∷ xs) (y ∷ ys) h l = ap₂ (λ (a : ℕ) (zs : List ℕ). a ∷ zs) h.0 (second_longer xs ys h.1 (omega arith))

joined_longer : (xs ys : List ℕ) → Alike xs ys → xs ++ drop (length xs) ys ≡ longer xs ys
joined_longer xs ys h = try (leb (length ys) (length xs)) refl
  where
    try : (b : Bool) → leb (length ys) (length xs) ≡ b → xs ++ drop (length xs) ys ≡ pick b xs ys
    try true q = first_longer xs ys (at_most (length ys) (length xs) q)
    try false q = second_longer xs ys h (let l = leb_false_lt (length ys) (length xs) q in omega arith)

-- ── A state of a file without steps ──

-- A row past the last is an application.
row_past : (ws : List Row) (n : ℕ) → row_at ws (n + length ws) ≡ application no_symbol []
row_past [] n = refl
row_past (w ∷ ws) n =
    let e : n + suc (length ws) ≡ suc n + length ws = omega arith in
    ap (λ (m : ℕ). pick (eqb m (length ws)) w (row_at ws m)) e
    ∙ ap (λ (b : Bool). pick b w (row_at ws (suc n + length ws))) (not_true (eqb (suc n + length ws) (length ws)) (λ t. let z = equal (suc n + length ws) (length ws) t in omega arith))
    ∙ row_past ws (suc n)

alone : (S : State) → Each (λ (d : Derivation). is_input (some d) ≡ true) (derivations S) → Beside S empty_state S
alone S h = record {
  of_first = λ s a q. q;
  of_second = λ s a q. absurd (some_not_none refl q);
  as_first = λ l. refl;
  as_second = λ l. omega arith;
  rows_many = sym (zero-add (length (rows_of S)));
  shapes = λ n. ap is_application (row_past (rows_of S) n);
  clauses_many = sym (zero-add (length (derivations S)));
  inputs = h;
  windows = refl;
}

-- Terms of a state's clauses are the same over rows that go on further.
same_clauses_lem : (ws us : List Row) (cs : List Derivation) → ((q : ℕ) → q < length ws → term_by_numbers us q ≡ term_by_numbers ws q) → Each (KnownRows (IsEarliest ws)) cs → map (clause_by us) cs ≡ map (clause_by ws) cs
same_clauses_lem ws us cs h k = map_each (KnownRows (IsEarliest ws)) (clause_by us) (clause_by ws) (λ c known. map_each (KnownLiteral (IsEarliest ws)) (λ (l : Literal). (l.0, term_by_numbers us l.1.0)) (λ (l : Literal). (l.0, term_by_numbers ws l.1.0)) (λ l e. ap (λ (t : Term ℕ). (l.0, t)) (h l.1.0 e.there)) (literals c) (known_literals (IsEarliest ws) c known)) cs k

-- An input clause at its number.
input_form : (n : ℕ) (d : Derivation) → is_input (some d) ≡ true → clause_number d ≡ n → (ls : List RowLiteral) × (some d ≡ some (input n ls))
input_form n (input k ls) i e = (ls, ap (λ (m : ℕ). some (input m ls)) e)
input_form n (resolve k l a r ns bs) i e = absurd (true_not_false i refl)
input_form n (factor k c a b bs) i e = absurd (true_not_false i refl)

-- A term past the last row is no symbol's.
term_past : (ws : List Row) (n : ℕ) → term_by_numbers ws (n + length ws) ≡ app no_symbol nil
term_past [] n = refl
term_past (w ∷ ws) n =
    let e : n + suc (length ws) ≡ suc n + length ws = omega arith in
    ap (λ (m : ℕ). pick (eqb m (length ws)) (number_term (term_by_numbers ws) w) (term_by_numbers ws m)) e
    ∙ ap (λ (b : Bool). pick b (number_term (term_by_numbers ws) w) (term_by_numbers ws (suc n + length ws))) (not_true (eqb (suc n + length ws) (length ws)) (λ t. let z = equal (suc n + length ws) (length ws) t in omega arith))
    ∙ term_past ws (suc n)

never_refused : (o : Option ℕ) {reason : Reason} {k : ℕ} → standing o ≡ refusal reason k → ⊥
never_refused none q = let z : ◌≡◌ {A = ℕ} 0 1 = cc in omega arith
never_refused (some n) q = let z : ◌≡◌ {A = ℕ} 0 1 = cc in omega arith

-- Shifting makes no step.
steps_moved : (m c n s i j : ℕ) (rs : List Record) → first_where is_step i rs ≡ none → first_where is_step j (map (λ r. shifted m c r) (without_symbols n s rs)) ≡ none
steps_moved m c n s i j [] q = refl
steps_moved m c n s i j (r ∷ rs) q = try (is_symbol r && ltb s n) (none_here is_step i r rs q) (λ k. steps_moved m c n (symbols_after s r) (suc i) k rs)
  where
    try : (b : Bool) → (is_step r ≡ false) × (first_where is_step (suc i) rs ≡ none) → ((k : ℕ) → first_where is_step (suc i) rs ≡ none → first_where is_step k (map (λ x. shifted m c x) (without_symbols n (symbols_after s r) rs)) ≡ none)
        → first_where is_step j (map (λ x. shifted m c x) (unless b r (without_symbols n (symbols_after s r) rs))) ≡ none
    try true h ih = ih j h.1
    try false h ih = ap (λ (b : Bool). elim b [ true ↦ some j | false ↦ first_where is_step (suc j) (map (λ x. shifted m c x) (without_symbols n (symbols_after s r) rs)) ]) h.0 ∙ ih (suc j) h.1

module _ (first second : List ℕ) (S T : State) (st₁ : Stands (old_file first) S) (st₂ : Stands (old_file second) T)
    (noStep₁ : first_where is_step 0 (records (old_file first)) ≡ none) (noStep₂ : first_where is_step 0 (records (old_file second)) ≡ none)
    (agree : first_other (symbol_list (records (old_file first))) 0 (records (old_file second)) ≡ none) (few : length (merged (records (old_file first)) (records (old_file second))) ≤ 4096) where
  abbrev moved : List Record
  moved = map (λ r. shifted (length (rows_of S)) (length (derivations S)) r) (without_symbols (length (symbol_list (records (old_file first)))) 0 (records (old_file second)))

  rows_many_lem : length (rows_of S) ≡ how_many is_row (records (old_file first))
  rows_many_lem = let a = (stands_counted (old_file first) S st₁).rows in let b = length-map S.rows (λ (w : ℕ × Row). w.1) in omega arith

  clauses_many_lem : length (derivations S) ≡ how_many is_clause (records (old_file first))
  clauses_many_lem = let a = (stands_counted (old_file first) S st₁).clauses in let b = length-map S.clauses (λ (c : ℕ × Derivation). c.1) in omega arith

  clauses_same : length (derivations S) ≡ length S.clauses
  clauses_same = length-map S.clauses (λ (c : ℕ × Derivation). c.1)

  merged_moved : merged (records (old_file first)) (records (old_file second)) ≡ records (old_file first) ++ moved
  merged_moved =
      let a = sym rows_many_lem in
      let b = sym clauses_many_lem in
      let c = sym (list_many (records (old_file first))) in
      λ i. records (old_file first) ++ map (λ r. shifted (a i) (b i) r) (without_symbols (c i) 0 (records (old_file second)))

  inputs_first : Each (λ (d : Derivation). is_input (some d) ≡ true) (derivations S)
  unfolding ending
  inputs_first = read_inputs empty_state 0 0 (records (old_file first)) S noStep₁ st₁.reads tt

  behind : Behind S (symbol_list (records (old_file first))) (stands_listed (old_file first) S st₁) S (0 + length (records (old_file first))) moved T
  unfolding ending
  behind = read_behind S (symbol_list (records (old_file first))) (stands_listed (old_file first) S st₁) empty_state S 0 (0 + length (records (old_file first))) 0 0 (records (old_file second)) T (records_shaped (old_file second)) (alone S inputs_first) noStep₂ agree st₂.reads

  abbrev left : State
  left = behind.left

  -- ── It stands ──
  records_merged : records (old_file (merged_file first second)) ≡ merged (records (old_file first)) (records (old_file second))
  unfolding merged_file
  records_merged = file_records Old (merged (records (old_file first)) (records (old_file second))) (merged_shaped first second) (merged_days first second)

  fits : fitting (old_file (merged_file first second)) ≡ true
  unfolding merged_file
  fits =
      let n = file_length Old (merged (records (old_file first)) (records (old_file second))) in
      ap₂ ◌&&◌ (le-leb (length (merged_file first second)) 65536 (omega (arith, n, few))) (eq-eqb (length (merged_file first second) % 16) 0 (omega (arith, n)))

  reads_on : read empty_state 0 (records (old_file first)) ≡ all_stand S → read empty_state 0 (records (old_file first) ++ moved) ≡ all_stand left
  reads_on q = read_on_lem empty_state 0 (records (old_file first)) moved S q ∙ behind.reads

  stands_merged : Stands (old_file (merged_file first second)) left
  unfolding ending
  stands_merged = record { fits = fits; reads = ap (read empty_state 0) (records_merged ∙ merged_moved) ∙ reads_on st₁.reads }

  every_day_lem : (day : ℕ) (tables : Tables) → ¬ TableShort tables → (reason : Reason) (k : ℕ) → ¬ ((check day (old_file (merged_file first second)) (lengths_of tables)).verdict ≡ refusal reason k)
  every_day_lem day tables h reason k q = never_refused (first_empty (uses_in_force left day) (derivations left)) (sym (ap (λ (a : Answer). a.verdict) (stands_check day (old_file (merged_file first second)) tables left stands_merged (long_enough_lem (old_file (merged_file first second)) tables h))) ∙ q)

  -- ── Its clauses ──
  inputs_there : (n : ℕ) → n < length left.clauses → (ls : List RowLiteral) × (clause_of left n ≡ some (input n ls))
  inputs_there n l =
      let m = length-map left.clauses (λ (c : ℕ × Derivation). c.1) in
      let s = entry_some (derivations left) n (omega arith) in
      let i = entry_each (λ (d : Derivation). is_input (some d) ≡ true) (derivations left) behind.beside.inputs n s.0 s.1 in
      let H = stands_keeps (λ (X : State). Sourced (derivations X)) (λ X k r Y h q p. step_sourced X k r Y h q p) (old_file (merged_file first second)) left stands_merged tt in
      let f = input_form n s.0 i (number_of (derivations left) H n s.0 s.1) in
      (f.0, s.1 ∙ f.1)

  abbrev start : ReadSame empty_state []
  start = record { shared = shared_start; same = no_rows }

  same_first : ReadSame S (written_rows (records (old_file first)))
  unfolding ending
  same_first = read_same empty_state 0 (records (old_file first)) [] S start st₁.reads

  same_left : ReadSame left (written_after (written_rows (records (old_file first))) moved)
  same_left = read_same S (0 + length (records (old_file first))) moved (written_rows (records (old_file first))) left same_first behind.reads

  -- The first's clauses, in the merged file and alone.
  terms_kept : (q : ℕ) → q < length (rows_of S) → term_by_numbers (rows_of left) q ≡ term_by_numbers (rows_of S) q
  terms_kept q l =
      let n = same_first.same.same_length in
      same_left.same.terms q ∙ written_later (written_rows (records (old_file first))) moved q (omega arith) ∙ sym (same_first.same.terms q)

  clauses_first : reverse (map (clause_by (rows_of left)) (derivations S)) ≡ clauses_written S
  clauses_first = ap reverse (same_clauses_lem (rows_of S) (rows_of left) (derivations S) terms_kept same_first.shared.clauses_shared)

  -- The second's.
  clauses_second : clauses_written T ≡ input_clauses (term_by_numbers (written_rows (records (old_file second)))) (records (old_file second))
  unfolding ending
  clauses_second = read_clauses empty_state 0 0 (records (old_file second)) [] T start noStep₂ st₂.reads

  further : Further (length (rows_of S)) (written_after (written_rows (records (old_file first))) moved) (written_rows (records (old_file second)))
  further =
      all_further (length (rows_of S)) (length (derivations S)) (length (symbol_list (records (old_file first)))) 0 (written_rows (records (old_file first))) [] (records (old_file second)) (records_shaped (old_file second))
      (record { many = sym same_first.same.same_length ∙ sym (zero-add (length (rows_of S))); terms = λ q. ap (λ (n : ℕ). term_by_numbers (written_rows (records (old_file first))) (q + n)) same_first.same.same_length ∙ term_past (written_rows (records (old_file first))) q })

  no_step_moved : first_where is_step 0 moved ≡ none
  no_step_moved = steps_moved (length (rows_of S)) (length (derivations S)) (length (symbol_list (records (old_file first)))) 0 0 0 (records (old_file second)) noStep₂

  clauses_joined : clauses_written left ≡ clauses_written S ++ clauses_written T
  clauses_joined =
      read_clauses S (0 + length (records (old_file first))) 0 moved (written_rows (records (old_file first))) left same_first no_step_moved behind.reads
      ∙ ap₂ ◌++◌ clauses_first (clauses_shifted (length (rows_of S)) (length (derivations S)) (term_by_numbers (written_after (written_rows (records (old_file first))) moved)) (term_by_numbers (written_rows (records (old_file second)))) further.terms (length (symbol_list (records (old_file first)))) 0 (records (old_file second)) ∙ sym clauses_second)

  -- ── Its days and its symbols ──
  windows_left_lem : left.windows ≡ map (raised_window (length S.clauses)) T.windows ++ S.windows
  windows_left_lem = behind.beside.windows ∙ ap (λ (n : ℕ). map (raised_window n) T.windows ++ S.windows) clauses_same

  days_of_first_lem : (n : ℕ) → n < length S.clauses → days_in left n ≡ days_in S n
  days_of_first_lem = days_first S T left windows_left_lem (stands_there (old_file first) S st₁)

  days_of_second_lem : (n : ℕ) → days_in left (length S.clauses + n) ≡ days_in T n
  days_of_second_lem = days_second S T left windows_left_lem (stands_there (old_file first) S st₁)

  -- In force there and here, by equal days.
  same_force : (file : File) (U : State) → Stands file U → (day n m : ℕ) → days_in left n ≡ days_in U m → InForce (old_file (merged_file first second)) day n ↔ InForce file day m
  same_force file U st day n m e =
      let w = within_days day (window_of left.windows n) (window_of U.windows m) e in
      (λ f. in_force_lem file U st day m (sym w ∙ of_in_force (old_file (merged_file first second)) left stands_merged day n f), λ f. in_force_lem (old_file (merged_file first second)) left stands_merged day n (w ∙ of_in_force file U st day m f))

  symbols_longer : symbol_list (records (old_file (merged_file first second))) ≡ longer (symbol_list (records (old_file first))) (symbol_list (records (old_file second)))
  symbols_longer =
      ap symbol_list (records_merged ∙ merged_moved)
      ∙ list_joined (records (old_file first)) moved
      ∙ ap (λ (xs : List ℕ). symbol_list (records (old_file first)) ++ xs) (list_shifted (length (rows_of S)) (length (derivations S)) (without_symbols (length (symbol_list (records (old_file first)))) 0 (records (old_file second))) ∙ list_kept (length (symbol_list (records (old_file first)))) 0 (records (old_file second)) ∙ (let z : length (symbol_list (records (old_file first))) - 0 ≡ length (symbol_list (records (old_file first))) = omega arith in ap (λ (n : ℕ). drop n (symbol_list (records (old_file second)))) z))
      ∙ joined_longer (symbol_list (records (old_file first))) (symbol_list (records (old_file second))) (none_alike (symbol_list (records (old_file first))) 0 (records (old_file second)) agree)

  pub merged_shown : (M : State) × Merged first second S T M
  merged_shown = (
    left,
    record {
      stands = stands_merged;
      every_day = every_day_lem;
      inputs = inputs_there;
      clauses = clauses_joined;
      days_of_first = days_of_first_lem;
      days_of_second = days_of_second_lem;
      force_of_first = λ day n l. same_force (old_file first) S st₁ day n n (days_of_first_lem n l);
      force_of_second = λ day n. same_force (old_file second) T st₂ day (length S.clauses + n) n (days_of_second_lem n);
      symbols = symbols_longer;
    },
  )
