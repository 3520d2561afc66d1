-- The mission's demands hold of every file and every four tables.
use mathlib.Core.Path.{◌≡◌, refl, sym, ap, ap₂, ◌∙◌, subst}
use mathlib.Core.Logic.{◌⊎◌, inl, inr}
use mathlib.Core.Bool.{Bool, true, false, ◌&&◌}
use mathlib.Core.Option.{Option, none, some}
use mathlib.Core.List.{List, [], ◌∷◌, ◌++◌}
use Prim.Native.Nat.{ℕ, ◌+◌, ◌-◌, ◌*◌, ◌%◌, ◌≤◌, ◌<◌}
use native.Mathlib.Nat.{zero-add}
use native.Mathlib.Omega.{arith}
use lib.Dec.{eqb, leb}
use lib.ListN.{length, get_or, take, drop, replicate, length-map, length-take, get_or-append}
use Rattle.record.specs.Record.{pick, File, in_form, old_file, new_file, Record, records}
use Rattle.record.proofs.Records.{records_shaped}
use Rattle.unification.specs.Environment.{follow, Ends}
use Rattle.unification.specs.Row.{Expression}
use Rattle.unification.specs.Unification.{most_links}
use Rattle.unification.proofs.Chains.{short_le}
use Rattle.unification.proofs.Rows.{row_there}
use Rattle.unification.proofs.Tests.{both_true, true_not_false, some_injective}
use Rattle.derivation.specs.Derivation.{literals, Derivation, maximum_index, lookup, uses}
use Rattle.derivation.specs.Ground.{value_in}
use Rattle.derivation.proofs.Forms.{instances_formed}
use Rattle.derivation.proofs.Known.{Under, known_uses}
use Rattle.derivation.proofs.Literals.{uses_length, leb_false_lt}
use Rattle.derivation.proofs.Values.{refutes, writes_out, writes_out_unique, values_exist, values_unique_lem}
use Rattle.demands.specs.Conditions.{OneOf, LengthUnfit, length_over, not_multiple, new_length_over, new_not_multiple, TableShort, symbols_short, rows_short, clauses_short, bindings_short, Condition, unknown_kind, outside_range, nothing_there, falling_literals, crossing_days, variable_as_literal, unfit_signs, large_result, clashing_outlines, clashing, occurring, overworking, overfull, precedence}
use Rattle.demands.specs.Demands.{ResolventAdded, Reached, ComesTo, TablesHold, Untouched, LeftBefore, Demand1, ConditionAt, of_length, of_tables, of_record, Due, UsesInForce, LowestEmpty, NoneEmpty, Demand2, Refutation, Demand3}
use Rattle.verdict.specs.Force.{uses_in_force}
use Rattle.verdict.specs.Refusal.{Reason, badLength, shortTable, reason_number}
use Rattle.verdict.specs.State.{State, empty_state, rows_of, derivations, arity_of, clause_of, row_of, term_of}
use Rattle.verdict.specs.Step.{refused, step, read, Ending, all_stand, refused_at, state_of}
use Rattle.verdict.specs.Tables.{Tables, lengths_of, clause_cells, filled_tables, tables_given, tables_after}
use Rattle.verdict.specs.Verdict.{Verdict, refusal, check, accepted, open', Answer, first_empty, standing, verdict_of, answer_of, Lengths, long_enough, fitting_length, fitting, ending, Stands, Reading, verdict_given, state_given}
use Rattle.demands.proofs.Acceptance.{none_empty, first_lowest, some_first, cells_length, index_cell_lem}
use Rattle.demands.proofs.Added.{step_adds}
use Rattle.demands.proofs.InForceShown.{uses_in_force_lem, of_uses_in_force}
use Rattle.demands.proofs.RangeTests.{kind_at, resolve_kind, not_true, either_false, unequal, equal, at_most}
use Rattle.demands.proofs.Inversions.{entry_below}
use Rattle.verdict.proofs.Endings.{ending_stands, reading_length, reading_tables, reading_records}
use Rattle.demands.proofs.Reading.{read_refused, few_records, reached_shaped, reached_seven, reached_ok, reached_refused, comes_ok, stands_ok, term_of_row, one_arity}
use Rattle.demands.proofs.Refusals.{refused_condition, condition_refused, refused_lowest, refused_no_unifier, condition_number}
use Rattle.demands.proofs.Resolution.{resolvent_added, factor_added, unifiable_stands}
use Rattle.demands.proofs.Standing.{StateOk, below, order_of, inputs_of, known_of, held_links}
use Rattle.demands.proofs.TableCells.{size_of, read_size, tables_hold_lem}
use Rattle.demands.proofs.WrittenRows.{terms_stay_lem}
use Rattle.record.specs.declared.Form.{Form}
use Rattle.record.specs.declared.Form.TheVariants.{Old, New}

accepted_injective : {m n : ℕ} → accepted m ≡ accepted n → m ≡ n
accepted_injective p = cc

refusal_injective : {p q : Reason} {j k : ℕ} → refusal p j ≡ refusal q k → (p ≡ q) × (j ≡ k)
refusal_injective e = (cc, cc)

accepted_not_refusal : {n k : ℕ} {q : Reason} → accepted n ≡ refusal q k → ⊥
accepted_not_refusal p = let z : ◌≡◌ {A = ℕ} 0 1 = cc in omega arith

open_not_refusal : {k : ℕ} {q : Reason} → open' ≡ refusal q k → ⊥
open_not_refusal p = let z : ◌≡◌ {A = ℕ} 0 1 = cc in omega arith

open_not_accepted : {n : ℕ} → open' ≡ accepted n → ⊥
open_not_accepted p = let z : ◌≡◌ {A = ℕ} 0 1 = cc in omega arith

pub never_refusal : (o : Option ℕ) {q : Reason} {k : ℕ} → standing o ≡ refusal q k → ⊥
never_refusal none z = open_not_refusal z
never_refusal (some n) z = accepted_not_refusal z

-- A number of a list, found by comparing.
abbrev member : ℕ → List ℕ → Bool
member n [] = false
member n (m ∷ ms) = pick (eqb n m) true (member n ms)

one_of : (n : ℕ) (ns : List ℕ) → member n ns ≡ true → OneOf n ns
one_of n [] q = absurd (true_not_false q refl)
one_of n (m ∷ ms) q = try (eqb n m) refl q (λ z. one_of n ms z)
  where
    try : (b : Bool) → eqb n m ≡ b → pick b true (member n ms) ≡ true → (member n ms ≡ true → OneOf n ms) → OneOf n (m ∷ ms)
    try true p z k = inl (equal n m p)
    try false p z k = inr (k z)

-- The tests of lengths say what the conditions say, in both forms.
unfit_in : (form : Form) (bytes : List ℕ) → fitting_length form (length bytes) ≡ false → LengthUnfit (in_form form bytes)
unfit_in Old bytes f = try (either_false (leb (length bytes) 65536) (eqb (length bytes % 16) 0) f)
  where
    try : (leb (length bytes) 65536 ≡ false) ⊎ (eqb (length bytes % 16) 0 ≡ false) → LengthUnfit (old_file bytes)
    try (inl p) = length_over (leb_false_lt (length bytes) 65536 p)
    try (inr p) = not_multiple (unequal (length bytes % 16) 0 p)
unfit_in New bytes f = try (either_false (leb (length bytes) 65520) (eqb (length bytes % 20) 0) f)
  where
    try : (leb (length bytes) 65520 ≡ false) ⊎ (eqb (length bytes % 20) 0 ≡ false) → LengthUnfit (new_file bytes)
    try (inl p) = new_length_over (leb_false_lt (length bytes) 65520 p)
    try (inr p) = new_not_multiple (unequal (length bytes % 20) 0 p)

never_fits : {file : File} → LengthUnfit file → ¬ (fitting file ≡ true)
never_fits (length_over {bytes} l) t = let z = at_most (length bytes) 65536 (both_true (leb (length bytes) 65536) (eqb (length bytes % 16) 0) t).0 in omega arith
never_fits (not_multiple {bytes} n) t = n (equal (length bytes % 16) 0 (both_true (leb (length bytes) 65536) (eqb (length bytes % 16) 0) t).1)
never_fits (new_length_over {bytes} l) t = let z = at_most (length bytes) 65520 (both_true (leb (length bytes) 65520) (eqb (length bytes % 20) 0) t).0 in omega arith
never_fits (new_not_multiple {bytes} n) t = n (equal (length bytes % 20) 0 (both_true (leb (length bytes) 65520) (eqb (length bytes % 20) 0) t).1)

module _ (file : File) (tables : Tables) where
  -- The tables, by how the reading goes.
  pub tables_length : fitting file ≡ false → tables_after file tables ≡ tables
  unfolding tables_after
  tables_length f = ap (λ (R : Reading). tables_given R tables) (reading_length file (lengths_of tables) f)

  pub tables_short : fitting file ≡ true → long_enough (lengths_of tables) ≡ false → tables_after file tables ≡ tables
  unfolding tables_after
  tables_short f l = ap (λ (R : Reading). tables_given R tables) (reading_tables file (lengths_of tables) f l)

  pub tables_read : fitting file ≡ true → long_enough (lengths_of tables) ≡ true → tables_after file tables ≡ filled_tables (state_of (ending file)) tables
  unfolding tables_after
  tables_read f l = ap (λ (R : Reading). tables_given R tables) (reading_records file (lengths_of tables) f l)

  pub stands_tables : (S : State) → Stands file S → long_enough (lengths_of tables) ≡ true → tables_after file tables ≡ filled_tables S tables
  stands_tables S st l = tables_read st.fits l ∙ ap (λ (e : Ending). filled_tables (state_of e) tables) st.reads

  length_unfit : fitting file ≡ false → LengthUnfit file
  length_unfit f = unfit_in file.form file.bytes f

  length_fails : LengthUnfit file → fitting file ≡ false
  length_fails h = not_true (fitting file) (never_fits h)

  abbrev four : Bool × Bool × Bool × Bool
  four = (leb 4096 (length tables.symbols), leb 4096 (length tables.rows), leb 20480 (length tables.clauses), leb 32768 (length tables.bindings))

  table_short : long_enough (lengths_of tables) ≡ false → TableShort tables
  table_short f = first (either_false (four.0 && four.1 && four.2) four.3 f)
    where
      third : (four.0 ≡ false) ⊎ (four.1 ≡ false) → TableShort tables
      third (inl p) = symbols_short (leb_false_lt 4096 (length tables.symbols) p)
      third (inr p) = rows_short (leb_false_lt 4096 (length tables.rows) p)

      second : ((four.0 && four.1) ≡ false) ⊎ (four.2 ≡ false) → TableShort tables
      second (inl p) = third (either_false four.0 four.1 p)
      second (inr p) = clauses_short (leb_false_lt 20480 (length tables.clauses) p)

      first : ((four.0 && four.1 && four.2) ≡ false) ⊎ (four.3 ≡ false) → TableShort tables
      first (inl p) = second (either_false (four.0 && four.1) four.2 p)
      first (inr p) = bindings_short (leb_false_lt 32768 (length tables.bindings) p)

  lengths_enough : long_enough (lengths_of tables) ≡ true → (4096 ≤ length tables.symbols) × (4096 ≤ length tables.rows) × (20480 ≤ length tables.clauses) × (32768 ≤ length tables.bindings)
  lengths_enough t =
      let c = both_true (four.0 && four.1 && four.2) four.3 t in
      let b = both_true (four.0 && four.1) four.2 c.0 in
      let a = both_true four.0 four.1 b.0 in
      (at_most 4096 (length tables.symbols) a.0, at_most 4096 (length tables.rows) a.1, at_most 20480 (length tables.clauses) b.1, at_most 32768 (length tables.bindings) c.1)

  pub tables_fail : TableShort tables → long_enough (lengths_of tables) ≡ false
  tables_fail h = not_true (long_enough (lengths_of tables)) (λ t. let l = lengths_enough t in by h l.0 l.1 l.2 l.3)
    where
      by : TableShort tables → 4096 ≤ length tables.symbols → 4096 ≤ length tables.rows → 20480 ≤ length tables.clauses → 32768 ≤ length tables.bindings → ⊥
      by (symbols_short l) a b c d = omega arith
      by (rows_short l) a b c d = omega arith
      by (clauses_short l) a b c d = omega arith
      by (bindings_short l) a b c d = omega arith

  pub long_enough_lem : ¬ TableShort tables → long_enough (lengths_of tables) ≡ true
  long_enough_lem h = try (long_enough (lengths_of tables)) refl
    where
      try : (b : Bool) → long_enough (lengths_of tables) ≡ b → b ≡ true
      try true p = refl
      try false p = absurd (h (table_short p))

  -- The cell of a clause's maximum index in the table that the check leaves.
  pub index_left : (S : State) → Stands file S → long_enough (lengths_of tables) ≡ true → (n : ℕ) (c : Derivation) → clause_of S n ≡ some c → get_or (tables_after file tables).clauses (5 * n + 2) 0 ≡ maximum_index c
  index_left S st l n c q =
      let b : n < length (derivations S) = entry_below (derivations S) n c q in
      let m : length (derivations S) ≡ length S.clauses = length-map S.clauses (λ (d : ℕ × Derivation). d.1) in
      ap (λ (t : Tables). get_or t.clauses (5 * n + 2) 0) (stands_tables S st l)
      ∙ get_or-append (clause_cells S.clauses) (replicate (20480 - length (clause_cells S.clauses)) 0 ++ drop 20480 tables.clauses) 0 (5 * n + 2) (omega (arith, cells_length S.clauses))
      ∙ index_cell_lem S.clauses n c q

  -- Following never runs out of links.
  following_ends_lem : (S : State) → ComesTo file S → (n : ℕ) (c : Derivation) → clause_of S n ≡ some c → (e : Expression) → e.0 < length (rows_of S) → Ends (follow (row_of S) most_links (lookup c) e)
  following_ends_lem S C n c q e l =
      let H = comes_ok file S C in
      let O = order_of 4096 S H n c q in
      short_le (λ r. r < length (rows_of S)) (row_of S) S.total most_links (lookup c) (held_links 4096 S H) O.chains e l

module _ (day : ℕ) (file : File) (tables : Tables) where
  abbrev lengths : Lengths
  lengths = lengths_of tables

  -- The answer, by how the reading goes.
  abbrev answer_given : Reading → Answer
  answer_given R = answer_of (verdict_given day R) (state_given R)

  pub check_length : fitting file ≡ false → check day file (lengths_of tables) ≡ answer_of (refusal badLength 0) empty_state
  unfolding check
  check_length f = ap answer_given (reading_length file lengths f)

  pub check_tables : fitting file ≡ true → long_enough (lengths_of tables) ≡ false → check day file (lengths_of tables) ≡ answer_of (refusal shortTable 0) empty_state
  unfolding check
  check_tables f l = ap answer_given (reading_tables file lengths f l)

  pub check_reads : fitting file ≡ true → long_enough (lengths_of tables) ≡ true → check day file (lengths_of tables) ≡ answer_of (verdict_of day (ending file)) (state_of (ending file))
  unfolding check
  check_reads f l = ap answer_given (reading_records file lengths f l)

  -- A file that stands, with tables long enough: answer and tables are those of the state that it leaves.
  pub stands_check : (S : State) → Stands file S → long_enough (lengths_of tables) ≡ true → check day file (lengths_of tables) ≡ answer_of (verdict_of day (all_stand S)) S
  stands_check S st l = check_reads st.fits l ∙ ap (λ (e : Ending). answer_of (verdict_of day e) (state_of e)) st.reads

  -- A file that is not refused stands.
  pub not_refused_lem : ((q : Reason) (k : ℕ) → ¬ ((check day file (lengths_of tables)).verdict ≡ refusal q k)) → (long_enough (lengths_of tables) ≡ true) × ((S : State) × Stands file S)
  not_refused_lem h = try (fitting file) refl (long_enough lengths) refl
    where
      by : fitting file ≡ true → long_enough (lengths_of tables) ≡ true → (e : Ending) → ending file ≡ e → (S : State) × Stands file S
      by f l (all_stand S) p = (S, record { fits = f; reads = p })
      by f l (refused_at S q k) p = absurd (h q k (ap (λ (a : Answer). a.verdict) (check_reads f l) ∙ ap (verdict_of day) p))

      try : (b : Bool) → fitting file ≡ b → (c : Bool) → long_enough (lengths_of tables) ≡ c → (long_enough (lengths_of tables) ≡ true) × ((S : State) × Stands file S)
      try false f c l = absurd (h badLength 0 (ap (λ (a : Answer). a.verdict) (check_length f)))
      try true f false l = absurd (h shortTable 0 (ap (λ (a : Answer). a.verdict) (check_tables f l)))
      try true f true l = (l, by f l (ending file) refl)

  -- A refusal at a record, found in the reading.
  record Found (q : Reason) (k : ℕ) : Type 0 where
    state : State
    refused_record : Record
    reached : Reached file k state refused_record
    refused_by : step state k refused_record ≡ refused q
    is_ending : ending file ≡ refused_at state q k

  found : fitting file ≡ true → (e : Ending) → ending file ≡ e → (q : Reason) (k : ℕ) → verdict_of day e ≡ refusal q k → Found q k
  unfolding ending
  found f (all_stand S) p q k z = absurd (never_refusal (first_empty (uses_in_force S day) (derivations S)) z)
  found f (refused_at S p' j) p q k z =
      let w = refusal_injective z in
      let e : read empty_state 0 (records file) ≡ refused_at S q k = p ∙ ap₂ (λ (x : Reason) (i : ℕ). refused_at S x i) w.0 w.1 in
      let R = read_refused empty_state 0 (records file) S q k e in
      let i : k ≡ R.place = R.number ∙ zero-add R.place in
      record {
        state = S;
        refused_record = R.refused_record;
        reached = record { fits = f; before = ap (λ (i : ℕ). read empty_state 0 (take i (records file))) i ∙ R.before; after = R.rest; here = ap (λ (i : ℕ). drop i (records file)) i ∙ R.here };
        refused_by = R.refused_by;
        is_ending = e;
      }

  -- What a refusal is.
  data Refused (q : Reason) (k : ℕ) : Type 0 where
    for_length : q ≡ badLength → k ≡ 0 → fitting file ≡ false → Refused q k
    for_tables : q ≡ shortTable → k ≡ 0 → fitting file ≡ true → long_enough (lengths_of tables) ≡ false → Refused q k
    for_record : fitting file ≡ true → long_enough (lengths_of tables) ≡ true → Found q k → Refused q k

  refused_by_lem : (q : Reason) (k : ℕ) → (check day file (lengths_of tables)).verdict ≡ refusal q k → Refused q k
  refused_by_lem q k z = try (fitting file) refl (long_enough lengths) refl
    where
      try : (b : Bool) → fitting file ≡ b → (c : Bool) → long_enough (lengths_of tables) ≡ c → Refused q k
      try false f c l = let w = refusal_injective (sym (ap (λ (a : Answer). a.verdict) (check_length f)) ∙ z) in for_length (sym w.0) (sym w.1) f
      try true f false l = let w = refusal_injective (sym (ap (λ (a : Answer). a.verdict) (check_tables f l)) ∙ z) in for_tables (sym w.0) (sym w.1) f l
      try true f true l = for_record f l (found f (ending file) refl q k (sym (ap (λ (a : Answer). a.verdict) (check_reads f l)) ∙ z))

  found_condition : (q : Reason) (k : ℕ) (F : Found q k) → Condition F.state F.refused_record (reason_number q)
  found_condition q k F = refused_condition k F.state F.refused_record file F.reached q F.refused_by

  -- Reason 1 is given only for the length.
  pub length_only : (k : ℕ) → (check day file (lengths_of tables)).verdict ≡ refusal badLength k → fitting file ≡ false
  length_only k z = try (refused_by_lem badLength k z)
    where
      try : Refused badLength k → fitting file ≡ false
      try (for_length a b f) = f
      try (for_tables a b f l) = let y : ◌≡◌ {A = ℕ} 1 2 = ap reason_number a in absurd (omega arith)
      try (for_record f l F) = let y = (condition_number 1 (found_condition badLength k F)).0 in absurd (omega arith)

  -- The tables of a state that is in order and has come of at most 4,096 records.
  held : (S : State) → StateOk 4096 S → size_of S ≤ 4096 → long_enough (lengths_of tables) ≡ true → tables_after file tables ≡ filled_tables S tables → TablesHold S tables (tables_after file tables)
  held S H size l e = let n = lengths_enough file tables l in subst (TablesHold S tables) (sym e) (tables_hold_lem S H size tables n.0 n.1 n.2 n.3)

  reached_size : (k : ℕ) (S : State) (r : Record) → Reached file k S r → size_of S ≤ 4096
  reached_size k S r R =
      let h = read_size empty_state 0 (take k (records file)) (reached_shaped file k S r R) in
      let e : size_of (state_of (read empty_state 0 (take k (records file)))) ≡ size_of S = ap (λ (x : Ending). size_of (state_of x)) R.before in
      omega (arith, h, e, length-take k (records file), few_records file R.fits)

  stands_size : (S : State) → Stands file S → size_of S ≤ 4096
  unfolding ending
  stands_size S st =
      let h = read_size empty_state 0 (records file) (records_shaped file) in
      let e : size_of (state_of (read empty_state 0 (records file))) ≡ size_of S = ap (λ (x : Ending). size_of (state_of x)) st.reads in
      omega (arith, h, e, few_records file st.fits)

  pub demand1 : Demand1 day file tables
  demand1 = record {
    tables_of_standing = λ S st h.
        let c = stands_check S st (long_enough_lem file tables h) in
        record { counts = c ∙ ap (λ (v : Verdict). answer_of v S) (sym (ap (λ (a : Answer). a.verdict) c)); tables_hold = held S (stands_ok file S st) (stands_size S st) (long_enough_lem file tables h) (stands_tables file tables S st (long_enough_lem file tables h)) };
    tables_of_refusal = λ q k z. try q k (refused_by_lem q k z);
  }
    where
      try : (q : Reason) (k : ℕ) → Refused q k → Untouched day file tables q k ⊎ LeftBefore day file tables q k
      try q k (for_length a b f) = inl (record { number = inl (ap reason_number a); record0 = b; counts = check_length f ∙ ap (λ (x : Reason). answer_of (refusal x 0) empty_state) (sym a); tables_kept = tables_length file tables f })
      try q k (for_tables a b f l) = inl (record { number = inr (inl (ap reason_number a)); record0 = b; counts = check_tables f l ∙ ap (λ (x : Reason). answer_of (refusal x 0) empty_state) (sym a); tables_kept = tables_short file tables f l })
      try q k (for_record f l F) = inr (record {
        number = (condition_number (reason_number q) (found_condition q k F)).0;
        state = F.state;
        refused_record = F.refused_record;
        reached = F.reached;
        counts = check_reads f l ∙ ap (λ (e : Ending). answer_of (verdict_of day e) (state_of e)) F.is_ending;
        tables_hold = held F.state (reached_ok file k F.state F.refused_record F.reached) (reached_size k F.state F.refused_record F.reached) l
            (tables_read file tables f l ∙ ap (λ (e : Ending). filled_tables (state_of e) tables) F.is_ending);
      })

  condition_at : (q : Reason) (k : ℕ) → Refused q k → ConditionAt file tables (reason_number q) k
  condition_at q k (for_length a b f) = rw (a, b) (of_length (length_unfit file tables f))
  condition_at q k (for_tables a b f l) = rw (a, b) (of_tables (table_short file tables l))
  condition_at q k (for_record f l F) = of_record F.reached (found_condition q k F)

  -- Where a condition holds, the file is refused with its number or with one that is given before it.
  abbrev RefusedUpTo : ℕ → Type 0
  RefusedUpTo n = (q : Reason) × (j : ℕ) × ((check day file (lengths_of tables)).verdict ≡ refusal q j) × (precedence (reason_number q) ≤ precedence n)

  for_length_lem : (n : ℕ) → 1 ≤ precedence n → fitting file ≡ false → RefusedUpTo n
  for_length_lem n l f = (badLength, 0, ap (λ (a : Answer). a.verdict) (check_length f), l)

  for_tables_lem : (n : ℕ) → 2 ≤ precedence n → long_enough (lengths_of tables) ≡ false → RefusedUpTo n
  for_tables_lem n m l = try (fitting file) refl
    where
      try : (b : Bool) → fitting file ≡ b → RefusedUpTo n
      try true f = (shortTable, 0, ap (λ (a : Answer). a.verdict) (check_tables f l), m)
      try false f = for_length_lem n (omega arith) f

  file_refused_lem : (n k : ℕ) → ConditionAt file tables n k → RefusedUpTo n
  file_refused_lem n k (of_length h) = for_length_lem 1 (omega arith) (length_fails file tables h)
  file_refused_lem n k (of_tables h) = for_tables_lem 2 (omega arith) (tables_fail file tables h)
  file_refused_lem n j (of_record {number} {k} {S} {r} R C) = try (long_enough lengths) refl
    where
      try : (b : Bool) → long_enough (lengths_of tables) ≡ b → RefusedUpTo number
      try false l = let c = (condition_number number C).1 in for_tables_lem number (omega arith) l
      try true l =
          let w = condition_refused k S r file R number C in
          (w.0, k, ap (λ (a : Answer). a.verdict) (check_reads R.fits l) ∙ ap (verdict_of day) (reached_refused file k S r R w.0 w.1), w.2)

  due : (q : Reason) (k : ℕ) → (check day file (lengths_of tables)).verdict ≡ refusal q k → Due file tables (reason_number q) k
  due q k z = record {
    holds = condition_at q k (refused_by_lem q k z);
    first = λ n j C.
        let w = file_refused_lem n j C in
        subst (λ (p : Reason). precedence (reason_number p) ≤ precedence n) (refusal_injective (sym w.2 ∙ z)).0 w.3;
  }

  -- The numbers stated.
  abbrev numbers : List ℕ
  numbers = 1 ∷ 2 ∷ 3 ∷ 4 ∷ 5 ∷ 7 ∷ 8 ∷ 9 ∷ 10 ∷ 11 ∷ 12 ∷ 13 ∷ 14 ∷ 16 ∷ []

  condition_stated : {S : State} {r : Record} (n : ℕ) → Condition S r n → OneOf n numbers
  condition_stated n (unknown_kind h) = one_of 3 numbers refl
  condition_stated n (outside_range h) = one_of 4 numbers refl
  condition_stated n (nothing_there h) = one_of 5 numbers refl
  condition_stated n (falling_literals h) = one_of 14 numbers refl
  condition_stated n (crossing_days h) = one_of 16 numbers refl
  condition_stated n (variable_as_literal h) = one_of 7 numbers refl
  condition_stated n (unfit_signs h) = one_of 8 numbers refl
  condition_stated n (large_result h) = one_of 9 numbers refl
  condition_stated n (clashing_outlines h) = one_of 10 numbers refl
  condition_stated n (clashing h) = one_of 10 numbers refl
  condition_stated n (occurring h) = one_of 11 numbers refl
  condition_stated n (overworking h) = one_of 12 numbers refl
  condition_stated n (overfull h) = one_of 13 numbers refl

  stated : (n k : ℕ) → ConditionAt file tables n k → OneOf n numbers
  stated n k (of_length h) = one_of 1 numbers refl
  stated n k (of_tables h) = one_of 2 numbers refl
  stated n k (of_record {number} R C) = condition_stated number C

  -- A file that is not refused stands, and its verdict goes by the first empty clause.
  verdict_ends : (v : Verdict) → ((q : Reason) (k : ℕ) → ¬ (v ≡ refusal q k)) → (check day file (lengths_of tables)).verdict ≡ v
      → (long_enough (lengths_of tables) ≡ true) × ((S : State) × Stands file S × (standing (first_empty (uses_in_force S day) (derivations S)) ≡ v))
  verdict_ends v h z =
      let n = not_refused_lem (λ q k y. h q k (sym z ∙ y)) in
      let S = n.1.0 in
      let st = n.1.1 in
      (n.0, (S, st, sym (ap (λ (a : Answer). a.verdict) (stands_check S st n.0)) ∙ z))

  accepted_ends : (n : ℕ) → (check day file (lengths_of tables)).verdict ≡ accepted n → (long_enough (lengths_of tables) ≡ true) × ((S : State) × Stands file S × (first_empty (uses_in_force S day) (derivations S) ≡ some n))
  accepted_ends n z =
      let e = verdict_ends (accepted n) (λ q k y. accepted_not_refusal y) z in
      (e.0, (e.1.0, e.1.1, which (first_empty (uses_in_force e.1.0 day) (derivations e.1.0)) e.1.2))
    where
      which : (o : Option ℕ) → standing o ≡ accepted n → o ≡ some n
      which none y = absurd (open_not_accepted y)
      which (some m) y = ap some (accepted_injective y)

  open_ends : (check day file (lengths_of tables)).verdict ≡ open' → (S : State) × Stands file S × NoneEmpty (UsesInForce file day) S
  open_ends z =
      let e = (verdict_ends open' (λ q k y. open_not_refusal y) z).1 in
      let S = e.0 in
      let nothing = none_empty (uses_in_force S day) (derivations S) (which (first_empty (uses_in_force S day) (derivations S)) e.2) in
      (S, e.1, λ n c p u. nothing n c p (of_uses_in_force file S e.1 day c u))
    where
      which : (o : Option ℕ) → standing o ≡ open' → o ≡ none
      which none y = refl
      which (some m) y = absurd (open_not_accepted (sym y))

  lowest_empty : (S : State) → Stands file S → (n : ℕ) → first_empty (uses_in_force S day) (derivations S) ≡ some n → LowestEmpty (UsesInForce file day) S n
  lowest_empty S st n q =
      let L = first_lowest (uses_in_force S day) (derivations S) n q in
      record {
        clause = L.clause;
        is_clause = L.is_clause;
        admitted = uses_in_force_lem file S st day L.clause L.passes;
        empty = L.empty;
        lowest = λ i c l e u. L.lowest i c l e (of_uses_in_force file S st day c u);
      }

  accepted_if_lem : ¬ TableShort tables → (S : State) → Stands file S → (i : ℕ) (c : Derivation) → clause_of S i ≡ some c → UsesInForce file day c → literals c ≡ []
      → (n : ℕ) × ((check day file (lengths_of tables)).verdict ≡ accepted n)
  accepted_if_lem h S st i c p u q =
      let s = some_first (uses_in_force S day) (derivations S) i c p (of_uses_in_force file S st day c u) q in
      (s.0, ap (λ (a : Answer). a.verdict) (stands_check S st (long_enough_lem file tables h)) ∙ ap standing s.1)

  open_if_lem : ¬ TableShort tables → (S : State) → Stands file S → NoneEmpty (UsesInForce file day) S → (check day file (lengths_of tables)).verdict ≡ open'
  open_if_lem h S st e = ap (λ (a : Answer). a.verdict) (stands_check S st (long_enough_lem file tables h)) ∙ ap standing (try (first_empty (uses_in_force S day) (derivations S)) refl)
    where
      try : (o : Option ℕ) → first_empty (uses_in_force S day) (derivations S) ≡ o → o ≡ none
      try none p = refl
      try (some n) p = let L = lowest_empty S st n p in absurd (e n L.clause L.is_clause L.admitted L.empty)

  pub demand2 : (Y : Type 0) → Demand2 Y day file tables
  demand2 Y = record {
    declared = λ k S T r R q. step_adds S k r T (reached_seven file k S r R) q;
    terms_stay = λ k S T r R e. terms_stay_lem S k r T e;
    following_ends = following_ends_lem file tables;
    written_by_lookup = λ S C n c q.
        let H = comes_ok file S C in
        let K = (order_of 4096 S H n c q).valid in
        (writes_out (row_of S) (term_of S) (term_of_row S H) c K, writes_out_unique (row_of S) (term_of S) (term_of_row S H) c K);
    resolvents = λ k S T r ns R N q. let K = resolve_kind r N in subst (λ (ms : List ℕ). ResolventAdded Y S k r ms T) K.3 (resolvent_added S (reached_ok file k S r R) k r Y T K.0 K.1 K.2 q);
    factors = λ k S T r R e q. factor_added S (reached_ok file k S r R) k r Y T (kind_at r 6 e refl) q;
    no_unifier = λ k S r q R z m pairs A. refused_no_unifier k S r file R Y q z m pairs A;
    nothing_lost = λ k S r R range pairs A rises signs τ u. unifiable_stands S (reached_ok file k S r R) k r (reached_seven file k S r R) Y range pairs A rises signs τ u;
    record_due = λ k S r q R z. (refused_condition k S r file R q z, refused_lowest k S r file R q z);
    refusals = due;
    stated_numbers = λ q k z. stated (reason_number q) k (condition_at q k (refused_by_lem q k z));
    record_refused = λ k S r R n C. condition_refused k S r file R n C;
    file_refused = file_refused_lem;
    accepted_only = λ n z. let a = (accepted_ends n z).1 in (a.0, a.1, lowest_empty a.0 a.1 n a.2);
    accepted_if = accepted_if_lem;
    open_only = open_ends;
    open_if = open_if_lem;
  }

  -- Whatever clauses are admitted, the lowest of them that is empty has a refutation behind it.
  pub refutation_of : (Admitted : Derivation → Type 0) (S : State) → Stands file S → long_enough (lengths_of tables) ≡ true → (n : ℕ) → LowestEmpty Admitted S n → Refutation Admitted file tables S n
  refutation_of Admitted S st long n L =
      let H = stands_ok file S st in
      let c = L.clause in
      let O = order_of 4096 S H n c L.is_clause in
      let law = term_of_row S H in
      let v = values_exist (row_of S) (term_of S) law c O.valid in
      record {
        first = L;
        inputs = inputs_of 4096 S H n c L.is_clause;
        count = uses_length c;
        in_table = index_left file tables S st long n c L.is_clause ∙ sym (uses_length c);
        values = v;
        values_unique = values_unique_lem (row_of S) (term_of S) law c O.valid;
        formed = instances_formed (arity_of S) (row_of S) (term_of S) law (λ r. r < length (rows_of S)) (λ r s xs l p. (row_there (arity_of S) (rows_of S) H.rows_ok r s xs l p, below 4096 S H r s xs p l))
            (lookup c) most_links (λ x e p. (known_of 4096 S H c O x e p).1) (short_le (λ r. r < length (rows_of S)) (row_of S) S.total most_links (lookup c) (held_links 4096 S H) O.chains) (value_in (term_of S) c) v 1 (uses c) (known_uses (Under (length (rows_of S))) c O.known);
        unsatisfiable = refutes (row_of S) (term_of S) law c O.valid (one_arity S H) L.empty (value_in (term_of S) c) v;
      }

  refutation : (S : State) → Stands file S → long_enough (lengths_of tables) ≡ true → (n : ℕ) → first_empty (uses_in_force S day) (derivations S) ≡ some n → Refutation (UsesInForce file day) file tables S n
  refutation S st long n q = refutation_of (UsesInForce file day) S st long n (lowest_empty S st n q)

  pub demand3 : Demand3 day file tables
  demand3 = record {
    refuted = λ n z.
        let a = accepted_ends n z in
        (a.1.0, a.1.1, refutation a.1.0 a.1.1 a.0 n a.1.2);
    in_force = λ n z S st c p u o.
        let a = (accepted_ends n z).1 in
        let e : a.0 ≡ S = ending_stands (sym a.1.reads ∙ st.reads) in
        let L = lowest_empty a.0 a.1 n a.2 in
        let d : L.clause ≡ c = some_injective (sym L.is_clause ∙ ap (λ (T : State). clause_of T n) e ∙ p) in
        L.admitted u (subst (λ (x : Derivation). OneOf u (uses x)) (sym d) o);
  }
