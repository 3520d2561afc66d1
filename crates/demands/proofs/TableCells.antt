-- Every cell of the tables that are filled with a state.
use mathlib.Core.Path.{◌≡◌, refl, sym, ap, ap₂, ◌∙◌, subst}
use mathlib.Core.Bool.{Bool, true, false}
use mathlib.Core.Option.{some}
use mathlib.Core.List.{List, [], ◌∷◌, ◌++◌, map, reverse, reverse-cons, append_assoc}
use Prim.Native.Nat.{ℕ, zero, suc, ◌+◌, ◌-◌, ◌*◌, ◌≤◌, ◌<◌}
use native.Mathlib.Nat.{add-zero}
use native.Mathlib.Omega.{arith}
use lib.Dec.{eqb}
use lib.ListN.{length, get_or, drop, replicate, length-append, length-map, length-replicate, length-drop, length-reverse, get_or-replicate, get_or-append}
use lib.Seq.{get_or-append-add, get_or-drop}
use Rattle.record.specs.Record.{pick, Record}
use Rattle.record.proofs.Records.{Shaped}
use Rattle.unification.specs.Bindings.{binding_at, bindings_from}
use Rattle.unification.specs.Environment.{Binding}
use Rattle.unification.specs.Row.{Row}
use Rattle.unification.proofs.Limits.{bindings_8192}
use Rattle.unification.proofs.Tests.{some_not_none, some_injective}
use Rattle.derivation.specs.Derivation.{Derivation, own_bindings}
use Rattle.demands.specs.Demands.{Adds, adds_symbol, adds_variable, adds_application, adds_input, adds_resolvent, adds_factor, adds_window, FilledTo, ClauseHeld, TablesHold}
use Rattle.verdict.specs.State.{State, entry, derivations}
use Rattle.verdict.specs.Step.{stands, refused, Result, step, read, refused_at, state_of}
use Rattle.verdict.specs.Tables.{Tables, symbol_cells, row_cells, clause_cells, binding_cells, bindings_of, cells_of_clause, filled, filled_tables}
use Rattle.demands.specs.Total.{fifth_cells}
use Rattle.demands.proofs.Acceptance.{cells_length}
use Rattle.demands.proofs.Added.{step_adds}
use Rattle.demands.proofs.Inversions.{entry_below}
use Rattle.demands.proofs.RangeTests.{equal}
use Rattle.demands.proofs.Sources.{earlier}
use Rattle.demands.proofs.Standing.{StateOk}
use Rattle.demands.proofs.Tabled.{bare_clause, clause_cell_lem, all_bindings_length, clause_bindings}

-- ── How much a state has ──

abbrev pub size_of : State → ℕ
size_of S = length S.symbols + (length S.rows + length S.clauses)

-- A record adds one thing at most.
one_at_most : (S : State) (k : ℕ) (r : Record) (T : State) → Adds S k r T → size_of T ≤ suc (size_of S)
one_at_most S k r T (adds_symbol e q) = let z = ap size_of q in omega arith
one_at_most S k r T (adds_variable e h q) = let z = ap size_of q in omega arith
one_at_most S k r T (adds_application e l h g q) = let z = ap size_of q in omega arith
one_at_most S k r T (adds_input e l h q) = let z = ap size_of q in omega arith
one_at_most S k r T (adds_resolvent N B q) = let z = ap size_of q in omega arith
one_at_most S k r T (adds_factor N B q) = let z = ap size_of q in omega arith
one_at_most S k r T (adds_window e q) = let z = ap size_of q in omega arith

pub read_size : (S : State) (k : ℕ) (rs : List Record) → Shaped rs → size_of (state_of (read S k rs)) ≤ size_of S + length rs
read_size S k [] H = omega arith
read_size S k (r ∷ rs) H = try (step S k r) refl (λ T. read_size T (suc k) rs H.1)
  where
    try : (o : Result) → step S k r ≡ o → ((T : State) → size_of (state_of (read T (suc k) rs)) ≤ size_of T + length rs)
        → size_of (state_of (elim o [ stands T ↦ read T (suc k) rs | refused q ↦ refused_at S q k ])) ≤ size_of S + suc (length rs)
    try (stands T) q ih = omega (arith, ih T, one_at_most S k r T (step_adds S k r T H.0 q))
    try (refused p) q ih = omega arith

-- ── One table ──

module _ (named : ℕ) (cells table : List ℕ) (few : length cells ≤ named) (long : named ≤ length table) where
  abbrev gap : List ℕ
  gap = replicate (named - length cells) 0

  gap_length : length gap ≡ named - length cells
  gap_length = length-replicate {A = ℕ} (named - length cells) 0

  pub filled_cell : (i : ℕ) → i < length cells → get_or (filled named cells table) i 0 ≡ get_or cells i 0
  filled_cell i l = get_or-append cells (gap ++ drop named table) 0 i l

  after_cells : (i j : ℕ) → i ≡ length cells + j → get_or (filled named cells table) i 0 ≡ get_or (gap ++ drop named table) j 0
  after_cells i j e = ap (λ (n : ℕ). get_or (filled named cells table) n 0) e ∙ get_or-append-add cells (gap ++ drop named table) j 0

  pub filled_to : (count : ℕ) → count ≡ length cells → FilledTo named count table (filled named cells table)
  filled_to count e = record {
    same_length = length-append cells (gap ++ drop named table) ∙ omega (arith, length-append gap (drop named table), gap_length, length-drop named table);
    zero_after = λ i l m.
        let j : i - length cells < length gap = omega (arith, gap_length) in
        after_cells i (i - length cells) (omega arith) ∙ get_or-append gap (drop named table) 0 (i - length cells) j
        ∙ get_or-replicate (named - length cells) (i - length cells) 0 0 (omega (arith, gap_length));
    past_untouched = λ i l.
        let e : i - length cells ≡ length gap + (i - named) = omega (arith, gap_length) in
        let n : named + (i - named) ≡ i = omega arith in
        after_cells i (i - length cells) (omega arith) ∙ ap (λ (k : ℕ). get_or (gap ++ drop named table) k 0) e ∙ get_or-append-add gap (drop named table) (i - named) 0
        ∙ get_or-drop named table (i - named) 0 ∙ ap (λ (k : ℕ). get_or table k 0) n;
  }

-- The cells of a list that has the newest first.
pub reversed_at : {A : Type 0} (f : A → ℕ) (xs : List A) (n : ℕ) (x : A) → entry xs n ≡ some x → get_or (reverse (map f xs)) n 0 ≡ f x
reversed_at f [] n x q = absurd (some_not_none refl q)
reversed_at {A} f (y ∷ ys) n x q = ap (λ (l : List ℕ). get_or l n 0) (reverse-cons (f y) (map f ys)) ∙ try (eqb n (length ys)) refl q (λ p. reversed_at f ys n x p)
  where
    counted : length (reverse (map f ys)) ≡ length ys
    counted = length-reverse (map f ys) ∙ length-map ys f

    try : (b : Bool) → eqb n (length ys) ≡ b → pick b (some y) (entry ys n) ≡ some x → (entry ys n ≡ some x → get_or (reverse (map f ys)) n 0 ≡ f x) → get_or (reverse (map f ys) ++ (f y ∷ [])) n 0 ≡ f x
    try true p r ih =
        let z : n ≡ length (reverse (map f ys)) + 0 = omega (arith, equal n (length ys) p, counted) in
        ap (λ (i : ℕ). get_or (reverse (map f ys) ++ (f y ∷ [])) i 0) z ∙ get_or-append-add (reverse (map f ys)) (f y ∷ []) 0 0 ∙ ap f (some_injective r)
    try false p r ih = get_or-append (reverse (map f ys)) (f y ∷ []) 0 n (omega (arith, entry_below ys n x r, counted)) ∙ ih r

-- ── The bindings held before a clause are the fifth cells of the clauses before it ──

pub fifth_sum : (cs : List (ℕ × Derivation)) (rest : List ℕ) → fifth_cells (clause_cells cs ++ rest) (length cs) ≡ bindings_of (map (λ (c : ℕ × Derivation). c.1) cs)
fifth_sum [] rest = refl
fifth_sum (c ∷ cs) rest =
    let five = cells_of_clause c.0 (bindings_of (map (λ (d : ℕ × Derivation). d.1) cs)) c.1 in
    let l : 5 * length cs + 4 ≡ length (clause_cells cs) + 4 = omega (arith, cells_length cs) in
    ap (λ (C : List ℕ). fifth_cells C (length cs) + get_or C (5 * length cs + 4) 0) (append_assoc (clause_cells cs) five rest)
    ∙ ap₂ ◌+◌ (fifth_sum cs (five ++ rest)) (ap (λ (i : ℕ). get_or (clause_cells cs ++ (five ++ rest)) i 0) l ∙ get_or-append-add (clause_cells cs) (five ++ rest) 4 0)

fifth_before : (cs : List (ℕ × Derivation)) (rest : List ℕ) (n : ℕ) (c : ℕ × Derivation) → entry cs n ≡ some c → fifth_cells (clause_cells cs ++ rest) n ≡ bindings_of (map bare_clause (earlier cs n))
fifth_before [] rest n c q = absurd (some_not_none refl q)
fifth_before (d ∷ cs) rest n c q = ap (λ (C : List ℕ). fifth_cells C n) (append_assoc (clause_cells cs) five rest) ∙ try (eqb n (length cs)) refl q (λ p. fifth_before cs (five ++ rest) n c p)
  where
    five : List ℕ
    five = cells_of_clause d.0 (bindings_of (map bare_clause cs)) d.1

    try : (b : Bool) → eqb n (length cs) ≡ b → pick b (some d) (entry cs n) ≡ some c → (entry cs n ≡ some c → fifth_cells (clause_cells cs ++ (five ++ rest)) n ≡ bindings_of (map bare_clause (earlier cs n)))
        → fifth_cells (clause_cells cs ++ (five ++ rest)) n ≡ bindings_of (map bare_clause (pick b cs (earlier cs n)))
    try true p r ih = ap (fifth_cells (clause_cells cs ++ (five ++ rest))) (equal n (length cs) p) ∙ fifth_sum cs (five ++ rest)
    try false p r ih = ih r

-- Binding i of those from the first on.
from_length : (B : List ℕ) (first m : ℕ) → length (bindings_from B first m) ≡ m
from_length B first zero = refl
from_length B first (suc m) = ap suc (from_length B first m)

from_entry : (B : List ℕ) (first m i : ℕ) (b : Binding) → entry (bindings_from B first m) i ≡ some b → binding_at B (first + i) ≡ b
from_entry B first zero i b q = absurd (some_not_none refl q)
from_entry B first (suc m) i b q = try (eqb i (length (bindings_from B first m))) refl q (λ p. from_entry B first m i b p)
  where
    try : (t : Bool) → eqb i (length (bindings_from B first m)) ≡ t → pick t (some (binding_at B (first + m))) (entry (bindings_from B first m) i) ≡ some b → (entry (bindings_from B first m) i ≡ some b → binding_at B (first + i) ≡ b) → binding_at B (first + i) ≡ b
    try true p r ih = ap (λ (j : ℕ). binding_at B (first + j)) (equal i (length (bindings_from B first m)) p ∙ from_length B first m) ∙ some_injective r
    try false p r ih = ih r

-- ── All four ──

module _ (S : State) (H : StateOk 4096 S) (size : size_of S ≤ 4096) (t : Tables)
    (symbols-long : 4096 ≤ length t.symbols) (rows_long : 4096 ≤ length t.rows) (clauses-long : 20480 ≤ length t.clauses) (bindings-long : 32768 ≤ length t.bindings) where
  abbrev after : Tables
  after = filled_tables S t

  symbols_count : length (symbol_cells S) ≡ length S.symbols
  symbols_count = length-reverse (map (λ (s : ℕ × ℕ). s.0) S.symbols) ∙ length-map S.symbols (λ (s : ℕ × ℕ). s.0)

  rows_count : length (row_cells S) ≡ length S.rows
  rows_count = length-reverse (map (λ (w : ℕ × Row). w.0) S.rows) ∙ length-map S.rows (λ (w : ℕ × Row). w.0)

  bindings_count : length (binding_cells (derivations S)) ≡ 4 * bindings_of (derivations S)
  bindings_count = all_bindings_length (derivations S)

  all_fifths : fifth_cells after.clauses (length S.clauses) ≡ bindings_of (derivations S)
  all_fifths = fifth_sum S.clauses _

  symbols_few : length (symbol_cells S) ≤ 4096
  symbols_few = omega (arith, symbols_count)

  rows_few : length (row_cells S) ≤ 4096
  rows_few = omega (arith, rows_count)

  clauses_few : length (clause_cells S.clauses) ≤ 20480
  clauses_few = omega (arith, cells_length S.clauses)

  bindings_few : length (binding_cells (derivations S)) ≤ 32768
  bindings_few = omega (arith, bindings_count, H.total_ok, H.held_ok, bindings_8192)

  module _ (n k : ℕ) (c : Derivation) (q : entry S.clauses n ≡ some (k, c)) where
    cell : (i : ℕ) → i < 5 → get_or after.clauses (5 * n + i) 0 ≡ get_or (cells_of_clause k (bindings_of (map bare_clause (earlier S.clauses n))) c) i 0
    cell i l =
        filled_cell 20480 (clause_cells S.clauses) t.clauses clauses_few clauses-long (5 * n + i) (omega (arith, cells_length S.clauses, entry_below S.clauses n (k, c) q))
        ∙ clause_cell_lem S.clauses n i (k, c) l q

    before_clause : fifth_cells after.clauses n ≡ bindings_of (map bare_clause (earlier S.clauses n))
    before_clause = fifth_before S.clauses _ n (k, c) q

    clause_held : ClauseHeld after.clauses after.bindings n k c
    clause_held = record {
      record_cell = rw add-zero at (cell 0 (omega arith));
      literal_count = cell 1 (omega arith);
      index = cell 2 (omega arith);
      first_binding = cell 3 (omega arith) ∙ sym before_clause;
      binding_count = cell 4 (omega arith);
      each_binding = λ i b p.
          ap (λ (f : ℕ). binding_at after.bindings (f + i)) before_clause
          ∙ from_entry after.bindings (bindings_of (map bare_clause (earlier S.clauses n))) (length (own_bindings c)) i b
          (subst (λ (bs : List Binding). entry bs i ≡ some b) (sym (clause_bindings S.clauses _ n (k, c) q)) p);
    }

  pub tables_hold_lem : TablesHold S t (filled_tables S t)
  tables_hold_lem = record {
    each_symbol = λ s k a q.
        filled_cell 4096 (symbol_cells S) t.symbols symbols_few symbols-long s (omega (arith, entry_below S.symbols s (k, a) q, symbols_count))
        ∙ reversed_at (λ (x : ℕ × ℕ). x.0) S.symbols s (k, a) q;
    each_row = λ r k w q.
        filled_cell 4096 (row_cells S) t.rows rows_few rows_long r (omega (arith, entry_below S.rows r (k, w) q, rows_count))
        ∙ reversed_at (λ (x : ℕ × Row). x.0) S.rows r (k, w) q;
    each_clause = clause_held;
    symbols_to = filled_to 4096 (symbol_cells S) t.symbols symbols_few symbols-long (length S.symbols) (sym symbols_count);
    rows_to = filled_to 4096 (row_cells S) t.rows rows_few rows_long (length S.rows) (sym rows_count);
    clauses_to = filled_to 20480 (clause_cells S.clauses) t.clauses clauses_few clauses-long (5 * length S.clauses) (sym (cells_length S.clauses));
    bindings_to = filled_to 32768 (binding_cells (derivations S)) t.bindings bindings_few bindings-long (4 * fifth_cells after.clauses (length S.clauses)) (ap (λ (n : ℕ). 4 * n) all_fifths ∙ sym bindings_count);
  }
