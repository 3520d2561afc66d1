-- What follows from what the program keeps: the state is one that stands, and its tables are the program's.
use mathlib.Core.Path.{◌≡◌, refl, sym, ap, ◌∙◌, subst}
use mathlib.Core.Bool.{true, ◌&&◌}
use mathlib.Core.List.{List, [], ◌∷◌, ◌++◌}
use Prim.Native.Nat.{ℕ, zero, suc, ◌≤◌, ◌<◌}
use native.Mathlib.Omega.{arith}
use lib.Dec.{leb, leb→le}
use lib.ListN.{length, take, drop, length-map}
use Rattle.record.specs.Record.{File, Record, records, record_count, record_at}
use Rattle.record.proofs.Records.{record_numbered}
use Rattle.unification.specs.Row.{Row}
use Rattle.unification.proofs.Lists.{Each}
use Rattle.unification.proofs.Tests.{to_t, both_true}
use Rattle.derivation.specs.Derivation.{Derivation}
use Rattle.derivation.specs.Stored.{origin_table_of}
use Rattle.entry.specs.Progress.{node_table_of, counts_of, Kept}
use Rattle.verdict.specs.Refusal.{Reason}
use Rattle.verdict.specs.State.{State, empty_state, rows_of, derivations}
use Rattle.verdict.specs.Step.{stands, refused, Result, step, read, all_stand, refused_at}
use Rattle.verdict.specs.Tables.{Tables, lengths_of, filled_tables}
use Rattle.demands.specs.Total.{fifth_cells}
use Rattle.verdict.specs.Verdict.{long_enough, fitting}
use Rattle.demands.proofs.Reading.{few_in}
use Rattle.demands.proofs.Advance.{Standing, RowFits, Tally, standing_start, take_next, read_one, advance}
use Rattle.entry.proofs.Entering.{node_table_length, origin_table_length}
use Rattle.verdict.proofs.Endings.{ending_stands}
use Rattle.demands.proofs.TotalShown.{total_sum}
use Rattle.entry.specs.declared.entry.Counts.{Counts}

read_split : (S : State) (j : ℕ) (xs ys : List Record) (T : State) → read S j (xs ++ ys) ≡ all_stand T → (U : State) × (read S j xs ≡ all_stand U)
read_split S j [] ys T q = (S, refl)
read_split S j (x ∷ xs) ys T q = try (step S j x) refl q (λ U p. read_split U (suc j) xs ys T p)
  where
    no : {p : Reason} → refused_at S p j ≡ all_stand T → ⊥
    no e = let z : ◌≡◌ {A = ℕ} 0 1 = cc in omega arith

    try : (o : Result) → step S j x ≡ o → elim o [ stands U ↦ read U (suc j) (xs ++ ys) | refused p ↦ refused_at S p j ] ≡ all_stand T
        → ((U : State) → read U (suc j) (xs ++ ys) ≡ all_stand T → (W : State) × (read U (suc j) xs ≡ all_stand W))
        → (W : State) × (elim o [ stands U ↦ read U (suc j) xs | refused p ↦ refused_at S p j ] ≡ all_stand W)
    try (stands U) e p ih = ih U p
    try (refused p) e q ih = absurd (no q)

step_stands : (S : State) (k : ℕ) (r : Record) (T : State) → read S k (r ∷ []) ≡ all_stand T → step S k r ≡ stands T
step_stands S k r T q = try (step S k r) refl q
  where
    no : {p : Reason} → refused_at S p k ≡ all_stand T → ⊥
    no e = let z : ◌≡◌ {A = ℕ} 0 1 = cc in omega arith

    try : (o : Result) → step S k r ≡ o → elim o [ stands U ↦ all_stand U | refused p ↦ refused_at S p k ] ≡ all_stand T → o ≡ stands T
    try (stands U) e p = ap stands (ending_stands p)
    try (refused p) e q = absurd (no q)

pub standing_of : (F : File) (k : ℕ) → k ≤ record_count F → (S : State) → read empty_state 0 (take k (records F)) ≡ all_stand S → Standing F k S
standing_of F zero l S q = subst (Standing F 0) (ending_stands q) (standing_start F)
standing_of F (suc k) l S q = further (read_split empty_state 0 (take k (records F)) (record_at F k ∷ []) S (sym (ap (read empty_state 0) taken) ∙ q)) (λ U p. standing_of F k (omega arith) U p)
  where
    taken : take (suc k) (records F) ≡ take k (records F) ++ (record_at F k ∷ [])
    taken = take_next k (records F) (record_at F k) (drop (suc k) (records F)) (record_numbered F k l)

    further : (U : State) × (read empty_state 0 (take k (records F)) ≡ all_stand U) → ((U : State) → read empty_state 0 (take k (records F)) ≡ all_stand U → Standing F k U) → Standing F (suc k) S
    further u ih =
        let H = ih u.0 u.1 in
        advance F k u.0 H l S (step_stands u.0 k (record_at F k) S (sym (read_one F k u.0 H l (record_at F k ∷ [])) ∙ sym (ap (read empty_state 0) taken) ∙ q))

pub fitting_records : (F : File) → fitting F ≡ true → record_count F ≤ 4096
fitting_records F fit = few_in F.form F.bytes fit

pub record Sizes (t : Tables) : Type 0 where
  pub symbols : 4096 ≤ length t.symbols
  pub rows : 4096 ≤ length t.rows
  pub clauses : 20480 ≤ length t.clauses
  pub bindings : 32768 ≤ length t.bindings

pub sizes : (t : Tables) → long_enough (lengths_of t) ≡ true → Sizes t
sizes t q =
    let a = both_true (leb 4096 (length t.symbols) && leb 4096 (length t.rows) && leb 20480 (length t.clauses)) (leb 32768 (length t.bindings)) q in
    let b = both_true (leb 4096 (length t.symbols) && leb 4096 (length t.rows)) (leb 20480 (length t.clauses)) a.0 in
    let c = both_true (leb 4096 (length t.symbols)) (leb 4096 (length t.rows)) b.0 in
    record {
      symbols = leb→le 4096 (length t.symbols) (to_t (leb 4096 (length t.symbols)) c.0);
      rows = leb→le 4096 (length t.rows) (to_t (leb 4096 (length t.rows)) c.1);
      clauses = leb→le 20480 (length t.clauses) (to_t (leb 20480 (length t.clauses)) b.1);
      bindings = leb→le 32768 (length t.bindings) (to_t (leb 32768 (length t.bindings)) a.1);
    }

module _ (F : File) (t : Tables) (k : ℕ) (S : State) (n : Counts) (here : Tables) (N O A : List ℕ) (K : Kept F t k S n here N O A) (l : k < record_count F) where
  pub few_records : k < 4096
  few_records = omega (arith, fitting_records F K.fit)

  pub stand : Standing F k S
  stand = standing_of F k (omega arith) S K.before

  abbrev G : Tally F k S
  G = stand.tally

  pub same_rows : length (rows_of S) ≡ length S.rows
  same_rows = length-map S.rows (λ (w : ℕ × Row). w.1)

  pub few_symbols : length S.symbols ≤ k
  few_symbols = omega (arith, stand.tally.total)

  pub few_rows : length S.rows ≤ k
  few_rows = omega (arith, stand.tally.total)

  pub few_clauses : length S.clauses ≤ k
  few_clauses = omega (arith, stand.tally.total)

  pub rows_fit_lem : Each RowFits (rows_of S)
  rows_fit_lem = stand.tally.rows_fit

  pub nodes_length : length N ≡ 32768
  nodes_length = node_table_length (rows_of S) rows_fit_lem (omega (arith, same_rows, few_rows, few_records)) N K.nodes

  pub origins_length : length O ≡ 32768
  origins_length = origin_table_length (derivations S) stand.sourced (omega (arith, length-map S.clauses (λ (c : ℕ × Derivation). c.1), few_clauses, few_records)) O K.origins

  -- After a record that stands: what is left to show are the counts and the tables.
  pub kept_next : (T : State) → step S k (record_at F k) ≡ stands T → (n' : Counts) (here' : Tables) (N' O' A' : List ℕ) → n' ≡ counts_of T → here' ≡ filled_tables T t → N' ≡ node_table_of (rows_of T) → O' ≡ origin_table_of (derivations T) → length A' ≡ 524416 → Kept F t (suc k) T n' here' N' O' A'
  kept_next T q n' here' N' O' A' c h m o v =
      let a = advance F k S stand l T q in
      let s : n'.bindings ≡ fifth_cells here'.clauses n'.clauses = ap (λ (x : Counts). x.bindings) c ∙ total_sum (suc k) T a.ok t ∙ sym (λ i. fifth_cells (h i).clauses (c i).clauses) in
      record { fit = K.fit; long = K.long; before = a.before; counts = c; held = s; tables = h; nodes = m; origins = o; values = v }
