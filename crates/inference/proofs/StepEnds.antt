-- A step that unification ends: what the program has then is what the definition enters or refuses.
use mathlib.Core.Path.{◌≡◌, refl, sym, ap, ap₂, ◌∙◌, subst}
use mathlib.Core.List.{List, ◌++◌}
use Prim.Native.Nat.{ℕ, ◌+◌, ◌-◌, ◌*◌, ◌≤◌}
use native.Mathlib.Numerals.{add-one}
use native.Mathlib.Omega.{arith}
use lib.ListN.{length, get_or}
use Rattle.record.specs.Record.{File, Record, record_part, decoded}
use Rattle.unification.specs.Bindings.{bindings_from}
use Rattle.unification.specs.Environment.{Binding}
use Rattle.unify.specs.Unifying.{outcome_of, Counted}
use Rattle.std.specs.Prelude.{Ok, Err}
use Rattle.following.specs.Walks.{failure_of}
use Rattle.following.specs.declared.failure.Failure.{Failure}
use Rattle.unify.specs.Pairs.{Answer, done}
use Rattle.derivation.specs.Derivation.{literals, Derivation, maximum_index, own_bindings}
use Rattle.derivation.specs.Stored.{cells_of_origin}
use Rattle.distinct.specs.Rows.{with_node}
use Rattle.tables.specs.Cells.{cleared_part, with_clause_cells}
use Rattle.entry.specs.Progress.{counts_of, tables_with}
use Rattle.verdict.specs.Refusal.{unification}
use Rattle.verdict.specs.State.{State, with_clause, derivations}
use Rattle.verdict.specs.Step.{refused, step, add_clause}
use Rattle.inference.specs.Stepping.{BeforeStep, UnifiedTables, Finished, finished, with_step, step_finished, HeldUpTo, Finishing, StepRead}
use Rattle.verdict.specs.Tables.{Tables, cells_of_bindings, binding_cells, filled, filled_tables}
use Rattle.entry.proofs.Declaring.{symbols_here, rows_here, clauses_here, bindings_here, clause_table, clause_origin}
use Rattle.entry.proofs.Filling.{bindings_count, bindings_added, bindings_cleared}
use Rattle.entry.proofs.Kept.{sizes, kept_next}
use Rattle.inference.proofs.StepLaws.{held_count, held_sum, clause_count, held_few, few_of, room_of, origins_room}
use Rattle.demands.proofs.Tabled.{all_bindings_length}
use Rattle.entry.specs.declared.entry.Counts.{Counts}
use Rattle.entry.specs.Program.{Entered}
use Rattle.reasons.specs.declared.Reason.TheVariants.{Unification}

module _ {F : File} {k : ℕ} {n : Counts} {C B N O A : List ℕ} (E : BeforeStep F k n C B N O A) where
  abbrev S : State
  S = E.state

  abbrev t : Tables
  t = E.tables_before

  abbrev Here : Tables
  Here = tables_with E.symbols E.rows C B

  abbrev rec : Record
  rec = decoded (record_part F k)

  before_cells : B ≡ filled 32768 (binding_cells (derivations E.state)) E.tables_before.bindings
  before_cells = bindings_here F t k S n Here N O A E.kept E.inside

  cells_count : length (binding_cells (derivations E.state)) ≡ 4 * n.bindings
  cells_count = all_bindings_length (derivations S) ∙ ap (λ (h : ℕ). 4 * h) (sym (held_sum E))

  table_long : 32768 ≤ length E.tables_before.bindings
  table_long = (sizes t E.kept.long).bindings

  -- The result of a step, whose number of literals and maximum index do not depend on the bindings that it adds.
  module _ (clause : List Binding → Derivation) (literal_count index : ℕ) (isCount : (bs : List Binding) → literal_count ≡ length (literals (clause bs)))
      (is_index : (bs : List Binding) → index ≡ maximum_index (clause bs)) (own : (bs : List Binding) → own_bindings (clause bs) ≡ bs) (cells : List ℕ) (isOrigin : (bs : List Binding) → cells ≡ cells_of_origin (clause bs)) (B' A' : List ℕ) where
    abbrev added : ℕ → List Binding
    added h = bindings_from B' n.bindings (h - n.bindings)

    abbrev after : ℕ → State
    after h = with_clause E.state k (clause (bindings_from B' n.bindings (h - n.bindings)))

    own_count : (h : ℕ) → length (own_bindings (clause (bindings_from B' n.bindings (h - n.bindings)))) ≡ h - n.bindings
    own_count h = ap length (own (added h)) ∙ bindings_count B' n.bindings (h - n.bindings)

    counts_after : (h : ℕ) → n.bindings ≤ h → with_step n h ≡ counts_of (with_clause E.state k (clause (bindings_from B' n.bindings (h - n.bindings))))
    counts_after h l =
        let c = E.kept.counts in
        let b : h ≡ (after h).total = sym (ap₂ ◌+◌ (sym (held_count E)) (own_count h) ∙ omega arith) in
        λ i. record { symbols = (c i).symbols; rows = (c i).rows; clauses = (ap (λ (x : ℕ). x + 1) (clause_count E) ∙ add-one (length S.clauses)) i; bindings = b i }

    tables_after_lem : (w h : ℕ) → UnifiedTables B B' A' n.bindings (done w h) → tables_with E.symbols E.rows (with_clause_cells C n.clauses k literal_count index n.bindings (h - n.bindings)) B' ≡ filled_tables (with_clause E.state k (clause (bindings_from B' n.bindings (h - n.bindings)))) E.tables_before
    tables_after_lem w h U =
        let K = E.kept in
        let c = clause_table F t k S n Here N O A K E.inside (clause (added h)) literal_count index n.bindings (h - n.bindings) (isCount (added h)) (is_index (added h)) (held_sum E) (sym (own_count h)) in
        let b = bindings_added (binding_cells (derivations S)) t.bindings B' n.bindings h cells_count U.counted.0 U.counted.1 table_long (U.bindings ∙ ap length before_cells) (λ j l. U.before j l ∙ ap (λ (x : List ℕ). get_or x j 0) before_cells) (λ j l. U.counted.2 j l ∙ ap (λ (x : List ℕ). get_or x j 0) before_cells) in
        λ i. record {
          symbols = symbols_here F t k S n Here N O A K E.inside i;
          rows = rows_here F t k S n Here N O A K E.inside i;
          clauses = c i;
          bindings = (b ∙ ap (λ (x : List Binding). filled 32768 (binding_cells (derivations S) ++ cells_of_bindings x) t.bindings) (sym (own (added h)))) i;
        }

    tables_refused : (f : Failure) → UnifiedTables B B' A' n.bindings (Err f) → tables_with E.symbols E.rows C (cleared_part (4 * n.bindings) 32768 B') ≡ filled_tables E.state E.tables_before
    tables_refused f U =
        let K = E.kept in
        let b = bindings_cleared (binding_cells (derivations S)) t.bindings B' n.bindings n.bindings cells_count (omega arith) (held_few E) table_long (U.bindings ∙ ap length before_cells) (λ j l. U.before j l ∙ ap (λ (x : List ℕ). get_or x j 0) before_cells) (λ j l. U.counted j l ∙ ap (λ (x : List ℕ). get_or x j 0) before_cells) in
        λ i. record {
          symbols = symbols_here F t k S n Here N O A K E.inside i;
          rows = rows_here F t k S n Here N O A K E.inside i;
          clauses = clauses_here F t k S n Here N O A K E.inside i;
          bindings = b i;
        }

    abbrev Read : Finished → Type 0
    Read x = StepRead F k n C B N O A E x.clauses x.bindings x.origins A' x.answer

    ended : (u : Answer) → step E.state k (decoded (record_part F k)) ≡ add_clause E.state k clause (outcome_of B' n.bindings u) → UnifiedTables B B' A' n.bindings u → Read (step_finished u k n literal_count index cells C B' O)
    unfolding add_clause
    ended (Ok u) p U = record { next = (after u.held, E.plain S ∙ p, kept_next F t k S n Here N O A E.kept E.inside (after u.held) (E.plain S ∙ p) (with_step n u.held) (tables_with E.symbols E.rows (with_clause_cells C n.clauses k literal_count index n.bindings (u.held - n.bindings)) B') N (with_node O n.clauses cells) A' (counts_after u.held U.counted.0) (tables_after_lem u.work u.held U) E.kept.nodes (clause_origin F t k S n Here N O A E.kept E.inside (clause (added u.held)) cells (isOrigin (added u.held))) U.values) }
    ended (Err f) p U = record { next = (E.plain S ∙ p, tables_refused f U, E.kept.nodes, E.kept.origins, U.values) }

    pub step_ended : (u : Answer) → step E.state k (decoded (record_part F k)) ≡ add_clause E.state k clause (outcome_of B' n.bindings u) → UnifiedTables B B' A' n.bindings u
        → (e : Entered) (C₂ B₂ O₂ : List ℕ) → finished e C₂ B₂ O₂ ≡ step_finished u k n literal_count index cells C B' O → StepRead F k n C B N O A E C₂ B₂ O₂ A' e
    step_ended u p U e C₂ B₂ O₂ q = subst Read (sym q) (ended u p U)

-- What finishing a step asks, after unification.
pub finishing : {F : File} {k : ℕ} {n : Counts} {C B N O A : List ℕ} (E : BeforeStep F k n C B N O A) (B' A' : List ℕ) (u : Answer) → UnifiedTables B B' A' n.bindings u → (ns : List ℕ) → length ns ≡ 7 → Finishing n B' O ns u
finishing {F} {k} {n} {C} {B} {N} {O} {A} E B' A' u U ns seven = record { origins = origins_room E; numbers = seven; clauses = few_of E; held = held_few E; room = rw U.bindings (room_of E); up_to = up u U.counted }
  where
    up : (v : Answer) → Counted B B' n.bindings v → HeldUpTo n.bindings v
    up (Ok u) c = (c.0, c.1)
    up (Err f) c = tt
