-- What the program keeps of a state, by its clauses: every clause is stored in the tables, and loading it into a cleared array gives an
-- array that stands for it.
use mathlib.Core.Path.{◌≡◌, refl, sym, ap, ◌∙◌, subst}
use mathlib.Core.Bool.{Bool, true, false}
use mathlib.Core.Option.{some}
use mathlib.Core.List.{List, [], ◌∷◌, ◌++◌}
use Prim.Native.Nat.{ℕ, ◌+◌, ◌-◌, ◌*◌, ◌≤◌, ◌<◌}
use native.Mathlib.Omega.{arith}
use lib.ListN.{length, drop, replicate, length-map}
use Rattle.record.specs.Record.{File, record_count}
use Rattle.following.specs.Clearing.{Cleared}
use Rattle.unification.specs.Environment.{follow, Binding, Environment, Ends}
use Rattle.unification.specs.Nodes.{is_variable, HasRow, node_row, NodesOk}
use Rattle.unification.specs.Repeated.{IsEarliest}
use Rattle.unification.specs.Row.{variable, Row, application, Expression, no_symbol}
use Rattle.unification.specs.Unification.{most_links}
use Rattle.unification.specs.ValueArray.{InStep, Models}
use Rattle.unification.proofs.Chains.{short_le}
use Rattle.unification.proofs.Lists.{Each}
use Rattle.unification.proofs.Stability.{follow_agree}
use Rattle.derivation.specs.Derivation.{literals, input, Literal, Derivation, resolve, factor, numbered, maximum_index, joined, lookup, clause_number}
use Rattle.loading.specs.Loaded.{AllFree, BindingsIn, Loadable, Loaded}
use Rattle.putting.specs.Putting.{BindingIn, AllIn}
use Rattle.derivation.specs.Stored.{origin_table_of, literals_cell, index_cell, Stored}
use Rattle.derivation.proofs.Known.{Known, KnownRows, KnownEnvironment, known_numbered, known_lookup}
use Rattle.derivation.proofs.Literals.{each_numbered, LiteralIn, literals_in_lem}
use Rattle.loading.proofs.LoadedModels.{cleared_free, factor_models}
use Rattle.named_literals.proofs.Origins.{stored_cells}
use Rattle.derivation.proofs.OwnBindings.{BindingThere, FreeIn, BindingsThere, bindings_there}
use Rattle.entry.specs.Progress.{Kept}
use Rattle.verdict.specs.Refusal.{most_index}
use Rattle.verdict.specs.State.{arities, State, rows_of, derivations, arity_of, clause_of, row_of}
use Rattle.verdict.specs.Tables.{Tables, clause_cells, binding_cells, filled}
use Rattle.demands.proofs.Advance.{Standing, RowFits}
use Rattle.entry.proofs.Entering.{node_table_length, origin_table_length}
use Rattle.demands.proofs.Inversions.{entry_none, entry_each}
use Rattle.demands.proofs.Shared.{shared_arguments}
use Rattle.entry.proofs.Kept.{standing_of, fitting_records}
use Rattle.entry.proofs.NodeTable.{node_row_lem, has_row_lem, row_there_of, application_row_lem, nodes_ok}
use Rattle.demands.proofs.Reading.{state_more}
use Rattle.demands.proofs.Standing.{ChainsEnd, InOrder, StateOk, order_of, held_links}
use Rattle.demands.proofs.Sources.{number_of}
use Rattle.demands.proofs.Tabled.{stored_clause}
use Rattle.entry.specs.declared.entry.Counts.{Counts}

module _ {F : File} {t : Tables} {k : ℕ} {S : State} {n : Counts} {here : Tables} {N O A : List ℕ} (K : Kept F t k S n here N O A) (few : k ≤ record_count F) where
  most : k ≤ 4096
  most = omega (arith, fitting_records F K.fit)

  pub stand_of : Standing F k S
  stand_of = standing_of F k few S K.before

  pub ok_of : StateOk 4096 S
  ok_of = state_more k 4096 S most stand_of.ok

  pub fit : Each RowFits (rows_of S)
  fit = stand_of.tally.rows_fit

  rows_few : length (rows_of S) ≤ 4096
  rows_few = omega (arith, length-map S.rows (λ (w : ℕ × Row). w.1), stand_of.tally.total, most)

  pub nodes_room : length N ≡ 32768
  nodes_room = node_table_length (rows_of S) fit rows_few N K.nodes

  pub origins_room : length O ≡ 32768
  origins_room = origin_table_length (derivations S) stand_of.sourced (omega (arith, length-map S.clauses (λ (c : ℕ × Derivation). c.1), stand_of.tally.total, most)) O K.origins

  -- A clause's number is the one at which it stands.
  pub number_is : (c : ℕ) (d : Derivation) → clause_of S c ≡ some d → clause_number d ≡ c
  number_is c d q = number_of (derivations S) stand_of.sourced c d q

  pub nodes_fine : NodesOk N
  nodes_fine =
      let symbols_few = ok_of.few in
      nodes_ok (rows_of S) fit N K.nodes (arity_of S) (entry_none (arities S) no_symbol (omega arith)) ok_of.rows_ok stand_of.shared.rows_shared rows_few

  -- Every clause is stored in the tables.
  pub stored_of : (c : ℕ) (d : Derivation) → clause_of S c ≡ some d → Stored O here.clauses here.bindings c d
  stored_of c d q =
      let p : here.clauses ≡ filled 20480 (clause_cells S.clauses) t.clauses = ap (λ (x : Tables). x.clauses) K.tables in
      let b : here.bindings ≡ filled 32768 (binding_cells (derivations S)) t.bindings = ap (λ (x : Tables). x.bindings) K.tables in
      let s = stored_clause S.clauses stand_of.sourced (replicate (32768 - 8 * length (derivations S)) 0) (replicate (20480 - length (clause_cells S.clauses)) 0 ++ drop 20480 t.clauses) (replicate (32768 - length (binding_cells (derivations S))) 0 ++ drop 32768 t.bindings) d c q in
      subst (λ (x : List ℕ). Stored x here.clauses here.bindings c d) (sym K.origins) (subst (λ (x : List ℕ). Stored (origin_table_of (derivations S)) here.clauses x c d) (sym b)
      (subst (λ (x : List ℕ). Stored (origin_table_of (derivations S)) x (filled 32768 (binding_cells (derivations S)) t.bindings) c d) (sym p) s))

  pub index_of : (c : ℕ) (d : Derivation) → clause_of S c ≡ some d → index_cell here.clauses c ≡ maximum_index d
  index_of c d q = (stored_cells (stored_of c d q)).index

  pub literals_of : (c : ℕ) (d : Derivation) → clause_of S c ≡ some d → literals_cell here.clauses c ≡ length (literals d)
  literals_of c d q = (stored_cells (stored_of c d q)).literal_count

  pub order_in : (c : ℕ) (d : Derivation) → clause_of S c ≡ some d → InOrder (rows_of S) S.total d
  order_in c d q = order_of 4096 S ok_of c d q

  pub index_fits_lem : (c : ℕ) (d : Derivation) → clause_of S c ≡ some d → maximum_index d ≤ 4096
  unfolding most_index
  index_fits_lem c d q = (order_in c d q).index_fits

  -- Rows that are seen are earliest rows: arguments, the rows of clauses, and what is looked up.
  pub earliest_below : (r s : ℕ) (xs : List ℕ) → row_of S r ≡ application s xs → IsEarliest (rows_of S) r → Each (IsEarliest (rows_of S)) xs
  earliest_below r s xs q E = shared_arguments (rows_of S) stand_of.shared.rows_shared r s xs q E.there

  pub earliest_rows : (c : ℕ) (d : Derivation) → clause_of S c ≡ some d → KnownRows (IsEarliest (rows_of S)) d
  earliest_rows c d q = entry_each (KnownRows (IsEarliest (rows_of S))) (derivations S) stand_of.shared.clauses_shared c d q

  pub earliest_lookup : (c : ℕ) (d : Derivation) → clause_of S c ≡ some d → KnownEnvironment (IsEarliest (rows_of S)) (lookup d)
  earliest_lookup c d q = known_lookup (IsEarliest (rows_of S)) (row_of S) (row_of S) (λ r l. refl) earliest_below d (order_in c d q).valid (earliest_rows c d q)

  -- The node table's earliest rows are the state's.
  pub agree : (r : ℕ) → IsEarliest (rows_of S) r → node_row N r ≡ row_of S r
  agree r l = node_row_lem (rows_of S) fit N K.nodes r l

  pub there : (r : ℕ) → IsEarliest (rows_of S) r → HasRow N r
  there r l = has_row_lem (rows_of S) fit N K.nodes r l

  pub inside_of : (r : ℕ) → HasRow N r → IsEarliest (rows_of S) r
  inside_of r h = row_there_of (rows_of S) fit N K.nodes r h

  in_binding : (m : ℕ) (b : Binding) → BindingThere (row_of S) (IsEarliest (rows_of S)) m b → BindingIn N m b
  unfolding is_variable
  in_binding m b h = record {
    bound = record { row = there b.0.0 h.variable_row; low = h.variable_index.0; high = h.variable_index.1 };
    of_variable = variable_node b.0.0 h.variable_row h.number h.is_variable;
    value = record { row = there b.1.0 h.term_row; low = h.term_index.0; high = h.term_index.1 };
  }
    where
      variable_node : (r : ℕ) → IsEarliest (rows_of S) r → (v : ℕ) → row_of S r ≡ variable v → is_variable N r ≡ true
      variable_node r l v q = try (is_variable N r) refl
        where
          no : {s : ℕ} {xs : List ℕ} → variable v ≡ application s xs → ⊥
          no e = let z : ◌≡◌ {A = ℕ} 0 1 = cc in omega arith

          try : (c : Bool) → is_variable N r ≡ c → c ≡ true
          try true p = refl
          try false p = absurd (no (sym q ∙ application_row_lem (rows_of S) fit N K.nodes r l p))

  all_in : (m : ℕ) (bs : List Binding) → Each (BindingThere (row_of S) (IsEarliest (rows_of S)) m) bs → AllIn N m bs
  all_in m [] h = tt
  all_in m (b ∷ bs) h = (in_binding m b h.0, all_in m bs h.1)

  all_free : (ρ : Environment) (bs : List Binding) → Each (FreeIn ρ) bs → AllFree ρ bs
  all_free ρ [] h = tt
  all_free ρ (b ∷ bs) h = (h.0, all_free ρ bs h.1)

  clause_in_lem : (d : Derivation) → BindingsThere (row_of S) (IsEarliest (rows_of S)) d → BindingsIn N d
  clause_in_lem (input number ls) h = tt
  clause_in_lem (resolve number l a r b bs) h = (clause_in_lem l h.0, clause_in_lem r h.1, all_in (maximum_index l + maximum_index r) bs h.2.0, all_free (joined (maximum_index l) (lookup l) (lookup r)) bs h.2.1)
  clause_in_lem (factor number d a b bs) h = (clause_in_lem d h.0, all_in (maximum_index d) bs h.1.0, all_free (lookup d) bs h.1.1)

  pub bindings_in : (c : ℕ) (d : Derivation) → clause_of S c ≡ some d → BindingsIn N d
  bindings_in c d q =
      let o = order_in c d q in
      clause_in_lem d (bindings_there (IsEarliest (rows_of S)) (row_of S) earliest_below d o.valid (earliest_rows c d q))

  -- The literals of a clause are over rows that are there, at indices up to its maximum index.
  pub literal_in_step : (c : ℕ) (d : Derivation) → clause_of S c ≡ some d → (i : ℕ) (l : Literal) → numbered (literals d) i ≡ some l → InStep N (maximum_index d) l.1
  literal_in_step c d q i l p =
      let within = each_numbered (LiteralIn (maximum_index d)) (literals d) i l p (literals_in_lem d) in
      record { row = there l.1.0 (known_numbered (IsEarliest (rows_of S)) d (earliest_rows c d q) i l p); low = within.0; high = within.1 }

  -- Following over the node table.
  pub node_ends : (h : ℕ) (ρ : Environment) → KnownEnvironment (IsEarliest (rows_of S)) ρ → ChainsEnd (rows_of S) h ρ → (e : Expression) → HasRow N e.0 → Ends (follow (node_row N) h ρ e)
  node_ends h ρ κ c e r =
      let l = inside_of e.0 r in
      subst Ends (follow_agree (Known (IsEarliest (rows_of S))) (Known (IsEarliest (rows_of S))) (row_of S) (node_row N) (λ d z. sym (agree d.0 z)) h ρ κ e l) (c e l.there)

  -- What a caller of `load` needs, and what it then has.
  pub load_ready : (c o : ℕ) (d : Derivation) → clause_of S c ≡ some d → o + maximum_index d ≤ 4096 → (Q : List ℕ) → length Q ≡ 524416 → Loadable O here.clauses here.bindings N Q c o
  load_ready c o d q f Q v = record { nodes = nodes_fine; node_room = nodes_room; origin_room = origins_room; room = v; derivation = d; stored = stored_of c d q; bindings = bindings_in c d q; fits = f }

  pub clause_models : (c : ℕ) (d : Derivation) → clause_of S c ≡ some d → (top : ℕ) → top ≡ maximum_index d → (A₀ A₁ A₂ : List ℕ) → Cleared A₀ A₁ (128 * (top + 1)) → Loaded O here.clauses here.bindings N A₁ A₂ c 0 → Models N top A₂ (lookup d)
  clause_models c d q top p A₀ A₁ A₂ C L =
      let o = order_in c d q in
      let s = index_fits_lem c d q in
      factor_models nodes_fine (stored_of c d q) (bindings_in c d q) (sym p) (omega arith) (cleared_free N A₀ A₁ top nodes_fine C) L
      (λ e h. node_ends most_links (lookup d) (earliest_lookup c d q) (short_le (λ r. r < length (rows_of S)) (row_of S) S.total most_links (lookup d) (held_links 4096 S ok_of) o.chains) e h)
