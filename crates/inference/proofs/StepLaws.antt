-- Resolve and factor in the program: the array loaded for a step stands for what its parents say, and unification over it is the
-- definition's.
use mathlib.Core.Path.{◌≡◌, refl, sym, ap, ap₂, ◌∙◌, subst}
use mathlib.Core.Bool.{Bool, true, false, ◌&&◌, not}
use mathlib.Core.Option.{some}
use mathlib.Core.List.{List, [], ◌∷◌, map}
use Prim.Native.Nat.{ℕ, ◌+◌, ◌-◌, ◌*◌, ◌≤◌, ◌<◌}
use native.Mathlib.Omega.{arith}
use lib.ListN.{length}
use Rattle.record.specs.Record.{pick, File, record_count}
use Rattle.following.specs.Clearing.{Cleared}
use Rattle.unification.specs.Environment.{follow, Environment, Ends}
use Rattle.unification.specs.Listed.{listed_from}
use Rattle.unification.specs.Nodes.{HasRow, node_row, NodesOk}
use Rattle.unification.specs.Outlines.{outlines_clash}
use Rattle.unification.specs.Repeated.{IsEarliest}
use Rattle.unification.specs.Row.{Row, application, Expression}
use Rattle.unification.specs.Unification.{unify, most_work, most_bindings, most_links, Outcome, Pair, unifying, no_room}
use Rattle.unify.specs.Unifying.{outcome_of, EachInStep, pairs_from, Facing, Ready, ReadyForEach, Answered}
use Rattle.unification.specs.ValueArray.{InStep, Models}
use Rattle.unification.proofs.Chains.{short_le}
use Rattle.unification.proofs.Lists.{Each, each_map, each_more}
use Rattle.unification.proofs.Outlines.{outlines_alike}
use Rattle.unification.proofs.Ranges.{KeptPairs}
use Rattle.unification.proofs.Stability.{run_agree}
use Rattle.unification.proofs.Tests.{some_injective}
use Rattle.derivation.specs.Derivation.{literals, Literal, Derivation, pairs_with, maximum_index, joined, lookup, clause_number}
use Rattle.loading.specs.Loaded.{BindingsIn, Loadable, Loaded}
use Rattle.derivation.specs.Stored.{literals_cell, index_cell, Stored}
use Rattle.derivation.proofs.Chains.{short_joined}
use Rattle.derivation.proofs.Known.{Known, KnownLiteral, KnownEnvironment, known_literals, known_numbered, known_joined, known_variable, known_arguments}
use Rattle.derivation.proofs.Literals.{In, each_numbered, each_numbered_all, LiteralIn, literals_in_lem}
use Rattle.loading.proofs.LoadedModels.{cleared_free, resolve_models}
use Rattle.derivation.proofs.Validity.{pairs_kept, lookup_in}
use Rattle.tables.specs.Cells.{cleared_part, with_clause_cells}
use Rattle.outlines.specs.Comparing.{some_clash}
use Rattle.verdict.specs.Refusal.{outlines_agree}
use Rattle.verdict.specs.State.{State, rows_of, derivations, clause_of, row_of}
use Rattle.verdict.specs.Step.{atoms, unify_resolve, unify_factor}
use Rattle.inference.specs.Stepping.{BeforeStep, AtomOf, atom_named, RightsOf, rights_named, Resolving, Factoring, UnifiedTables, finished, with_step, step_finished, HeldUpTo}
use Rattle.distinct.specs.Rows.{with_node}
use Rattle.entry.specs.Progress.{tables_with}
use Rattle.verdict.specs.Tables.{Tables, binding_cells, bindings_of}
use Rattle.demands.proofs.Advance.{Standing}
use Rattle.entry.proofs.Declaring.{bindings_here}
use Rattle.entry.proofs.Filling.{filled_length}
use Rattle.entry.proofs.Kept.{sizes, few_records, few_clauses}
use Rattle.inference.proofs.KeptClauses as kept
use Rattle.demands.proofs.Standing.{ChainsEnd, InOrder, StateOk, held_links}
use Rattle.demands.proofs.Tabled.{all_bindings_length}
use Rattle.unify.specs.declared.Unified.{Unified}
use Rattle.std.specs.Prelude.{Ok, Err}
use Rattle.following.specs.declared.failure.Failure.{Failure}
use Rattle.unify.specs.Pairs.{Answer}
use Rattle.reasons.specs.declared.Reason.{Reason}
use Rattle.reasons.specs.declared.Reason.TheVariants.{Unification}
use Rattle.entry.specs.declared.entry.Counts.{Counts}
use Rattle.inference.specs.declared.Atom.{Atom}

each_both : {T : Type 0} (P Q : T → Type 0) (xs : List T) → Each P xs → Each Q xs → Each (λ (x : T). P x × Q x) xs
each_both P Q [] h k = tt
each_both P Q (x ∷ xs) h k = ((h.0, k.0), each_both P Q xs h.1 k.1)

module _ {F : File} {k : ℕ} {n : Counts} {C B N O A : List ℕ} (E : BeforeStep F k n C B N O A) where
  abbrev S : State
  S = E.state

  abbrev T : Tables
  T = E.tables_before

  abbrev Here : Tables
  Here = tables_with E.symbols E.rows C B

  abbrev ws : List Row
  ws = rows_of E.state

  abbrev L : ℕ
  L = length (rows_of E.state)

  few_inside : k ≤ record_count F
  few_inside = omega (arith, E.inside)

  pub stand_of : Standing F k E.state
  stand_of = kept.stand_of E.kept few_inside

  pub ok_of : StateOk 4096 E.state
  ok_of = kept.ok_of E.kept few_inside

  pub small : k < 4096
  small = few_records F T k S n Here N O A E.kept E.inside

  pub nodes_room : length N ≡ 32768
  nodes_room = kept.nodes_room E.kept few_inside

  pub origins_room : length O ≡ 32768
  origins_room = kept.origins_room E.kept few_inside

  pub number_is : (c : ℕ) (d : Derivation) → clause_of E.state c ≡ some d → clause_number d ≡ c
  number_is c d q = kept.number_is E.kept few_inside c d q

  pub nodes_fine : NodesOk N
  nodes_fine = kept.nodes_fine E.kept few_inside

  pub held_count : n.bindings ≡ E.state.total
  held_count = ap (λ (c : Counts). c.bindings) E.kept.counts

  pub held_sum : n.bindings ≡ bindings_of (derivations E.state)
  held_sum = held_count ∙ ok_of.total_ok

  pub clause_count : n.clauses ≡ length E.state.clauses
  clause_count = ap (λ (c : Counts). c.clauses) E.kept.counts

  few_bindings : E.state.total ≤ 8192
  unfolding most_bindings
  few_bindings = ok_of.held_ok

  pub held_few : n.bindings ≤ 8192
  held_few = omega (arith, held_count, few_bindings)

  pub few_of : n.clauses < 4096
  few_of = omega (arith, clause_count, few_clauses F T k S n Here N O A E.kept E.inside, small)

  cells : length (binding_cells (derivations E.state)) ≡ 4 * n.bindings
  cells = all_bindings_length (derivations E.state) ∙ ap (λ (h : ℕ). 4 * h) (sym held_sum)

  pub room_of : 32768 ≤ length B
  room_of =
      let b = bindings_here F T k S n Here N O A E.kept E.inside in
      let z = sizes T E.kept.long in
      let c : length (binding_cells (derivations S)) ≤ 32768 = omega (arith, cells, held_few) in
      rw (ap length b ∙ filled_length 32768 (binding_cells (derivations S)) T.bindings c z.bindings) z.bindings

  -- Clauses and rows, as for every state that the program keeps.
  pub stored_of : (c : ℕ) (d : Derivation) → clause_of E.state c ≡ some d → Stored O C B c d
  stored_of c d q = kept.stored_of E.kept few_inside c d q

  pub index_of : (c : ℕ) (d : Derivation) → clause_of E.state c ≡ some d → index_cell C c ≡ maximum_index d
  index_of c d q = kept.index_of E.kept few_inside c d q

  pub literals_of : (c : ℕ) (d : Derivation) → clause_of E.state c ≡ some d → literals_cell C c ≡ length (literals d)
  literals_of c d q = kept.literals_of E.kept few_inside c d q

  pub order_in : (c : ℕ) (d : Derivation) → clause_of E.state c ≡ some d → InOrder (rows_of E.state) E.state.total d
  order_in c d q = kept.order_in E.kept few_inside c d q

  agree : (r : ℕ) → IsEarliest (rows_of E.state) r → node_row N r ≡ row_of E.state r
  agree r l = kept.agree E.kept few_inside r l

  there : (r : ℕ) → IsEarliest (rows_of E.state) r → HasRow N r
  there r l = kept.there E.kept few_inside r l

  pub bindings_in : (c : ℕ) (d : Derivation) → clause_of E.state c ≡ some d → BindingsIn N d
  bindings_in c d q = kept.bindings_in E.kept few_inside c d q

  -- Following and unification over the node table.
  node_ends : (h : ℕ) (ρ : Environment) → KnownEnvironment (IsEarliest (rows_of E.state)) ρ → ChainsEnd (rows_of E.state) h ρ → (e : Expression) → HasRow N e.0 → Ends (follow (node_row N) h ρ e)
  node_ends h ρ κ c e r = kept.node_ends E.kept few_inside h ρ κ c e r

  node_below : (r s : ℕ) (xs : List ℕ) → node_row N r ≡ application s xs → IsEarliest (rows_of E.state) r → Each (IsEarliest (rows_of E.state)) xs
  node_below r s xs q l = kept.earliest_below E.kept few_inside r s xs (sym (agree r l) ∙ q) l

  node_unify : (h : ℕ) (ρ : Environment) (ps : List Pair) → KnownEnvironment (IsEarliest (rows_of E.state)) ρ → KeptPairs (Known (IsEarliest (rows_of E.state))) (Known (IsEarliest (rows_of E.state))) ps → unify (node_row N) h ρ ps ≡ unify (row_of E.state) h ρ ps
  node_unify h ρ ps κ a =
      run_agree (Known (IsEarliest ws)) (Known (IsEarliest ws)) (node_row N) (row_of S) (λ e l. agree e.0 l) (known_variable (IsEarliest ws) (node_row N) (node_row N) (λ r l. refl) node_below) (known_arguments (IsEarliest ws) (node_row N) (node_row N) (λ r l. refl) node_below) most_links (no_room h) ρ most_work (unifying [] ps) (κ, a)

  atom_known : (c r i : ℕ) (x : AtomOf E.state c r i) → Known (IsEarliest (rows_of E.state)) x.literal.1 × In (maximum_index x.clause) x.literal.1.1
  atom_known c r i x =
      let o = order_in c x.clause x.is_clause in
      (known_numbered (IsEarliest ws) x.clause (kept.earliest_rows E.kept few_inside c x.clause x.is_clause) x.number x.literal x.is_literal, each_numbered (LiteralIn (maximum_index x.clause)) (literals x.clause) x.number x.literal x.is_literal (literals_in_lem x.clause))

  rights_known : (c : ℕ) (ns L : List ℕ) (y : RightsOf E.state c ns L) → Each (λ (e : Expression). IsEarliest (rows_of E.state) e.0 × In (maximum_index y.clause) e.1) (atoms y.named)
  rights_known c ns L y =
      let known = known_literals (IsEarliest ws) y.clause (kept.earliest_rows E.kept few_inside c y.clause y.is_clause) in
      let both = each_both (KnownLiteral (IsEarliest ws)) (LiteralIn (maximum_index y.clause)) y.named
      (each_numbered_all (KnownLiteral (IsEarliest ws)) (literals y.clause) ns y.named y.are_literals known)
      (each_numbered_all (LiteralIn (maximum_index y.clause)) (literals y.clause) ns y.named y.are_literals (literals_in_lem y.clause)) in
      each_map (λ (l : Literal). KnownLiteral (IsEarliest ws) l × LiteralIn (maximum_index y.clause) l) (λ (e : Expression). IsEarliest ws e.0 × In (maximum_index y.clause) e.1) (λ l. l.1) (λ l k. k) y.named both

  -- Outlines over the node table.
  pub node_outlines : (a b c d e f : ℕ) (x : AtomOf E.state a b c) (y : AtomOf E.state d e f) → outlines_clash (node_row N) b e ≡ outlines_clash (row_of E.state) x.literal.1.0 y.literal.1.0
  node_outlines a b c d e f x y =
      ap₂ (outlines_clash (node_row N)) (sym x.is_row) (sym y.is_row)
      ∙ outlines_alike (node_row N) (row_of S) (IsEarliest ws) agree node_below x.literal.1.0 y.literal.1.0 (atom_known a b c x).0 (atom_known d e f y).0

  pub rights_outlines : (a b c : ℕ) (x : AtomOf E.state a b c) (d : ℕ) (ns L : List ℕ) (y : RightsOf E.state d ns L) (m : ℕ) → m ≡ length ns → not (some_clash (node_row N) b (listed_from L 0 m)) ≡ outlines_agree (row_of E.state) x.literal y.named
  rights_outlines a b c x d ns L y m pm =
      ap (λ (es : List Expression). not (some_clash (node_row N) b es)) (ap (λ (i : ℕ). listed_from L 0 i) pm ∙ y.listed) ∙ each_right y.named (rights_known d ns L y)
    where
      one : (c' : Bool) (rest : Bool) → not (pick c' true rest) ≡ (not c' && not rest)
      one true rest = refl
      one false rest = refl

      each_right : (ms : List Literal) → Each (λ (e : Expression). IsEarliest (rows_of E.state) e.0 × In (maximum_index y.clause) e.1) (atoms ms) → not (some_clash (node_row N) b (atoms ms)) ≡ outlines_agree (row_of E.state) x.literal ms
      each_right [] h = refl
      each_right (m ∷ ms) h =
          one (outlines_clash (node_row N) b m.1.0) (some_clash (node_row N) b (atoms ms))
          ∙ ap₂ (λ (p q : Bool). not p && q) (ap (λ (w : ℕ). outlines_clash (node_row N) w m.1.0) (sym x.is_row) ∙ outlines_alike (node_row N) (row_of S) (IsEarliest ws) agree node_below x.literal.1.0 m.1.0 (atom_known a b c x).0 h.0.0) (each_right ms h.1)

  links_there : (h : ℕ) → h ≤ 8192 → h ≤ most_links
  unfolding most_links
  links_there h l = l

  -- What a caller of `load` and `unify_literals` needs.
  pub load_ready : (c o : ℕ) (d : Derivation) → clause_of E.state c ≡ some d → o + maximum_index d ≤ 4096 → (Q : List ℕ) → length Q ≡ 524416 → Loadable O C B N Q c o
  load_ready c o d q f Q v = kept.load_ready E.kept few_inside c o d q f Q v

  facing : (ρ : Environment) (top : ℕ) (Q : List ℕ) (ps : List Pair) → Models N top Q ρ → KnownEnvironment (IsEarliest (rows_of E.state)) ρ → ChainsEnd (rows_of E.state) E.state.total ρ → EachInStep N top ps → Facing N top Q n.bindings ρ ps
  facing ρ top Q ps M κ c a = record { models = M; short = subst (λ (h : ℕ). (x : Expression) → HasRow N x.0 → Ends (follow (node_row N) h ρ x)) (sym held_count) (node_ends S.total ρ κ c); in_step = a }

  outcome_of_lem : (ρ : Environment) (ps : List Pair) → KnownEnvironment (IsEarliest (rows_of E.state)) ρ → KeptPairs (Known (IsEarliest (rows_of E.state))) (Known (IsEarliest (rows_of E.state))) ps → (o : Outcome) → unify (node_row N) n.bindings ρ ps ≡ o → unify (row_of E.state) E.state.total ρ ps ≡ o
  outcome_of_lem ρ ps κ a o q = sym (node_unify S.total ρ ps κ a) ∙ ap (λ (h : ℕ). unify (node_row N) h ρ ps) (sym held_count) ∙ q

  -- The two parents of a resolve.
  module _ (a b c : ℕ) (x : AtomOf E.state a b c) (d : ℕ) (ns L' : List ℕ) (y : RightsOf E.state d ns L') (many : ℕ) (count : many ≡ length ns) (fits : maximum_index x.clause + maximum_index y.clause ≤ 4096) where
    abbrev l : Derivation
    l = x.clause

    abbrev r : Derivation
    r = y.clause

    abbrev ρ : Environment
    ρ = joined (maximum_index x.clause) (lookup x.clause) (lookup y.clause)

    X : InOrder (rows_of E.state) E.state.total x.clause
    X = order_in a l x.is_clause

    Y : InOrder (rows_of E.state) E.state.total y.clause
    Y = order_in d r y.is_clause

    both_known : KnownEnvironment (IsEarliest (rows_of E.state)) (joined (maximum_index x.clause) (lookup x.clause) (lookup y.clause))
    both_known = known_joined (IsEarliest ws) (maximum_index l) (lookup l) (lookup r) (kept.earliest_lookup E.kept few_inside a l x.is_clause) (kept.earliest_lookup E.kept few_inside d r y.is_clause)

    both_chains : ChainsEnd (rows_of E.state) E.state.total (joined (maximum_index x.clause) (lookup x.clause) (lookup y.clause))
    both_chains = short_joined (λ r. r < L) (row_of S) (maximum_index l) (maximum_index r) (lookup l) (lookup r) (lookup_in (row_of S) l X.valid) (lookup_in (row_of S) r Y.valid) S.total X.chains Y.chains

    -- The listed atoms are those of the named literals.
    listed_atoms : listed_from L' 0 many ≡ atoms y.named
    listed_atoms = ap (λ (i : ℕ). listed_from L' 0 i) count ∙ y.listed

    all_in : (raised top : ℕ) → raised + maximum_index y.clause ≤ top → InStep N top (b, c) → (es : List Expression) → Each (λ (e : Expression). IsEarliest (rows_of E.state) e.0 × In (maximum_index y.clause) e.1) es → EachInStep N top (map (λ e. ((b, c), (e.0, raised + e.1))) es)
    all_in raised top g h [] w = tt
    all_in raised top g h (e ∷ es) w =
        let o = w.0.1 in
        (h, record { row = there e.0 w.0.0; low = omega arith; high = omega arith }, all_in raised top g h es w.1)

    pub resolve_facing : (raised top at : ℕ) → at ≤ raised → raised ≡ index_cell C a → top ≡ raised + index_cell C d → (A₁ A₂ A₃ : List ℕ) → Cleared A A₁ (128 * (top + 1)) → Loaded O C B N A₁ A₂ a 0 → Loaded O C B N A₂ A₃ d raised
        → Facing N top A₃ n.bindings (joined (maximum_index x.clause) (lookup x.clause) (lookup y.clause)) (pairs_from (b, c) at L' 0 many)
    resolve_facing raised top at low pr pt A₁ A₂ A₃ K U W =
        let pl : raised ≡ maximum_index l = pr ∙ index_of a l x.is_clause in
        let pq : top ≡ maximum_index l + maximum_index r = pt ∙ ap₂ ◌+◌ pl (index_of d r y.is_clause) in
        let kx = atom_known a b c x in
        let xr = x.is_row in
        let xi = x.is_index in
        let xin = kx.1 in
        facing ρ top A₃ (pairs_from (b, c) at L' 0 many)
        (resolve_models nodes_fine (stored_of a l x.is_clause) (bindings_in a l x.is_clause) (stored_of d r y.is_clause) (bindings_in d r y.is_clause) pl (sym pq) (omega arith) (cleared_free N A A₁ top nodes_fine K) U W
        (λ g h. short_le_node g h))
        both_known both_chains
        (subst (λ (es : List Expression). EachInStep N top (map (λ e. ((b, c), (e.0, at + e.1))) es)) (sym listed_atoms)
        (all_in at top (omega arith) (record { row = there b (rw (← xr) kx.0); low = omega arith; high = omega arith }) (atoms y.named) (rights_known d ns L' y)))
      where
        short_le_node : (g : Expression) → HasRow N g.0 → Ends (follow (node_row N) most_links (joined (maximum_index x.clause) (lookup x.clause) (lookup y.clause)) g)
        short_le_node g h = node_ends most_links ρ both_known (short_le (λ r. r < L) (row_of S) S.total most_links ρ (held_links 4096 S ok_of) both_chains) g h

    pub resolve_outcome : (raised : ℕ) → raised ≡ index_cell C a → (o : Outcome) → unify (node_row N) n.bindings (joined (maximum_index x.clause) (lookup x.clause) (lookup y.clause)) (pairs_from (b, c) raised L' 0 many) ≡ o → unify_resolve E.state (atom_named x) (rights_named y) ≡ o
    resolve_outcome raised pr o q =
        let pl : raised ≡ maximum_index l = pr ∙ index_of a l x.is_clause in
        outcome_of_lem ρ (pairs_with (maximum_index l) x.literal.1 (atoms y.named)) both_known
        (pairs_kept (Known (IsEarliest ws)) (Known (IsEarliest ws)) (maximum_index l) x.literal.1 (atoms y.named) (atom_known a b c x).0
        (each_more (λ (e : Expression). IsEarliest ws e.0 × In (maximum_index r) e.1) (λ (e : Expression). IsEarliest ws e.0) (λ e k. k.0) (atoms y.named) (rights_known d ns L' y))) o
        ((λ i. unify (node_row N) n.bindings ρ (map (λ e. ((x.is_row i, x.is_index i), (e.0, sym pl i + e.1))) (sym listed_atoms i))) ∙ q)

  -- The parent of a factor.
  module _ (a b c d e f : ℕ) (x : AtomOf E.state a b c) (y : AtomOf E.state d e f) (p : d ≡ a) where
    abbrev m : Derivation
    m = x.clause

    Ord : InOrder (rows_of E.state) E.state.total x.clause
    Ord = order_in a m x.is_clause

    same_clause_lem : y.clause ≡ x.clause
    same_clause_lem = some_injective (sym y.is_clause ∙ ap (clause_of S) p ∙ x.is_clause)

    one_known : KnownEnvironment (IsEarliest (rows_of E.state)) (lookup x.clause)
    one_known = kept.earliest_lookup E.kept few_inside a m x.is_clause

    parent_small : maximum_index x.clause ≤ 4096
    parent_small = kept.index_fits_lem E.kept few_inside a m x.is_clause

    pub factor_fits_lem : 0 + maximum_index x.clause ≤ 4096
    factor_fits_lem = omega (arith, parent_small)

    pub factor_facing : (top : ℕ) → top ≡ index_cell C a → (A₁ A₂ : List ℕ) → Cleared A A₁ (128 * (top + 1)) → Loaded O C B N A₁ A₂ a 0 → Facing N top A₂ n.bindings (lookup x.clause) (((b, c), (e, f)) ∷ [])
    factor_facing top pt A₁ A₂ K U =
        let pq : top ≡ maximum_index m = pt ∙ index_of a m x.is_clause in
        let kx = atom_known a b c x in
        let ky = atom_known d e f y in
        let xr = x.is_row in
        let xi = x.is_index in
        let yr = y.is_row in
        let yi = y.is_index in
        let xin = kx.1 in
        let yin : In (maximum_index m) y.literal.1.1 = subst (λ (z : Derivation). In (maximum_index z) y.literal.1.1) same_clause_lem ky.1 in
        let s = parent_small in
        facing (lookup m) top A₂ (((b, c), (e, f)) ∷ [])
        (kept.clause_models E.kept few_inside a m x.is_clause top pq A A₁ A₂ K U)
        one_known Ord.chains
        (record { row = there b (rw (← xr) kx.0); low = omega arith; high = omega arith }, record { row = there e (rw (← yr) ky.0); low = omega arith; high = omega arith }, tt)

    pub factor_outcome : (o : Outcome) → unify (node_row N) n.bindings (lookup x.clause) (((b, c), (e, f)) ∷ []) ≡ o → unify_factor E.state (atom_named x) (atom_named y) ≡ o
    factor_outcome o q =
        outcome_of_lem (lookup m) ((x.literal.1, y.literal.1) ∷ []) one_known ((atom_known a b c x).0, (atom_known d e f y).0, tt) o
        ((λ i. unify (node_row N) n.bindings (lookup m) (((x.is_row i, x.is_index i), (y.is_row i, y.is_index i)) ∷ [])) ∙ q)

  -- What unification is handed.
  pub ready : (ρ : Environment) (top : ℕ) (Q : List ℕ) (ps : List Pair) → Facing N top Q n.bindings ρ ps → Ready N Q B n.bindings ps
  ready ρ top Q ps G = record { nodes = nodes_room; values = G.models.room; bindings = room_of; few = held_few; top = top; environment = ρ; facing = G }

unified_tables : (N A₂ A₃ B B' : List ℕ) (held : ℕ) (ps : List Pair) (u : Answer) → Answered N A₂ A₃ B B' held ps u → UnifiedTables B B' A₃ held u
unified_tables N A₂ A₃ B B' held ps u W = record { values = W.values; bindings = W.bindings; before = W.before; counted = W.counted }

-- The needs of the program's functions, one law for each.
module _ {k : ℕ} {n : Counts} {C B N O A : List ℕ} {x y : Atom} where
  pub factor_clear : (R : Factoring k n C B N O A x y) (top : ℕ) → top ≡ index_cell C x.clause → (length A ≡ 524416) × (top ≤ 4096)
  factor_clear R top p =
      let q = factor_fits_lem R.step x.clause x.row x.index y.clause y.row y.index R.kept R.deleted R.same_clause in
      (R.step.kept.values, omega (arith, p, index_of R.step x.clause R.kept.clause R.kept.is_clause, q))

  pub factor_load : (R : Factoring k n C B N O A x y) (A₁ : List ℕ) → length A₁ ≡ 524416 → Loadable O C B N A₁ x.clause 0
  factor_load R A₁ l = load_ready R.step x.clause 0 R.kept.clause R.kept.is_clause (factor_fits_lem R.step x.clause x.row x.index y.clause y.row y.index R.kept R.deleted R.same_clause) A₁ l

  factor_faces : (R : Factoring k n C B N O A x y) (top : ℕ) → top ≡ index_cell C x.clause → (A₁ A₂ : List ℕ) → Cleared A A₁ (128 * (top + 1)) → Loaded O C B N A₁ A₂ x.clause 0 → Facing N top A₂ n.bindings (lookup R.kept.clause) (((x.row, x.index), (y.row, y.index)) ∷ [])
  factor_faces R top p A₁ A₂ K L = factor_facing R.step x.clause x.row x.index y.clause y.row y.index R.kept R.deleted R.same_clause top p A₁ A₂ K L

  pub factor_ready : (R : Factoring k n C B N O A x y) (top : ℕ) → top ≡ index_cell C x.clause → (A₁ A₂ : List ℕ) → Cleared A A₁ (128 * (top + 1)) → Loaded O C B N A₁ A₂ x.clause 0 → Ready N A₂ B n.bindings (((x.row, x.index), (y.row, y.index)) ∷ [])
  factor_ready R top p A₁ A₂ K L = ready R.step (lookup R.kept.clause) top A₂ (((x.row, x.index), (y.row, y.index)) ∷ []) (factor_faces R top p A₁ A₂ K L)

  pub factor_unified : (top : ℕ) → top ≡ index_cell C x.clause → (A₁ A₂ A₃ B' : List ℕ) (u : Answer) → Cleared A A₁ (128 * (top + 1)) → Loaded O C B N A₁ A₂ x.clause 0 → Answered N A₂ A₃ B B' n.bindings (((x.row, x.index), (y.row, y.index)) ∷ []) u
      → ((R : Factoring k n C B N O A x y) → unify_factor R.step.state (atom_named R.kept) (atom_named R.deleted) ≡ outcome_of B' n.bindings u) × UnifiedTables B B' A₃ n.bindings u
  factor_unified top p A₁ A₂ A₃ B' u K L W = (
    λ R. factor_outcome R.step x.clause x.row x.index y.clause y.row y.index R.kept R.deleted R.same_clause (outcome_of B' n.bindings u) (W.outcome top (lookup R.kept.clause) (factor_faces R top p A₁ A₂ K L)),
    unified_tables N A₂ A₃ B B' n.bindings (((x.row, x.index), (y.row, y.index)) ∷ []) u W,
  )

module _ {k : ℕ} {n : Counts} {C B N O A : List ℕ} {x : Atom} {right : ℕ} {L : List ℕ} {many : ℕ} where
  pub resolve_top : (R : Resolving k n C B N O A x right L many) (raised other : ℕ) → raised ≡ index_cell C x.clause → other ≡ index_cell C right → raised + other ≤ 4096
  resolve_top R raised other p q = omega (arith, p ∙ index_of R.step x.clause R.left.clause R.left.is_clause, q ∙ index_of R.step right R.rights.clause R.rights.is_clause, R.fits)

  pub resolve_clear : (R : Resolving k n C B N O A x right L many) (raised other : ℕ) → raised ≡ index_cell C x.clause → other ≡ index_cell C right → (length A ≡ 524416) × (raised + other ≤ 4096)
  resolve_clear R raised other p q = (R.step.kept.values, resolve_top R raised other p q)

  pub resolve_load : (R : Resolving k n C B N O A x right L many) (A₁ : List ℕ) → length A₁ ≡ 524416 → Loadable O C B N A₁ x.clause 0
  resolve_load R A₁ l = load_ready R.step x.clause 0 R.left.clause R.left.is_clause (omega (arith, R.fits)) A₁ l

  pub resolve_load_right : (R : Resolving k n C B N O A x right L many) (raised : ℕ) → raised ≡ index_cell C x.clause → (A₂ : List ℕ) → length A₂ ≡ 524416 → Loadable O C B N A₂ right raised
  resolve_load_right R raised p A₂ l = load_ready R.step right raised R.rights.clause R.rights.is_clause (omega (arith, p ∙ index_of R.step x.clause R.left.clause R.left.is_clause, R.fits)) A₂ l

  -- The right literals may be listed at any offset up to the left maximum index; that it is this one matters to the outcome alone.
  resolve_faces : (R : Resolving k n C B N O A x right L many) (raised other at : ℕ) → at ≤ raised → raised ≡ index_cell C x.clause → other ≡ index_cell C right → (A₁ A₂ A₃ : List ℕ) → Cleared A A₁ (128 * ((raised + other) + 1)) → Loaded O C B N A₁ A₂ x.clause 0 → Loaded O C B N A₂ A₃ right raised
      → Facing N (raised + other) A₃ n.bindings (joined (maximum_index R.left.clause) (lookup R.left.clause) (lookup R.rights.clause)) (pairs_from (x.row, x.index) at L 0 many)
  resolve_faces R raised other at low p q A₁ A₂ A₃ K U M =
      resolve_facing R.step x.clause x.row x.index R.left right R.numbers L R.rights many R.count R.fits raised (raised + other) at low p (ap (λ (z : ℕ). raised + z) q) A₁ A₂ A₃ K U M

  pub resolve_ready : (R : Resolving k n C B N O A x right L many) (raised other at : ℕ) → at ≤ raised → raised ≡ index_cell C x.clause → other ≡ index_cell C right → (A₁ A₂ A₃ : List ℕ) → Cleared A A₁ (128 * ((raised + other) + 1)) → Loaded O C B N A₁ A₂ x.clause 0 → Loaded O C B N A₂ A₃ right raised
      → ReadyForEach N A₃ B n.bindings (x.row, x.index) L many at
  resolve_ready R raised other at low p q A₁ A₂ A₃ K U M = record {
    ready = ready R.step (joined (maximum_index R.left.clause) (lookup R.left.clause) (lookup R.rights.clause)) (raised + other) A₃ (pairs_from (x.row, x.index) at L 0 many) (resolve_faces R raised other at low p q A₁ A₂ A₃ K U M);
    cells = R.room;
    listed = R.few;
  }

  pub resolve_unified : (raised other : ℕ) → raised ≡ index_cell C x.clause → other ≡ index_cell C right → (A₁ A₂ A₃ A₄ B' : List ℕ) (u : Answer) → Cleared A A₁ (128 * ((raised + other) + 1)) → Loaded O C B N A₁ A₂ x.clause 0 → Loaded O C B N A₂ A₃ right raised
      → Answered N A₃ A₄ B B' n.bindings (pairs_from (x.row, x.index) raised L 0 many) u
      → ((R : Resolving k n C B N O A x right L many) → unify_resolve R.step.state (atom_named R.left) (rights_named R.rights) ≡ outcome_of B' n.bindings u) × UnifiedTables B B' A₄ n.bindings u
  resolve_unified raised other p q A₁ A₂ A₃ A₄ B' u K U M W = (
    λ R. resolve_outcome R.step x.clause x.row x.index R.left right R.numbers L R.rights many R.count R.fits raised p (outcome_of B' n.bindings u) (W.outcome (raised + other) (joined (maximum_index R.left.clause) (lookup R.left.clause) (lookup R.rights.clause)) (resolve_faces R raised other raised (omega arith) p q A₁ A₂ A₃ K U M)),
    unified_tables N A₃ A₄ B B' n.bindings (pairs_from (x.row, x.index) raised L 0 many) u W,
  )

-- Finishing a step.
pub finish_up : (held : ℕ) (u : Answer) (w : Unified) → u ≡ Ok w → HeldUpTo held u → (held ≤ w.held) × (w.held ≤ 8192)
finish_up held u w p q = subst (HeldUpTo held) p q

pub finish_done : (u : Answer) (w : Unified) (k : ℕ) (n : Counts) (l i : ℕ) (cells C C' B O O' : List ℕ) → u ≡ Ok w → C' ≡ with_clause_cells C n.clauses k l i n.bindings (w.held - n.bindings) → O' ≡ with_node O n.clauses cells
    → finished (Ok (with_step n w.held)) C' B O' ≡ step_finished u k n l i cells C B O
finish_done u w k n l i cells C C' B O O' p q r = ap₂ (λ (x y : List ℕ). finished (Ok (with_step n w.held)) x B y) q r ∙ sym (ap (λ (v : Answer). step_finished v k n l i cells C B O) p)

pub finish_refused : (u : Answer) (f : Failure) (k : ℕ) (n : Counts) (l i : ℕ) (cells C B B' O : List ℕ) → u ≡ Err f → B' ≡ cleared_part (4 * n.bindings) 32768 B → finished (Err (Unification f)) C B' O ≡ step_finished u k n l i cells C B O
finish_refused u f k n l i cells C B B' O p e = ap (λ (x : List ℕ). finished (Err (Unification f)) C x O) e ∙ sym (ap (λ (v : Answer). step_finished v k n l i cells C B O) p)
