-- What stands is in order: rows over symbols at their arities, and clauses whose bindings are unification's, over such rows, with
-- chains of links no longer than the bindings held.
use mathlib.Core.Path.{◌≡◌, refl, ap, subst}
use mathlib.Core.Bool.{Bool, true, false}
use mathlib.Core.Option.{Option, none, some}
use mathlib.Core.List.{List, [], ◌∷◌, ◌++◌}
use Prim.Native.Nat.{ℕ, suc, ◌+◌, ◌≤◌, ◌<◌}
use native.Mathlib.Nat.{add-zero}
use native.Mathlib.Omega.{arith}
use lib.Dec.{eqb, eqb→eq, lit≤}
use lib.ListN.{length}
use Rattle.unification.specs.Environment.{follow, Binding, Environment, Ends, view_row}
use Rattle.unification.specs.Row.{variable, Row, application, Expression, Variable, row_at}
use Rattle.unification.specs.Unification.{unify, most_work, most_bindings, most_links, Outcome, Pair, unifying, no_room}
use Rattle.unification.proofs.Chains.{Short, short_le, ChainEnd, chain_run}
use Rattle.unification.proofs.Lists.{Each, each_map, each_more}
use Rattle.unification.proofs.Meaning.{follow_unb, follow_appl}
use Rattle.unification.proofs.Ranges.{KeptPairs}
use Rattle.unification.proofs.Rows.{Below, RowOk, RowsOk, eqb_below, row_below}
use Rattle.unification.proofs.Stability.{follow_agree}
use Rattle.unification.proofs.Tests.{to_t}
use Rattle.derivation.specs.Derivation.{literals, input, Literal, Derivation, numbered, numbered_all, pairs_with, maximum_index, own_bindings, joined, lookup, Use, uses}
use Rattle.derivation.proofs.Chains.{short_joined}
use Rattle.derivation.proofs.Known.{Under, Known, KnownLiteral, KnownRows, KnownEnvironment, known_literals, known_numbered, known_joined, known_variable, known_arguments, known_lookup, valid_stable, known_more}
use Rattle.derivation.proofs.Literals.{each_numbered_all, leb_false_lt}
use Rattle.derivation.proofs.Validity.{Valid, pairs_kept, lookup_in}
use Rattle.demands.specs.Demands.{InputsOf}
use Rattle.verdict.specs.Refusal.{most_literals, most_index}
use Rattle.verdict.specs.State.{arities, State, Window, with_symbol, with_row, with_clause, with_window, entry, rows_of, derivations, arity_of, clause_of, row_of}
use Rattle.verdict.specs.Step.{atoms, unify_resolve, unify_factor}
use Rattle.verdict.specs.Tables.{bindings_of}
use Rattle.demands.proofs.Inversions.{not_equal, entry_more, entry_each}

abbrev pub ChainsEnd : List Row → ℕ → Environment → Type 0
ChainsEnd ws h ρ = Short (λ r. r < length ws) (row_at ws) h ρ

pub record InOrder (ws : List Row) (h : ℕ) (c : Derivation) : Type 0 where
  pub valid : Valid (row_at ws) c
  pub known : KnownRows (Under (length ws)) c
  pub chains : ChainsEnd ws h (lookup c)
  pub literals_fit : length (literals c) ≤ most_literals
  pub index_fits : maximum_index c ≤ most_index

-- After at most n records.
pub record StateOk (n : ℕ) (S : State) : Type 0 where
  pub rows_ok : RowsOk (arity_of S) (rows_of S)
  pub few : length (arities S) ≤ n
  pub total_ok : S.total ≡ bindings_of (derivations S)
  pub held_ok : S.total ≤ most_bindings
  pub clauses_ok : Each (InOrder (rows_of S) S.total) (derivations S)
  pub inputs_ok : Each (λ (c : Derivation). InputsOf (derivations S) (uses c)) (derivations S)

-- The limits leave room for what the proofs need.
links_enough : most_bindings ≤ most_links
unfolding most_bindings most_links
links_enough = lit≤ tt

pub literals_enough : 7 ≤ most_literals
unfolding most_literals
literals_enough = lit≤ tt

pub index_enough : 1 ≤ most_index
unfolding most_index
index_enough = lit≤ tt

-- Inputs stay inputs while clauses are added.
inputs_more : (cs ds : List Derivation) → ((i : ℕ) (c : Derivation) → entry cs i ≡ some c → entry ds i ≡ some c) → (us : List Use) → InputsOf cs us → InputsOf ds us
inputs_more cs ds f [] h = tt
inputs_more cs ds f (u ∷ us) h = (f u.0 (input u.0 u.1) h.0, inputs_more cs ds f us h.1)

pub inputs_append : (cs : List Derivation) (us vs : List Use) → InputsOf cs us → InputsOf cs vs → InputsOf cs (us ++ vs)
inputs_append cs [] vs h k = k
inputs_append cs (u ∷ us) vs h k = (h.0, inputs_append cs us vs h.1 k)

pub inputs_kept : (c : Derivation) (cs : List Derivation) (us : List Use) → InputsOf cs us → InputsOf (c ∷ cs) us
inputs_kept c cs us h = inputs_more cs (c ∷ cs) (λ j d q. entry_more c cs j d q) us h

rows_more : (ar ar' : ℕ → Option ℕ) → ((s k : ℕ) → ar s ≡ some k → ar' s ≡ some k) → (ws : List Row) → RowsOk ar ws → RowsOk ar' ws
rows_more ar ar' f [] h = tt
rows_more ar ar' f (variable v ∷ ws) h = (h.0, rows_more ar ar' f ws h.1)
rows_more ar ar' f (application s xs ∷ ws) h = ((f s (length xs) h.0.0, h.0.1), rows_more ar ar' f ws h.1)

-- A new row makes no chain longer.
chains_more : (ar : ℕ → Option ℕ) (w : Row) (ws : List Row) → RowOk ar ws w → (h : ℕ) (ρ : Environment) → KnownEnvironment (Under (length ws)) ρ → ChainsEnd ws h ρ → ChainsEnd (w ∷ ws) h ρ
chains_more ar w ws R h ρ κ c e l = try (eqb e.0 (length ws)) refl
  where
    free : e.0 ≡ length ws → (o : Option Expression) → ρ e ≡ o → o ≡ none
    free p none q = refl
    free p (some d) q = let z = (κ e d q).0 in absurd (omega arith)

    new : e.0 ≡ length ws → (w : Row) → (row : ℕ → Row) → row e.0 ≡ w → Ends (follow row h ρ e)
    new p (variable v) row q = rw (follow_unb row h ρ v e q (free p (ρ e) refl)) tt
    new p (application s xs) row q = rw (follow_appl row h ρ s xs e q) tt

    try : (b : Bool) → eqb e.0 (length ws) ≡ b → Ends (follow (row_at (w ∷ ws)) h ρ e)
    try true q = new (eqb→eq e.0 (length ws) (to_t (eqb e.0 (length ws)) q)) w (row_at (w ∷ ws)) (rw q)
    try false q =
        let m : ¬ (e.0 ≡ length ws) = not_equal e.0 (length ws) (rw q) in
        let k : e.0 < length ws = omega arith in
        subst Ends (follow_agree (Known (Under (length ws))) (Known (Under (length ws))) (row_at ws) (row_at (w ∷ ws)) (λ d z. rw (eqb_below d.0 (length ws) z)) h ρ κ e k) (c e k)

pub no_chains : (ws : List Row) (h : ℕ) (ρ : Environment) → ((x : Variable) → ρ x ≡ none) → ChainsEnd ws h ρ
no_chains ws h ρ f = short_le (λ r. r < length ws) (row_at ws) 0 h ρ (omega arith) (λ e l. try e (row_at ws e.0))
  where
    try : (e : Expression) (w : Row) → Ends (view_row w ρ e)
    try e (variable v) = rw (f e) tt
    try e (application s xs) = tt

order_more : (ar : ℕ → Option ℕ) (w : Row) (ws : List Row) → RowsOk ar ws → RowOk ar ws w → (h : ℕ) (c : Derivation) → InOrder ws h c → InOrder (w ∷ ws) h c
order_more ar w ws R r h c k = record {
  valid = valid_stable (Under (length ws)) (row_at ws) (row_at (w ∷ ws)) (λ r l. rw (eqb_below r (length ws) l)) below c k.known k.valid;
  known = known_more (Under (length ws)) (Under (suc (length ws))) (λ r l. omega arith) c k.known;
  chains = chains_more ar w ws r h (lookup c) (known_lookup (Under (length ws)) (row_at ws) (row_at ws) (λ r l. refl) below c k.valid k.known) k.chains;
  literals_fit = k.literals_fit;
  index_fits = k.index_fits;
}
  where
    below : (r s : ℕ) (xs : List ℕ) → row_at ws r ≡ application s xs → r < length ws → Below (length ws) xs
    below r s xs q l = rw q at (row_below ar ws R r)

order_held : (ws : List Row) (h h' : ℕ) → h ≤ h' → (c : Derivation) → InOrder ws h c → InOrder ws h' c
order_held ws h h' l c k = record { valid = k.valid; known = k.known; chains = short_le (λ r. r < length ws) (row_at ws) h h' (lookup c) l k.chains; literals_fit = k.literals_fit; index_fits = k.index_fits }

module _ (n : ℕ) (S : State) (H : StateOk n S) where
  abbrev ws : List Row
  ws = rows_of S

  abbrev row : ℕ → Row
  row = row_of S

  pub below : (r s : ℕ) (xs : List ℕ) → row_of S r ≡ application s xs → r < length (rows_of S) → Below (length (rows_of S)) xs
  below r s xs q l = rw q at (row_below (arity_of S) ws H.rows_ok r)

  pub window_added : (w : Window) → StateOk (suc n) (with_window S w)
  window_added w = record { rows_ok = H.rows_ok; few = let z = H.few in omega arith; total_ok = H.total_ok; held_ok = H.held_ok; clauses_ok = H.clauses_ok; inputs_ok = H.inputs_ok }

  pub symbol_added : (k a : ℕ) → StateOk (suc n) (with_symbol S k a)
  symbol_added k a = record {
    rows_ok = rows_more (arity_of S) (arity_of (with_symbol S k a)) (λ s j q. entry_more a (arities S) s j q) ws H.rows_ok;
    few = let z = H.few in omega arith;
    total_ok = H.total_ok;
    held_ok = H.held_ok;
    clauses_ok = H.clauses_ok;
    inputs_ok = H.inputs_ok;
  }

  pub row_added : (k : ℕ) (w : Row) → RowOk (arity_of S) ws w → StateOk (suc n) (with_row S k w)
  row_added k w R = record {
    rows_ok = (R, H.rows_ok);
    few = let z = H.few in omega arith;
    total_ok = H.total_ok;
    held_ok = H.held_ok;
    clauses_ok = each_more (InOrder ws S.total) (InOrder (w ∷ ws) S.total) (λ c h. order_more (arity_of S) w ws H.rows_ok R S.total c h) (derivations S) H.clauses_ok;
    inputs_ok = H.inputs_ok;
  }

  pub clause_entered : (k : ℕ) (c : Derivation) → S.total + length (own_bindings c) ≤ most_bindings → InOrder ws (S.total + length (own_bindings c)) c → InputsOf (c ∷ derivations S) (uses c) → StateOk (suc n) (with_clause S k c)
  clause_entered k c l o i = record {
    rows_ok = H.rows_ok;
    few = let z = H.few in omega arith;
    total_ok = ap (λ (x : ℕ). x + length (own_bindings c)) H.total_ok;
    held_ok = l;
    clauses_ok = (o, each_more (InOrder ws S.total) (InOrder ws (S.total + length (own_bindings c))) (λ d h. order_held ws S.total (S.total + length (own_bindings c)) (omega arith) d h) (derivations S) H.clauses_ok);
    inputs_ok = (i, each_more (λ (d : Derivation). InputsOf (derivations S) (uses d)) (λ (d : Derivation). InputsOf (c ∷ derivations S) (uses d)) (λ d h. inputs_kept c (derivations S) (uses d) h) (derivations S) H.inputs_ok);
  }

  pub order_of : (i : ℕ) (c : Derivation) → clause_of S i ≡ some c → InOrder (rows_of S) S.total c
  order_of i c q = entry_each (InOrder ws S.total) (derivations S) H.clauses_ok i c q

  pub inputs_of : (i : ℕ) (c : Derivation) → clause_of S i ≡ some c → InputsOf (derivations S) (uses c)
  inputs_of i c q = entry_each (λ (c : Derivation). InputsOf (derivations S) (uses c)) (derivations S) H.inputs_ok i c q

  pub known_of : (c : Derivation) → InOrder (rows_of S) S.total c → KnownEnvironment (Under (length (rows_of S))) (lookup c)
  known_of c o = known_lookup (Under (length ws)) row row (λ r l. refl) below c o.valid o.known

  pub held_links : S.total ≤ most_links
  held_links = omega (arith, H.held_ok, links_enough)

  -- Unification over this state never loses its way, and what it adds keeps chains short.
  pub room : (bs : List Binding) → no_room S.total bs ≡ false → S.total + length bs < most_links
  room bs q = omega (arith, leb_false_lt most_bindings (S.total + length bs) q, links_enough)

  abbrev pub ChainsAfter : Environment → Outcome → Type 0
  ChainsAfter base o = ChainEnd (λ r. r < length (rows_of S)) (Known (Under (length (rows_of S)))) (row_of S) (known_variable (Under (length (rows_of S))) (row_of S) (row_of S) (λ r l. refl) below) (known_arguments (Under (length (rows_of S))) (row_of S) (row_of S) (λ r l. refl) below) most_links (no_room S.total) base S.total room o

  unify_chains : (base : Environment) (ps : List Pair) → ChainsEnd ws S.total base → KnownEnvironment (Under (length ws)) base → KeptPairs (Known (Under (length ws))) (Known (Under (length ws))) ps → ChainsAfter base (unify row S.total base ps)
  unify_chains base ps c κ a =
      chain_run (λ r. r < length ws) (Known (Under (length ws))) row (known_variable (Under (length ws)) row row (λ r l. refl) below) (known_arguments (Under (length ws)) row row (λ r l. refl) below) most_links (no_room S.total) base S.total room most_work (unifying [] ps) (κ, a)
      (rw add-zero (c, omega (arith, H.held_ok, links_enough)))

  pub resolve_chains : (x : Derivation × Literal) (y : Derivation × List Literal) → InOrder (rows_of S) S.total x.0 → InOrder (rows_of S) S.total y.0 → (a : ℕ) (ns : List ℕ) → numbered (literals x.0) a ≡ some x.1 → numbered_all (literals y.0) ns ≡ some y.1
      → ChainsAfter (joined (maximum_index x.0) (lookup x.0) (lookup y.0)) (unify_resolve S x y)
  resolve_chains x y X Y a ns p q =
      unify_chains (joined (maximum_index x.0) (lookup x.0) (lookup y.0)) (pairs_with (maximum_index x.0) x.1.1 (atoms y.1))
      (short_joined (λ r. r < length ws) row (maximum_index x.0) (maximum_index y.0) (lookup x.0) (lookup y.0) (lookup_in row x.0 X.valid) (lookup_in row y.0 Y.valid) S.total X.chains Y.chains)
      (known_joined (Under (length ws)) (maximum_index x.0) (lookup x.0) (lookup y.0) (known_of x.0 X) (known_of y.0 Y))
      (pairs_kept (Known (Under (length ws))) (Known (Under (length ws))) (maximum_index x.0) x.1.1 (atoms y.1) (known_numbered (Under (length ws)) x.0 X.known a x.1 p)
      (each_map (KnownLiteral (Under (length ws))) (λ (d : Expression). d.0 < length ws) (λ l. l.1) (λ l k. k) y.1 (each_numbered_all (KnownLiteral (Under (length ws))) (literals y.0) ns y.1 q (known_literals (Under (length ws)) y.0 Y.known))))

  pub factor_chains : (x y : Derivation × Literal) → InOrder (rows_of S) S.total x.0 → (a b : ℕ) → numbered (literals x.0) a ≡ some x.1 → numbered (literals x.0) b ≡ some y.1 → ChainsAfter (lookup x.0) (unify_factor S x y)
  factor_chains x y X a b p q =
      unify_chains (lookup x.0) ((x.1.1, y.1.1) ∷ []) X.chains (known_of x.0 X)
      (known_numbered (Under (length ws)) x.0 X.known a x.1 p, known_numbered (Under (length ws)) x.0 X.known b y.1 q, tt)
