-- What a trimmed file leaves, clause for clause: indices, literals, instances and days as they were, and the accepted clause is the last and the lowest empty one.
use mathlib.Core.Path.{◌≡◌, refl, sym, ap, ap₂, ◌∙◌, subst}
use mathlib.Core.Bool.{Bool, true, false, ◌&&◌}
use mathlib.Core.Option.{Option, none, some}
use mathlib.Core.List.{List, [], ◌∷◌, map}
use Prim.Native.Nat.{ℕ, zero, suc, ◌+◌, ◌≤◌, ◌<◌}
use native.Mathlib.Omega.{arith}
use lib.Dec.{eqb}
use lib.ListN.{length, length-map}
use Rattle.record.specs.Record.{pick}
use Rattle.unification.specs.Row.{variable, Row, application, term_at}
use Rattle.unification.proofs.Lists.{Each}
use Rattle.unification.proofs.Rows.{row_there}
use Rattle.unification.proofs.Tests.{some_injective}
use Rattle.derivation.specs.Derivation.{literals, input, Literal, Derivation, clause_number, Use, uses}
use Rattle.derivation.specs.Ground.{instances, value_in}
use Rattle.renumbering.proofs.Inside.{Renumbers, RenumbersTerms}
use Rattle.renumbering.specs.Renumbering.{Renumbering, literal_with_symbols}
use Rattle.renumbering.proofs.Renumbered.{renumbered_row, renumbered_literal, renumbered_derivation}
use Rattle.renumbering.proofs.Derivations.{maximum_index_renumbered, literals_renumbered, renumbered_use, uses_renumbered}
use Rattle.renumbering.proofs.Instances.{instances_renumbered}
use Rattle.renumbering.proofs.WrittenOut.{rows_named, written_named}
use Rattle.verdict.specs.Force.{window_of, within, all_in_force, uses_in_force}
use Rattle.verdict.specs.State.{State, Window, entry, arities, arity_of, rows_of, row_of, term_of, derivations, clause_of, next_clause}
use Rattle.verdict.specs.Text.{variable_number}
use Rattle.verdict.specs.Verdict.{first_empty}
use Rattle.demands.proofs.Acceptance.{first_lowest, some_first}
use Rattle.demands.proofs.Inversions.{entry_below, entry_some}
use Rattle.demands.proofs.RangeTests.{equal, unequal}
use Rattle.demands.proofs.Sources.{number_of}
use Rattle.demands.proofs.Standing.{StateOk}
use Rattle.trimming.specs.Kept.{Kept, kept_for, clause_in}
use Rattle.trimming.specs.Promised.{SameClause}
use Rattle.trimming.specs.Trimming.{kept_below, closed_up}
use Rattle.trimmed.proofs.Closed.{KeptClosed}
use Rattle.trimmed.proofs.Grown.{grown_same}
use Rattle.trimmed.proofs.Keeping.{keeping_entry, below_next, below_onto}
use Rattle.trimmed.proofs.KeptLaws.{Ordered, kept_closed, kept_numbers, kept_literals_there, symbol_kept_for}
use Rattle.trimmed.proofs.Reaching.{one_each}
use Rattle.trimmed.proofs.Related.{RowKept, SymbolKept, renumbered_window, Trims, row_number, renumbers, next_number}
use Rattle.trimmed.proofs.TrimmedTerms.{terms_kept, variables_have}
use Rattle.trimmed.proofs.Within.{itself', within_in, used_input}

-- Where none is kept above a, all that are kept are counted just after it.
pub none_above : (kept : ℕ → Bool) (a : ℕ) → kept a ≡ true → ((m : ℕ) → kept m ≡ true → m ≤ a) → (n : ℕ) → a < n → kept_below kept n ≡ suc (kept_below kept a)
none_above kept a k h zero l = absurd (omega arith)
none_above kept a k h (suc n) l = try (eqb a n) refl (λ m. none_above kept a k h n m)
  where
    gone : (b : Bool) → kept n ≡ b → a < n → kept n ≡ false
    gone true q m = let z = h n q in absurd (omega arith)
    gone false q m = q

    try : (b : Bool) → eqb a n ≡ b → (a < n → kept_below kept n ≡ suc (kept_below kept a)) → kept_below kept (suc n) ≡ suc (kept_below kept a)
    try true e ih = let z : a ≡ n = equal a n e in ap (λ (i : ℕ). kept_below kept (suc i)) (sym z) ∙ below_next kept a k
    try false e ih =
        let d : ¬ (a ≡ n) = unequal a n e in
        let m : a < n = omega arith in
        let z : kept_below kept (suc n) ≡ kept_below kept n = ap (λ (b : Bool). pick b 1 0 + kept_below kept n) (gone (kept n) refl m) ∙ omega arith in
        z ∙ ih m

module _ (S T : State) (O : Ordered S) (ok : StateOk 4096 S) (a : ℕ) (c : Derivation) (is_clause : clause_of S a ≡ some c) (R : Trims S (kept_for S c) S T []) where
  abbrev K : Kept
  K = kept_for S c

  abbrev N : Renumbering
  N = closed_up S K

  C : KeptClosed S (kept_for S c)
  C = kept_closed S O ok a c is_clause

  own_number_lem : clause_number c ≡ a
  own_number_lem = number_of (derivations S) O.sourced a c is_clause

  pub accepted_kept : clause_in c a ≡ true
  accepted_kept = subst (λ (n : ℕ). clause_in c n ≡ true) own_number_lem (within_in c c itself')

  pub none_later_lem : (m : ℕ) → clause_in c m ≡ true → m ≤ a
  none_later_lem m h = omega (arith, kept_numbers S O ok a c is_clause m h, own_number_lem)

  -- ── Its last clause ──
  pub clause_count : length T.clauses ≡ suc (N.clause a)
  clause_count =
      sym (length-map T.clauses (λ (d : ℕ × Derivation). d.1)) ∙ next_number C (grown_same S) O.shared R
      ∙ none_above (clause_in c) a accepted_kept none_later_lem (next_clause S) (entry_below (derivations S) a c is_clause)

  -- ── Clauses ──
  pub clause_left : (m : ℕ) (d : Derivation) → clause_in c m ≡ true → clause_of S m ≡ some d → clause_of T (N.clause m) ≡ some (renumbered_derivation N d)
  clause_left m d h q = ap (λ (ds : List Derivation). entry ds (kept_below (clause_in c) m)) R.clauses ∙ keeping_entry (clause_in c) (renumbered_derivation N) (derivations S) m d h q

  pub clause_from : (i : ℕ) → i < length T.clauses → (m : ℕ) × (clause_in c m ≡ true) × (m < next_clause S) × (N.clause m ≡ i)
  clause_from i l =
      below_onto (clause_in c) (next_clause S) i (omega (arith, l, length-map T.clauses (λ (d : ℕ × Derivation). d.1), next_number C (grown_same S) O.shared R))

  -- ── Rows and their terms ──
  abbrev Inside : ℕ → Type 0
  Inside = RowKept S K S

  pub rows_left_lem : Renumbers N (RowKept S (kept_for S c) S) (SymbolKept S (kept_for S c)) (row_of S) (row_of T)
  rows_left_lem = renumbers C (grown_same S) O.shared R

  number : (r : ℕ) → K.row r ≡ true → N.row r ≡ kept_below K.row r
  number = row_number C (grown_same S) O.shared R

  pub terms_left : RenumbersTerms N (RowKept S (kept_for S c) S) (term_of S) (term_of T)
  terms_left = record {
    terms = λ r i. ap₂ term_at R.rows (number r i.0) ∙ terms_kept N K.row number (rows_of S) O.shared.rows_shared (λ r s xs l k q. C.arguments r s xs k q) r i.0 i.1;
    variables = λ r i. variables_have Inside (rows_of S) O.shared.rows_shared (λ r s xs l p q. rows_left_lem.arguments r s xs p q) r i i.1;
  }

  same_number : (w : Row) → variable_number (renumbered_row N w) ≡ variable_number w
  same_number (variable v) = refl
  same_number (application s xs) = refl

  pub same_clause_lem : (m : ℕ) (d : Derivation) → clause_in c m ≡ true → clause_of S m ≡ some d → SameClause N.symbol S T d (renumbered_derivation N d)
  same_clause_lem m d h q = record {
    index = maximum_index_renumbered N d;
    literals = written_named N Inside (term_of S) (term_of T) terms_left rows_left_lem.one_row d (R.inside m d h q) (λ r. variable_number (row_of S r)) (λ r. variable_number (row_of T r)) (rows_named N Inside (SymbolKept S K) (row_of S) (row_of T) rows_left_lem variable_number same_number);
  }

  pub same_instances_lem : (e : Derivation) → clause_of T (N.clause a) ≡ some e → instances (term_of T) (value_in (term_of T) e) 1 (uses e) ≡ map (map (literal_with_symbols N.symbol)) (instances (term_of S) (value_in (term_of S) c) 1 (uses c))
  same_instances_lem e q =
      subst (λ (d : Derivation). instances (term_of T) (value_in (term_of T) d) 1 (uses d) ≡ map (map (literal_with_symbols N.symbol)) (instances (term_of S) (value_in (term_of S) c) 1 (uses c))) (some_injective (sym (clause_left a c accepted_kept is_clause) ∙ q))
      (instances_renumbered N Inside (term_of S) (term_of T) terms_left rows_left_lem.one_row c (R.inside a c accepted_kept is_clause) 1)

  -- ── Symbols ──
  pub same_arity : (s : ℕ) → K.symbol s ≡ true → arity_of T (N.symbol s) ≡ arity_of S s
  same_arity s h =
      let f = symbol_kept_for S O ok a c is_clause s h in
      let r = row_there (arity_of S) (rows_of S) ok.rows_ok f.row s f.arguments f.is_there f.is_row in
      ap (λ (xs : List ℕ). entry xs (kept_below K.symbol s)) R.symbols ∙ keeping_entry K.symbol (λ (x : ℕ). x) (arities S) s (length f.arguments) h r ∙ sym r

  -- ── Days ──
  same_days : (day : ℕ) (o : Option Window) → within day (renumbered_window S K o) ≡ within day o
  same_days day none = refl
  same_days day (some w) = refl

  same_force : (day : ℕ) (us : List Use) → Each (λ (u : Use). clause_in c u.0 ≡ true) us → all_in_force T.windows day (map (renumbered_use N) us) ≡ all_in_force S.windows day us
  same_force day [] h = refl
  same_force day (u ∷ us) h = ap₂ ◌&&◌ (ap (within day) (R.windows u.0 h.0) ∙ same_days day (window_of S.windows u.0)) (same_force day us h.1)

  pub in_force_lem : (day : ℕ) → uses_in_force T day (renumbered_derivation N c) ≡ uses_in_force S day c
  in_force_lem day =
      ap (all_in_force T.windows day) (uses_renumbered N c)
      ∙ same_force day (uses c) (one_each (λ (u : Use). clause_in c u.0 ≡ true) (uses c) (λ u o. within_in c (input u.0 u.1) (used_input c u o)))

  -- ── Accepted with its last clause ──
  module _ (day : ℕ) (first : first_empty (uses_in_force S day) (derivations S) ≡ some a) where
    empty_there : literals (renumbered_derivation N c) ≡ []
    empty_there =
        let L = first_lowest (uses_in_force S day) (derivations S) a first in
        let e : c ≡ L.clause = some_injective (sym is_clause ∙ L.is_clause) in
        literals_renumbered N c ∙ ap (map (renumbered_literal N)) (ap literals e ∙ L.empty)

    in_force_there : uses_in_force T day (renumbered_derivation N c) ≡ true
    in_force_there =
        let L = first_lowest (uses_in_force S day) (derivations S) a first in
        let e : c ≡ L.clause = some_injective (sym is_clause ∙ L.is_clause) in
        in_force_lem day ∙ ap (uses_in_force S day) e ∙ L.passes

    no_literals : (ls : List Literal) → map (renumbered_literal N) ls ≡ [] → ls ≡ []
    no_literals [] q = refl
    no_literals (l ∷ ls) q = let z : ◌≡◌ {A = ℕ} 1 0 = ap begun q in absurd (omega arith)
      where
        begun : List Literal → ℕ
        begun [] = 0
        begun (x ∷ xs) = 1

    pub first_there : first_empty (uses_in_force T day) (derivations T) ≡ some (N.clause a)
    first_there =
        let s = some_first (uses_in_force T day) (derivations T) (N.clause a) (renumbered_derivation N c) (clause_left a c accepted_kept is_clause) in_force_there empty_there in
        let L = first_lowest (uses_in_force T day) (derivations T) s.0 s.1 in
        s.1 ∙ ap some (is_accepted s.0 L.clause L.is_clause L.empty)
      where
        is_accepted : (i : ℕ) (e : Derivation) → clause_of T i ≡ some e → literals e ≡ [] → i ≡ N.clause a
        is_accepted i e q z =
            let l : i < length T.clauses = omega (arith, entry_below (derivations T) i e q, length-map T.clauses (λ (d : ℕ × Derivation). d.1)) in
            let f = clause_from i l in
            let d = entry_some (derivations S) f.0 f.2 in
            let same : renumbered_derivation N d.0 ≡ e = some_injective (sym (clause_left f.0 d.0 f.1 d.1) ∙ ap (clause_of T) f.3 ∙ q) in
            let none : literals d.0 ≡ [] = no_literals (literals d.0) (sym (literals_renumbered N d.0) ∙ ap literals same ∙ z) in
            try f.0 f.1 f.3 d.0 d.1 none (eqb f.0 (clause_number c)) refl
          where
            try : (m : ℕ) → clause_in c m ≡ true → N.clause m ≡ i → (d : Derivation) → clause_of S m ≡ some d → literals d ≡ [] → (b : Bool) → eqb m (clause_number c) ≡ b → i ≡ N.clause a
            try m k p d r n true e = sym p ∙ ap N.clause (equal m (clause_number c) e ∙ own_number_lem)
            try m k p d r n false e = absurd (kept_literals_there S O ok a c is_clause m d k r (unequal m (clause_number c) e) n)
