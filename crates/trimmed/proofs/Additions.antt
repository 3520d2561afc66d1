-- What a record adds to the state of a file, kept or not, beside the state of the kept records.
use mathlib.Core.Path.{◌≡◌, refl, sym, ap, ◌∙◌, subst}
use mathlib.Core.Bool.{Bool, true, false}
use mathlib.Core.Option.{none, some}
use mathlib.Core.List.{List, ◌∷◌}
use Prim.Native.Nat.{ℕ}
use native.Mathlib.Omega.{arith}
use lib.Dec.{eqb}
use lib.ListN.{length, length-map}
use Rattle.record.specs.Record.{pick, Record}
use Rattle.unification.specs.Row.{Row}
use Rattle.unification.proofs.Lists.{each_more}
use Rattle.unification.proofs.Tests.{true_not_false, some_injective}
use Rattle.derivation.specs.Derivation.{input, Derivation, resolve, factor, own_bindings}
use Rattle.renumbering.proofs.Inside.{InsideDerivation, InsideBinding, InsideLiteral}
use Rattle.renumbering.specs.Renumbering.{Renumbering}
use Rattle.renumbering.proofs.Renumbered.{renumbered_row, renumbered_binding, renumbered_derivation}
use Rattle.renumbering.proofs.Derivations.{own_bindings_renumbered}
use Rattle.verdict.specs.Force.{window_of}
use Rattle.verdict.specs.State.{State, with_symbol, with_row, with_clause, entry, arities, rows_of, derivations, clause_of}
use Rattle.demands.proofs.RangeTests.{equal}
use Rattle.trimming.specs.Kept.{Kept}
use Rattle.trimming.specs.Trimming.{kept_below, closed_up, dated_in}
use Rattle.trimmed.proofs.Keeping.{keeping_new, keeping_not}
use Rattle.trimmed.proofs.Related.{RowKept, renumbered_window, Trims}

-- More rows inside.
pub inside_more : (I J : ℕ → Type 0) → ((r : ℕ) → I r → J r) → (d : Derivation) → InsideDerivation I d → InsideDerivation J d
inside_more I J f (input number ls) h = each_more (InsideLiteral I) (InsideLiteral J) (λ l k. f l.1 k) ls h
inside_more I J f (resolve number l a r ns bs) h = (inside_more I J f l h.0, inside_more I J f r h.1, each_more (InsideBinding I) (InsideBinding J) (λ b k. (f b.0.0 k.0, f b.1.0 k.1)) bs h.2)
inside_more I J f (factor number c a b bs) h = (inside_more I J f c h.0, each_more (InsideBinding I) (InsideBinding J) (λ b k. (f b.0.0 k.0, f b.1.0 k.1)) bs h.1)

module _ {S : State} {K : Kept} {A B : State} {r : Record} {rs : List Record} (R : Trims S K A B (r ∷ rs)) (same : (n : ℕ) → dated_in (r ∷ rs) n ≡ dated_in rs n) where
  abbrev N : Renumbering
  N = closed_up S K

  windows_on : (n : ℕ) → K.clause n ≡ true → window_of B.windows (kept_below K.clause n) ≡ renumbered_window S K (pick (dated_in rs n) none (window_of A.windows n))
  windows_on n k = R.windows n k ∙ ap (λ (b : Bool). renumbered_window S K (pick b none (window_of A.windows n))) (same n)

  -- A symbol.
  pub symbol_kept : (k j a : ℕ) → K.symbol (length (arities A)) ≡ true → Trims S K (with_symbol A k a) (with_symbol B j a) rs
  symbol_kept k j a h = record {
    symbols = ap (λ (xs : List ℕ). a ∷ xs) R.symbols ∙ sym (keeping_new K.symbol (λ (x : ℕ). x) a (arities A) h);
    rows = R.rows;
    clauses = R.clauses;
    total = R.total;
    inside = R.inside;
    windows = windows_on;
  }

  pub symbol_goes : (k a : ℕ) → K.symbol (length (arities A)) ≡ false → Trims S K (with_symbol A k a) B rs
  symbol_goes k a h = record { symbols = R.symbols ∙ sym (keeping_not K.symbol (λ (x : ℕ). x) a (arities A) h); rows = R.rows; clauses = R.clauses; total = R.total; inside = R.inside; windows = windows_on }

  -- A row.
  inside_row : (k : ℕ) (w : Row) (n : ℕ) (d : Derivation) → K.clause n ≡ true → clause_of A n ≡ some d → InsideDerivation (RowKept S K (with_row A k w)) d
  inside_row k w n d h q = inside_more (RowKept S K A) (RowKept S K (with_row A k w)) (λ i x. (x.0, let l = x.1 in omega arith)) d (R.inside n d h q)

  pub row_kept : (k j : ℕ) (w : Row) → K.row (length (rows_of A)) ≡ true → Trims S K (with_row A k w) (with_row B j (renumbered_row N w)) rs
  row_kept k j w h = record {
    symbols = R.symbols;
    rows = ap (λ (ws : List Row). renumbered_row N w ∷ ws) R.rows ∙ sym (keeping_new K.row (renumbered_row N) w (rows_of A) h);
    clauses = R.clauses;
    total = R.total;
    inside = inside_row k w;
    windows = windows_on;
  }

  pub row_goes : (k : ℕ) (w : Row) → K.row (length (rows_of A)) ≡ false → Trims S K (with_row A k w) B rs
  row_goes k w h = record { symbols = R.symbols; rows = R.rows ∙ sym (keeping_not K.row (renumbered_row N) w (rows_of A) h); clauses = R.clauses; total = R.total; inside = inside_row k w; windows = windows_on }

  -- A clause.
  pub clause_kept_lem : (k j : ℕ) (c : Derivation) → K.clause (length (derivations A)) ≡ true → InsideDerivation (RowKept S K A) c → Trims S K (with_clause A k c) (with_clause B j (renumbered_derivation N c)) rs
  clause_kept_lem k j c h i = record {
    symbols = R.symbols;
    rows = R.rows;
    clauses = ap (λ (ds : List Derivation). renumbered_derivation N c ∷ ds) R.clauses ∙ sym (keeping_new K.clause (renumbered_derivation N) c (derivations A) h);
    total = omega (arith, R.total, ap length (own_bindings_renumbered N c) ∙ length-map (own_bindings c) (renumbered_binding N));
    inside = λ n d k q. try n d k (eqb n (length (derivations A))) q;
    windows = windows_on;
  }
    where
      try : (n : ℕ) (d : Derivation) → K.clause n ≡ true → (b : Bool) → pick b (some c) (entry (derivations A) n) ≡ some d → InsideDerivation (RowKept S K A) d
      try n d k true q = subst (InsideDerivation (RowKept S K A)) (some_injective q) i
      try n d k false q = R.inside n d k q

  pub clause_goes : (k : ℕ) (c : Derivation) → K.clause (length (derivations A)) ≡ false → Trims S K (with_clause A k c) B rs
  clause_goes k c h = record {
    symbols = R.symbols;
    rows = R.rows;
    clauses = R.clauses ∙ sym (keeping_not K.clause (renumbered_derivation N) c (derivations A) h);
    total = let l = R.total in omega arith;
    inside = λ n d k q. try n d k (eqb n (length (derivations A))) refl q;
    windows = windows_on;
  }
    where
      try : (n : ℕ) (d : Derivation) → K.clause n ≡ true → (b : Bool) → eqb n (length (derivations A)) ≡ b → pick b (some c) (entry (derivations A) n) ≡ some d → InsideDerivation (RowKept S K A) d
      try n d k true e q = absurd (true_not_false k (ap K.clause (equal n (length (derivations A)) e) ∙ h))
      try n d k false e q = R.inside n d k q
