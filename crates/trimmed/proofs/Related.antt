-- The state of a file while it is read, and that of its kept records beside it: symbols, rows and clauses are the kept ones, renumbered.
use mathlib.Core.Path.{◌≡◌, refl, sym, ap, ap₂, ◌∙◌}
use mathlib.Core.Bool.{true}
use mathlib.Core.Option.{Option, none, some}
use mathlib.Core.List.{List, [], ◌∷◌, map}
use Prim.Native.Nat.{ℕ, ◌≤◌, ◌<◌}
use native.Mathlib.Omega.{arith}
use lib.ListN.{length}
use Rattle.record.specs.Record.{pick, Record}
use Rattle.unification.specs.Repeated.{IsEarliest}
use Rattle.unification.specs.Row.{variable, Row, application, row_at}
use Rattle.unification.proofs.Lists.{Each}
use Rattle.unification.proofs.Repeats.{earliest_itself, earliest_equal_lem}
use Rattle.derivation.specs.Derivation.{Derivation}
use Rattle.renumbering.proofs.Inside.{Renumbers, InsideDerivation}
use Rattle.renumbering.specs.Renumbering.{Renumbering}
use Rattle.renumbering.proofs.Renumbered.{renumbered_row, renumbered_derivation}
use Rattle.renumbering.proofs.Following.{InsideRow, row_inside}
use Rattle.verdict.specs.Force.{window_of}
use Rattle.verdict.specs.State.{State, Window, arities, rows_of, row_of, derivations, clause_of, next_clause, earliest_of}
use Rattle.demands.proofs.Shared.{Shared, shared_arguments}
use Rattle.trimming.specs.Kept.{Kept}
use Rattle.trimming.specs.Trimming.{kept_below, closed_up, dated_in}
use Rattle.trimmed.proofs.Closed.{KeptClosed}
use Rattle.trimmed.proofs.Grown.{Grown}
use Rattle.trimmed.proofs.Keeping.{keeping, keeping_length, keeping_row, below_less, below_one, below_onto}

module _ (S : State) (K : Kept) where
  abbrev pub RowKept : State → ℕ → Type 0
  RowKept A r = (K.row r ≡ true) × (r < length (rows_of A))

  abbrev pub SymbolKept : ℕ → Type 0
  SymbolKept s = K.symbol s ≡ true

  abbrev pub renumbered_window : Option Window → Option Window
  renumbered_window none = none
  renumbered_window (some w) = some (record { clause = kept_below K.clause w.clause; first = w.first; last = w.last })

  -- Before the records that come later. A window stands only if no later one supersedes it.
  pub record Trims (A B : State) (later : List Record) : Type 0 where
    pub symbols : arities B ≡ keeping K.symbol (λ (a : ℕ). a) (arities A)
    pub rows : rows_of B ≡ keeping K.row (renumbered_row (closed_up S K)) (rows_of A)
    pub clauses : derivations B ≡ keeping K.clause (renumbered_derivation (closed_up S K)) (derivations A)
    pub total : B.total ≤ A.total
    pub inside : (n : ℕ) (d : Derivation) → K.clause n ≡ true → clause_of A n ≡ some d → InsideDerivation (RowKept A) d
    pub windows : (n : ℕ) → K.clause n ≡ true → window_of B.windows (kept_below K.clause n) ≡ renumbered_window (pick (dated_in later n) none (window_of A.windows n))

abbrev begun : List ℕ → ℕ
begun [] = 0
begun (x ∷ xs) = 1

abbrev sort : Row → ℕ
sort (variable v) = 0
sort (application s xs) = 1

-- Rows that are equal after a renumbering that is one to one on them are equal.
module _ {N : Renumbering} {I P : ℕ → Type 0} {row row' : ℕ → Row} (R : Renumbers N I P row row') where
  one_list : (xs ys : List ℕ) → Each I xs → Each I ys → map N.row xs ≡ map N.row ys → xs ≡ ys
  one_list [] [] h k e = refl
  one_list [] (y ∷ ys) h k e = let z : ◌≡◌ {A = ℕ} 0 1 = ap begun e in absurd (omega arith)
  one_list (x ∷ xs) [] h k e = let z : ◌≡◌ {A = ℕ} 1 0 = ap begun e in absurd (omega arith)
  one_list (x ∷ xs) (y ∷ ys) h k e =
      let a : N.row x ≡ N.row y = cc in
      let b : map N.row xs ≡ map N.row ys = cc in
      ap₂ (λ (n : ℕ) (l : List ℕ). n ∷ l) (R.one_row x y h.0 k.0 a) (one_list xs ys h.1 k.1 b)

  pub one_row_lem : (w u : Row) → InsideRow I P w → InsideRow I P u → renumbered_row N w ≡ renumbered_row N u → w ≡ u
  one_row_lem (variable v) (variable x) h k e = let z : v ≡ x = cc in ap variable z
  one_row_lem (variable v) (application t ys) h k e = let z : ◌≡◌ {A = ℕ} 0 1 = ap sort e in absurd (omega arith)
  one_row_lem (application s xs) (variable v) h k e = let z : ◌≡◌ {A = ℕ} 1 0 = ap sort e in absurd (omega arith)
  one_row_lem (application s xs) (application t ys) h k e =
      let a : N.symbol s ≡ N.symbol t = cc in
      let b : map N.row xs ≡ map N.row ys = cc in
      ap₂ application (R.one_symbol s t h.1 k.1 a) (one_list xs ys h.0 k.0 b)

module _ {S : State} {K : Kept} (C : KeptClosed S K) {A B : State} {later : List Record} (G : Grown A S) (H : Shared A) (R : Trims S K A B later) where
  abbrev N : Renumbering
  N = closed_up S K

  -- ── Rows ──
  pub row_number : (r : ℕ) → K.row r ≡ true → N.row r ≡ kept_below K.row r
  row_number r k = ap (kept_below K.row) (earliest_itself (rows_of S) r (C.earliest r k))

  pub renumbers : Renumbers N (RowKept S K A) (SymbolKept S K) (row_of A) (row_of B)
  renumbers = record {
    rows = λ r i. ap₂ row_at R.rows (row_number r i.0) ∙ keeping_row K.row (renumbered_row N) (rows_of A) r i.0 i.1;
    arguments = λ r s xs i q. arguments_kept xs (C.arguments r s xs i.0 (G.rows r i.1 ∙ q)) (shared_arguments (rows_of A) H.rows_shared r s xs q i.1);
    symbols = λ r s xs i q. C.symbols r s xs i.0 (G.rows r i.1 ∙ q);
    one_row = λ r q i j e. below_one K.row r q i.0 j.0 (sym (row_number r i.0) ∙ e ∙ row_number q j.0);
    one_symbol = λ s t i j e. below_one K.symbol s t i j e;
  }
    where
      arguments_kept : (xs : List ℕ) → Each (λ a. K.row a ≡ true) xs → Each (IsEarliest (rows_of A)) xs → Each (RowKept S K A) xs
      arguments_kept [] h k = tt
      arguments_kept (x ∷ xs) h k = ((h.0, k.0.there), arguments_kept xs h.1 k.1)

  pub row_count : length (rows_of B) ≡ kept_below K.row (length (rows_of A))
  row_count = ap length R.rows ∙ keeping_length K.row (renumbered_row N) (rows_of A)

  pub row_within : (r : ℕ) → RowKept S K A r → N.row r < length (rows_of B)
  row_within r i = omega (arith, row_number r i.0, row_count, below_less K.row r (length (rows_of A)) i.1 i.0)

  -- A kept row is an earliest one there too.
  earliest_there : (r : ℕ) → RowKept S K A r → IsEarliest (rows_of B) (N.row r)
  earliest_there r i = record { there = row_within r i; first = λ q l e. before q l e (below_onto K.row r q (omega (arith, l, row_number r i.0))) }
    where
      before : (q : ℕ) → q < N.row r → row_at (rows_of B) q ≡ row_at (rows_of B) (N.row r) → (m : ℕ) × (K.row m ≡ true) × (m < r) × (kept_below K.row m ≡ q) → ⊥
      before q l e x =
          let j : RowKept S K A x.0 = (x.1, let z = x.2 in let w = i.1 in omega arith) in
          let p : N.row x.0 ≡ q = row_number x.0 x.1 ∙ x.3 in
          let same : renumbered_row N (row_of A x.0) ≡ renumbered_row N (row_of A r) =
          sym (renumbers.rows x.0 j) ∙ ap (row_at (rows_of B)) p ∙ e ∙ renumbers.rows r i
          in
          let one : row_of A x.0 ≡ row_of A r = one_row_lem renumbers (row_of A x.0) (row_of A r) (row_inside renumbers x.0 j) (row_inside renumbers r i) same in
          (C.earliest r i.0).first x.0 x.2 (G.rows x.0 j.1 ∙ one ∙ sym (G.rows r i.1))

  -- A row that a record names has the number of the earliest equal one.
  pub named_number : (r : ℕ) → r < length (rows_of A) → K.row (earliest_of A r) ≡ true → N.row r ≡ N.row (earliest_of A r)
  named_number r l k = ap (kept_below K.row) (G.earliest r l) ∙ sym (row_number (earliest_of A r) k)

  pub named_kept : (r : ℕ) → r < length (rows_of A) → K.row (earliest_of A r) ≡ true → RowKept S K A (earliest_of A r)
  named_kept r l k = (k, (earliest_equal_lem (rows_of A) r l).earliest.there)

  pub earliest_renumbered : (r : ℕ) → r < length (rows_of A) → K.row (earliest_of A r) ≡ true → earliest_of B (N.row r) ≡ N.row (earliest_of A r)
  earliest_renumbered r l k =
      ap (earliest_of B) (named_number r l k) ∙ earliest_itself (rows_of B) (N.row (earliest_of A r)) (earliest_there (earliest_of A r) (named_kept r l k))

  -- ── Clauses ──
  pub next_number : next_clause B ≡ kept_below K.clause (next_clause A)
  next_number = ap length R.clauses ∙ keeping_length K.clause (renumbered_derivation N) (derivations A)
