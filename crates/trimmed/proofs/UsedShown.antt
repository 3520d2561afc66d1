-- What is kept is what is used, in the document's words: clauses, rows and symbols.
use mathlib.Core.Path.{◌≡◌, sym, ap, ◌∙◌, subst}
use mathlib.Core.Logic.{◌↔◌, ◌⊎◌, inl, inr}
use mathlib.Core.Bool.{true}
use mathlib.Core.Option.{some}
use Prim.Native.Nat.{ℕ, zero, suc, ◌+◌, ◌≤◌, ◌<◌}
use native.Mathlib.Omega.{arith}
use lib.ListN.{length}
use Rattle.record.specs.Record.{File}
use Rattle.derivation.specs.Derivation.{RowLiteral, Derivation, clause_number}
use Rattle.verdict.specs.State.{State, rows_of, derivations, clause_of}
use Rattle.verdict.specs.Verdict.{Stands}
use Rattle.demands.proofs.Reading.{stands_ok}
use Rattle.demands.proofs.Sources.{number_of}
use Rattle.demands.proofs.Standing.{StateOk}
use Rattle.trimming.specs.Kept.{kept_for}
use Rattle.trimming.specs.Used.{UsedClause, the_accepted, left_parent, right_parent, factored, UsedRow, literal_row, argument_row, UsedSymbol, symbol_of_row}
use Rattle.trimmed.proofs.Closed.{KeptClosed}
use Rattle.trimmed.proofs.KeptLaws.{Ordered, stands_ordered, Parent, left_parent as left_of, right_parent as right_of, factored_parent as factoredOf, ForChild, ForLiteral, kept_closed, clause_kept_for, row_kept_for, symbol_kept_for, kept_numbers}
use Rattle.trimmed.proofs.Reaching.{each_one, Argument}
use Rattle.trimmed.proofs.Within.{within_in, itself'}

module _ (S : State) (O : Ordered S) (ok : StateOk 4096 S) (n : ℕ) (c : Derivation) (at : clause_of S n ≡ some c) where
  closed : KeptClosed S (kept_for S c)
  closed = kept_closed S O ok n c at

  its_number : clause_number c ≡ n
  its_number = number_of (derivations S) O.sourced n c at

  -- ── What is used is kept ──
  pub clause_used_kept : (m : ℕ) → UsedClause S n m → (kept_for S c).clause m ≡ true
  clause_used_kept m the_accepted = ap (kept_for S c).clause (sym its_number) ∙ within_in c c itself'
  clause_used_kept m (left_parent {m = i} {number} {a} {l} {r} {ns} {bs} u e) = closed.lefts i number a l r ns bs (clause_used_kept i u) e
  clause_used_kept m (right_parent {m = i} {number} {a} {l} {r} {ns} {bs} u e) = closed.rights i number a l r ns bs (clause_used_kept i u) e
  clause_used_kept m (factored {m = i} {number} {a} {b} {d} {bs} u e) = closed.factored i number a b d bs (clause_used_kept i u) e

  pub row_used_kept : (q : ℕ) → UsedRow S n q → (kept_for S c).row q ≡ true
  row_used_kept q (literal_row {m} {number} {row} {ls} sign u e o) = each_one (λ (l : RowLiteral). (kept_for S c).row l.1 ≡ true) ls (closed.inputs m number ls (clause_used_kept m u) e) (sign, row) o
  row_used_kept q (argument_row {r} {s} {a} {xs} u e o) = each_one (λ (i : ℕ). (kept_for S c).row i ≡ true) xs (closed.arguments r s xs (row_used_kept r u) e) a o

  pub symbol_used_kept : (s : ℕ) → UsedSymbol S n s → (kept_for S c).symbol s ≡ true
  symbol_used_kept s (symbol_of_row {r} {s = t} {xs} u e) = closed.symbols r t xs (row_used_kept r u) e

  -- ── What is kept is used: from greater numbers down ──
  by_child : (child parent : Derivation) → UsedClause S n (clause_number child) → clause_of S (clause_number child) ≡ some child → Parent child parent → UsedClause S n (clause_number parent)
  by_child child parent u e left_of = left_parent u e
  by_child child parent u e right_of = right_parent u e
  by_child child parent u e factoredOf = factored u e

  clause_down : (f m : ℕ) → n < m + f → (kept_for S c).clause m ≡ true → UsedClause S n m
  clause_down zero m l h = absurd (let z = kept_numbers S O ok n c at m h in let e = its_number in omega arith)
  clause_down (suc f) m l h = try (clause_kept_for S O ok n c at m h) (clause_down f)
    where
      try : (m ≡ clause_number c) ⊎ ForChild S (kept_for S c) m → ((i : ℕ) → n < i + f → (kept_for S c).clause i ≡ true → UsedClause S n i) → UsedClause S n m
      try (inl e) ih = subst (UsedClause S n) (sym (e ∙ its_number)) the_accepted
      try (inr F) ih =
          let u = ih (clause_number F.child) (let z = F.is_later in omega arith) F.child_kept in
          subst (UsedClause S n) F.is_number (by_child F.child F.parent u F.child_stands F.is_parent)

  pub clause_kept_used : (m : ℕ) → (kept_for S c).clause m ≡ true → UsedClause S n m
  clause_kept_used m h = clause_down (suc n) m (omega arith) h

  row_down : (f q : ℕ) → length (rows_of S) ≤ q + f → (kept_for S c).row q ≡ true → UsedRow S n q
  row_down zero q l h = absurd (let z = (closed.earliest q h).there in omega arith)
  row_down (suc f) q l h = try (row_kept_for S O ok n c at q h) (row_down f)
    where
      try : ForLiteral S (kept_for S c) q ⊎ Argument (rows_of S) (kept_for S c).row q → ((i : ℕ) → length (rows_of S) ≤ i + f → (kept_for S c).row i ≡ true → UsedRow S n i) → UsedRow S n q
      try (inl F) ih = subst (UsedRow S n) F.is_row (literal_row F.literal.0 (clause_kept_used F.clause F.clause_kept) F.is_clause F.is_literal)
      try (inr A) ih = argument_row (ih A.row (let z = A.is_below in omega arith) A.is_reached) A.is_row A.is_argument

  pub row_kept_used : (q : ℕ) → (kept_for S c).row q ≡ true → UsedRow S n q
  row_kept_used q h = row_down (length (rows_of S)) q (omega arith) h

  pub symbol_kept_used : (s : ℕ) → (kept_for S c).symbol s ≡ true → UsedSymbol S n s
  symbol_kept_used s h = let A = symbol_kept_for S O ok n c at s h in symbol_of_row (row_kept_used A.row A.is_tested) A.is_row

-- ── In a file that stands ──
module _ (file : File) (S : State) (st : Stands file S) (n : ℕ) (c : Derivation) (at : clause_of S n ≡ some c) where
  pub used_clauses : (m : ℕ) → UsedClause S n m ↔ ((kept_for S c).clause m ≡ true)
  used_clauses m = (clause_used_kept S (stands_ordered file S st) (stands_ok file S st) n c at m, clause_kept_used S (stands_ordered file S st) (stands_ok file S st) n c at m)

  pub used_rows : (q : ℕ) → UsedRow S n q ↔ ((kept_for S c).row q ≡ true)
  used_rows q = (row_used_kept S (stands_ordered file S st) (stands_ok file S st) n c at q, row_kept_used S (stands_ordered file S st) (stands_ok file S st) n c at q)

  pub used_symbols : (s : ℕ) → UsedSymbol S n s ↔ ((kept_for S c).symbol s ≡ true)
  used_symbols s = (symbol_used_kept S (stands_ordered file S st) (stands_ok file S st) n c at s, symbol_kept_used S (stands_ordered file S st) (stands_ok file S st) n c at s)
