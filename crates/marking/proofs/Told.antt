-- What each record of a file that stands tells of the state that the file leaves: what it declares, and what it names, which earlier records declare.
use mathlib.Core.Path.{◌≡◌, refl, sym, ap, ◌∙◌, subst}
use mathlib.Core.Option.{some}
use mathlib.Core.List.{List, [], ◌∷◌, map}
use Prim.Native.Nat.{ℕ, ◌≤◌, ◌<◌}
use native.Mathlib.Omega.{arith}
use lib.ListN.{length, take, length-map}
use Rattle.record.specs.Record.{File, Record, record_at, records, otherKind, Kind, symbolKind, variableKind, applicationKind, inputKind, resolveKind, factorKind, severalKind, windowKind, field_a, field_c}
use Rattle.unification.specs.Environment.{Binding}
use Rattle.unification.specs.Repeated.{IsEarliest}
use Rattle.unification.specs.Row.{variable, Row, application, row_at}
use Rattle.unification.proofs.Lists.{Each, each_more, map_each}
use Rattle.unification.proofs.Repeats.{row_old, earliest_old, earliest_shorter}
use Rattle.derivation.specs.Derivation.{input, RowLiteral, input_literals, Derivation, resolve, factor, clause_number}
use Rattle.verdict.specs.Refusal.{kind_of_record, argument_rows}
use Rattle.verdict.specs.State.{State, with_symbol, with_row, with_clause, entry, rows_of, derivations, clause_of, earliest_of}
use Rattle.verdict.specs.Step.{new_literals}
use Rattle.demands.proofs.Inversions.{entry_below, entry_more}
use Rattle.trimming.specs.Trimming.{Next, first_numbers, next_after}

-- ── Numbers ──

-- The records of the symbols, rows and clauses of a state, the newest first.
abbrev pub symbol_records : State → List ℕ
symbol_records S = map (λ (s : ℕ × ℕ). s.0) S.symbols

abbrev pub row_records : State → List ℕ
row_records S = map (λ (w : ℕ × Row). w.0) S.rows

abbrev pub clause_records : State → List ℕ
clause_records S = map (λ (c : ℕ × Derivation). c.0) S.clauses

pub rows_counted : (S : State) → length (row_records S) ≡ length (rows_of S)
rows_counted S = length-map S.rows (λ (w : ℕ × Row). w.0) ∙ sym (length-map S.rows (λ (w : ℕ × Row). w.1))

pub clauses_counted : (S : State) → length (clause_records S) ≡ length (derivations S)
clauses_counted S = length-map S.clauses (λ (c : ℕ × Derivation). c.0) ∙ sym (length-map S.clauses (λ (c : ℕ × Derivation). c.1))

-- The numbers of what comes next, in a state; and at record k of a file.
abbrev pub numbers_of : State → Next
numbers_of S = record { symbol = length (symbol_records S); row = length (rows_of S); clause = length (derivations S) }

abbrev pub after : Next → List Record → Next
after n [] = n
after n (r ∷ rs) = after (next_after n (kind_of_record r)) rs

abbrev pub numbers_at : File → ℕ → Next
numbers_at F k = after first_numbers (take k (records F))

abbrev pub kind_at : File → ℕ → Kind
kind_at F k = kind_of_record (record_at F k)

-- ── One record ──

-- A literal on another row, and on the earliest equal one.
abbrev pub with_row_of : RowLiteral → ℕ → RowLiteral
with_row_of l q = (l.0, q)

abbrev pub on_earliest : State → RowLiteral → RowLiteral
on_earliest S l = (l.0, earliest_of S l.1)

-- A number has a record before record k.
abbrev pub Before : List ℕ → ℕ → ℕ → Type 0
Before cells k n = (j : ℕ) × (entry cells n ≡ some j) × (j < k)

-- Record k declares row q, which is w; the table has record k for it if no row before equals it.
abbrev pub RowTold : State → ℕ → ℕ → Row → Type 0
RowTold S k q w = (row_at (rows_of S) q ≡ w) × (q < length (rows_of S)) × (IsEarliest (rows_of S) q → entry (row_records S) q ≡ some k)

abbrev pub ClauseTold : State → ℕ → ℕ → Derivation → Type 0
ClauseTold S k m c = (clause_of S m ≡ some c) × (entry (clause_records S) m ≡ some k)

pub record ResolveTold (S : State) (k m : ℕ) (r : Record) : Type 0 where
  pub left : Derivation
  pub right : Derivation
  pub literal : ℕ
  pub literals : List ℕ
  pub bindings : List Binding
  pub is_told : ClauseTold S k m (resolve m left literal right literals bindings)
  pub is_left : clause_number left ≡ field_a r
  pub is_right : clause_number right ≡ field_c r
  pub left_before : Before (clause_records S) k (field_a r)
  pub right_before : Before (clause_records S) k (field_c r)

pub record FactorTold (S : State) (k m : ℕ) (r : Record) : Type 0 where
  pub parent : Derivation
  pub kept : ℕ
  pub deleted : ℕ
  pub bindings : List Binding
  pub is_told : ClauseTold S k m (factor m parent kept deleted bindings)
  pub is_parent : clause_number parent ≡ field_a r
  pub parent_before : Before (clause_records S) k (field_a r)

-- By the record's kind.
abbrev pub Told : State → ℕ → Next → Kind → Record → Type 0
Told S k n symbolKind r = entry (symbol_records S) n.symbol ≡ some k
Told S k n variableKind r = RowTold S k n.row (variable (field_a r))
Told S k n applicationKind r = RowTold S k n.row (application (field_a r) (map (earliest_of S) (argument_rows r))) × Before (symbol_records S) k (field_a r) × Each (Before (row_records S) k) (argument_rows r)
Told S k n inputKind r = ClauseTold S k n.clause (input n.clause (new_literals S r)) × Each (λ (l : RowLiteral). Before (row_records S) k l.1) (input_literals r)
Told S k n resolveKind r = ResolveTold S k n.clause r
Told S k n severalKind r = ResolveTold S k n.clause r
Told S k n factorKind r = FactorTold S k n.clause r
Told S k n windowKind r = (ls : List RowLiteral) × (clause_of S (field_a r) ≡ some (input (field_a r) ls)) × Before (clause_records S) k (field_a r)
Told S k n otherKind r = ⊥

-- ── Later states ──
pub record Extends (S T : State) : Type 0 where
  pub symbols : (s j : ℕ) → entry (symbol_records S) s ≡ some j → entry (symbol_records T) s ≡ some j
  pub rows : (q j : ℕ) → entry (row_records S) q ≡ some j → entry (row_records T) q ≡ some j
  pub clauses : (m j : ℕ) → entry (clause_records S) m ≡ some j → entry (clause_records T) m ≡ some j
  pub derived : (m : ℕ) (d : Derivation) → clause_of S m ≡ some d → clause_of T m ≡ some d
  pub more : length (rows_of S) ≤ length (rows_of T)
  pub same : (q : ℕ) → q < length (rows_of S) → row_at (rows_of T) q ≡ row_at (rows_of S) q
  pub earliest : (q : ℕ) → q < length (rows_of S) → earliest_of T q ≡ earliest_of S q
  pub stays : (q : ℕ) → q < length (rows_of S) → IsEarliest (rows_of T) q → IsEarliest (rows_of S) q

pub extends_itself : (S : State) → Extends S S
extends_itself S = record { symbols = λ s j e. e; rows = λ q j e. e; clauses = λ m j e. e; derived = λ m d e. e; more = omega arith; same = λ q l. refl; earliest = λ q l. refl; stays = λ q l E. E }

pub extends_symbol : (S : State) (k a : ℕ) → Extends S (with_symbol S k a)
extends_symbol S k a = record { symbols = λ s j e. entry_more k (symbol_records S) s j e; rows = λ q j e. e; clauses = λ m j e. e; derived = λ m d e. e; more = omega arith; same = λ q l. refl; earliest = λ q l. refl; stays = λ q l E. E }

pub extends_row : (S : State) (k : ℕ) (w : Row) → Extends S (with_row S k w)
extends_row S k w = record {
  symbols = λ s j e. e;
  rows = λ q j e. entry_more k (row_records S) q j e;
  clauses = λ m j e. e;
  derived = λ m d e. e;
  more = omega arith;
  same = λ q l. row_old w (rows_of S) q l;
  earliest = λ q l. earliest_old w (rows_of S) q l;
  stays = λ q l E. earliest_shorter w (rows_of S) q l E;
}

pub extends_clause : (S : State) (k : ℕ) (c : Derivation) → Extends S (with_clause S k c)
extends_clause S k c = record {
  symbols = λ s j e. e;
  rows = λ q j e. e;
  clauses = λ m j e. entry_more k (clause_records S) m j e;
  derived = λ m d e. entry_more c (derivations S) m d e;
  more = omega arith;
  same = λ q l. refl;
  earliest = λ q l. refl;
  stays = λ q l E. E;
}

module _ (S T : State) (X : Extends S T) (k : ℕ) where
  pub before_more : (q : ℕ) → Before (row_records S) k q → Before (row_records T) k q
  before_more q b = (b.0, X.rows q b.0 b.1, b.2)

  before_there : (q : ℕ) → Before (row_records S) k q → q < length (rows_of S)
  before_there q b = omega (arith, entry_below (row_records S) q b.0 b.1, rows_counted S)

  clause_before : (m : ℕ) → Before (clause_records S) k m → Before (clause_records T) k m
  clause_before m b = (b.0, X.clauses m b.0 b.1, b.2)

  row_more : (q : ℕ) (w : Row) → RowTold S k q w → RowTold T k q w
  row_more q w t = (X.same q t.1 ∙ t.0, (let l = t.1 in omega (arith, X.more)), λ E. X.rows q k (t.2 (X.stays q t.1 E)))

  clause_more : (m : ℕ) (c : Derivation) → ClauseTold S k m c → ClauseTold T k m c
  clause_more m c t = (X.derived m c t.0, X.clauses m k t.1)

  pub same_arguments : (xs : List ℕ) → Each (Before (row_records S) k) xs → map (earliest_of S) xs ≡ map (earliest_of T) xs
  same_arguments xs h = map_each (Before (row_records S) k) (earliest_of S) (earliest_of T) (λ a b. sym (X.earliest a (before_there a b))) xs h

  same_literals : (ls : List RowLiteral) → Each (λ (l : RowLiteral). Before (row_records S) k l.1) ls → map (on_earliest S) ls ≡ map (on_earliest T) ls
  same_literals ls h =
      map_each (λ (l : RowLiteral). Before (row_records S) k l.1) (on_earliest S) (on_earliest T)
      (λ l b. ap (with_row_of l) (sym (X.earliest l.1 (before_there l.1 b)))) ls h

  resolve_more : (m : ℕ) (r : Record) → ResolveTold S k m r → ResolveTold T k m r
  resolve_more m r t = record {
    left = t.left;
    right = t.right;
    literal = t.literal;
    literals = t.literals;
    bindings = t.bindings;
    is_told = clause_more m (resolve m t.left t.literal t.right t.literals t.bindings) t.is_told;
    is_left = t.is_left;
    is_right = t.is_right;
    left_before = clause_before (field_a r) t.left_before;
    right_before = clause_before (field_c r) t.right_before;
  }

  pub told_more : (n : Next) (kind : Kind) (r : Record) → Told S k n kind r → Told T k n kind r
  told_more n symbolKind r t = X.symbols n.symbol k t
  told_more n variableKind r t = row_more n.row (variable (field_a r)) t
  told_more n applicationKind r t = (
    row_more n.row (application (field_a r) (map (earliest_of T) (argument_rows r))) (subst (λ (xs : List ℕ). RowTold S k n.row (application (field_a r) xs)) (same_arguments (argument_rows r) t.2) t.0),
    (t.1.0, X.symbols (field_a r) t.1.0 t.1.1, t.1.2),
    each_more (Before (row_records S) k) (Before (row_records T) k) before_more (argument_rows r) t.2,
  )
  told_more n inputKind r t = (
    clause_more n.clause (input n.clause (new_literals T r)) (subst (λ (ls : List RowLiteral). ClauseTold S k n.clause (input n.clause ls)) (same_literals (input_literals r) t.1) t.0),
    each_more (λ (l : RowLiteral). Before (row_records S) k l.1) (λ (l : RowLiteral). Before (row_records T) k l.1) (λ l b. before_more l.1 b) (input_literals r) t.1,
  )
  told_more n resolveKind r t = resolve_more n.clause r t
  told_more n severalKind r t = resolve_more n.clause r t
  told_more n factorKind r t = record {
    parent = t.parent;
    kept = t.kept;
    deleted = t.deleted;
    bindings = t.bindings;
    is_told = clause_more n.clause (factor n.clause t.parent t.kept t.deleted t.bindings) t.is_told;
    is_parent = t.is_parent;
    parent_before = clause_before (field_a r) t.parent_before;
  }
  told_more n windowKind r t = (t.0, X.derived (field_a r) (input (field_a r) t.0) t.1, clause_before (field_a r) t.2)
  told_more n otherKind r t = absurd t
