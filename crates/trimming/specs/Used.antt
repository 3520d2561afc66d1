-- Document 02, Q-12, "only what the accepted clause uses", in the document's words and without computing it: the clauses of its derivation, the rows of those input
-- clauses, the symbols of these rows, and the superseding days.
use Rattle.std.specs.Prelude.{◌≡◌, Bool, List, [], ◌∷◌, ℕ, ◌<◌, take}
use Rattle.std.proofs.Math.Option.{some}
use Rattle.record.specs.Record.{File, Record, records, field_a}
use Rattle.record.specs.Sorts.{is_symbol, is_row, is_clause, how_many}
use Rattle.unification.specs.Environment.{Binding}
use Rattle.unification.specs.Row.{application}
use Rattle.derivation.specs.Derivation.{input, RowLiteral, Derivation, resolve, factor, clause_number}
use Rattle.demands.specs.Conditions.{OneOf}
use Rattle.demands.specs.Demands.{RecordAt}
use Rattle.verdict.specs.State.{State, row_of, clause_of}

-- The accepted clause n, and the parents of a clause that is used.
pub data UsedClause (S : State) (n : ℕ) : ℕ → Type 0 where
  the_accepted : UsedClause S n n
  left_parent : {m number a : ℕ} {l r : Derivation} {ns : List ℕ} {bs : List Binding} → UsedClause S n m → clause_of S m ≡ some (resolve number l a r ns bs) → UsedClause S n (clause_number l)
  right_parent : {m number a : ℕ} {l r : Derivation} {ns : List ℕ} {bs : List Binding} → UsedClause S n m → clause_of S m ≡ some (resolve number l a r ns bs) → UsedClause S n (clause_number r)
  factored : {m number a b : ℕ} {d : Derivation} {bs : List Binding} → UsedClause S n m → clause_of S m ≡ some (factor number d a b bs) → UsedClause S n (clause_number d)

-- The rows of the literals of a used input clause, and the arguments of a used row. In a state both are earliest rows.
pub data UsedRow (S : State) (n : ℕ) : ℕ → Type 0 where
  literal_row : {m number row : ℕ} {ls : List RowLiteral} (sign : Bool) → UsedClause S n m → clause_of S m ≡ some (input number ls) → OneOf (sign, row) ls → UsedRow S n row
  argument_row : {r s a : ℕ} {xs : List ℕ} → UsedRow S n r → row_of S r ≡ application s xs → OneOf a xs → UsedRow S n a

pub data UsedSymbol (S : State) (n : ℕ) : ℕ → Type 0 where
  symbol_of_row : {r s : ℕ} {xs : List ℕ} → UsedRow S n r → row_of S r ≡ application s xs → UsedSymbol S n s

-- Record k declares a symbol, a row or a clause that is used, or is the last window of a clause that is used. The records of its sort before it give its number.
pub data Needed (file : File) (S : State) (n k : ℕ) (r : Record) : Type 0 where
  needed_symbol : r.kind ≡ 1 → UsedSymbol S n (how_many is_symbol (take k (records file))) → Needed file S n k r
  needed_row : OneOf r.kind (2 ∷ 3 ∷ []) → UsedRow S n (how_many is_row (take k (records file))) → Needed file S n k r
  needed_clause : OneOf r.kind (4 ∷ 5 ∷ 6 ∷ 7 ∷ []) → UsedClause S n (how_many is_clause (take k (records file))) → Needed file S n k r
  needed_window : r.kind ≡ 8 → UsedClause S n (field_a r) → ((j : ℕ) (s : Record) → k < j → RecordAt file j s → s.kind ≡ 8 → ¬ (field_a s ≡ field_a r)) → Needed file S n k r
