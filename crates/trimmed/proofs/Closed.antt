-- What is kept is closed: with a clause its parents or the rows of its literals, with a row its arguments and its symbol; and kept rows are earliest ones.
use mathlib.Core.Path.{◌≡◌}
use mathlib.Core.Bool.{true}
use mathlib.Core.Option.{some}
use mathlib.Core.List.{List}
use Prim.Native.Nat.{ℕ}
use Rattle.unification.specs.Repeated.{IsEarliest}
use Rattle.unification.specs.Row.{application}
use Rattle.unification.specs.Environment.{Binding}
use Rattle.unification.proofs.Lists.{Each}
use Rattle.derivation.specs.Derivation.{input, RowLiteral, Derivation, resolve, factor, clause_number}
use Rattle.verdict.specs.State.{State, rows_of, row_of, clause_of}
use Rattle.trimming.specs.Kept.{Kept}

pub record KeptClosed (S : State) (K : Kept) : Type 0 where
  pub earliest : (r : ℕ) → K.row r ≡ true → IsEarliest (rows_of S) r
  pub arguments : (r s : ℕ) (xs : List ℕ) → K.row r ≡ true → row_of S r ≡ application s xs → Each (λ a. K.row a ≡ true) xs
  pub symbols : (r s : ℕ) (xs : List ℕ) → K.row r ≡ true → row_of S r ≡ application s xs → K.symbol s ≡ true
  pub inputs : (n m : ℕ) (ls : List RowLiteral) → K.clause n ≡ true → clause_of S n ≡ some (input m ls) → Each (λ (l : RowLiteral). K.row l.1 ≡ true) ls
  pub lefts : (n m a : ℕ) (l r : Derivation) (ns : List ℕ) (bs : List Binding) → K.clause n ≡ true → clause_of S n ≡ some (resolve m l a r ns bs) → K.clause (clause_number l) ≡ true
  pub rights : (n m a : ℕ) (l r : Derivation) (ns : List ℕ) (bs : List Binding) → K.clause n ≡ true → clause_of S n ≡ some (resolve m l a r ns bs) → K.clause (clause_number r) ≡ true
  pub factored : (n m a b : ℕ) (d : Derivation) (bs : List Binding) → K.clause n ≡ true → clause_of S n ≡ some (factor m d a b bs) → K.clause (clause_number d) ≡ true
