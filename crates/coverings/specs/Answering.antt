-- Document 02, Q-5: the answer to whether input clause c of a file covers input clause d, and what is promised of it.
use Rattle.std.specs.Prelude.{◌≡◌, List, ◌∷◌, ◌++◌, ℕ, ◌-◌, length, replicate}
use Rattle.std.proofs.Math.Option.{some}
use Rattle.record.specs.Record.{File}
use Rattle.unification.specs.Term.{Term}
use Rattle.derivation.specs.Derivation.{input, RowLiteral}
use Rattle.derivation.specs.Ground.{Assignment}
use Rattle.demands.specs.Conditions.{TableShort}
use Rattle.demands.specs.Repeats.{term_by_numbers}
use Rattle.verdict.specs.State.{State, rows_of, arity_of, clause_of}
use Rattle.verdict.specs.Tables.{Tables}
use Rattle.verdict.specs.Verdict.{Stands}
use Rattle.coverings.specs.Covering.{Substitution, Works, AllInstancesTrue, NotAfter}

-- Yes, with the literals of D chosen; no; or refused, with a number and a record.
pub data Answer : Type 0 where
  covers : List ℕ → Answer
  covers_not : Answer
  refused_with : ℕ → ℕ → Answer

-- Its ten numbers: 0 no, 1 yes, 2 refused; the reason; the record; the literals chosen, zero past C's count.
abbrev pub ten_numbers : Answer → List ℕ
ten_numbers (covers ns) = 1 ∷ 0 ∷ 0 ∷ (ns ++ replicate (7 - length ns) 0)
ten_numbers covers_not = 0 ∷ 0 ∷ 0 ∷ replicate 7 0
ten_numbers (refused_with number k) = 2 ∷ number ∷ k ∷ replicate 7 0

-- The file stands, with tables long enough for its check, and C and D are the literals of its input clauses c and d.
pub record Comparable (file : File) (tables : Tables) (c d : ℕ) (S : State) (C D : List RowLiteral) : Type 0 where
  pub stands : Stands file S
  pub tables_long : ¬ TableShort tables
  pub is_left : clause_of S c ≡ some (input c C)
  pub is_right : clause_of S d ≡ some (input d D)

-- The terms of a file's rows.
abbrev pub term_in : State → ℕ → Term ℕ
term_in S r = term_by_numbers (rows_of S) r

-- What is promised of the answer to a call: each of refused, yes and no is given exactly in its case.
pub record AnswerPromised (file : File) (tables : Tables) (c d : ℕ) (answer : Answer) : Type 0 where
  -- Refused with 15 at record 0 exactly if there is nothing to compare: the file does not stand, a table is too short, or a clause is not an input clause
  -- of the file.
  pub refused_if : ((S : State) (C D : List RowLiteral) → ¬ Comparable file tables c d S C D) → answer ≡ refused_with 15 0
  pub refused_only : (number k : ℕ) → answer ≡ refused_with number k → (S : State) (C D : List RowLiteral) → ¬ Comparable file tables c d S C D
  -- Yes exactly if some substitution and some choice work; and the choice given works.
  pub yes_if : (S : State) (C D : List RowLiteral) → Comparable file tables c d S C D → (σ : Substitution) (ns : List ℕ) → Works (term_in S) σ C D ns → (ms : List ℕ) × (answer ≡ covers ms)
  pub yes_only : (S : State) (C D : List RowLiteral) → Comparable file tables c d S C D → (ns : List ℕ) → answer ≡ covers ns → (σ : Substitution) × Works (term_in S) σ C D ns
  -- It is the earliest of all that work.
  pub earliest : (S : State) (C D : List RowLiteral) → Comparable file tables c d S C D → (ns : List ℕ) → answer ≡ covers ns
      → (σ : Substitution) (ms : List ℕ) → Works (term_in S) σ C D ms → NotAfter ns ms
  -- No exactly if none does.
  pub no_if : (S : State) (C D : List RowLiteral) → Comparable file tables c d S C D → ((σ : Substitution) (ns : List ℕ) → ¬ Works (term_in S) σ C D ns) → answer ≡ covers_not
  pub no_only : (S : State) (C D : List RowLiteral) → Comparable file tables c d S C D → answer ≡ covers_not → (σ : Substitution) (ns : List ℕ) → ¬ Works (term_in S) σ C D ns
  -- With a yes, wherever all variable-free instances of C are true, all those of D are.
  pub truth : (S : State) (C D : List RowLiteral) → Comparable file tables c d S C D → (ns : List ℕ) → answer ≡ covers ns
      → (A : Assignment) → AllInstancesTrue (term_in S) (arity_of S) A C → AllInstancesTrue (term_in S) (arity_of S) A D
