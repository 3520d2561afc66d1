-- Document 02, Q-12: what the accepted clause uses: the clauses of its derivation, the rows of those input clauses, and their symbols.
use Rattle.std.specs.Prelude.{Bool, false, ◌&&◌, ◌||◌, List, [], ◌∷◌, ℕ, eqb, length}
use Rattle.record.specs.Record.{pick}
use Rattle.unification.specs.Row.{variable, Row, application}
use Rattle.derivation.specs.Derivation.{input, RowLiteral, Derivation, resolve, factor, Use, uses}
use Rattle.verdict.specs.State.{State, rows_of}

-- Clause n is one of a derivation's.
abbrev pub clause_in : Derivation → ℕ → Bool
clause_in (input number ls) n = eqb n number
clause_in (resolve number l a r ns bs) n = eqb n number || (clause_in l n || clause_in r n)
clause_in (factor number c a b bs) n = eqb n number || clause_in c n

-- A test of some number of a list.
abbrev pub some_of : (ℕ → Bool) → List ℕ → Bool
some_of test [] = false
some_of test (n ∷ ns) = test n || some_of test ns

abbrev pub arguments_of : Row → List ℕ
arguments_of (variable v) = []
arguments_of (application s xs) = xs

-- Row r reaches row q: it is that row, or one of its arguments reaches it. Rows have the newest first, and arguments are older than their row.
abbrev pub reaches : List Row → ℕ → ℕ → Bool
reaches [] r q = false
reaches (w ∷ ws) r q = pick (eqb r (length ws)) (eqb q r || some_of (λ a. reaches ws a q) (arguments_of w)) (reaches ws r q)

-- A literal of some uses reaches row q.
abbrev pub literals_reach : List Row → List RowLiteral → ℕ → Bool
literals_reach ws [] q = false
literals_reach ws (l ∷ ls) q = reaches ws l.1 q || literals_reach ws ls q

abbrev pub uses_reach : List Row → List Use → ℕ → Bool
uses_reach ws [] q = false
uses_reach ws (u ∷ us) q = literals_reach ws u.1 q || uses_reach ws us q

-- One of the rows that pass a test is an application of symbol s.
abbrev pub is_of : ℕ → Row → Bool
is_of s (variable v) = false
is_of s (application t xs) = eqb s t

abbrev pub symbol_of : (ℕ → Bool) → List Row → ℕ → Bool
symbol_of test [] s = false
symbol_of test (w ∷ ws) s = (test (length ws) && is_of s w) || symbol_of test ws s

-- Which symbols, rows and clauses are kept, by their numbers. In a state no literal and no argument is a repeated row, so none is kept.
pub record Kept : Type 0 where
  pub symbol : ℕ → Bool
  pub row : ℕ → Bool
  pub clause : ℕ → Bool

abbrev pub kept_for : State → Derivation → Kept
kept_for S c = record {
  symbol = symbol_of (uses_reach (rows_of S) (uses c)) (rows_of S);
  row = uses_reach (rows_of S) (uses c);
  clause = clause_in c;
}
