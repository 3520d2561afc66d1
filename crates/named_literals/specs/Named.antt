-- Document 01, "Indices and bindings": a literal of a clause by its number, found or none, and the input clause that it comes from.
use Rattle.std.specs.Prelude.{◌≡◌, List, [], ◌∷◌, ◌++◌, ℕ, ◌+◌, ◌-◌, ◌≤◌, ◌<◌, eqb, leb, ltb, length, replicate, Some, None}
use Rattle.std.specs.Prelude as std
use Rattle.std.proofs.Math.Option.{Option, none, some}
use Rattle.record.specs.Record.{pick}
use Rattle.derivation.specs.Derivation.{literals, Literal, Derivation, numbered, raise_literal, maximum_index}
use Rattle.derivation.specs.Stored.{literals_cell, origin_code, right_cells, Stored}
use Rattle.named_literals.specs.declared.NamedLiteral.{NamedLiteral}

-- A literal's sign, row and index, as the program has them.
abbrev pub fields_of_literal : Literal → NamedLiteral
fields_of_literal l = record { positive = l.0; row = l.1.0; index = l.1.1 }

-- The answer of the program: the literal; or that the clause lacks it, for which a step is refused with 5.
abbrev pub named_literal : Option Literal → std.Option NamedLiteral
named_literal none = None
named_literal (some l) = Some (fields_of_literal l)

-- Clause c of the tables is some derivation, whose indices are within document 01's limit.
pub record StoredClause (O C : List ℕ) (c : ℕ) : Type 0 where
  pub bindings : List ℕ
  pub derivation : Derivation
  pub stored : Stored O C bindings c derivation
  pub fits : maximum_index derivation ≤ 4096

-- Such a clause has a literal n.
pub record StoredLiteral (O C : List ℕ) (c n : ℕ) : Type 0 where
  pub clause : StoredClause O C c
  pub low : 1 ≤ n
  pub high : n ≤ literals_cell C c

-- How many of so many literals are left without number a, and the number that the n-th of those left has among all.
unfoldable pub left_over : ℕ → ℕ → ℕ
left_over count a = pick (eqb a 0) count (pick (leb a count) (count - 1) count)

unfoldable pub passed : ℕ → ℕ → ℕ
passed n a = pick (eqb a 0) n (pick (ltb n a) n (n + 1))

-- The same without several numbers that rise: the number among all is past each of them in turn.
abbrev pub passed_all : ℕ → List ℕ → ℕ
passed_all n [] = n
passed_all n (a ∷ ns) = passed_all (passed n a) ns

-- A resolve names one to four right literals, and its origin holds them (document 02, Q-3).
pub record NamesRights (O : List ℕ) (c : ℕ) (ns : List ℕ) : Type 0 where
  pub code : origin_code O c ≡ 2 + length ns
  pub some : 1 ≤ length ns
  pub few : length ns ≤ 4
  pub cells : right_cells O c ≡ ns ++ replicate (4 - length ns) 0

-- Some right literals are named, and the number past all of them is one of the program's.
pub record PassesRights (O : List ℕ) (c n : ℕ) : Type 0 where
  pub numbers : List ℕ
  pub names : NamesRights O c numbers
  pub fits : passed_all n numbers < 65536

-- A literal that is there, with its index raised by m.
abbrev pub raise_named : ℕ → Option Literal → Option Literal
raise_named m none = none
raise_named m (some l) = some (raise_literal m l)

-- Literal n of the derivation d is literal k of clause p, with its index raised by m.
pub record ComesFrom (O C B : List ℕ) (d : Derivation) (n p k m : ℕ) : Type 0 where
  pub source : Derivation
  pub stored : Stored O C B p source
  pub low : 1 ≤ k
  pub high : k ≤ literals_cell C p
  pub same : numbered (literals d) n ≡ raise_named m (numbered (literals source) k)
  pub fits : m + maximum_index source ≤ maximum_index d

-- Literal n of clause c is literal k of clause p, its index raised by m, whatever derivation clause c is. In `ComesUp` p is a parent of
-- clause c; in `ComesFromInput` it is an input clause, where the literal is written.
pub record ComesUp (O C : List ℕ) (c n p k m : ℕ) : Type 0 where
  pub below : p < c
  pub from : (B : List ℕ) (d : Derivation) → Stored O C B c d → ComesFrom O C B d n p k m

pub record ComesFromInput (O C : List ℕ) (c n p k m : ℕ) : Type 0 where
  pub is_input : origin_code O p ≡ 1
  pub from : (B : List ℕ) (d : Derivation) → Stored O C B c d → ComesFrom O C B d n p k m
