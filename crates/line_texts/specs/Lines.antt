-- The contracts of the functions that write the lines of a readout. What the lines are stands in `Readout` of the crate verdict and `Appearance` of the crate appearance; this
-- file only says how the parts of the program fit together.
use Rattle.std.specs.Prelude.{◌≡◌, List, [], map, ℕ, ◌≤◌, ◌<◌, length}
use Rattle.std.proofs.Math.Option.{some}
use Rattle.record.specs.Record.{File}
use Rattle.unification.specs.Environment.{Environment}
use Rattle.unification.specs.Nodes.{HasRow, node_row}
use Rattle.unification.specs.Row.{Row, Variable, row_term}
use Rattle.unification.specs.Term.{Term}
use Rattle.unification.specs.ValueArray.{InStep, Models}
use Rattle.derivation.specs.Derivation.{literals, Literal, Derivation, numbered}
use Rattle.derivation.specs.Stored.{Stored}
use Rattle.derivation.specs.Written.{written_literal, WritesOut}
use Rattle.verdict.specs.State.{State, clause_of}
use Rattle.verdict.specs.Tables.{Tables}
use Rattle.named_literals.specs.Named.{StoredClause}
use Rattle.entry.specs.Progress.{ReadTo, tables_with}
use Rattle.collecting.specs.Literals.{Collectable}
use Rattle.verdict.specs.Text.{literals_text}
use Rattle.appearance.specs.Appearance.{all_shown}
use Rattle.text.specs.Buffer.{Wrote}
use Rattle.numbering.specs.Numbering.{line_of, NumberRoom}
use Rattle.numbering.specs.declared.Naming.{Naming}
use Rattle.names.specs.declared.Place.{Place}
use Rattle.terms.specs.Writing.{Sized, WritingReady}
use Rattle.literal_text.specs.Literals.{PartWritten, WritesLiteral}

-- Every literal of a list can be written out, as `Writable` has it for one expression.
pub record AllWritable (N : List ℕ) (top : ℕ) (A : List ℕ) (ρ : Environment) (row : ℕ → Row) (term : ℕ → Term ℕ) (σ : Variable → Term Variable) (ls : List Literal) : Type 0 where
  pub models : Models N top A ρ
  pub in_step : (n : ℕ) (l : Literal) → numbered ls n ≡ some l → InStep N top l.1
  pub rows : (r : ℕ) → HasRow N r → node_row N r ≡ row r
  pub terms : (r : ℕ) → term r ≡ row_term term r (row r)
  pub values : WritesOut term ρ σ

-- What writing literal n of clause c asks: the clause has one, and it can be written out.
pub record NumberedReady (naming : Naming) (O C N A T K L : List ℕ) (count c n : ℕ) : Type 0 where
  pub clause : StoredClause O C c
  pub literal : Literal
  pub is_numbered : numbered (literals clause.derivation) n ≡ some literal
  pub ready : WritingReady naming N A T K L count literal.1 64

-- What writing all literals of clause c asks: they can be collected, the tables and the buffer are at their full size, there are some
-- environment, rows, terms and values with which all of them can be written out, and room to number the variables of 128 literals.
pub record LiteralsReady (naming : Naming) (O C N A T K L : List ℕ) (c : ℕ) : Type 0 where
  pub collectable : Collectable O C 0 c 0
  pub few : length (literals collectable.derivation) ≤ 128
  pub sized : Sized N A T
  pub numbers : NumberRoom naming K L
  pub top : ℕ
  pub environment : Environment
  pub row : ℕ → Row
  pub term : ℕ → Term ℕ
  pub value : Variable → Term Variable
  pub writable : AllWritable N top A environment row term value (literals collectable.derivation)

-- Literal n of clause c.
abbrev pub WritesNumbered : Naming → List ℕ → List ℕ → List ℕ → List ℕ → List ℕ → List ℕ → List ℕ → List ℕ → List ℕ → List ℕ → List ℕ → ℕ → ℕ → ℕ → ℕ → Place → Type 0
WritesNumbered naming O C N A A' T T' K K' L L' count at c n p =
    (B : List ℕ) (d : Derivation) → Stored O C B c d → (l : Literal) → numbered (literals d) n ≡ some l
    → WritesLiteral naming N A A' T T' K K' L L' count at l.0 l.1 p

-- All literals of clause c, each after a blank; no variable has a number at first.
abbrev pub WritesLiterals : Naming → List ℕ → List ℕ → List ℕ → List ℕ → List ℕ → List ℕ → List ℕ → List ℕ → List ℕ → List ℕ → List ℕ → ℕ → ℕ → Place → Type 0
WritesLiterals naming O C N A A' T T' K K' L L' at c p =
    (B : List ℕ) (d : Derivation) → Stored O C B c d
    → (top : ℕ) (ρ : Environment) (row : ℕ → Row) (term : ℕ → Term ℕ) (σ : Variable → Term Variable) → AllWritable N top A ρ row term σ (literals d) → NumberRoom naming K L
    → PartWritten naming N top A' ρ row T T' K' L' at (λ name. literals_text name (map (written_literal term σ) (literals d))) (all_shown [] (map (written_literal term σ) (literals d))) p

-- What writing the line of clause c asks: what the check of the file left of some state, which has a clause c, the buffer's length, and room for numbers.
pub record LineReady (naming : Naming) (C B N O A T K L : List ℕ) (c : ℕ) : Type 0 where
  pub file : File
  pub tables_before : Tables
  pub state : State
  pub symbols : List ℕ
  pub rows : List ℕ
  pub read : ReadTo file tables_before state (tables_with symbols rows C B) N O A
  pub inside : c < length state.clauses
  pub text : length T ≡ 131072
  pub numbers : NumberRoom naming K L

-- What it says: the clause's line, whichever state the check left; and the lengths, which is all that the next line needs besides.
pub record LineWritten (naming : Naming) (C B N O A A' T T' : List ℕ) (at c end : ℕ) : Type 0 where
  pub wrote : (F : File) (t : Tables) (S : State) (symbols rows : List ℕ) → ReadTo F t S (tables_with symbols rows C B) N O A
      → (d : Derivation) → clause_of S c ≡ some d → Wrote T T' at end (line_of naming S c d)
  pub sized : Sized N A' T'
