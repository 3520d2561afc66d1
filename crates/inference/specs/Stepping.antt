-- Resolve and factor in the program: the contracts of its inner functions. No demand needs this file.
use Rattle.std.specs.Prelude.{◌≡◌, ◌⊎◌, true, List, ℕ, ◌+◌, ◌-◌, ◌*◌, ◌≤◌, ◌<◌, length, get_or, Some, None, Ok, Err}
use Rattle.std.specs.Prelude as std
use Rattle.std.proofs.Math.Option.{Option, none, some}
use Rattle.record.specs.Record.{pick, File, record_count, record_part, kind_of, fields_of, decoded, factorKind, field_c}
use Rattle.unification.specs.Listed.{listed_from}
use Rattle.unify.specs.Unifying.{Counted}
use Rattle.derivation.specs.Derivation.{literals, Literal, Derivation, numbered, numbered_all, maximum_index}
use Rattle.derivation.specs.Stored.{Stored}
use Rattle.tables.specs.Cells.{cleared_part, with_clause_cells}
use Rattle.distinct.specs.Rows.{with_node}
use Rattle.entry.specs.Progress.{Kept, Plain, Next, tables_with}
use Rattle.verdict.specs.Refusal.{kind_of_record, in_range, rising, left_of, right_numbers, right_of, deleted_of, opposite_signs, factor_signs}
use Rattle.verdict.specs.State.{State, clause_of}
use Rattle.verdict.specs.Step.{atoms}
use Rattle.verdict.specs.Tables.{Tables}
use Rattle.unify.specs.Pairs.{Answer}
use Rattle.entry.specs.declared.entry.Counts.{Counts}
use Rattle.entry.specs.Program.{Entered}
use Rattle.reasons.specs.declared.Reason.TheVariants.{Unification}
use Rattle.named_literals.specs.Named.{fields_of_literal}
use Rattle.named_literals.specs.declared.NamedLiteral.{NamedLiteral}
use Rattle.inference.specs.declared.Atom.{Atom}

-- What a function on a step asks: what the program keeps before record k, for some tables of symbols and rows.
pub record BeforeStep (F : File) (k : ℕ) (n : Counts) (C B N O A : List ℕ) : Type 0 where
  pub inside : k < record_count F
  pub plain : Plain F k
  pub tables_before : Tables
  pub state : State
  pub symbols : List ℕ
  pub rows : List ℕ
  pub kept : Kept F tables_before k state n (tables_with symbols rows C B) N O A

-- A literal of clause c that exists, with the row and index of its atom.
pub record AtomOf (S : State) (c r i : ℕ) : Type 0 where
  pub clause : Derivation
  pub literal : Literal
  pub number : ℕ
  pub is_clause : clause_of S c ≡ some clause
  pub is_literal : numbered (literals clause) number ≡ some literal
  pub is_row : literal.1.0 ≡ r
  pub is_index : literal.1.1 ≡ i

abbrev pub atom_named : {S : State} {c r i : ℕ} → AtomOf S c r i → Derivation × Literal
atom_named x = (x.clause, x.literal)

-- The literals of clause c that a resolve names on the right, all of which exist, with their atoms listed in an array.
pub record RightsOf (S : State) (c : ℕ) (ns L : List ℕ) : Type 0 where
  pub clause : Derivation
  pub named : List Literal
  pub is_clause : clause_of S c ≡ some clause
  pub are_literals : numbered_all (literals clause) ns ≡ some named
  pub listed : listed_from L 0 (length ns) ≡ atoms named

abbrev pub rights_named : {S : State} {c : ℕ} {ns L : List ℕ} → RightsOf S c ns L → Derivation × List Literal
rights_named y = (y.clause, y.named)

-- A resolve on an atom and m listed ones of clause `right`, whose result has a maximum index of at most 4,096.
pub record Resolving (k : ℕ) (n : Counts) (C B N O A : List ℕ) (x : Atom) (right : ℕ) (L : List ℕ) (m : ℕ) : Type 0 where
  pub file : File
  pub step : BeforeStep file k n C B N O A
  pub left : AtomOf step.state x.clause x.row x.index
  pub numbers : List ℕ
  pub count : m ≡ length numbers
  pub few : m ≤ 4
  pub room : length L ≡ 8
  pub rights : RightsOf step.state right numbers L
  pub fits : maximum_index left.clause + maximum_index rights.clause ≤ 4096

-- A factor on two atoms of one clause.
pub record Factoring (k : ℕ) (n : Counts) (C B N O A : List ℕ) (x y : Atom) : Type 0 where
  pub file : File
  pub step : BeforeStep file k n C B N O A
  pub same_clause : y.clause ≡ x.clause
  pub kept : AtomOf step.state x.clause x.row x.index
  pub deleted : AtomOf step.state y.clause y.row y.index

-- What unification leaves of the table of bindings and the array.
pub record UnifiedTables (B B' A' : List ℕ) (held : ℕ) (u : Answer) : Type 0 where
  pub values : length A' ≡ 524416
  pub bindings : length B' ≡ length B
  pub before : (j : ℕ) → j < 4 * held → get_or B' j 0 ≡ get_or B j 0
  pub counted : Counted B B' held u

-- The cells of a step that went through, or of a refused one cleared again.
pub record Finished : Type 0 where
  pub answer : Entered
  pub clauses : List ℕ
  pub bindings : List ℕ
  pub origins : List ℕ

abbrev pub finished : Entered → List ℕ → List ℕ → List ℕ → Finished
finished e C B O = record { answer = e; clauses = C; bindings = B; origins = O }

abbrev pub with_step : Counts → ℕ → Counts
with_step n h = record { symbols = n.symbols; rows = n.rows; clauses = n.clauses + 1; bindings = h }

abbrev pub step_finished : Answer → ℕ → Counts → ℕ → ℕ → List ℕ → List ℕ → List ℕ → List ℕ → Finished
step_finished (Ok u) k n literals index cells C B O =
    finished (Ok (with_step n u.held)) (with_clause_cells C n.clauses k literals index n.bindings (u.held - n.bindings)) B (with_node O n.clauses cells)
step_finished (Err f) k n literals index cells C B O = finished (Err (Unification f)) C (cleared_part (4 * n.bindings) 32768 B) O

abbrev pub HeldUpTo : ℕ → Answer → Type 0
HeldUpTo held (Ok u) = (held ≤ u.held) × (u.held ≤ 8192)
HeldUpTo held (Err f) = Unit {0}

-- What finishing a step asks.
pub record Finishing (n : Counts) (B O ns : List ℕ) (u : Answer) : Type 0 where
  pub origins : length O ≡ 32768
  pub numbers : length ns ≡ 7
  pub clauses : n.clauses < 4096
  pub held : n.bindings ≤ 8192
  pub room : 32768 ≤ length B
  pub up_to : HeldUpTo n.bindings u

-- The clauses of a state as the tables store them, for looking up literals.
pub record ClausesStored (O C : List ℕ) (count : ℕ) : Type 0 where
  pub state : State
  pub bindings : List ℕ
  pub size : length state.clauses ≡ count
  pub stored : (c : ℕ) (d : Derivation) → clause_of state c ≡ some d → Stored O C bindings c d
  pub fits : (c : ℕ) (d : Derivation) → clause_of state c ≡ some d → maximum_index d ≤ 4096

-- A named literal as the program answers it.
abbrev pub named_answer : Option (Derivation × Literal) → std.Option NamedLiteral
named_answer none = None
named_answer (some x) = Some (fields_of_literal x.1)

-- The two literals that a step names, as the program answers them.
abbrev pub pair_answer : Option (Derivation × Literal) → Option (Derivation × Literal) → std.Option (NamedLiteral × NamedLiteral)
pair_answer none y = None
pair_answer (some x) none = None
pair_answer (some x) (some y) = Some (fields_of_literal x.1, fields_of_literal y.1)

-- The kinds of a resolve, on one right literal or on several.
abbrev pub ResolveKind : ℕ → Type 0
ResolveKind kind = (kind ≡ 5) ⊎ (kind ≡ 7)

-- The right literals that record k names, by its kind.
abbrev pub rights_at : File → ℕ → List ℕ
rights_at F k = right_numbers (kind_of_record (decoded (record_part F k))) (decoded (record_part F k))

-- A resolve or a factor whose tests up to 8 have passed, with the seven fields of its record; a resolve on m listed atoms.
pub record ResolveNamed (ns : List ℕ) (k : ℕ) (n : Counts) (C B N O A : List ℕ) (x : Atom) (L : List ℕ) (m : ℕ) : Type 0 where
  pub file : File
  pub numbers : ns ≡ fields_of (record_part file k)
  pub step : BeforeStep file k n C B N O A
  pub is_resolve : ResolveKind (kind_of (record_part file k))
  pub count : m ≡ length (rights_at file k)
  pub few : m ≤ 4
  pub room : length L ≡ 8
  pub ranged : in_range (kind_of_record (decoded (record_part file k))) (decoded (record_part file k)) ≡ true
  pub rises : rising (rights_at file k) ≡ true
  pub left : AtomOf step.state x.clause x.row x.index
  pub rights : RightsOf step.state (field_c (decoded (record_part file k))) (rights_at file k) L
  pub is_left : left_of step.state (decoded (record_part file k)) ≡ some (atom_named left)
  pub is_right : right_of step.state (kind_of_record (decoded (record_part file k))) (decoded (record_part file k)) ≡ some (rights_named rights)
  pub signs : opposite_signs step.state (kind_of_record (decoded (record_part file k))) (decoded (record_part file k)) ≡ true

pub record FactorNamed (ns : List ℕ) (k : ℕ) (n : Counts) (C B N O A : List ℕ) (x y : Atom) : Type 0 where
  pub file : File
  pub numbers : ns ≡ fields_of (record_part file k)
  pub step : BeforeStep file k n C B N O A
  pub is_factor : kind_of (record_part file k) ≡ 6
  pub ranged : in_range factorKind (decoded (record_part file k)) ≡ true
  pub same_clause : y.clause ≡ x.clause
  pub kept : AtomOf step.state x.clause x.row x.index
  pub deleted : AtomOf step.state y.clause y.row y.index
  pub is_kept : left_of step.state (decoded (record_part file k)) ≡ some (atom_named kept)
  pub is_deleted : deleted_of step.state (decoded (record_part file k)) ≡ some (atom_named deleted)
  pub signs : factor_signs step.state (decoded (record_part file k)) ≡ true

-- What the program has after record k, by the state before it.
pub record StepRead (F : File) (k : ℕ) (n : Counts) (C B N O A : List ℕ) (E : BeforeStep F k n C B N O A) (C' B' O' A' : List ℕ) (e : Entered) : Type 0 where
  pub next : Next F E.tables_before k E.state (tables_with E.symbols E.rows C' B') N O' A' e
