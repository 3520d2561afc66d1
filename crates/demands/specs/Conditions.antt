-- Document 01, "Verdict, tables and refusals": the condition stated for each number of the table, in the paper's words, by quantifiers.
-- Nothing here goes by the tests of `Refusal`; that the check refuses exactly where a condition holds is part of demand 2. For 10 to 13 the condition is
-- of what unification comes to, by its own turns (`Failing`): the papers define these numbers so. And a clash of outlines is stated by position, but that it is
-- found within 4,096 pairs by the turns of the comparison (`Compares`).
use Rattle.std.specs.Prelude.{◌≡◌, ◌⊎◌, List, [], ◌∷◌, map, ℕ, ◌+◌, ◌/◌, ◌%◌, ◌≤◌, ◌<◌, eqb, leb, length, get_or, take, drop}
use Rattle.std.proofs.Math.Option.{none, some}
use Rattle.record.specs.Record.{pick, File, old_file, new_file, Record, field_a, field_b, field_c, field_d}
use Rattle.unification.specs.Environment.{Environment}
use Rattle.unification.specs.Failing.{Failing}
use Rattle.unification.specs.Outlines.{ClashFound}
use Rattle.unification.specs.Row.{variable}
use Rattle.unification.specs.Unification.{most_links, Failure, clash, occurs, overwork, full, Pair, unifying}
use Rattle.derivation.specs.Derivation.{literals, input, Literal, RowLiteral, Derivation, numbered, without, numbered_all, without_all, pairs_with, maximum_index, joined, lookup}
use Rattle.verdict.specs.State.{State, arity_of, clause_of, row_of}
use Rattle.verdict.specs.Tables.{Tables}

-- x is an element of a list.
abbrev pub OneOf : {A : Type 0} → A → List A → Type 0
OneOf x [] = ⊥
OneOf x (y ∷ ys) = (x ≡ y) ⊎ OneOf x ys

-- Field number i of a record, from 0 for field a.
abbrev pub field_numbered : Record → ℕ → ℕ
field_numbered r i = get_or r.fields i 0

-- 1: length over 65,536 or not a multiple of 16; document 02, Q-11: in the new form over 65,520, which is 3,276 records, or not a multiple of 20.
pub data LengthUnfit : File → Type 0 where
  length_over : {bytes : List ℕ} → 65536 < length bytes → LengthUnfit (old_file bytes)
  not_multiple : {bytes : List ℕ} → ¬ (length bytes % 16 ≡ 0) → LengthUnfit (old_file bytes)
  new_length_over : {bytes : List ℕ} → 65520 < length bytes → LengthUnfit (new_file bytes)
  new_not_multiple : {bytes : List ℕ} → ¬ (length bytes % 20 ≡ 0) → LengthUnfit (new_file bytes)

-- 2: a table too short.
pub data TableShort (tables : Tables) : Type 0 where
  symbols_short : length tables.symbols < 4096 → TableShort tables
  rows_short : length tables.rows < 4096 → TableShort tables
  clauses_short : length tables.clauses < 20480 → TableShort tables
  bindings_short : length tables.bindings < 32768 → TableShort tables

-- A window, which is of kind 8 and only in the old form: a record that has days of its own is none (document 02, Q-11).
abbrev pub IsWindow : Record → Type 0
IsWindow r = (r.kind ≡ 8) × (r.days ≡ none)

-- "The file", the table of kinds: byte 1 goes up to `most`, and fields from number `used` on are unused.
pub data Layout (r : Record) : (most used : ℕ) → Type 0 where
  of_symbol : r.kind ≡ 1 → Layout r 6 0
  of_variable : r.kind ≡ 2 → Layout r 0 1
  of_application : r.kind ≡ 3 → Layout r 6 (1 + r.count)
  of_input : r.kind ≡ 4 → Layout r 7 r.count
  of_resolve : r.kind ≡ 5 → Layout r 0 4
  of_factor : r.kind ≡ 6 → Layout r 0 3
  of_several : r.kind ≡ 7 → Layout r 4 (3 + r.count)
  of_window : IsWindow r → Layout r 0 3

-- 3: kind not 1 to 8; document 02, Q-11: in the new form not 1 to 7.
pub data UnknownKind (r : Record) : Type 0 where
  kind_below : r.kind < 1 → UnknownKind r
  kind_above : 8 < r.kind → UnknownKind r
  window_in_new_form : {days : ℕ × ℕ} → r.kind ≡ 8 → r.days ≡ some days → UnknownKind r

-- 4: byte 1 or variable number out of its range, or an unused field not zero; document 02, Q-11: or days beside a record that is no input clause.
pub data OutOfRange (r : Record) : Type 0 where
  count_over : {most used : ℕ} → Layout r most used → most < r.count → OutOfRange r
  no_right_literal : r.kind ≡ 7 → r.count ≡ 0 → OutOfRange r
  variable_over : r.kind ≡ 2 → 63 < field_a r → OutOfRange r
  unused_field : {most used : ℕ} → Layout r most used → (i : ℕ) → used ≤ i → ¬ (field_numbered r i ≡ 0) → OutOfRange r
  unused_days : {most used first last : ℕ} → Layout r most used → ¬ (r.kind ≡ 4) → r.days ≡ some (first, last) → ¬ (first ≡ 0) ⊎ ¬ (last ≡ 0) → OutOfRange r

-- The right literals of a resolve: field d in kind 5; in kind 7 (document 02, Q-3) as many as byte 1 says, from field d on.
pub data RightLiterals (r : Record) : List ℕ → Type 0 where
  of_one : r.kind ≡ 5 → RightLiterals r (field_d r ∷ [])
  of_some : r.kind ≡ 7 → RightLiterals r (take r.count (drop 3 r.fields))

-- The clauses that a step names: in a resolve a and c, in a factor a; and the one that a window is for. And a step's literals in them: in a resolve
-- those of a, b and of c with each right literal; in a factor those of a, b and of a, c.
pub data NamesClause (r : Record) : ℕ → Type 0 where
  left_clause : {ns : List ℕ} → RightLiterals r ns → NamesClause r (field_a r)
  right_clause : {ns : List ℕ} → RightLiterals r ns → NamesClause r (field_c r)
  factored_clause : r.kind ≡ 6 → NamesClause r (field_a r)
  dated_clause : IsWindow r → NamesClause r (field_a r)

pub data Names (r : Record) : (clause literal : ℕ) → Type 0 where
  left_literal : {ns : List ℕ} → RightLiterals r ns → Names r (field_a r) (field_b r)
  right_literal : {ns : List ℕ} {n : ℕ} → RightLiterals r ns → OneOf n ns → Names r (field_c r) n
  kept_literal : r.kind ≡ 6 → Names r (field_a r) (field_b r)
  deleted_literal : r.kind ≡ 6 → Names r (field_a r) (field_c r)

-- 5: a symbol, row, clause or literal that does not exist, or an argument count that is not the symbol's arity; document 02, Q-6: a window for a clause
-- that is no input clause. Numbers start at 0, those of literals at 1.
pub data NotThere (S : State) (r : Record) : Type 0 where
  no_symbol_there : r.kind ≡ 3 → length S.symbols ≤ field_a r → NotThere S r
  other_arity : {n : ℕ} → r.kind ≡ 3 → arity_of S (field_a r) ≡ some n → ¬ (r.count ≡ n) → NotThere S r
  no_argument_row : r.kind ≡ 3 → (i : ℕ) → 1 ≤ i → i ≤ r.count → length S.rows ≤ field_numbered r i → NotThere S r
  no_literal_row : r.kind ≡ 4 → (i : ℕ) → i < r.count → length S.rows ≤ field_numbered r i / 2 → NotThere S r
  no_clause : {c : ℕ} → NamesClause r c → length S.clauses ≤ c → NotThere S r
  no_literal : {c n : ℕ} {d : Derivation} → Names r c n → clause_of S c ≡ some d → (n ≡ 0) ⊎ (length (literals d) < n) → NotThere S r
  derived_clause : {d : Derivation} → IsWindow r → clause_of S (field_a r) ≡ some d → ((number : ℕ) (ls : List RowLiteral) → ¬ (d ≡ input number ls)) → NotThere S r

-- 7: a literal whose row is a variable.
pub record LiteralOnVariable (S : State) (r : Record) : Type 0 where
  pub is_input : r.kind ≡ 4
  pub literal : ℕ
  pub is_literal : literal < r.count
  pub number : ℕ
  pub on_variable : row_of S (field_numbered r literal / 2) ≡ variable number

-- 14, document 02, Q-3: the right literals do not strictly rise.
pub record NotRising (r : Record) : Type 0 where
  pub is_several : r.kind ≡ 7
  pub place : ℕ
  pub is_place : 1 + place < r.count
  pub falls : field_numbered r (4 + place) ≤ field_numbered r (3 + place)

-- 16, document 02, Q-6: first day after last; Q-11: also of the days beside an input clause.
pub data DaysCrossed (r : Record) : Type 0 where
  in_window : IsWindow r → field_c r < field_b r → DaysCrossed r
  beside_clause : {first last : ℕ} → r.kind ≡ 4 → r.days ≡ some (first, last) → last < first → DaysCrossed r

-- A resolve on literals that exist, and a factor on such.
pub record Resolves (S : State) (r : Record) (left right : Derivation) (l : Literal) (ns : List ℕ) (ms : List Literal) : Type 0 where
  pub is_resolve : RightLiterals r ns
  pub is_left : clause_of S (field_a r) ≡ some left
  pub is_left_literal : numbered (literals left) (field_b r) ≡ some l
  pub is_right : clause_of S (field_c r) ≡ some right
  pub are_right_literals : numbered_all (literals right) ns ≡ some ms

pub record Factors (S : State) (r : Record) (parent : Derivation) (l m : Literal) : Type 0 where
  pub is_factor : r.kind ≡ 6
  pub is_parent : clause_of S (field_a r) ≡ some parent
  pub is_kept : numbered (literals parent) (field_b r) ≡ some l
  pub is_deleted : numbered (literals parent) (field_c r) ≡ some m

-- 8: resolve on equal signs, that of the left literal and of some right one; factor on opposite signs or on one literal twice.
pub data SignsUnfit (S : State) (r : Record) : Type 0 where
  equal_in_resolve : {left right : Derivation} {l : Literal} {ns : List ℕ} {ms : List Literal} → Resolves S r left right l ns ms → (m : Literal) → OneOf m ms → l.0 ≡ m.0 → SignsUnfit S r
  opposite_in_factor : {parent : Derivation} {l m : Literal} → Factors S r parent l m → ¬ (l.0 ≡ m.0) → SignsUnfit S r
  one_literal_twice : r.kind ≡ 6 → field_b r ≡ field_c r → SignsUnfit S r

-- 9: result of over 128 literals or maximum index over 4,096.
pub data ResultOver (S : State) (r : Record) : Type 0 where
  resolvent_literals : {left right : Derivation} {l : Literal} {ns : List ℕ} {ms : List Literal} → Resolves S r left right l ns ms
      → 128 < length (without (literals left) (field_b r)) + length (without_all (literals right) ns) → ResultOver S r
  resolvent_index : {left right : Derivation} {l : Literal} {ns : List ℕ} {ms : List Literal} → Resolves S r left right l ns ms → 4096 < maximum_index left + maximum_index right → ResultOver S r
  factor_literals : {parent : Derivation} {l m : Literal} → Factors S r parent l m → 128 < length (without (literals parent) (field_c r)) → ResultOver S r
  factor_index : {parent : Derivation} {l m : Literal} → Factors S r parent l m → 4096 < maximum_index parent → ResultOver S r

-- 10, document 02, Q-1: the outlines of two atoms clash, those of the left literal and of some right one in a resolve, at a position that is found
-- within 4,096 pairs.
pub data OutlinesClash (S : State) (r : Record) : Type 0 where
  resolve_outlines : {left right : Derivation} {l : Literal} {ns : List ℕ} {ms : List Literal} → Resolves S r left right l ns ms → (m : Literal) → OneOf m ms → ClashFound (row_of S) l.1.0 m.1.0 → OutlinesClash S r
  factor_outlines : {parent : Derivation} {l m : Literal} → Factors S r parent l m → ClashFound (row_of S) l.1.0 m.1.0 → OutlinesClash S r

-- 10 to 13: unification of the literals, in the parents' environments as one, fails as `Failing` states it: with 16,384 units of work,
-- and room for bindings while fewer than 8,192 are held, those of earlier clauses included.
abbrev pub Fails : State → Environment → List Pair → Failure → Type 0
Fails S ρ pairs f = Failing (row_of S) most_links (λ bs. leb 8192 (S.total + length bs)) ρ 16384 (unifying [] pairs) f

pub data StepFails (S : State) (r : Record) (f : Failure) : Type 0 where
  resolve_fails : {left right : Derivation} {l : Literal} {ns : List ℕ} {ms : List Literal} → Resolves S r left right l ns ms
      → Fails S (joined (maximum_index left) (lookup left) (lookup right)) (pairs_with (maximum_index left) l.1 (map (λ m. m.1) ms)) f → StepFails S r f
  factor_fails : {parent : Derivation} {l m : Literal} → Factors S r parent l m → Fails S (lookup parent) ((l.1, m.1) ∷ []) f → StepFails S r f

-- The order in which numbers are given, as the papers have it: 1 before 2, and both before any record; lower numbers come first within a record; but 14
-- (document 02, Q-3) comes after 5 and before 8, and 16 (Q-6, Q-11) after 5 and before 7. Both get the place of 6, which is not given any more. Only a resolve can have 14
-- and only a window or an input clause 16.
abbrev pub precedence : ℕ → ℕ
precedence n = pick (eqb n 14) 6 (pick (eqb n 16) 6 n)

-- The conditions of a record, by their numbers; S is the state that the records before it leave. There is none for 6 (document 02, Q-2).
pub data Condition (S : State) (r : Record) : ℕ → Type 0 where
  unknown_kind : UnknownKind r → Condition S r 3
  outside_range : OutOfRange r → Condition S r 4
  nothing_there : NotThere S r → Condition S r 5
  falling_literals : NotRising r → Condition S r 14
  crossing_days : DaysCrossed r → Condition S r 16
  variable_as_literal : LiteralOnVariable S r → Condition S r 7
  unfit_signs : SignsUnfit S r → Condition S r 8
  large_result : ResultOver S r → Condition S r 9
  -- symbols differ: in the outlines, or in a pair that unification takes up
  clashing_outlines : OutlinesClash S r → Condition S r 10
  clashing : StepFails S r clash → Condition S r 10
  -- the variable occurs in what it would be bound to
  occurring : StepFails S r occurs → Condition S r 11
  -- work 16,385 would begin
  overworking : StepFails S r overwork → Condition S r 12
  -- a binding is to be added and 8,192 are held
  overfull : StepFails S r full → Condition S r 13
