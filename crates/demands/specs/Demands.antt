-- The mission's three demands, stated of the definitions, for every file, every four tables and, since document 02's Q-6, every day.
use Rattle.std.specs.Prelude.{◌≡◌, ◌⊎◌, true, List, [], ◌∷◌, map, ℕ, ◌+◌, ◌*◌, ◌≤◌, ◌<◌, leb, length, get_or, take, drop}
use Rattle.std.proofs.Math.Option.{some}
use Rattle.record.specs.Record.{pick, File, Record, records, field_a, field_b, field_c}
use Rattle.record.specs.Sorts.{is_clause, one, how_many}
use Rattle.unification.specs.Bindings.{binding_at}
use Rattle.unification.specs.Environment.{follow, Binding, Environment, Ends}
use Rattle.unification.specs.Repeated.{IsEarliest}
use Rattle.unification.specs.Row.{variable, Row, application, Expression, Variable, written_out}
use Rattle.unification.specs.Term.{Term, apply}
use Rattle.unification.specs.Unification.{most_links, Pair, unifying, Reaches}
use Rattle.unification.specs.Unifier.{TermPair, Unifies, NoUnifier}
use Rattle.derivation.specs.Derivation.{literals, input, Literal, RowLiteral, Derivation, resolve, factor, numbered, pairs_with, maximum_index, joined, lookup, own_bindings, Use, uses}
use Rattle.derivation.specs.Ground.{instances, Ground, Values, value_in, WellFormedInstances, Assignment, AllTrue}
use Rattle.derivation.specs.Textbook.{Resolvent, Factor}
use Rattle.derivation.specs.Written.{written, substitution, renamed, WritesOut}
use Rattle.demands.specs.Conditions.{OneOf, field_numbered, LengthUnfit, TableShort, IsWindow, OutOfRange, RightLiterals, NotRising, Resolves, Factors, SignsUnfit, Condition, precedence}
use Rattle.verdict.specs.Refusal.{Reason, reason_number}
use Rattle.verdict.specs.State.{State, empty_state, with_symbol, with_row, with_clause, with_window, with_days_beside, entry, rows_of, derivations, next_clause, arity_of, clause_of, row_of, term_of}
use Rattle.verdict.specs.Step.{stands, refused, step, read, all_stand, state_of}
use Rattle.verdict.specs.Tables.{Tables, lengths_of, tables_after}
use Rattle.demands.specs.Total.{fifth_cells}
use Rattle.verdict.specs.Verdict.{refusal, check, accepted, open', fitting, ending, Stands}

-- Reading comes to record k, which is r: the file's length fits, and the records before it stand and leave the state S.
pub record Reached (file : File) (k : ℕ) (S : State) (r : Record) : Type 0 where
  pub fits : fitting file ≡ true
  pub before : read empty_state 0 (take k (records file)) ≡ all_stand S
  pub after : List Record
  pub here : drop k (records file) ≡ r ∷ after

-- Record k of a file.
pub record RecordAt (file : File) (k : ℕ) (r : Record) : Type 0 where
  pub after : List Record
  pub here : drop k (records file) ≡ r ∷ after

-- A state that reading comes to: before a record, or the one that it leaves.
pub data ComesTo (file : File) : State → Type 0 where
  before_record : {k : ℕ} {S : State} {r : Record} → Reached file k S r → ComesTo file S
  last_state : fitting file ≡ true → ComesTo file (state_of (ending file))

-- ── Demand 1: an honest verdict on every file ──
-- That the program ends, stays inside what it was lent and answers by `check` and `tables_after` is its contract. Here: what these say
-- of a file that is refused, and of one that is not.

-- A table of which so many cells are filled: zero from there up to the named length, and from there on as it was. It is as long as it was.
pub record FilledTo (named count : ℕ) (before after : List ℕ) : Type 0 where
  pub same_length : length after ≡ length before
  pub zero_after : (i : ℕ) → count ≤ i → i < named → get_or after i 0 ≡ 0
  pub past_untouched : (i : ℕ) → named ≤ i → get_or after i 0 ≡ get_or before i 0

-- The five cells of clause n, whose record is k: record, literal count, maximum index, first binding, which is the count of bindings held before the clause,
-- and number of bindings. Then the four cells of each of these, in the order in which they were added: variable row, its index, term row, its index.
pub record ClauseHeld (clauses bindings : List ℕ) (n k : ℕ) (c : Derivation) : Type 0 where
  pub record_cell : get_or clauses (5 * n) 0 ≡ k
  pub literal_count : get_or clauses (5 * n + 1) 0 ≡ length (literals c)
  pub index : get_or clauses (5 * n + 2) 0 ≡ maximum_index c
  pub first_binding : get_or clauses (5 * n + 3) 0 ≡ fifth_cells clauses n
  pub binding_count : get_or clauses (5 * n + 4) 0 ≡ length (own_bindings c)
  pub each_binding : (i : ℕ) (b : Binding) → entry (own_bindings c) i ≡ some b → binding_at bindings (fifth_cells clauses n + i) ≡ b

-- The tables hold exactly what a state has, and every cell is decided: the record of each symbol, that of each row, and each clause with its bindings.
pub record TablesHold (S : State) (before after : Tables) : Type 0 where
  pub each_symbol : (s k arity : ℕ) → entry S.symbols s ≡ some (k, arity) → get_or after.symbols s 0 ≡ k
  pub each_row : (q k : ℕ) (w : Row) → entry S.rows q ≡ some (k, w) → get_or after.rows q 0 ≡ k
  pub each_clause : (n k : ℕ) (c : Derivation) → entry S.clauses n ≡ some (k, c) → ClauseHeld after.clauses after.bindings n k c
  pub symbols_to : FilledTo 4096 (length S.symbols) before.symbols after.symbols
  pub rows_to : FilledTo 4096 (length S.rows) before.rows after.rows
  pub clauses_to : FilledTo 20480 (5 * length S.clauses) before.clauses after.clauses
  pub bindings_to : FilledTo 32768 (4 * fifth_cells after.clauses (length S.clauses)) before.bindings after.bindings

-- Refused with 1 or 2, for its length or the tables' lengths: record 0, counts 0, tables untouched.
pub record Untouched (day : ℕ) (file : File) (tables : Tables) (reason : Reason) (k : ℕ) : Type 0 where
  pub number : OneOf (reason_number reason) (1 ∷ 2 ∷ [])
  pub record0 : k ≡ 0
  pub counts : check day file (lengths_of tables) ≡ record { verdict = refusal reason 0; symbols = 0; rows = 0; clauses = 0; bindings = 0 }
  pub tables_kept : tables_after file tables ≡ tables

-- Refused at a record, with 3 or more: counts and tables are those of the state that the records before it leave, and of nothing else.
pub record LeftBefore (day : ℕ) (file : File) (tables : Tables) (reason : Reason) (k : ℕ) : Type 0 where
  pub number : 3 ≤ reason_number reason
  pub state : State
  pub refused_record : Record
  pub reached : Reached file k state refused_record
  pub counts : check day file (lengths_of tables) ≡ record {
    verdict = refusal reason k;
    symbols = length state.symbols;
    rows = length state.rows;
    clauses = length state.clauses;
    bindings = state.total;
  }
  pub tables_hold : TablesHold state tables (tables_after file tables)

-- Not refused: counts and tables are those of the state that all records leave.
pub record LeftByAll (day : ℕ) (file : File) (tables : Tables) (S : State) : Type 0 where
  pub counts : check day file (lengths_of tables) ≡ record {
    verdict = (check day file (lengths_of tables)).verdict;
    symbols = length S.symbols;
    rows = length S.rows;
    clauses = length S.clauses;
    bindings = S.total;
  }
  pub tables_hold : TablesHold S tables (tables_after file tables)

pub record Demand1 (day : ℕ) (file : File) (tables : Tables) : Type 0 where
  -- A file that stands, with tables long enough, leaves the tables with exactly its records.
  pub tables_of_standing : (S : State) → Stands file S → ¬ TableShort tables → LeftByAll day file tables S
  -- A refusal leaves the tables with exactly the records before it, or for reasons 1 and 2 untouched.
  pub tables_of_refusal : (reason : Reason) (k : ℕ) → (check day file (lengths_of tables)).verdict ≡ refusal reason k → Untouched day file tables reason k ⊎ LeftBefore day file tables reason k

-- ── Demand 2: the textbook's resolution, and refusals only where they are due ──

-- Row q is the earliest that equals row r (document 02, Q-2), and the record that the table of rows has for a new row w: that of the earliest equal
-- row, and where no row equals it the record k itself.
pub record EarliestEqual (S : State) (r q : ℕ) : Type 0 where
  pub earliest : IsEarliest (rows_of S) q
  pub equals : row_of S q ≡ row_of S r

pub data RecordOfRow (S : State) (k : ℕ) (w : Row) : ℕ → Type 0 where
  own_record : ((q : ℕ) → q < length S.rows → ¬ (row_of S q ≡ w)) → RecordOfRow S k w k
  earliest_record : {q j : ℕ} → IsEarliest (rows_of S) q → row_of S q ≡ w → entry (map (λ u. u.0) S.rows) q ≡ some j → RecordOfRow S k w j

-- The bindings bs are what unification of the pairs adds in the environment ρ: begun with all pairs and no binding, it has come, by its own turns, to bs and
-- nothing left to be taken up, in at most 16,384 units of work, with room for a binding while fewer than 8,192 are held. `Fails` has the other ways in which it
-- ends.
pub record Binds (S : State) (ρ : Environment) (pairs : List Pair) (bs : List Binding) : Type 0 where
  pub work : ℕ
  pub within : work ≤ 16384
  pub comes_to : Reaches (row_of S) most_links (λ made. leb 8192 (S.total + length made)) ρ work (unifying [] pairs) (unifying bs [])

-- What a record that stands adds to the state, as the table of kinds has it: a symbol with its arity; a row; an input clause with its
-- literals, each 2 × row, plus 1 if positive, and with the days beside it as its window; the clause of a step, over its parents, with the bindings of its unification; the window of a clause, and no
-- clause. Arguments and literals are on earliest rows.
pub data Adds (S : State) (k : ℕ) (r : Record) (T : State) : Type 0 where
  adds_symbol : r.kind ≡ 1 → T ≡ with_symbol S k r.count → Adds S k r T
  adds_variable : {j : ℕ} → r.kind ≡ 2 → RecordOfRow S k (variable (field_a r)) j → T ≡ with_row S j (variable (field_a r)) → Adds S k r T
  adds_application : {xs : List ℕ} {j : ℕ} → r.kind ≡ 3 → length xs ≡ r.count → ((i : ℕ) → i < r.count → EarliestEqual S (field_numbered r (1 + i)) (get_or xs i 0))
      → RecordOfRow S k (application (field_a r) xs) j → T ≡ with_row S j (application (field_a r) xs) → Adds S k r T
  adds_input : {ls : List RowLiteral} → r.kind ≡ 4 → length ls ≡ r.count
      → ((i : ℕ) (l : RowLiteral) → numbered ls (1 + i) ≡ some l → (row : ℕ) × (2 * row + pick l.0 1 0 ≡ field_numbered r i) × EarliestEqual S row l.1)
      → T ≡ with_days_beside (with_clause S k (input (next_clause S) ls)) (next_clause S) r.days → Adds S k r T
  adds_resolvent : {left right : Derivation} {l : Literal} {ns : List ℕ} {ms : List Literal} {bs : List Binding} → Resolves S r left right l ns ms
      → Binds S (joined (maximum_index left) (lookup left) (lookup right)) (pairs_with (maximum_index left) l.1 (map (λ m. m.1) ms)) bs
      → T ≡ with_clause S k (resolve (next_clause S) left (field_b r) right ns bs) → Adds S k r T
  adds_factor : {parent : Derivation} {l m : Literal} {bs : List Binding} → Factors S r parent l m
      → Binds S (lookup parent) ((l.1, m.1) ∷ []) bs → T ≡ with_clause S k (factor (next_clause S) parent (field_b r) (field_c r) bs) → Adds S k r T
  adds_window : IsWindow r → T ≡ with_window S (record { clause = field_a r; first = field_b r; last = field_c r }) → Adds S k r T

-- An atom of a clause, written out.
abbrev pub atom_of : State → Derivation → Literal → Term Variable
atom_of S c l = written_out (term_of S) (substitution (term_of S) c) l.1

-- The atoms that a step unifies, as a list of pairs: in a resolve the left one with each right one, in a factor one pair. In a resolve right atoms
-- are standardized apart: their indices are raised by the left clause's maximum index.
pub data StepAtoms (S : State) (r : Record) : List TermPair → Type 0 where
  resolve_atoms : {left right : Derivation} {l : Literal} {ns : List ℕ} {ms : List Literal} → Resolves S r left right l ns ms
      → StepAtoms S r (map (λ m. (atom_of S left l, apply (renamed (maximum_index left)) (atom_of S right m))) ms)
  factor_atoms : {parent : Derivation} {l m : Literal} → Factors S r parent l m → StepAtoms S r ((atom_of S parent l, atom_of S parent m) ∷ [])

-- (a) A resolve that stands adds one clause: the resolvent of the clauses that it names, on the literals that it names.
pub record ResolventAdded (Y : Type 0) (S : State) (k : ℕ) (r : Record) (ns : List ℕ) (T : State) : Type 0 where
  pub left : Derivation
  pub right : Derivation
  pub is_left : clause_of S (field_a r) ≡ some left
  pub is_right : clause_of S (field_c r) ≡ some right
  pub clause : Derivation
  pub added : T ≡ with_clause S k clause
  pub resolvent : Resolvent Y (renamed (maximum_index left)) (written (term_of S) left) (field_b r) (written (term_of S) right) ns (written (term_of S) clause)

-- A factor that stands adds one clause: the factor of the clause that it names.
pub record FactorAdded (Y : Type 0) (S : State) (k : ℕ) (r : Record) (T : State) : Type 0 where
  pub parent : Derivation
  pub is_parent : clause_of S (field_a r) ≡ some parent
  pub clause : Derivation
  pub added : T ≡ with_clause S k clause
  pub factored : Factor Y (written (term_of S) parent) (field_b r) (field_c r) (written (term_of S) clause)

-- (c) What may become of a step that has a unifier: it stands, or it is refused by a limit, with 9, 12 or 13.
pub data StandsOrLimit (S : State) (k : ℕ) (r : Record) : Type 0 where
  it_stands : {T : State} → step S k r ≡ stands T → StandsOrLimit S k r
  limit_met : {reason : Reason} → step S k r ≡ refused reason → OneOf (reason_number reason) (9 ∷ 12 ∷ 13 ∷ []) → StandsOrLimit S k r

-- (d) The condition stated for a number holds of the file, of the tables, or of a record that reading comes to.
pub data ConditionAt (file : File) (tables : Tables) : (number k : ℕ) → Type 0 where
  of_length : LengthUnfit file → ConditionAt file tables 1 0
  of_tables : TableShort tables → ConditionAt file tables 2 0
  of_record : {number k : ℕ} {S : State} {r : Record} → Reached file k S r → Condition S r number → ConditionAt file tables number k

-- It does, and that of no number that is given before it holds, of whatever it may be.
pub record Due (file : File) (tables : Tables) (number k : ℕ) : Type 0 where
  pub holds : ConditionAt file tables number k
  pub first : (other j : ℕ) → ConditionAt file tables other j → precedence number ≤ precedence other

-- (e) Document 02, Q-6 and Q-11. The clauses that records make: an input clause and every step takes a number.
abbrev pub clauses_of : Record → ℕ
clauses_of r = one (is_clause r)

abbrev pub clauses_in : List Record → ℕ
clauses_in rs = how_many is_clause rs

-- A record gives a clause its first and last day: one of kind 8 the clause that it names, and an input clause with days beside it itself, which has the number `before`, that of
-- the clauses before it.
pub data Dates (before : ℕ) (r : Record) : (clause first last : ℕ) → Type 0 where
  by_window : IsWindow r → Dates before r (field_a r) (field_b r) (field_c r)
  by_days_beside : {first last : ℕ} → r.kind ≡ 4 → r.days ≡ some (first, last) → Dates before r before first last

abbrev pub DatesAt : File → ℕ → Record → (clause first last : ℕ) → Type 0
DatesAt file k r clause first last = RecordAt file k r × Dates (clauses_in (take k (records file))) r clause first last

-- Record k is the one that has the days of clause n: the last that gives it some, wherever steps that use the clause stand.
pub record DaysOf (file : File) (n k first last : ℕ) : Type 0 where
  pub dating : Record
  pub dates : DatesAt file k dating n first last
  pub none_later : (j : ℕ) (q : Record) (f l : ℕ) → k < j → ¬ DatesAt file j q n f l

-- A clause is in force from its first day to its last, both included, and without such a record always.
pub data InForce (file : File) (day n : ℕ) : Type 0 where
  always : ((k : ℕ) (r : Record) (f l : ℕ) → ¬ DatesAt file k r n f l) → InForce file day n
  on_day : {k first last : ℕ} → DaysOf file n k first last → first ≤ day → day ≤ last → InForce file day n

-- A derivation uses only clauses in force on the day.
abbrev pub UsesInForce : File → ℕ → Derivation → Type 0
UsesInForce file day c = (u : Use) → OneOf u (uses c) → InForce file day u.0

-- Clause n is empty, and no clause with a lower number is. Only clauses whose derivation is admitted are looked at.
pub record LowestEmpty (Admitted : Derivation → Type 0) (S : State) (n : ℕ) : Type 0 where
  pub clause : Derivation
  pub is_clause : clause_of S n ≡ some clause
  pub admitted : Admitted clause
  pub empty : literals clause ≡ []
  pub lowest : (i : ℕ) (c : Derivation) → i < n → clause_of S i ≡ some c → Admitted c → ¬ (literals c ≡ [])

-- No clause whose derivation is admitted is empty.
abbrev pub NoneEmpty : (Derivation → Type 0) → State → Type 0
NoneEmpty Admitted S = (n : ℕ) (c : Derivation) → clause_of S n ≡ some c → Admitted c → ¬ (literals c ≡ [])

-- Unifiers have values that are terms over Y; the textbook's own are those with Y = Variable. It is proved for every Y.
pub record Demand2 (Y : Type 0) (day : ℕ) (file : File) (tables : Tables) : Type 0 where
  -- What stands is what the file says.
  pub declared : (k : ℕ) (S T : State) (r : Record) → Reached file k S r → step S k r ≡ stands T → Adds S k r T
  -- Terms stay: a row that there is before a record has the same term after it. So what is said of a clause in the state that its step came to holds in the
  -- last one.
  pub terms_stay : (k : ℕ) (S T : State) (r : Record) → Reached file k S r → step S k r ≡ stands T → (q : ℕ) → q < length (rows_of S) → term_of T q ≡ term_of S q
  -- Following an expression over rows that exist ends, in every clause of every state that reading comes to.
  pub following_ends : (S : State) → ComesTo file S → (n : ℕ) (c : Derivation) → clause_of S n ≡ some c → (e : Expression) → e.0 < length (rows_of S)
      → Ends (follow (row_of S) most_links (lookup c) e)
  -- Clauses are written out by what looking up gives, and by nothing else, in every such state.
  pub written_by_lookup : (S : State) → ComesTo file S → (n : ℕ) (c : Derivation) → clause_of S n ≡ some c
      → WritesOut (term_of S) (lookup c) (substitution (term_of S) c)
      × ((τ : Variable → Term Variable) → WritesOut (term_of S) (lookup c) τ → (x : Variable) → substitution (term_of S) c x ≡ τ x)
  -- (a) Every derived clause is the resolvent or factor of the textbook.
  pub resolvents : (k : ℕ) (S T : State) (r : Record) (ns : List ℕ) → Reached file k S r → RightLiterals r ns → step S k r ≡ stands T → ResolventAdded Y S k r ns T
  pub factors : (k : ℕ) (S T : State) (r : Record) → Reached file k S r → r.kind ≡ 6 → step S k r ≡ stands T → FactorAdded Y S k r T
  -- (b) A step is refused for a symbol clash or a variable inside its own value only if no unifier exists.
  pub no_unifier : (k : ℕ) (S : State) (r : Record) (reason : Reason) → Reached file k S r → step S k r ≡ refused reason → OneOf (reason_number reason) (10 ∷ 11 ∷ [])
      → (pairs : List TermPair) → StepAtoms S r pairs → NoUnifier Y pairs
  -- (c) A well-formed step on existing literals of fitting signs, two different ones in a factor, rising ones on the right of a resolve, that has a
  -- unifier is refused only by a limit.
  pub nothing_lost : (k : ℕ) (S : State) (r : Record) → Reached file k S r → ¬ OutOfRange r → (pairs : List TermPair) → StepAtoms S r pairs → ¬ NotRising r → ¬ SignsUnfit S r
      → (τ : Variable → Term Y) → Unifies τ pairs → StandsOrLimit S k r
  -- (d) No record and no file is refused unless the condition stated for the number given holds of it, and none that is given before it.
  pub record_due : (k : ℕ) (S : State) (r : Record) (reason : Reason) → Reached file k S r → step S k r ≡ refused reason
      → Condition S r (reason_number reason) × ((other : ℕ) → Condition S r other → precedence (reason_number reason) ≤ precedence other)
  pub refusals : (reason : Reason) (k : ℕ) → (check day file (lengths_of tables)).verdict ≡ refusal reason k → Due file tables (reason_number reason) k
  -- Which numbers there are; it follows from `refusals`, as only these have a condition.
  pub stated_numbers : (reason : Reason) (k : ℕ) → (check day file (lengths_of tables)).verdict ≡ refusal reason k
      → OneOf (reason_number reason) (1 ∷ 2 ∷ 3 ∷ 4 ∷ 5 ∷ 7 ∷ 8 ∷ 9 ∷ 10 ∷ 11 ∷ 12 ∷ 13 ∷ 14 ∷ 16 ∷ [])
  -- Where a condition holds, the record is refused, and the file too, with its number or one that is given before it.
  pub record_refused : (k : ℕ) (S : State) (r : Record) → Reached file k S r → (number : ℕ) → Condition S r number
      → (reason : Reason) × (step S k r ≡ refused reason) × (precedence (reason_number reason) ≤ precedence number)
  pub file_refused : (number k : ℕ) → ConditionAt file tables number k → (reason : Reason) × (j : ℕ) × ((check day file (lengths_of tables)).verdict ≡ refusal reason j) × (precedence (reason_number reason) ≤ precedence number)
  -- (e) With length and tables as stated, a file is accepted exactly if every record stands and some clause is empty whose derivation uses only clauses
  -- in force on the day, with the lowest such clause; it is open exactly if every record stands and there is none.
  pub accepted_only : (n : ℕ) → (check day file (lengths_of tables)).verdict ≡ accepted n → (S : State) × Stands file S × LowestEmpty (UsesInForce file day) S n
  pub accepted_if : ¬ TableShort tables → (S : State) → Stands file S → (i : ℕ) (c : Derivation) → clause_of S i ≡ some c → UsesInForce file day c → literals c ≡ []
      → (n : ℕ) × ((check day file (lengths_of tables)).verdict ≡ accepted n)
  pub open_only : (check day file (lengths_of tables)).verdict ≡ open' → (S : State) × Stands file S × NoneEmpty (UsesInForce file day) S
  pub open_if : ¬ TableShort tables → (S : State) → Stands file S → NoneEmpty (UsesInForce file day) S → (check day file (lengths_of tables)).verdict ≡ open'

-- ── Demand 3: a variable-free refutation behind every acceptance ──

-- Every use is the input clause of its number.
abbrev pub InputsOf : List Derivation → List Use → Type 0
InputsOf cs [] = Unit {0}
InputsOf cs (u ∷ us) = (entry cs u.0 ≡ some (input u.0 u.1)) × InputsOf cs us

-- What holds of the first empty clause that is admitted, clause n, of a file that stands and leaves S; m is the number of its uses.
pub record Refutation (Admitted : Derivation → Type 0) (file : File) (tables : Tables) (S : State) (n : ℕ) : Type 0 where
  pub first : LowestEmpty Admitted S n
  -- The uses are input clauses of the file, each counted as often as it is used.
  pub inputs : InputsOf (derivations S) (uses first.clause)
  -- m equals the clause's maximum index, and the check leaves it in its table as such.
  pub count : length (uses first.clause) ≡ maximum_index first.clause
  pub in_table : get_or (tables_after file tables).clauses (5 * n + 2) 0 ≡ length (uses first.clause)
  -- The values of its variables are those of the two rules, and no others are.
  pub values : Values (term_of S) (lookup first.clause) (value_in (term_of S) first.clause)
  pub values_unique : (γ : Variable → Ground) → Values (term_of S) (lookup first.clause) γ → (x : Variable) → value_in (term_of S) first.clause x ≡ γ x
  -- The m instances, the k-th use's at index k, are variable-free over the file's symbols at their arities and the extra constant, and
  -- no assignment makes them all true.
  pub formed : WellFormedInstances (arity_of S) (instances (term_of S) (value_in (term_of S) first.clause) 1 (uses first.clause))
  pub unsatisfiable : (A : Assignment) → ¬ AllTrue A (instances (term_of S) (value_in (term_of S) first.clause) 1 (uses first.clause))

pub record Demand3 (day : ℕ) (file : File) (tables : Tables) : Type 0 where
  pub refuted : (n : ℕ) → (check day file (lengths_of tables)).verdict ≡ accepted n → (S : State) × Stands file S × Refutation (UsesInForce file day) file tables S n
  -- All uses of the accepted clause are in force on the day. It follows from `refuted`, whose clause is admitted, and is stated by itself because document 02,
  -- Q-6, asks for it by name.
  pub in_force : (n : ℕ) → (check day file (lengths_of tables)).verdict ≡ accepted n → (S : State) → Stands file S → (c : Derivation) → clause_of S n ≡ some c
      → (u : Use) → OneOf u (uses c) → InForce file day u.0
