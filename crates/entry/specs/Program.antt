-- How the program keeps the state of a check: the contracts of its inner functions. No demand needs this file.
use Rattle.std.specs.Prelude.{◌≡◌, Bool, true, ◌&&◌, not, List, [], ◌∷◌, map, ℕ, ◌+◌, ◌*◌, ◌/◌, ◌%◌, ◌<◌, eqb, length, get_or, set, Result, Ok, Err}
use Rattle.std.proofs.Math.Option.{Option, none, some}
use Rattle.record.specs.Record.{pick, File, count_of, field_of, fields_of, decoded, decoded_in, symbolKind, variableKind, applicationKind, inputKind}
use Rattle.unification.specs.Nodes.{is_variable, part}
use Rattle.derivation.specs.Derivation.{RowLiteral, input_literals}
use Rattle.verdict.specs.Refusal.{in_range, in_order, argument_rows, has_arity, all_below}
use Rattle.tables.specs.Cells.{with_clause_cells}
use Rattle.fields.specs.Fields.{arity_in}
use Rattle.distinct.specs.Index.{Indexed}
use Rattle.distinct.specs.Rows.{with_node, row_with_cells}
use Rattle.record.specs.declared.Form.{Form}
use Rattle.entry.specs.declared.entry.Counts.{Counts}
use Rattle.reasons.specs.declared.Reason.{Reason}
use Rattle.reasons.specs.declared.Reason.TheVariants.{OutOfRange, NotThere, CrossedDays, VariableLiteral}

-- What becomes of a record: it stands, with the counts after it, or is refused.
abbrev pub Entered : Type 0
Entered = Result Counts Reason

-- The eight cells of a repeat of row q in the node table: 0 for no row, which no walk ever reads, and q.
abbrev pub repeat_cells : ℕ → List ℕ
repeat_cells q = 0 ∷ q ∷ 0 ∷ 0 ∷ 0 ∷ 0 ∷ 0 ∷ 0 ∷ []

-- What row r is taken as: where its cells have no code it is a repeat, and they name the earliest equal row.
abbrev pub earliest_node : List ℕ → ℕ → ℕ
earliest_node N r = pick (eqb (get_or N (8 * r) 0) 0) (part N r 0) r

-- The seven fields of an application, and the seven numbers of an input clause, 2 × row, plus 1 if positive, with each row taken so.
abbrev pub taken_literal : List ℕ → ℕ → ℕ
taken_literal N n = 2 * earliest_node N (n / 2) + n % 2

abbrev pub taken_arguments : List ℕ → List ℕ → List ℕ
taken_arguments N ns =
    get_or ns 0 0 ∷ earliest_node N (get_or ns 1 0) ∷ earliest_node N (get_or ns 2 0) ∷ earliest_node N (get_or ns 3 0)
    ∷ earliest_node N (get_or ns 4 0) ∷ earliest_node N (get_or ns 5 0) ∷ earliest_node N (get_or ns 6 0) ∷ []

abbrev pub taken_literals : List ℕ → List ℕ → List ℕ
taken_literals N ns =
    taken_literal N (get_or ns 0 0) ∷ taken_literal N (get_or ns 1 0) ∷ taken_literal N (get_or ns 2 0) ∷ taken_literal N (get_or ns 3 0)
    ∷ taken_literal N (get_or ns 4 0) ∷ taken_literal N (get_or ns 5 0) ∷ taken_literal N (get_or ns 6 0) ∷ []

-- What reading rows off the node table asks: its length, and that repeats name rows of the table.
pub record RowsReady (N : List ℕ) : Type 0 where
  pub room : length N ≡ 32768
  pub repeats : (r : ℕ) → get_or N (8 * r) 0 ≡ 0 → part N r 0 < 4096

-- No literal of an input clause is on a variable row, off the node table.
abbrev pub no_variable : List ℕ → List RowLiteral → Bool
no_variable N [] = true
no_variable N (l ∷ ls) = not (is_variable N (earliest_node N l.1)) && no_variable N ls

-- One symbol, row or clause more.
abbrev pub more_symbols : Counts → Counts
more_symbols n = record { symbols = n.symbols + 1; rows = n.rows; clauses = n.clauses; bindings = n.bindings }

abbrev pub more_rows : Counts → Counts
more_rows n = record { symbols = n.symbols; rows = n.rows + 1; clauses = n.clauses; bindings = n.bindings }

abbrev pub more_clauses : Counts → Counts
more_clauses n = record { symbols = n.symbols; rows = n.rows; clauses = n.clauses + 1; bindings = n.bindings }

-- What a record of kind 1 to 4 answers and leaves in the tables that it can change. The tests are in the order of their numbers; a
-- record that is refused changes nothing.
-- Kind 1: the answer, and the table of symbols after it.
pub record SymbolLeft : Type 0 where
  pub answer : Entered
  pub symbols : List ℕ

abbrev pub symbol_left : Entered → List ℕ → SymbolLeft
symbol_left e symbols = record { answer = e; symbols = symbols }

unfoldable pub symbol_entered : List ℕ → ℕ → Counts → List ℕ → SymbolLeft
symbol_entered part k n symbols =
    pick (in_range symbolKind (decoded part))
    (symbol_left (Ok (more_symbols n)) (set symbols n.symbols k))
    (symbol_left (Err OutOfRange) symbols)

-- Kinds 2 and 3: the answer, the table of rows and the node table after it.
pub record RowLeft : Type 0 where
  pub answer : Entered
  pub rows : List ℕ
  pub nodes : List ℕ

abbrev pub row_left : Entered → List ℕ → List ℕ → RowLeft
row_left e rows N = record { answer = e; rows = rows; nodes = N }

-- A row that no earlier row equals gets its cells and its record's number; a repeat names the earliest equal row and gets the number of its record.
abbrev pub row_found : Option ℕ → List ℕ → ℕ → ℕ → Counts → List ℕ → List ℕ → RowLeft
row_found none ns k code n rows N = row_left (Ok (more_rows n)) (set rows n.rows k) (with_node N n.rows (code ∷ ns))
row_found (some q) ns k code n rows N = row_left (Ok (more_rows n)) (set rows n.rows (get_or rows q 0)) (with_node N n.rows (repeat_cells q))

unfoldable pub row_entered : List ℕ → ℕ → ℕ → Counts → List ℕ → List ℕ → RowLeft
row_entered ns k code n rows N = row_found (row_with_cells N n.rows (code ∷ ns)) ns k code n rows N

-- How many rows there are after a record, and the index of them that it asks for and leaves.
abbrev pub rows_after : Counts → Entered → ℕ
rows_after n (Ok m) = m.rows
rows_after n (Err r) = n.rows

pub record RowsIndexed (N : List ℕ) (n : Counts) (H L : List ℕ) : Type 0 where
  pub index : Indexed N n.rows H L
  pub room : n.rows < 4096
  pub ready : RowsReady N

-- What entering a row asks of its cells.
pub record RowReady (N : List ℕ) (n : Counts) (H L : List ℕ) (code : ℕ) (ns : List ℕ) : Type 0 where
  pub index : Indexed N n.rows H L
  pub room : n.rows < 4096
  pub seven : length ns ≡ 7
  pub coded : 0 < code

-- Kind 2: a variable's code in the node table is 1.
unfoldable pub variable_entered : List ℕ → ℕ → Counts → List ℕ → List ℕ → RowLeft
variable_entered part k n rows N =
    pick (in_range variableKind (decoded part))
    (row_entered (fields_of part) k 1 n rows N)
    (row_left (Err OutOfRange) rows N)

-- Kind 3: 5, off the tables; and an application's code in the node table is 2 more than the number of its arguments.
unfoldable pub application_there : File → List ℕ → Counts → List ℕ → Bool
application_there F part n symbols =
    has_arity (count_of part) (arity_in F symbols n.symbols (field_of part 0)) && all_below n.rows (argument_rows (decoded part))

unfoldable pub application_entered : File → List ℕ → ℕ → Counts → List ℕ → List ℕ → List ℕ → RowLeft
application_entered F part k n symbols rows N =
    pick (in_range applicationKind (decoded part))
    (pick (application_there F part n symbols)
    (row_entered (taken_arguments N (fields_of part)) k (2 + count_of part) n rows N)
    (row_left (Err NotThere) rows N))
    (row_left (Err OutOfRange) rows N)

-- Kind 4: the answer, the table of clauses and the table of origins after it.
pub record InputLeft : Type 0 where
  pub answer : Entered
  pub clauses : List ℕ
  pub origins : List ℕ

abbrev pub input_left : Entered → List ℕ → List ℕ → InputLeft
input_left e clauses O = record { answer = e; clauses = clauses; origins = O }

-- An input clause has maximum index 1 and no bindings; its code in the table of origins is 1. No table has the days beside it.
unfoldable pub input_entered : Form → List ℕ → ℕ → Counts → List ℕ → List ℕ → List ℕ → InputLeft
input_entered form part k n clauses N O =
    pick (in_range inputKind (decoded part))
    (pick (all_below n.rows (map (λ l. l.1) (input_literals (decoded part))))
    (pick (in_order (decoded_in form part).days)
    (pick (no_variable N (input_literals (decoded part)))
    (input_left (Ok (more_clauses n)) (with_clause_cells clauses n.clauses k (count_of part) 1 n.bindings 0) (with_node O n.clauses (1 ∷ taken_literals N (fields_of part))))
    (input_left (Err VariableLiteral) clauses O))
    (input_left (Err CrossedDays) clauses O))
    (input_left (Err NotThere) clauses O))
    (input_left (Err OutOfRange) clauses O)
