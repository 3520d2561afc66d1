-- Edges of document 01's limits ("The file", "Verdict, tables and refusals", "The readout"): what is at a limit stands, and what is one
-- past it is refused; and of document 02's outlines, steps on several literals and windows. The limit of outlines is in the crate
-- unification, and so is that of bindings as unification sees it.
use Rattle.std.specs.Prelude.{◌≡◌, true, false, List, [], ◌∷◌, ◌++◌, map, ℕ, zero, suc, replicate}
use Rattle.record.specs.Bytes.{bytes_in, file_bytes}
use Rattle.record.specs.Record.{old_file, new_file, Record, with_days}
use Rattle.unification.specs.Row.{variable, Row, application, Variable}
use Rattle.unification.specs.Term.{Term, var, app, nil, cons}
use Rattle.derivation.specs.Derivation.{input}
use Rattle.verdict.specs.Cases.{record_of, symbol_of, variable_row, application_row, input_clause, resolve_step, factor_step, numbers_from, text_bytes}
use Rattle.verdict.specs.Refusal.{reason_number}
use Rattle.verdict.specs.State.{State, empty_state, with_row}
use Rattle.verdict.specs.Step.{stands, refused, Result, step}
use Rattle.verdict.specs.Tables.{Tables, lengths_of, row_cells, tables_after}
use Rattle.verdict.specs.Text.{decimal, number_and_index, sign_text, term_text, literal_text}
use Rattle.verdict.specs.Verdict.{check, answer_numbers, least_lengths, fitting_length}
use Rattle.record.specs.declared.Form.TheVariants.{New}

-- Records, and the seven numbers of the answer to the file that they make: 0 open, 1 accepted, 2 refused; clause or reason; record; the
-- counts of symbols, rows, clauses, bindings.
abbrev pub Answered : Type 0
Answered = List Record × List ℕ

abbrev pub answer_on : ℕ → List Record → List ℕ
answer_on day rs = answer_numbers (check day (old_file (file_bytes rs)) least_lengths)

abbrev pub answer_to : List Record → List ℕ
answer_to rs = answer_on 0 rs

-- Reason 4, "byte 1 or variable number out of its range": arity 6 and 7, variable 63 and 64, 6 and 7 arguments, 7 and 8 literals, and
-- a byte 1 of kinds 2, 5 and 6, which is to be 0. With 0 there the two steps are refused with 5: they name nothing.
abbrev pub ranges : List Answered
ranges =
    (symbol_of 6 ∷ [], 0 ∷ 0 ∷ 0 ∷ 1 ∷ 0 ∷ 0 ∷ 0 ∷ [])
    ∷ (symbol_of 7 ∷ [], 2 ∷ 4 ∷ 0 ∷ 0 ∷ 0 ∷ 0 ∷ 0 ∷ [])
    ∷ (variable_row 63 ∷ [], 0 ∷ 0 ∷ 0 ∷ 0 ∷ 1 ∷ 0 ∷ 0 ∷ [])
    ∷ (variable_row 64 ∷ [], 2 ∷ 4 ∷ 0 ∷ 0 ∷ 0 ∷ 0 ∷ 0 ∷ [])
    ∷ (symbol_of 6 ∷ variable_row 0 ∷ application_row 0 (replicate 6 0) ∷ [], 0 ∷ 0 ∷ 0 ∷ 1 ∷ 2 ∷ 0 ∷ 0 ∷ [])
    ∷ (symbol_of 6 ∷ variable_row 0 ∷ application_row 0 (replicate 7 0) ∷ [], 2 ∷ 4 ∷ 2 ∷ 1 ∷ 1 ∷ 0 ∷ 0 ∷ [])
    ∷ (symbol_of 0 ∷ application_row 0 [] ∷ input_clause (replicate 7 1) ∷ [], 0 ∷ 0 ∷ 0 ∷ 1 ∷ 1 ∷ 1 ∷ 0 ∷ [])
    ∷ (symbol_of 0 ∷ application_row 0 [] ∷ input_clause (replicate 8 1) ∷ [], 2 ∷ 4 ∷ 2 ∷ 1 ∷ 1 ∷ 0 ∷ 0 ∷ [])
    ∷ (record_of 2 1 [] ∷ [], 2 ∷ 4 ∷ 0 ∷ 0 ∷ 0 ∷ 0 ∷ 0 ∷ [])
    ∷ (record_of 5 0 [] ∷ [], 2 ∷ 5 ∷ 0 ∷ 0 ∷ 0 ∷ 0 ∷ 0 ∷ [])
    ∷ (record_of 5 1 [] ∷ [], 2 ∷ 4 ∷ 0 ∷ 0 ∷ 0 ∷ 0 ∷ 0 ∷ [])
    ∷ (record_of 6 0 [] ∷ [], 2 ∷ 5 ∷ 0 ∷ 0 ∷ 0 ∷ 0 ∷ 0 ∷ [])
    ∷ (record_of 6 1 [] ∷ [], 2 ∷ 4 ∷ 0 ∷ 0 ∷ 0 ∷ 0 ∷ 0 ∷ [])
    ∷ []

-- Reason 4, "an unused field not zero": of each of the kinds 1 to 6 the first unused field and the last, which is g.
abbrev pub unused_fields : List Answered
unused_fields =
    (record_of 1 6 (1 ∷ []) ∷ [], 2 ∷ 4 ∷ 0 ∷ 0 ∷ 0 ∷ 0 ∷ 0 ∷ [])
    ∷ (record_of 1 6 (replicate 6 0 ++ (1 ∷ [])) ∷ [], 2 ∷ 4 ∷ 0 ∷ 0 ∷ 0 ∷ 0 ∷ 0 ∷ [])
    ∷ (record_of 2 0 (63 ∷ 1 ∷ []) ∷ [], 2 ∷ 4 ∷ 0 ∷ 0 ∷ 0 ∷ 0 ∷ 0 ∷ [])
    ∷ (record_of 2 0 (63 ∷ 0 ∷ 0 ∷ 0 ∷ 0 ∷ 0 ∷ 1 ∷ []) ∷ [], 2 ∷ 4 ∷ 0 ∷ 0 ∷ 0 ∷ 0 ∷ 0 ∷ [])
    ∷ (symbol_of 1 ∷ variable_row 0 ∷ record_of 3 1 (0 ∷ 0 ∷ 1 ∷ []) ∷ [], 2 ∷ 4 ∷ 2 ∷ 1 ∷ 1 ∷ 0 ∷ 0 ∷ [])
    ∷ (symbol_of 5 ∷ variable_row 0 ∷ record_of 3 5 (0 ∷ 0 ∷ 0 ∷ 0 ∷ 0 ∷ 0 ∷ 1 ∷ []) ∷ [], 2 ∷ 4 ∷ 2 ∷ 1 ∷ 1 ∷ 0 ∷ 0 ∷ [])
    ∷ (record_of 4 0 (1 ∷ []) ∷ [], 2 ∷ 4 ∷ 0 ∷ 0 ∷ 0 ∷ 0 ∷ 0 ∷ [])
    ∷ (symbol_of 0 ∷ application_row 0 [] ∷ record_of 4 6 (replicate 7 1) ∷ [], 2 ∷ 4 ∷ 2 ∷ 1 ∷ 1 ∷ 0 ∷ 0 ∷ [])
    ∷ (record_of 5 0 (0 ∷ 0 ∷ 0 ∷ 0 ∷ 1 ∷ []) ∷ [], 2 ∷ 4 ∷ 0 ∷ 0 ∷ 0 ∷ 0 ∷ 0 ∷ [])
    ∷ (record_of 5 0 (0 ∷ 0 ∷ 0 ∷ 0 ∷ 0 ∷ 0 ∷ 1 ∷ []) ∷ [], 2 ∷ 4 ∷ 0 ∷ 0 ∷ 0 ∷ 0 ∷ 0 ∷ [])
    ∷ (record_of 6 0 (0 ∷ 0 ∷ 0 ∷ 1 ∷ []) ∷ [], 2 ∷ 4 ∷ 0 ∷ 0 ∷ 0 ∷ 0 ∷ 0 ∷ [])
    ∷ (record_of 6 0 (0 ∷ 0 ∷ 0 ∷ 0 ∷ 0 ∷ 0 ∷ 1 ∷ []) ∷ [], 2 ∷ 4 ∷ 0 ∷ 0 ∷ 0 ∷ 0 ∷ 0 ∷ [])
    ∷ []

-- Reason 9, maximum index: twelve doublings of -s0 +s0 reach 4,096; one more use makes 4,097.
abbrev pub index_edge : List Record
index_edge =
    symbol_of 0 ∷ application_row 0 [] ∷ input_clause (0 ∷ 1 ∷ [])
    ∷ (map (λ n. resolve_step n 2 n 1) (numbers_from 0 12) ++ (resolve_step 12 2 0 1 ∷ []))

-- Reason 9, literals: twenty-four resolutions of seven literals reach 127, and one of three reaches 128; one more makes 129.
abbrev pub literal_edge : List Record
literal_edge =
    symbol_of 0 ∷ application_row 0 [] ∷ input_clause (0 ∷ 1 ∷ 1 ∷ []) ∷ input_clause (0 ∷ 1 ∷ 1 ∷ 1 ∷ 1 ∷ 1 ∷ 1 ∷ [])
    ∷ (map (λ n. resolve_step n 2 1 1) (numbers_from 1 24) ++ (resolve_step 25 2 0 1 ∷ resolve_step 26 2 0 1 ∷ []))

-- Reason 12: an atom of 16,384 symbols against itself at another index takes as many pairs; one symbol more is one pair more.
abbrev pub work_edge : List Record
work_edge =
    symbol_of 2 ∷ symbol_of 0 ∷ symbol_of 1 ∷ application_row 1 []
    ∷ (map (λ n. application_row 0 (n ∷ n ∷ [])) (numbers_from 0 13)
    ++ (application_row 2 (13 ∷ []) ∷ application_row 2 (14 ∷ [])
    ∷ input_clause (29 ∷ []) ∷ input_clause (28 ∷ []) ∷ input_clause (31 ∷ []) ∷ input_clause (30 ∷ [])
    ∷ resolve_step 0 1 1 1 ∷ resolve_step 2 1 3 1 ∷ []))

abbrev pub limits : List Answered
limits =
    (index_edge, 2 ∷ 9 ∷ 15 ∷ 1 ∷ 1 ∷ 13 ∷ 0 ∷ [])
    ∷ (literal_edge, 2 ∷ 9 ∷ 29 ∷ 1 ∷ 1 ∷ 27 ∷ 0 ∷ [])
    ∷ (work_edge, 2 ∷ 12 ∷ 24 ∷ 3 ∷ 16 ∷ 5 ∷ 0 ∷ [])
    ∷ []

-- Reason 10, document 02, Q-1: s0(v0,v0,s2) against s0(v0,s1(v0),row), whose last argument is s3 or s2. The variable occurs in its value (11), but
-- different constants clash in the outlines, and that comes first. As a resolve and as a factor; and as a resolve on two right literals, of which the first
-- brings the occurrence and the second, s0(v0,v0,s3), the clash.
abbrev pub before_occurrence : ℕ → List Record → List Record
before_occurrence row rs =
    symbol_of 3 ∷ symbol_of 1 ∷ symbol_of 0 ∷ symbol_of 0 ∷ variable_row 0 ∷ application_row 1 (0 ∷ []) ∷ application_row 2 [] ∷ application_row 3 []
    ∷ application_row 0 (0 ∷ 0 ∷ 2 ∷ []) ∷ application_row 0 (0 ∷ 1 ∷ row ∷ []) ∷ rs

-- Outlines are of the rows as written: clause 2 is +s0(v0,v0,v1), in which a step has bound v1 to s2, and clause 3 is -s0(v0,s1(v0),s3). A variable
-- clashes with nothing, whatever it is bound to, so the occurrence is found (11).
abbrev pub as_written : List Record
as_written =
    symbol_of 3 ∷ symbol_of 1 ∷ symbol_of 0 ∷ symbol_of 0 ∷ variable_row 0 ∷ variable_row 1 ∷ application_row 1 (0 ∷ []) ∷ application_row 1 (1 ∷ []) ∷ application_row 2 [] ∷ application_row 3 []
    ∷ application_row 0 (0 ∷ 0 ∷ 1 ∷ []) ∷ application_row 0 (0 ∷ 2 ∷ 5 ∷ []) ∷ application_row 1 (4 ∷ [])
    ∷ input_clause (13 ∷ 7 ∷ []) ∷ input_clause (16 ∷ []) ∷ resolve_step 0 2 1 1 ∷ input_clause (14 ∷ []) ∷ resolve_step 2 1 3 1 ∷ []

abbrev pub outlines : List Answered
outlines =
    (before_occurrence 3 (input_clause (9 ∷ []) ∷ input_clause (10 ∷ []) ∷ resolve_step 0 1 1 1 ∷ []), 2 ∷ 10 ∷ 12 ∷ 4 ∷ 6 ∷ 2 ∷ 0 ∷ [])
    ∷ (before_occurrence 2 (input_clause (9 ∷ []) ∷ input_clause (10 ∷ []) ∷ resolve_step 0 1 1 1 ∷ []), 2 ∷ 11 ∷ 12 ∷ 4 ∷ 6 ∷ 2 ∷ 0 ∷ [])
    ∷ (before_occurrence 3 (input_clause (9 ∷ 11 ∷ []) ∷ record_of 6 0 (0 ∷ 1 ∷ 2 ∷ []) ∷ []), 2 ∷ 10 ∷ 11 ∷ 4 ∷ 6 ∷ 1 ∷ 0 ∷ [])
    ∷ (before_occurrence 2 (input_clause (9 ∷ 11 ∷ []) ∷ record_of 6 0 (0 ∷ 1 ∷ 2 ∷ []) ∷ []), 2 ∷ 11 ∷ 11 ∷ 4 ∷ 6 ∷ 1 ∷ 0 ∷ [])
    ∷ (before_occurrence 2 (application_row 0 (0 ∷ 0 ∷ 3 ∷ []) ∷ input_clause (8 ∷ []) ∷ input_clause (11 ∷ 13 ∷ []) ∷ record_of 7 2 (0 ∷ 1 ∷ 1 ∷ 1 ∷ 2 ∷ []) ∷ []), 2 ∷ 10 ∷ 13 ∷ 4 ∷ 7 ∷ 2 ∷ 0 ∷ [])
    ∷ (as_written, 2 ∷ 11 ∷ 17 ∷ 4 ∷ 9 ∷ 4 ∷ 1 ∷ [])
    ∷ []

-- Document 02, Q-3: clause 0 is -s0(s1), clause 1 is +s0(v0) -s0(v1) +s0(v1). A step of kind 7 with byte 1 0 or 5, or with an unused field (4); on a
-- literal that does not exist (5, also where the numbers fall); on numbers that fall or are equal (14, also where a sign is equal); with the second sign
-- equal (8); and on one literal and on two, which stand.
abbrev pub several_step : ℕ → List ℕ → List Record
several_step n fields =
    symbol_of 1 ∷ symbol_of 0 ∷ variable_row 0 ∷ variable_row 1 ∷ application_row 1 [] ∷ application_row 0 (0 ∷ []) ∷ application_row 0 (1 ∷ []) ∷ application_row 0 (2 ∷ [])
    ∷ input_clause (10 ∷ []) ∷ input_clause (7 ∷ 8 ∷ 9 ∷ []) ∷ record_of 7 n fields ∷ []

abbrev pub several_literals : List Answered
several_literals =
    (several_step 0 (0 ∷ 1 ∷ 1 ∷ []), 2 ∷ 4 ∷ 10 ∷ 2 ∷ 6 ∷ 2 ∷ 0 ∷ [])
    ∷ (several_step 5 (0 ∷ 1 ∷ 1 ∷ 1 ∷ 3 ∷ 4 ∷ 5 ∷ []), 2 ∷ 4 ∷ 10 ∷ 2 ∷ 6 ∷ 2 ∷ 0 ∷ [])
    ∷ (several_step 1 (0 ∷ 1 ∷ 1 ∷ 1 ∷ 3 ∷ []), 2 ∷ 4 ∷ 10 ∷ 2 ∷ 6 ∷ 2 ∷ 0 ∷ [])
    ∷ (several_step 2 (0 ∷ 1 ∷ 1 ∷ 1 ∷ 4 ∷ []), 2 ∷ 5 ∷ 10 ∷ 2 ∷ 6 ∷ 2 ∷ 0 ∷ [])
    ∷ (several_step 2 (0 ∷ 1 ∷ 1 ∷ 4 ∷ 1 ∷ []), 2 ∷ 5 ∷ 10 ∷ 2 ∷ 6 ∷ 2 ∷ 0 ∷ [])
    ∷ (several_step 2 (0 ∷ 1 ∷ 1 ∷ 3 ∷ 1 ∷ []), 2 ∷ 14 ∷ 10 ∷ 2 ∷ 6 ∷ 2 ∷ 0 ∷ [])
    ∷ (several_step 2 (0 ∷ 1 ∷ 1 ∷ 1 ∷ 1 ∷ []), 2 ∷ 14 ∷ 10 ∷ 2 ∷ 6 ∷ 2 ∷ 0 ∷ [])
    ∷ (several_step 2 (0 ∷ 1 ∷ 1 ∷ 2 ∷ 1 ∷ []), 2 ∷ 14 ∷ 10 ∷ 2 ∷ 6 ∷ 2 ∷ 0 ∷ [])
    ∷ (several_step 2 (0 ∷ 1 ∷ 1 ∷ 1 ∷ 2 ∷ []), 2 ∷ 8 ∷ 10 ∷ 2 ∷ 6 ∷ 2 ∷ 0 ∷ [])
    ∷ (several_step 1 (0 ∷ 1 ∷ 1 ∷ 1 ∷ []), 0 ∷ 0 ∷ 0 ∷ 2 ∷ 6 ∷ 3 ∷ 1 ∷ [])
    ∷ (several_step 2 (0 ∷ 1 ∷ 1 ∷ 1 ∷ 3 ∷ []), 0 ∷ 0 ∷ 0 ∷ 2 ∷ 6 ∷ 3 ∷ 2 ∷ [])
    ∷ []

abbrev pub edges : List Answered
edges = ranges ++ (unused_fields ++ (limits ++ (outlines ++ several_literals)))

abbrev pub EdgesHold : Type 0
EdgesHold = map (λ e. answer_to e.0) edges ≡ map (λ e. e.1) edges

-- Reason 13: the room for bindings goes by those that the state holds, in a resolve and in a factor. Clause 0 is +s0(v0) +s0(s1), clause 1 is -s0(s1), and
-- either step binds v0: where 8,191 are held it stands and leaves 8,192, and where 8,192 are held it is refused.
abbrev pub holding_bindings : ℕ → State
holding_bindings n = record {
  symbols = (1, 0) ∷ (0, 1) ∷ [];
  rows = (5, application 0 (1 ∷ [])) ∷ (4, application 0 (0 ∷ [])) ∷ (3, application 1 []) ∷ (2, variable 0) ∷ [];
  clauses = (7, input 1 ((false, 3) ∷ [])) ∷ (6, input 0 ((true, 2) ∷ (true, 3) ∷ [])) ∷ [];
  total = n;
  windows = [];
}

-- 0 and the bindings held after a step that stands; 2 and the reason of one that is refused.
abbrev pub step_numbers : Result → List ℕ
step_numbers (stands T) = 0 ∷ T.total ∷ []
step_numbers (refused reason) = 2 ∷ reason_number reason ∷ []

abbrev pub rooms : List (ℕ × Record × List ℕ)
rooms =
    (8191, resolve_step 1 1 0 1, 0 ∷ 8192 ∷ [])
    ∷ (8192, resolve_step 1 1 0 1, 2 ∷ 13 ∷ [])
    ∷ (8191, factor_step 0 1 2, 0 ∷ 8192 ∷ [])
    ∷ (8192, factor_step 0 1 2, 2 ∷ 13 ∷ [])
    ∷ []

abbrev pub RoomsHold : Type 0
RoomsHold = map (λ e. step_numbers (step (holding_bindings e.0) 8 e.1)) rooms ≡ map (λ e. e.2) rooms

-- A row in record 256, the first whose number takes two bytes: the table of rows has the whole number.
abbrev pub FarRowHolds : Type 0
FarRowHolds = row_cells (with_row empty_state 256 (variable 0)) ≡ 256 ∷ []

-- Document 02, Q-6: clause 0 is +s0, clause 1 is -s0, and clause 2, their resolvent, is empty; then come other records. With days 10 to 20 for clause 0
-- the days 9, 10, 20 and 21, and with them for clause 1, the right parent, 9 and 10; day 10 alone, and the days about it; days 30 to 40 after 10 to 20,
-- and 10 to 20 after 30 to 40, which supersede; a later record for clause 1 supersedes nothing of clause 0; two empty clauses, of which the lower uses
-- clause 0 and the other does not, on a day of clause 0 and on another. Then what is refused: byte 1 and the first and last spare field (4), a clause that does not exist and one that is
-- derived (5, also with crossed days), crossed days (16), kind 9 (3).
abbrev pub two_clauses : List Record → List Record
two_clauses rs = symbol_of 0 ∷ application_row 0 [] ∷ input_clause (1 ∷ []) ∷ input_clause (0 ∷ []) ∷ resolve_step 0 1 1 1 ∷ rs

abbrev pub window_for : ℕ → ℕ → ℕ → Record
window_for clause first last = record_of 8 0 (clause ∷ first ∷ last ∷ [])

-- The dated clause further back: clause 0 is +s0 +s0, clause 1 -s0, clause 2 the factor of clause 0, and clause 3 the resolvent of 2 and 1; or clause 2
-- the resolvent of 1 and one literal of 0, and clause 3 that of 1 and the other; or clause 2 that of 1 and both, by kind 7.
abbrev pub further_back : List Record → List Record
further_back rs = symbol_of 0 ∷ application_row 0 [] ∷ input_clause (1 ∷ 1 ∷ []) ∷ input_clause (0 ∷ []) ∷ rs

abbrev pub windows : List (ℕ × List Record × List ℕ)
windows =
    (9, two_clauses (window_for 0 10 20 ∷ []), 0 ∷ 0 ∷ 0 ∷ 1 ∷ 1 ∷ 3 ∷ 0 ∷ [])
    ∷ (10, two_clauses (window_for 0 10 20 ∷ []), 1 ∷ 2 ∷ 0 ∷ 1 ∷ 1 ∷ 3 ∷ 0 ∷ [])
    ∷ (20, two_clauses (window_for 0 10 20 ∷ []), 1 ∷ 2 ∷ 0 ∷ 1 ∷ 1 ∷ 3 ∷ 0 ∷ [])
    ∷ (21, two_clauses (window_for 0 10 20 ∷ []), 0 ∷ 0 ∷ 0 ∷ 1 ∷ 1 ∷ 3 ∷ 0 ∷ [])
    ∷ (9, two_clauses (window_for 1 10 20 ∷ []), 0 ∷ 0 ∷ 0 ∷ 1 ∷ 1 ∷ 3 ∷ 0 ∷ [])
    ∷ (10, two_clauses (window_for 1 10 20 ∷ []), 1 ∷ 2 ∷ 0 ∷ 1 ∷ 1 ∷ 3 ∷ 0 ∷ [])
    ∷ (9, two_clauses (window_for 0 10 10 ∷ []), 0 ∷ 0 ∷ 0 ∷ 1 ∷ 1 ∷ 3 ∷ 0 ∷ [])
    ∷ (10, two_clauses (window_for 0 10 10 ∷ []), 1 ∷ 2 ∷ 0 ∷ 1 ∷ 1 ∷ 3 ∷ 0 ∷ [])
    ∷ (11, two_clauses (window_for 0 10 10 ∷ []), 0 ∷ 0 ∷ 0 ∷ 1 ∷ 1 ∷ 3 ∷ 0 ∷ [])
    ∷ (20, two_clauses (window_for 0 10 20 ∷ window_for 0 30 40 ∷ []), 0 ∷ 0 ∷ 0 ∷ 1 ∷ 1 ∷ 3 ∷ 0 ∷ [])
    ∷ (30, two_clauses (window_for 0 10 20 ∷ window_for 0 30 40 ∷ []), 1 ∷ 2 ∷ 0 ∷ 1 ∷ 1 ∷ 3 ∷ 0 ∷ [])
    ∷ (20, two_clauses (window_for 0 30 40 ∷ window_for 0 10 20 ∷ []), 1 ∷ 2 ∷ 0 ∷ 1 ∷ 1 ∷ 3 ∷ 0 ∷ [])
    ∷ (30, two_clauses (window_for 0 30 40 ∷ window_for 0 10 20 ∷ []), 0 ∷ 0 ∷ 0 ∷ 1 ∷ 1 ∷ 3 ∷ 0 ∷ [])
    ∷ (30, two_clauses (window_for 0 10 20 ∷ window_for 1 30 40 ∷ []), 0 ∷ 0 ∷ 0 ∷ 1 ∷ 1 ∷ 3 ∷ 0 ∷ [])
    ∷ (10, two_clauses (window_for 0 10 20 ∷ input_clause (1 ∷ []) ∷ resolve_step 3 1 1 1 ∷ []), 1 ∷ 2 ∷ 0 ∷ 1 ∷ 1 ∷ 5 ∷ 0 ∷ [])
    ∷ (30, two_clauses (window_for 0 10 20 ∷ input_clause (1 ∷ []) ∷ resolve_step 3 1 1 1 ∷ []), 1 ∷ 4 ∷ 0 ∷ 1 ∷ 1 ∷ 5 ∷ 0 ∷ [])
    ∷ (9, further_back (factor_step 0 1 2 ∷ resolve_step 2 1 1 1 ∷ window_for 0 10 20 ∷ []), 0 ∷ 0 ∷ 0 ∷ 1 ∷ 1 ∷ 4 ∷ 0 ∷ [])
    ∷ (10, further_back (factor_step 0 1 2 ∷ resolve_step 2 1 1 1 ∷ window_for 0 10 20 ∷ []), 1 ∷ 3 ∷ 0 ∷ 1 ∷ 1 ∷ 4 ∷ 0 ∷ [])
    ∷ (9, further_back (resolve_step 1 1 0 1 ∷ resolve_step 1 1 2 1 ∷ window_for 0 10 20 ∷ []), 0 ∷ 0 ∷ 0 ∷ 1 ∷ 1 ∷ 4 ∷ 0 ∷ [])
    ∷ (10, further_back (resolve_step 1 1 0 1 ∷ resolve_step 1 1 2 1 ∷ window_for 0 10 20 ∷ []), 1 ∷ 3 ∷ 0 ∷ 1 ∷ 1 ∷ 4 ∷ 0 ∷ [])
    ∷ (9, further_back (record_of 7 2 (1 ∷ 1 ∷ 0 ∷ 1 ∷ 2 ∷ []) ∷ window_for 0 10 20 ∷ []), 0 ∷ 0 ∷ 0 ∷ 1 ∷ 1 ∷ 3 ∷ 0 ∷ [])
    ∷ (10, further_back (record_of 7 2 (1 ∷ 1 ∷ 0 ∷ 1 ∷ 2 ∷ []) ∷ window_for 0 10 20 ∷ []), 1 ∷ 2 ∷ 0 ∷ 1 ∷ 1 ∷ 3 ∷ 0 ∷ [])
    ∷ (0, two_clauses (record_of 8 1 (0 ∷ 10 ∷ 20 ∷ []) ∷ []), 2 ∷ 4 ∷ 5 ∷ 1 ∷ 1 ∷ 3 ∷ 0 ∷ [])
    ∷ (0, two_clauses (record_of 8 0 (0 ∷ 10 ∷ 20 ∷ 1 ∷ []) ∷ []), 2 ∷ 4 ∷ 5 ∷ 1 ∷ 1 ∷ 3 ∷ 0 ∷ [])
    ∷ (0, two_clauses (record_of 8 0 (0 ∷ 10 ∷ 20 ∷ 0 ∷ 0 ∷ 0 ∷ 1 ∷ []) ∷ []), 2 ∷ 4 ∷ 5 ∷ 1 ∷ 1 ∷ 3 ∷ 0 ∷ [])
    ∷ (0, two_clauses (window_for 3 10 20 ∷ []), 2 ∷ 5 ∷ 5 ∷ 1 ∷ 1 ∷ 3 ∷ 0 ∷ [])
    ∷ (0, two_clauses (window_for 2 10 20 ∷ []), 2 ∷ 5 ∷ 5 ∷ 1 ∷ 1 ∷ 3 ∷ 0 ∷ [])
    ∷ (0, two_clauses (window_for 2 20 10 ∷ []), 2 ∷ 5 ∷ 5 ∷ 1 ∷ 1 ∷ 3 ∷ 0 ∷ [])
    ∷ (0, two_clauses (window_for 1 20 10 ∷ []), 2 ∷ 16 ∷ 5 ∷ 1 ∷ 1 ∷ 3 ∷ 0 ∷ [])
    ∷ (0, two_clauses (record_of 9 0 (0 ∷ 10 ∷ 20 ∷ []) ∷ []), 2 ∷ 3 ∷ 5 ∷ 1 ∷ 1 ∷ 3 ∷ 0 ∷ [])
    ∷ []

abbrev pub WindowsHold : Type 0
WindowsHold = map (λ e. answer_on e.0 e.1) windows ≡ map (λ e. e.2) windows

-- Document 02, Q-11: the same two clauses and their resolvent in the new form, in force from `first` to `last`; and one record in it. Days beside a record that is no input
-- clause give 4, whichever is not zero; kind 8 gives 3, also where its days are not zero. Crossed days give 16, after a row that does not exist (5) and before
-- a literal on a variable (7).
abbrev pub new_answer_on : ℕ → List Record → List ℕ
new_answer_on day rs = answer_numbers (check day (new_file (bytes_in New rs)) least_lengths)

abbrev pub undated : Record → Record
undated r = with_days r 0 0

abbrev pub two_dated : ℕ → ℕ → List Record
two_dated first last =
    undated (symbol_of 0) ∷ undated (application_row 0 []) ∷ with_days (input_clause (1 ∷ [])) first last ∷ with_days (input_clause (0 ∷ [])) 0 65535 ∷ undated (resolve_step 0 1 1 1) ∷ []

abbrev pub forms : List (ℕ × List Record × List ℕ)
forms =
    (9, two_dated 10 20, 0 ∷ 0 ∷ 0 ∷ 1 ∷ 1 ∷ 3 ∷ 0 ∷ [])
    ∷ (10, two_dated 10 20, 1 ∷ 2 ∷ 0 ∷ 1 ∷ 1 ∷ 3 ∷ 0 ∷ [])
    ∷ (20, two_dated 10 20, 1 ∷ 2 ∷ 0 ∷ 1 ∷ 1 ∷ 3 ∷ 0 ∷ [])
    ∷ (21, two_dated 10 20, 0 ∷ 0 ∷ 0 ∷ 1 ∷ 1 ∷ 3 ∷ 0 ∷ [])
    ∷ (0, two_dated 0 65535, 1 ∷ 2 ∷ 0 ∷ 1 ∷ 1 ∷ 3 ∷ 0 ∷ [])
    ∷ (65535, two_dated 0 65535, 1 ∷ 2 ∷ 0 ∷ 1 ∷ 1 ∷ 3 ∷ 0 ∷ [])
    ∷ (10, two_dated 10 10, 1 ∷ 2 ∷ 0 ∷ 1 ∷ 1 ∷ 3 ∷ 0 ∷ [])
    ∷ (0, two_dated 20 19, 2 ∷ 16 ∷ 2 ∷ 1 ∷ 1 ∷ 0 ∷ 0 ∷ [])
    ∷ (0, with_days (symbol_of 0) 1 0 ∷ [], 2 ∷ 4 ∷ 0 ∷ 0 ∷ 0 ∷ 0 ∷ 0 ∷ [])
    ∷ (0, with_days (symbol_of 0) 0 256 ∷ [], 2 ∷ 4 ∷ 0 ∷ 0 ∷ 0 ∷ 0 ∷ 0 ∷ [])
    ∷ (0, with_days (variable_row 0) 1 0 ∷ [], 2 ∷ 4 ∷ 0 ∷ 0 ∷ 0 ∷ 0 ∷ 0 ∷ [])
    ∷ (0, with_days (application_row 0 []) 0 1 ∷ [], 2 ∷ 4 ∷ 0 ∷ 0 ∷ 0 ∷ 0 ∷ 0 ∷ [])
    ∷ (0, with_days (resolve_step 0 1 1 1) 1 1 ∷ [], 2 ∷ 4 ∷ 0 ∷ 0 ∷ 0 ∷ 0 ∷ 0 ∷ [])
    ∷ (0, with_days (factor_step 0 1 2) 0 1 ∷ [], 2 ∷ 4 ∷ 0 ∷ 0 ∷ 0 ∷ 0 ∷ 0 ∷ [])
    ∷ (0, with_days (record_of 7 1 []) 0 1 ∷ [], 2 ∷ 4 ∷ 0 ∷ 0 ∷ 0 ∷ 0 ∷ 0 ∷ [])
    ∷ (0, undated (record_of 7 1 []) ∷ [], 2 ∷ 5 ∷ 0 ∷ 0 ∷ 0 ∷ 0 ∷ 0 ∷ [])
    ∷ (0, undated (record_of 8 0 []) ∷ [], 2 ∷ 3 ∷ 0 ∷ 0 ∷ 0 ∷ 0 ∷ 0 ∷ [])
    ∷ (0, with_days (record_of 8 0 []) 1 0 ∷ [], 2 ∷ 3 ∷ 0 ∷ 0 ∷ 0 ∷ 0 ∷ 0 ∷ [])
    ∷ (0, with_days (input_clause (1 ∷ [])) 20 19 ∷ [], 2 ∷ 5 ∷ 0 ∷ 0 ∷ 0 ∷ 0 ∷ 0 ∷ [])
    ∷ (0, undated (variable_row 0) ∷ with_days (input_clause (1 ∷ [])) 20 19 ∷ [], 2 ∷ 16 ∷ 1 ∷ 0 ∷ 1 ∷ 0 ∷ 0 ∷ [])
    ∷ (0, undated (variable_row 0) ∷ with_days (input_clause (1 ∷ [])) 19 20 ∷ [], 2 ∷ 7 ∷ 1 ∷ 0 ∷ 1 ∷ 0 ∷ 0 ∷ [])
    ∷ []

pub record FormsHold : Type 0 where
  pub answers : map (λ e. new_answer_on e.0 e.1) forms ≡ map (λ e. e.2) forms
  pub lengths : map (fitting_length New) (0 ∷ 16 ∷ 20 ∷ 65520 ∷ 65536 ∷ 65540 ∷ []) ≡ true ∷ false ∷ true ∷ true ∷ false ∷ false ∷ []

-- Reason 2: each table in turn is one cell too short, and all are untouched.
abbrev pub eights : ℕ → ℕ → ℕ → ℕ → Tables
eights symbols rows clauses bindings =
    record { symbols = replicate symbols 8; rows = replicate rows 8; clauses = replicate clauses 8; bindings = replicate bindings 8 }

abbrev pub short_tables : List Tables
short_tables = eights 4095 4096 20480 32768 ∷ eights 4096 4095 20480 32768 ∷ eights 4096 4096 20479 32768 ∷ eights 4096 4096 20480 32767 ∷ []

pub record ShortTablesHold : Type 0 where
  pub answers : map (λ t. answer_numbers (check 0 (old_file []) (lengths_of t))) short_tables ≡ replicate 4 (2 ∷ 2 ∷ 0 ∷ 0 ∷ 0 ∷ 0 ∷ 0 ∷ [])
  pub untouched : map (tables_after (old_file [])) short_tables ≡ short_tables

-- The readout: digits in their order, and a term of 64 occurrences, which is written out, and of 65, which is `~`.
abbrev pub nested : ℕ → Term Variable
nested zero = var (0, 1)
nested (suc n) = app 0 (cons (nested n) nil)

abbrev pub one_variable : ℕ → Row
one_variable r = variable 0

pub record TextsHold : Type 0 where
  pub digits : map decimal (0 ∷ 9 ∷ 10 ∷ 65535 ∷ []) ≡ map text_bytes ("0" ∷ "9" ∷ "10" ∷ "65535" ∷ [])
  pub occurrences64 : literal_text (number_and_index one_variable) (true, nested 63) ≡ sign_text true ∷ term_text (number_and_index one_variable) (nested 63)
  pub occurrences65 : literal_text (number_and_index one_variable) (true, nested 64) ≡ text_bytes "+~"
