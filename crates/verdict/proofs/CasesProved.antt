-- The case sheet and the edges of the limits, by computing.
use mathlib.Core.Path.{◌≡◌, refl, sym, ◌∙◌, ap, fun_ext}
use mathlib.Core.Bool.{Bool, true, false}
use mathlib.Core.List.{List, [], ◌∷◌, ◌++◌, map}
use Prim.Native.Nat.{ℕ, zero, suc, ◌+◌, ◌-◌, ◌/◌}
use native.Mathlib.Omega.{arith}
use lib.ListN.{length, take, drop, replicate, length-replicate, take-append-drop}
use Rattle.record.specs.Bytes.{record_bytes, bytes_in, file_bytes}
use Rattle.record.specs.Record.{pick, old_file, Record, decoded_in, parts, records}
use Rattle.unification.specs.Environment.{Binding, Environment}
use Rattle.unification.specs.Outlines.{most_outline_pairs, clash_within}
use Rattle.unification.specs.Row.{Row, application, row_at}
use Rattle.unification.specs.Unification.{most_work, most_bindings, most_links, overwork, unified, failed, unifying, run}
use Rattle.unification.proofs.Failures.{reached_run}
use Rattle.unification.proofs.Limits.{work_16384}
use Rattle.unification.proofs.Trees as trees
use Rattle.derivation.specs.Derivation.{input, input_literals}
use Rattle.verdict.specs.Cases.{record_of, input_clause, nines, holding, Case, works, case_of, case_longest, case_too_long, cases, StoredAsBytes, CasesHold, case_a, case_b, case_c, case_d, case_e, case_f, case_g, case_gbad, case_h, case_i, case_j, case_repeats, case_several, case_sides, case_in_order, case_in_season, case_out_of_season, case_twice, case_repeated_literal, case_k}
use Rattle.verdict.specs.Edges.{answer_to, ranges, unused_fields, outlines, several_literals, index_edge, literal_edge, work_edge, eights, EdgesHold, RoomsHold, FarRowHolds, WindowsHold, FormsHold, ShortTablesHold, TextsHold}
use Rattle.verdict.specs.Readout.{clause_line, lines_of, joined_lines, readout, readout_lines}
use Rattle.verdict.specs.Refusal.{badLength, most_literals, most_index}
use Rattle.verdict.specs.State.{State, empty_state, derivations}
use Rattle.verdict.specs.Step.{Ending, all_stand, refused_at, require, require_all, enter, on_named, step, read, add_clause, state_of}
use Rattle.verdict.specs.Tables.{Tables, lengths_of, symbol_cells, row_cells, clause_cells, binding_cells, filled, filled_tables, tables_given, tables_after}
use Rattle.verdict.specs.Verdict.{refusal, verdict_of, least_lengths, check, answer_numbers, long_enough, answer_of, verdict_given, state_given, Lengths, fitting_length, fitting, ending, Reading, untouched, read_to, reading}
use Rattle.verdict.proofs.Endings.{reading_records, read_on_lem}
use Rattle.record.specs.declared.Form.TheVariants.{Old}

-- ── The case sheet: its tables are compared by the cells that they start with ──

-- A table of nines has one cell past its named part.
past_nines : (n : ℕ) → drop {A = ℕ} n (replicate (suc n) 9) ≡ 9 ∷ []
past_nines zero = refl
past_nines (suc n) = past_nines n

filled_nines : (n : ℕ) (cells : List ℕ) → filled n cells (replicate (suc n) 9) ≡ cells ++ (replicate (n - length cells) 0 ++ (9 ∷ []))
filled_nines n cells = ap (λ past. cells ++ (replicate (n - length cells) 0 ++ past)) (past_nines n)

abbrev nines_lengths : Lengths
nines_lengths = record { symbols = 4097; rows = 4097; clauses = 20481; bindings = 32769 }

nines_lengths_lem : lengths_of nines ≡ nines_lengths
nines_lengths_lem = λ i. record {
  symbols = length-replicate {A = ℕ} 4097 9 i;
  rows = length-replicate {A = ℕ} 4097 9 i;
  clauses = length-replicate {A = ℕ} 20481 9 i;
  bindings = length-replicate {A = ℕ} 32769 9 i;
}

abbrev held_by : State → Tables
held_by S = holding (symbol_cells S) (row_cells S) (clause_cells S.clauses) (binding_cells (derivations S))

filled_held : (S : State) → filled_tables S nines ≡ held_by S
filled_held S = λ i. record {
  symbols = filled_nines 4096 (symbol_cells S) i;
  rows = filled_nines 4096 (row_cells S) i;
  clauses = filled_nines 20480 (clause_cells S.clauses) i;
  bindings = filled_nines 32768 (binding_cells (derivations S)) i;
}

abbrev tables_of : Reading → Tables
tables_of (untouched reason) = nines
tables_of (read_to e) = held_by (state_of e)

given_tables : (r : Reading) → tables_given r nines ≡ tables_of r
given_tables (untouched reason) = refl
given_tables (read_to e) = filled_held (state_of e)

-- A case, given what becomes of its file, which is then computed once, and the work of its steps.
abbrev case_from : ℕ → List ℕ → Reading → List ℕ → Case
case_from day file r work = record {
  day = day;
  file = file;
  answer = answer_numbers (answer_of (verdict_given day r) (state_given r));
  tables = tables_of r;
  work = work;
  readout = joined_lines (lines_of clause_line (verdict_given day r) (state_given r));
}

abbrev case_by : ℕ → List ℕ → Lengths → Case
case_by day file lengths = case_from day file (reading (old_file file) lengths) (pick (fitting (old_file file)) (works empty_state 0 (records (old_file file))) [])

case_by_lem : (day : ℕ) (file : List ℕ) → case_of day file ≡ case_by day file nines_lengths
unfolding tables_after check readout_lines
case_by_lem day file = (λ i. record {
  day = day;
  file = file;
  answer = answer_numbers (check day (old_file file) (lengths_of nines));
  tables = given_tables (reading (old_file file) (lengths_of nines)) i;
  work = pick (fitting (old_file file)) (works empty_state 0 (records (old_file file))) [];
  readout = readout day (old_file file) (lengths_of nines);
}) ∙ ap (case_by day file) nines_lengths_lem

-- The same of a file whose length is given, so that the two longest files are not counted out.
abbrev records_of : ℕ → List ℕ → List Record
records_of n file = map (decoded_in Old) (parts 16 (n / 16) file)

abbrev case_at : ℕ → List ℕ → ℕ → Case
case_at day file n =
    case_from day file (pick (fitting_length Old n) (read_to (read empty_state 0 (records_of n file))) (untouched badLength)) (pick (fitting_length Old n) (works empty_state 0 (records_of n file)) [])

case_at_lem : (day : ℕ) (file : List ℕ) → case_by day file nines_lengths ≡ case_at day file (length file)
unfolding records ending
case_at_lem day file = refl

zeros_case : (n : ℕ) → case_by 0 (replicate n 0) nines_lengths ≡ case_at 0 (replicate n 0) n
zeros_case n = case_at_lem 0 (replicate n 0) ∙ ap (case_at 0 (replicate n 0)) (length-replicate {A = ℕ} n 0)

longest_by : case_at 0 (replicate 65536 0) 65536 ≡ case_longest
unfolding require
longest_by = refl

too_long_by : case_at 0 (replicate 65552 0) 65552 ≡ case_too_long
too_long_by = refl

abbrev made_from : List Case → List Case
made_from cs = map (λ c. case_by c.day c.file nines_lengths) cs

-- The cases before the two of the longest files, and those after them.
abbrev cases_before : List Case
cases_before = case_a ∷ case_b ∷ case_c ∷ []

abbrev cases_after : List Case
cases_after =
    case_d ∷ case_e ∷ case_f ∷ case_g ∷ case_gbad ∷ case_h ∷ case_i ∷ case_j ∷ case_repeats ∷ case_several ∷ case_sides ∷ case_in_order ∷ case_in_season ∷ case_out_of_season ∷ case_twice ∷ case_repeated_literal ∷ case_k ∷ []

computed_before : made_from cases_before ≡ cases_before
unfolding bytes_in record_bytes records ending require add_clause clash_within most_outline_pairs run most_work most_bindings most_links most_literals most_index
computed_before = refl

computed_after : made_from cases_after ≡ cases_after
unfolding bytes_in record_bytes records ending require add_clause clash_within most_outline_pairs run most_work most_bindings most_links most_literals most_index
computed_after = refl

computed : made_from cases ≡ cases
computed = λ i. computed_before i ++ ((zeros_case 65536 ∙ longest_by) i ∷ (zeros_case 65552 ∙ too_long_by) i ∷ computed_after i)

pub cases_hold : CasesHold
cases_hold = ap (λ made. map (λ c. made c.day c.file) cases) (fun_ext (λ day. fun_ext (case_by_lem day))) ∙ computed

pub stored_as_bytes : StoredAsBytes
unfolding bytes_in record_bytes
stored_as_bytes = refl

-- ── The edges of the limits ──

-- The rows of `work_edge`, the newest first. At the indices 1 and 2 row r takes n turns of the machine.
abbrev edge_rows : List Row
edge_rows =
    application 2 (14 ∷ []) ∷ application 2 (13 ∷ [])
    ∷ (map (λ n. application 0 (n ∷ n ∷ [])) (12 ∷ 11 ∷ 10 ∷ 9 ∷ 8 ∷ 7 ∷ 6 ∷ 5 ∷ 4 ∷ 3 ∷ 2 ∷ 1 ∷ 0 ∷ []) ++ (application 1 [] ∷ []))

module _ (isFull : List Binding → Bool) (base : Environment) where
  abbrev Takes : ℕ → ℕ → Type 0
  Takes n r = trees.Takes (row_at edge_rows) most_links isFull base 1 2 refl n r

  next : (n r : ℕ) → row_at edge_rows (suc r) ≡ application 0 (r ∷ r ∷ []) → Takes n r → Takes (suc (n + n)) (suc r)
  next n r q t = trees.takes_two (row_at edge_rows) most_links isFull base 1 2 refl n (suc r) 0 r q t

  one_more : (n r : ℕ) → row_at edge_rows (suc r) ≡ application 2 (r ∷ []) → Takes n r → Takes (suc n) (suc r)
  one_more n r q t = trees.takes_one (row_at edge_rows) most_links isFull base 1 2 refl n (suc r) 2 r q t

  full_tree : Takes 16383 13
  full_tree =
      next 8191 12 refl (next 4095 11 refl (next 2047 10 refl (next 1023 9 refl (next 511 8 refl (next 255 7 refl (next 127 6 refl
      (next 63 5 refl (next 31 4 refl (next 15 3 refl (next 7 2 refl (next 3 1 refl (next 1 0 refl
      (trees.takes_leaf (row_at edge_rows) most_links isFull base 1 2 refl 0 1 refl)))))))))))))

  at_rest : run (row_at edge_rows) most_links isFull base 0 (unifying [] []) ≡ unified [] 0
  unfolding run
  at_rest = refl

  last_work_lem : run (row_at edge_rows) most_links isFull base most_work (unifying [] (((14, 1), (14, 2)) ∷ [])) ≡ unified [] 0
  last_work_lem = reached_run _ _ _ _ 16384 _ _ (one_more 16383 13 refl full_tree []) 0 most_work work_16384 ∙ at_rest

  no_further_work_lem : run (row_at edge_rows) most_links isFull base most_work (unifying [] (((15, 1), (15, 2)) ∷ [])) ≡ failed overwork
  no_further_work_lem = trees.spent _ _ _ _ 16385 _ _ (one_more 16384 14 refl (one_more 16383 13 refl full_tree) []) most_work (omega (arith, work_16384))

-- The answer's numbers, given how reading ended.
numbers_of : Ending → List ℕ
numbers_of (all_stand S) = answer_numbers (answer_of (verdict_of 0 (all_stand S)) S)
numbers_of (refused_at S reason k) = answer_numbers (answer_of (refusal reason k) S)

numbers : (e : Ending) → answer_numbers (answer_of (verdict_of 0 e) (state_of e)) ≡ numbers_of e
unfolding numbers_of
numbers (all_stand S) = refl
numbers (refused_at S reason k) = refl

answered : (rs : List Record) → fitting (old_file (file_bytes rs)) ≡ true → answer_to rs ≡ numbers_of (ending (old_file (file_bytes rs)))
unfolding check
answered rs fits =
    ap (λ r. answer_numbers (answer_of (verdict_given 0 r) (state_given r))) (reading_records (old_file (file_bytes rs)) least_lengths fits refl) ∙ numbers (ending (old_file (file_bytes rs)))

-- The state before the two steps of `work_edge`.
abbrev edge_state : State
edge_state = record {
  symbols = (2, 1) ∷ (1, 0) ∷ (0, 2) ∷ [];
  rows =
      (18, application 2 (14 ∷ [])) ∷ (17, application 2 (13 ∷ []))
      ∷ (map (λ n. (n + 4, application 0 (n ∷ n ∷ []))) (12 ∷ 11 ∷ 10 ∷ 9 ∷ 8 ∷ 7 ∷ 6 ∷ 5 ∷ 4 ∷ 3 ∷ 2 ∷ 1 ∷ 0 ∷ []) ++ ((3, application 1 []) ∷ []));
  clauses =
      (22, input 3 (input_literals (input_clause (30 ∷ [])))) ∷ (21, input 2 (input_literals (input_clause (31 ∷ []))))
      ∷ (20, input 1 (input_literals (input_clause (28 ∷ [])))) ∷ (19, input 0 (input_literals (input_clause (29 ∷ [])))) ∷ [];
  total = 0;
  windows = [];
}

-- Its two steps, with the fields that they do not use.
abbrev last_steps : List Record
last_steps = record_of 5 0 (0 ∷ 1 ∷ 1 ∷ 1 ∷ 0 ∷ 0 ∷ 0 ∷ []) ∷ record_of 5 0 (2 ∷ 1 ∷ 3 ∷ 1 ∷ 0 ∷ 0 ∷ 0 ∷ []) ∷ []

edge_declared : read empty_state 0 (take 23 (records (old_file (file_bytes work_edge)))) ≡ all_stand edge_state
unfolding bytes_in record_bytes records require add_clause
edge_declared = refl

edge_steps : drop 23 (records (old_file (file_bytes work_edge))) ≡ last_steps
unfolding bytes_in record_bytes records
edge_steps = refl

edge_ending : ending (old_file (file_bytes work_edge)) ≡ read edge_state 23 last_steps
unfolding bytes_in record_bytes records ending
edge_ending =
    ap (read empty_state 0) (sym (take-append-drop 23 (records (old_file (file_bytes work_edge)))))
    ∙ read_on_lem empty_state 0 (take 23 (records (old_file (file_bytes work_edge)))) (drop 23 (records (old_file (file_bytes work_edge)))) edge_state edge_declared
    ∙ ap (read edge_state 23) edge_steps

steps_numbers : numbers_of (read edge_state 23 last_steps) ≡ 2 ∷ 12 ∷ 24 ∷ 3 ∷ 16 ∷ 5 ∷ 0 ∷ []
unfolding require add_clause clash_within most_outline_pairs most_bindings most_links most_literals most_index numbers_of
steps_numbers = rw (last_work_lem, read, step, enter, require_all, require, on_named, no_further_work_lem)

work_numbers : numbers_of (ending (old_file (file_bytes work_edge))) ≡ 2 ∷ 12 ∷ 24 ∷ 3 ∷ 16 ∷ 5 ∷ 0 ∷ []
work_numbers = ap numbers_of edge_ending ∙ steps_numbers

work_fits : fitting (old_file (file_bytes work_edge)) ≡ true
unfolding bytes_in record_bytes
work_fits = refl

-- The others are computed, turn by turn.
ranges_hold : map (λ e. answer_to e.0) ranges ≡ map (λ e. e.1) ranges
unfolding bytes_in record_bytes records check ending require add_clause clash_within most_outline_pairs run most_work most_bindings most_links most_literals most_index
ranges_hold = refl

unused_hold : map (λ e. answer_to e.0) unused_fields ≡ map (λ e. e.1) unused_fields
unfolding bytes_in record_bytes records check ending require add_clause clash_within most_outline_pairs run most_work most_bindings most_links most_literals most_index
unused_hold = refl

index_edge_lem : answer_to index_edge ≡ 2 ∷ 9 ∷ 15 ∷ 1 ∷ 1 ∷ 13 ∷ 0 ∷ []
unfolding bytes_in record_bytes records check ending require add_clause clash_within most_outline_pairs run most_work most_bindings most_links most_literals most_index
index_edge_lem = refl

literal_edge_lem : answer_to literal_edge ≡ 2 ∷ 9 ∷ 29 ∷ 1 ∷ 1 ∷ 27 ∷ 0 ∷ []
unfolding bytes_in record_bytes records check ending require add_clause clash_within most_outline_pairs run most_work most_bindings most_links most_literals most_index
literal_edge_lem = refl

outlines_hold : map (λ e. answer_to e.0) outlines ≡ map (λ e. e.1) outlines
unfolding bytes_in record_bytes records check ending require add_clause clash_within most_outline_pairs run most_work most_bindings most_links most_literals most_index
outlines_hold = refl

several_hold : map (λ e. answer_to e.0) several_literals ≡ map (λ e. e.1) several_literals
unfolding bytes_in record_bytes records check ending require add_clause clash_within most_outline_pairs run most_work most_bindings most_links most_literals most_index
several_hold = refl

pub edges_hold : EdgesHold
edges_hold = λ i. ranges_hold i ++ (unused_hold i ++ (index_edge_lem i ∷ literal_edge_lem i ∷ (answered work_edge work_fits ∙ work_numbers) i ∷ (outlines_hold i ++ several_hold i)))

pub rooms_hold : RoomsHold
unfolding require add_clause clash_within most_outline_pairs run most_work most_bindings most_links most_literals most_index
rooms_hold = refl

pub far_row_holds : FarRowHolds
far_row_holds = refl

pub windows_hold : WindowsHold
unfolding bytes_in record_bytes records check ending require add_clause clash_within most_outline_pairs run most_work most_bindings most_links most_literals most_index
windows_hold = refl

pub forms_hold : FormsHold
unfolding bytes_in record_bytes records check ending require add_clause clash_within most_outline_pairs run most_work most_bindings most_links most_literals most_index
forms_hold = record { answers = refl; lengths = refl }

-- ── Tables that are too short ──

-- The check goes by the lengths of the tables alone, and one that is too short ends it.
abbrev lengths_by : ℕ → ℕ → ℕ → ℕ → Lengths
lengths_by symbols rows clauses bindings = record { symbols = symbols; rows = rows; clauses = clauses; bindings = bindings }

eights_lengths : (s r c b : ℕ) → lengths_of (eights s r c b) ≡ lengths_by s r c b
eights_lengths s r c b =
    λ i. lengths_by (length-replicate {A = ℕ} s 8 i) (length-replicate {A = ℕ} r 8 i) (length-replicate {A = ℕ} c 8 i) (length-replicate {A = ℕ} b 8 i)

short_answer : (s r c b : ℕ) → long_enough (lengths_by s r c b) ≡ false → answer_numbers (check 0 (old_file []) (lengths_of (eights s r c b))) ≡ 2 ∷ 2 ∷ 0 ∷ 0 ∷ 0 ∷ 0 ∷ 0 ∷ []
unfolding check
short_answer s r c b short = rw (ap long_enough (eights_lengths s r c b) ∙ short)

short_untouched : (s r c b : ℕ) → long_enough (lengths_by s r c b) ≡ false → tables_after (old_file []) (eights s r c b) ≡ eights s r c b
unfolding tables_after
short_untouched s r c b short = rw (ap long_enough (eights_lengths s r c b) ∙ short)

pub short_tables_hold : ShortTablesHold
short_tables_hold = record {
  answers = λ i.
      short_answer 4095 4096 20480 32768 refl i ∷ short_answer 4096 4095 20480 32768 refl i
      ∷ short_answer 4096 4096 20479 32768 refl i ∷ short_answer 4096 4096 20480 32767 refl i ∷ [];
  untouched = λ i.
      short_untouched 4095 4096 20480 32768 refl i ∷ short_untouched 4096 4095 20480 32768 refl i
      ∷ short_untouched 4096 4096 20479 32768 refl i ∷ short_untouched 4096 4096 20480 32767 refl i ∷ [];
}

-- ── The readout ──

pub texts_hold : TextsHold
texts_hold = record { digits = refl; occurrences64 = refl; occurrences65 = refl }
