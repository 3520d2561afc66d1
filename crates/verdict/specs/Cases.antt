-- Document 01, "Case sheet": one table of cases. Each case has a file, and what the definitions make of it: the answer, every cell of
-- the four tables, the work of each step that stands, and the readout. They are proved together, all 61,440 cells of the
-- named parts and a cell past each: the cells that are filled by computing, the zeros and the cell past them by a law. Case L, which is no file, is in the crate unification.
use Rattle.std.specs.Prelude.{◌≡◌, List, [], ◌∷◌, ◌++◌, map, ℕ, zero, suc, ◌-◌, eqb, length, replicate}
use Rattle.std.proofs.Math.Option.{Option, none, some}
use Prim.Native.Char.{code}
use Prim.Native.String as text
use Prim.Native.String.{String}
use Rattle.record.specs.Bytes.{file_bytes}
use Rattle.record.specs.Record.{pick, old_file, Record, records, resolveKind, severalKind}
use Rattle.unification.specs.Unification.{most_work, Outcome, unified, failed}
use Rattle.verdict.specs.Readout.{readout}
use Rattle.verdict.specs.Refusal.{left_of, right_of, deleted_of}
use Rattle.verdict.specs.State.{State, empty_state}
use Rattle.verdict.specs.Step.{stands, refused, step, unify_resolve, unify_factor}
use Rattle.verdict.specs.Tables.{Tables, lengths_of, tables_after}
use Rattle.verdict.specs.Verdict.{check, answer_numbers, fitting}

-- ── How a case is written ──

-- Records: kind, byte 1, fields; a field that is not written is zero. Then one for each kind.
abbrev pub record_of : ℕ → ℕ → List ℕ → Record
record_of kind count fields = record { kind = kind; count = count; fields = fields; days = none }

abbrev pub symbol_of : ℕ → Record
symbol_of arity = record_of 1 arity []

abbrev pub variable_row : ℕ → Record
variable_row v = record_of 2 0 (v ∷ [])

abbrev pub application_row : ℕ → List ℕ → Record
application_row s rows = record_of 3 (length rows) (s ∷ rows)

abbrev pub input_clause : List ℕ → Record
input_clause numbers = record_of 4 (length numbers) numbers

abbrev pub resolve_step : ℕ → ℕ → ℕ → ℕ → Record
resolve_step a b c d = record_of 5 0 (a ∷ b ∷ c ∷ d ∷ [])

abbrev pub factor_step : ℕ → ℕ → ℕ → Record
factor_step a b c = record_of 6 0 (a ∷ b ∷ c ∷ [])

-- The numbers k, k + 1, and so on, n of them.
abbrev pub numbers_from : ℕ → ℕ → List ℕ
numbers_from k zero = []
numbers_from k (suc n) = k ∷ numbers_from (suc k) n

-- The bytes of a text, and of lines that each end in a line feed.
abbrev pub text_bytes : String → List ℕ
text_bytes text.[] = []
text_bytes (text.◌∷◌ c cs) = code c ∷ text_bytes cs

abbrev pub lines : List String → List ℕ
lines [] = []
lines (l ∷ ls) = text_bytes l ++ (10 ∷ lines ls)

-- The tables that are lent: one cell longer than they must be, and 9 in every cell.
abbrev pub nines : Tables
nines = record { symbols = replicate 4097 9; rows = replicate 4097 9; clauses = replicate 20481 9; bindings = replicate 32769 9 }

-- These tables with the cells given at the start of their named parts, zero in the rest of them, and 9 in the cell past them.
abbrev pub starting_with : ℕ → List ℕ → List ℕ
starting_with n cells = cells ++ (replicate (n - length cells) 0 ++ (9 ∷ []))

abbrev pub holding : List ℕ → List ℕ → List ℕ → List ℕ → Tables
holding symbols rows clauses bindings = record {
  symbols = starting_with 4096 symbols;
  rows = starting_with 4096 rows;
  clauses = starting_with 20480 clauses;
  bindings = starting_with 32768 bindings;
}

pub record Case : Type 0 where
  -- The day on which the file is checked (document 02, Q-6); without windows it does not matter.
  pub day : ℕ
  pub file : List ℕ
  -- 0 open, 1 accepted, 2 refused; clause or reason; record; counts of symbols, rows, clauses, bindings.
  pub answer : List ℕ
  pub tables : Tables
  pub work : List ℕ
  pub readout : List ℕ

-- ── What the definitions make of a file ──

-- The work of each step that stands: what its unification has used up.
abbrev pub work_of : Outcome → List ℕ
work_of (unified bs left) = (most_work - left) ∷ []
work_of (failed f) = []

abbrev pub work_on : {A B : Type 0} → (A → B → Outcome) → Option A → Option B → List ℕ
work_on unify none y = []
work_on unify (some x) none = []
work_on unify (some x) (some y) = work_of (unify x y)

abbrev pub step_work : State → Record → List ℕ
step_work S r =
    pick (eqb r.kind 5) (work_on (unify_resolve S) (left_of S r) (right_of S resolveKind r))
    (pick (eqb r.kind 6) (work_on (unify_factor S) (left_of S r) (deleted_of S r))
    (pick (eqb r.kind 7) (work_on (unify_resolve S) (left_of S r) (right_of S severalKind r)) []))

abbrev pub works : State → ℕ → List Record → List ℕ
works S k [] = []
works S k (r ∷ rs) = elim (step S k r) [ stands T ↦ step_work S r ++ works T (suc k) rs | refused reason ↦ [] ]

abbrev pub case_of : ℕ → List ℕ → Case
case_of day file = record {
  day = day;
  file = file;
  answer = answer_numbers (check day (old_file file) (lengths_of nines));
  tables = tables_after (old_file file) nines;
  work = pick (fitting (old_file file)) (works empty_state 0 (records (old_file file))) [];
  readout = readout day (old_file file) (lengths_of nines);
}

-- ── The cases ──

-- A: two resolutions to the empty clause, each with work 3.
abbrev pub case_a : Case
case_a = record {
  day = 0;
  file = file_bytes
      (symbol_of 1 ∷ symbol_of 1 ∷ symbol_of 0
      ∷ application_row 2 [] ∷ application_row 0 (0 ∷ []) ∷ variable_row 0 ∷ application_row 1 (2 ∷ [])
      ∷ application_row 0 (2 ∷ []) ∷ application_row 0 (3 ∷ []) ∷ application_row 1 (0 ∷ []) ∷ application_row 0 (6 ∷ [])
      ∷ input_clause (3 ∷ []) ∷ input_clause (8 ∷ 11 ∷ []) ∷ input_clause (14 ∷ [])
      ∷ resolve_step 0 1 1 1 ∷ resolve_step 3 1 2 1 ∷ []);
  answer = 1 ∷ 4 ∷ 0 ∷ 3 ∷ 8 ∷ 5 ∷ 1 ∷ [];
  tables = holding
      (0 ∷ 1 ∷ 2 ∷ [])
      (3 ∷ 4 ∷ 5 ∷ 6 ∷ 7 ∷ 8 ∷ 9 ∷ 10 ∷ [])
      (11 ∷ 1 ∷ 1 ∷ 0 ∷ 0
      ∷ 12 ∷ 2 ∷ 1 ∷ 0 ∷ 0
      ∷ 13 ∷ 1 ∷ 1 ∷ 0 ∷ 0
      ∷ 14 ∷ 1 ∷ 2 ∷ 0 ∷ 1
      ∷ 15 ∷ 0 ∷ 3 ∷ 1 ∷ 0 ∷ [])
      (2 ∷ 2 ∷ 0 ∷ 1 ∷ []);
  work = 3 ∷ 3 ∷ [];
  readout = lines
      ("accepted 4"
      ∷ "0 1 +s0(s2)"
      ∷ "1 1 -s0(v0.1) +s0(s1(v0.1))"
      ∷ "2 1 -s0(s1(s2))"
      ∷ "3 2 +s0(s1(s2))"
      ∷ "4 3" ∷ []);
}

-- A's file in bytes: a list for each record, with zeros up to sixteen bytes.
abbrev pub sixteen_each : List (List ℕ) → List ℕ
sixteen_each [] = []
sixteen_each (l ∷ ls) = l ++ (replicate (16 - length l) 0 ++ sixteen_each ls)

abbrev pub stored_a : List (List ℕ)
stored_a =
    (1 ∷ 1 ∷ []) ∷ (1 ∷ 1 ∷ []) ∷ (1 ∷ 0 ∷ [])
    ∷ (3 ∷ 0 ∷ 2 ∷ []) ∷ (3 ∷ 1 ∷ 0 ∷ 0 ∷ 0 ∷ 0 ∷ []) ∷ (2 ∷ 0 ∷ 0 ∷ []) ∷ (3 ∷ 1 ∷ 1 ∷ 0 ∷ 2 ∷ 0 ∷ [])
    ∷ (3 ∷ 1 ∷ 0 ∷ 0 ∷ 2 ∷ 0 ∷ []) ∷ (3 ∷ 1 ∷ 0 ∷ 0 ∷ 3 ∷ 0 ∷ []) ∷ (3 ∷ 1 ∷ 1 ∷ 0 ∷ 0 ∷ 0 ∷ []) ∷ (3 ∷ 1 ∷ 0 ∷ 0 ∷ 6 ∷ 0 ∷ [])
    ∷ (4 ∷ 1 ∷ 3 ∷ 0 ∷ []) ∷ (4 ∷ 2 ∷ 8 ∷ 0 ∷ 11 ∷ 0 ∷ []) ∷ (4 ∷ 1 ∷ 14 ∷ 0 ∷ [])
    ∷ (5 ∷ 0 ∷ 0 ∷ 0 ∷ 1 ∷ 0 ∷ 1 ∷ 0 ∷ 1 ∷ 0 ∷ []) ∷ (5 ∷ 0 ∷ 3 ∷ 0 ∷ 1 ∷ 0 ∷ 2 ∷ 0 ∷ 1 ∷ 0 ∷ []) ∷ []

abbrev pub StoredAsBytes : Type 0
StoredAsBytes = case_a.file ≡ sixteen_each stored_a

-- B: the empty file is open.
abbrev pub case_b : Case
case_b = record {
  day = 0;
  file = [];
  answer = 0 ∷ 0 ∷ 0 ∷ 0 ∷ 0 ∷ 0 ∷ 0 ∷ [];
  tables = holding [] [] [] [];
  work = [];
  readout = lines ("open" ∷ []);
}

-- C: fifteen bytes are refused with 1, and the tables are untouched.
abbrev pub case_c : Case
case_c = record {
  day = 0;
  file = replicate 15 0;
  answer = 2 ∷ 1 ∷ 0 ∷ 0 ∷ 0 ∷ 0 ∷ 0 ∷ [];
  tables = nines;
  work = [];
  readout = lines ("refused 1 at 0" ∷ []);
}

-- 65,536 bytes pass the length test: the first record, of kind 0, is refused with 3. 65,552 bytes give 1.
abbrev pub case_longest : Case
case_longest = record {
  day = 0;
  file = replicate 65536 0;
  answer = 2 ∷ 3 ∷ 0 ∷ 0 ∷ 0 ∷ 0 ∷ 0 ∷ [];
  tables = holding [] [] [] [];
  work = [];
  readout = lines ("refused 3 at 0" ∷ []);
}

abbrev pub case_too_long : Case
case_too_long = record {
  day = 0;
  file = replicate 65552 0;
  answer = 2 ∷ 1 ∷ 0 ∷ 0 ∷ 0 ∷ 0 ∷ 0 ∷ [];
  tables = nines;
  work = [];
  readout = lines ("refused 1 at 0" ∷ []);
}

-- D: +s0(v0,v0) with -s0(v1,s1(v1)): the variable occurs in its own value. A binding made before that is not left behind.
abbrev pub case_d : Case
case_d = record {
  day = 0;
  file = file_bytes
      (symbol_of 2 ∷ symbol_of 1
      ∷ variable_row 0 ∷ variable_row 1 ∷ application_row 0 (0 ∷ 0 ∷ []) ∷ application_row 1 (1 ∷ []) ∷ application_row 0 (1 ∷ 3 ∷ [])
      ∷ input_clause (5 ∷ []) ∷ input_clause (8 ∷ []) ∷ resolve_step 0 1 1 1 ∷ []);
  answer = 2 ∷ 11 ∷ 9 ∷ 2 ∷ 5 ∷ 2 ∷ 0 ∷ [];
  tables = holding (0 ∷ 1 ∷ []) (2 ∷ 3 ∷ 4 ∷ 5 ∷ 6 ∷ []) (7 ∷ 1 ∷ 1 ∷ 0 ∷ 0 ∷ 8 ∷ 1 ∷ 1 ∷ 0 ∷ 0 ∷ []) [];
  work = [];
  readout = lines ("refused 11 at 9" ∷ "0 1 +s0(v0.1,v0.1)" ∷ "1 1 -s0(v1.1,s1(v1.1))" ∷ []);
}

-- E: s2 against another constant.
abbrev pub case_e : Case
case_e = record {
  day = 0;
  file = file_bytes
      (symbol_of 1 ∷ symbol_of 1 ∷ symbol_of 0 ∷ symbol_of 0
      ∷ application_row 2 [] ∷ application_row 3 [] ∷ application_row 0 (0 ∷ []) ∷ application_row 0 (1 ∷ [])
      ∷ input_clause (5 ∷ []) ∷ input_clause (6 ∷ []) ∷ resolve_step 0 1 1 1 ∷ []);
  answer = 2 ∷ 10 ∷ 10 ∷ 4 ∷ 4 ∷ 2 ∷ 0 ∷ [];
  tables = holding (0 ∷ 1 ∷ 2 ∷ 3 ∷ []) (4 ∷ 5 ∷ 6 ∷ 7 ∷ []) (8 ∷ 1 ∷ 1 ∷ 0 ∷ 0 ∷ 9 ∷ 1 ∷ 1 ∷ 0 ∷ 0 ∷ []) [];
  work = [];
  readout = lines ("refused 10 at 10" ∷ "0 1 +s0(s2)" ∷ "1 1 -s0(s3)" ∷ []);
}

-- F: +s0(v0,v1) +s0(v1,v0), keep 1, delete 2: stands with work 4, since the right side is followed before the occurrence test.
abbrev pub case_f : Case
case_f = record {
  day = 0;
  file = file_bytes
      (symbol_of 2 ∷ variable_row 0 ∷ variable_row 1 ∷ application_row 0 (0 ∷ 1 ∷ []) ∷ application_row 0 (1 ∷ 0 ∷ [])
      ∷ input_clause (5 ∷ 7 ∷ []) ∷ factor_step 0 1 2 ∷ []);
  answer = 0 ∷ 0 ∷ 0 ∷ 1 ∷ 4 ∷ 2 ∷ 1 ∷ [];
  tables = holding (0 ∷ []) (1 ∷ 2 ∷ 3 ∷ 4 ∷ []) (5 ∷ 2 ∷ 1 ∷ 0 ∷ 0 ∷ 6 ∷ 1 ∷ 1 ∷ 0 ∷ 1 ∷ []) (0 ∷ 1 ∷ 1 ∷ 1 ∷ []);
  work = 4 ∷ [];
  readout = lines ("open" ∷ "0 1 +s0(v0.1,v1.1) +s0(v1.1,v0.1)" ∷ "1 1 +s0(v1.1,v1.1)" ∷ []);
}

-- G: one input clause without literals is accepted, with maximum index 1; with a bad record after it the file is refused.
abbrev pub case_g : Case
case_g = record {
  day = 0;
  file = file_bytes (input_clause [] ∷ []);
  answer = 1 ∷ 0 ∷ 0 ∷ 0 ∷ 0 ∷ 1 ∷ 0 ∷ [];
  tables = holding [] [] (0 ∷ 0 ∷ 1 ∷ 0 ∷ 0 ∷ []) [];
  work = [];
  readout = lines ("accepted 0" ∷ "0 1" ∷ []);
}

abbrev pub case_gbad : Case
case_gbad = record {
  day = 0;
  file = file_bytes (input_clause [] ∷ record_of 0 0 [] ∷ []);
  answer = 2 ∷ 3 ∷ 1 ∷ 0 ∷ 0 ∷ 1 ∷ 0 ∷ [];
  tables = holding [] [] (0 ∷ 0 ∷ 1 ∷ 0 ∷ 0 ∷ []) [];
  work = [];
  readout = lines ("refused 3 at 1" ∷ "0 1" ∷ []);
}

-- H: a step that names literal 0.
abbrev pub case_h : Case
case_h = record {
  day = 0;
  file = file_bytes (symbol_of 0 ∷ application_row 0 [] ∷ input_clause (1 ∷ []) ∷ input_clause (0 ∷ []) ∷ resolve_step 0 0 1 1 ∷ []);
  answer = 2 ∷ 5 ∷ 4 ∷ 1 ∷ 1 ∷ 2 ∷ 0 ∷ [];
  tables = holding (0 ∷ []) (1 ∷ []) (2 ∷ 1 ∷ 1 ∷ 0 ∷ 0 ∷ 3 ∷ 1 ∷ 1 ∷ 0 ∷ 0 ∷ []) [];
  work = [];
  readout = lines ("refused 5 at 4" ∷ "0 1 +s0" ∷ "1 1 -s0" ∷ []);
}

-- I: a literal on a variable row.
abbrev pub case_i : Case
case_i = record {
  day = 0;
  file = file_bytes (variable_row 0 ∷ input_clause (1 ∷ []) ∷ []);
  answer = 2 ∷ 7 ∷ 1 ∷ 0 ∷ 1 ∷ 0 ∷ 0 ∷ [];
  tables = holding [] (0 ∷ []) [] [];
  work = [];
  readout = lines ("refused 7 at 1" ∷ []);
}

-- J: v0 declared twice. It stands since document 02's Q-2: the second row is taken as the first, whose record the table has twice.
abbrev pub case_j : Case
case_j = record {
  day = 0;
  file = file_bytes (variable_row 0 ∷ variable_row 0 ∷ []);
  answer = 0 ∷ 0 ∷ 0 ∷ 0 ∷ 2 ∷ 0 ∷ 0 ∷ [];
  tables = holding [] (0 ∷ 0 ∷ []) [] [];
  work = [];
  readout = lines ("open" ∷ []);
}

-- Document 02, Q-2: rows v0, v0, s1(row 1), s1(row 0), s0(row 3), s0(row 1), s0(row 2), of which 1, 3 and 6 are repeats, of 0, 2 and 4. Clauses +row 6
-- and -row 5, resolved. The binding names earliest rows: row 0 at index 2 is bound to row 2 at index 1.
abbrev pub case_repeats : Case
case_repeats = record {
  day = 0;
  file = file_bytes (symbol_of 1 ∷ symbol_of 1 ∷ variable_row 0 ∷ variable_row 0 ∷ application_row 1 (1 ∷ []) ∷ application_row 1 (0 ∷ []) ∷ application_row 0 (3 ∷ [])
      ∷ application_row 0 (1 ∷ []) ∷ application_row 0 (2 ∷ []) ∷ input_clause (13 ∷ []) ∷ input_clause (10 ∷ []) ∷ resolve_step 0 1 1 1 ∷ []);
  answer = 1 ∷ 2 ∷ 0 ∷ 2 ∷ 7 ∷ 3 ∷ 1 ∷ [];
  tables = holding (0 ∷ 1 ∷ []) (2 ∷ 2 ∷ 4 ∷ 4 ∷ 6 ∷ 7 ∷ 6 ∷ []) (9 ∷ 1 ∷ 1 ∷ 0 ∷ 0 ∷ 10 ∷ 1 ∷ 1 ∷ 0 ∷ 0 ∷ 11 ∷ 0 ∷ 2 ∷ 0 ∷ 1 ∷ []) (0 ∷ 2 ∷ 2 ∷ 1 ∷ []);
  work = 4 ∷ [];
  readout = lines ("accepted 2" ∷ "0 1 +s0(s1(v0.1))" ∷ "1 1 -s0(v0.1)" ∷ "2 2" ∷ []);
}

-- Document 02, Q-3: the rule RIF. -s0(s1) resolved with the first two literals of +s0(v0) +s0(v1) +s2(v0) in one step leaves +s2(s1). Each pair takes
-- work 3, and both variables are bound to s1.
abbrev pub case_several : Case
case_several = record {
  day = 0;
  file = file_bytes (symbol_of 1 ∷ symbol_of 0 ∷ symbol_of 1 ∷ variable_row 0 ∷ variable_row 1 ∷ application_row 1 [] ∷ application_row 0 (0 ∷ []) ∷ application_row 0 (1 ∷ [])
      ∷ application_row 0 (2 ∷ []) ∷ application_row 2 (0 ∷ []) ∷ input_clause (10 ∷ []) ∷ input_clause (7 ∷ 9 ∷ 13 ∷ []) ∷ record_of 7 2 (0 ∷ 1 ∷ 1 ∷ 1 ∷ 2 ∷ []) ∷ []);
  answer = 0 ∷ 0 ∷ 0 ∷ 3 ∷ 7 ∷ 3 ∷ 2 ∷ [];
  tables = holding (0 ∷ 1 ∷ 2 ∷ []) (3 ∷ 4 ∷ 5 ∷ 6 ∷ 7 ∷ 8 ∷ 9 ∷ []) (10 ∷ 1 ∷ 1 ∷ 0 ∷ 0 ∷ 11 ∷ 3 ∷ 1 ∷ 0 ∷ 0 ∷ 12 ∷ 1 ∷ 2 ∷ 0 ∷ 2 ∷ []) (0 ∷ 2 ∷ 2 ∷ 1 ∷ 1 ∷ 2 ∷ 2 ∷ 1 ∷ []);
  work = 6 ∷ [];
  readout = lines ("open" ∷ "0 1 -s0(s1)" ∷ "1 1 +s0(v0.1) +s0(v1.1) +s2(v0.1)" ∷ "2 2 +s2(s1)" ∷ []);
}

-- K: -s0 +s0, 2 resolved with 1 on itself, and so on: twelve steps reach index 4,096, the thirteenth gives 9.
abbrev pub case_k : Case
case_k = record {
  day = 0;
  file = file_bytes (symbol_of 0 ∷ application_row 0 [] ∷ input_clause (0 ∷ 1 ∷ []) ∷ map (λ n. resolve_step n 2 n 1) (numbers_from 0 13));
  answer = 2 ∷ 9 ∷ 15 ∷ 1 ∷ 1 ∷ 13 ∷ 0 ∷ [];
  tables = holding
      (0 ∷ [])
      (1 ∷ [])
      (2 ∷ 2 ∷ 1 ∷ 0 ∷ 0 ∷ 3 ∷ 2 ∷ 2 ∷ 0 ∷ 0 ∷ 4 ∷ 2 ∷ 4 ∷ 0 ∷ 0 ∷ 5 ∷ 2 ∷ 8 ∷ 0 ∷ 0
      ∷ 6 ∷ 2 ∷ 16 ∷ 0 ∷ 0 ∷ 7 ∷ 2 ∷ 32 ∷ 0 ∷ 0 ∷ 8 ∷ 2 ∷ 64 ∷ 0 ∷ 0 ∷ 9 ∷ 2 ∷ 128 ∷ 0 ∷ 0
      ∷ 10 ∷ 2 ∷ 256 ∷ 0 ∷ 0 ∷ 11 ∷ 2 ∷ 512 ∷ 0 ∷ 0 ∷ 12 ∷ 2 ∷ 1024 ∷ 0 ∷ 0 ∷ 13 ∷ 2 ∷ 2048 ∷ 0 ∷ 0
      ∷ 14 ∷ 2 ∷ 4096 ∷ 0 ∷ 0 ∷ [])
      [];
  work = replicate 12 1;
  readout = lines
      ("refused 9 at 15"
      ∷ "0 1 -s0 +s0" ∷ "1 2 -s0 +s0" ∷ "2 4 -s0 +s0" ∷ "3 8 -s0 +s0" ∷ "4 16 -s0 +s0" ∷ "5 32 -s0 +s0" ∷ "6 64 -s0 +s0"
      ∷ "7 128 -s0 +s0" ∷ "8 256 -s0 +s0" ∷ "9 512 -s0 +s0" ∷ "10 1024 -s0 +s0" ∷ "11 2048 -s0 +s0" ∷ "12 4096 -s0 +s0" ∷ []);
}

-- A resolve puts the left literal on the left: v0 of +s0(v0) +s1(v0) is bound to v1 of -s0(v1), and not the other way round. An input clause after it
-- has one binding before its own.
abbrev pub case_sides : Case
case_sides = record {
  day = 0;
  file = file_bytes (symbol_of 1 ∷ symbol_of 1 ∷ variable_row 0 ∷ variable_row 1 ∷ application_row 0 (0 ∷ []) ∷ application_row 1 (0 ∷ []) ∷ application_row 0 (1 ∷ [])
      ∷ input_clause (5 ∷ 7 ∷ []) ∷ input_clause (8 ∷ []) ∷ resolve_step 0 1 1 1 ∷ input_clause (9 ∷ []) ∷ []);
  answer = 0 ∷ 0 ∷ 0 ∷ 2 ∷ 5 ∷ 4 ∷ 1 ∷ [];
  tables = holding (0 ∷ 1 ∷ []) (2 ∷ 3 ∷ 4 ∷ 5 ∷ 6 ∷ []) (7 ∷ 2 ∷ 1 ∷ 0 ∷ 0 ∷ 8 ∷ 1 ∷ 1 ∷ 0 ∷ 0 ∷ 9 ∷ 1 ∷ 2 ∷ 0 ∷ 1 ∷ 10 ∷ 1 ∷ 1 ∷ 1 ∷ 0 ∷ []) (0 ∷ 1 ∷ 1 ∷ 2 ∷ []);
  work = 3 ∷ [];
  readout = lines ("open" ∷ "0 1 +s0(v0.1) +s1(v0.1)" ∷ "1 1 -s0(v1.1)" ∷ "2 2 +s1(v1.2)" ∷ "3 1 +s0(v1.1)" ∷ []);
}

-- The remaining literals, in order: +s0 +s1 +s2 resolved with -s0 +s3 +s4 leaves two of each; and -s4 resolved with that clause's last literal the three
-- before it.
abbrev pub case_in_order : Case
case_in_order = record {
  day = 0;
  file = file_bytes (replicate 5 (symbol_of 0) ++ (map (λ s. application_row s []) (numbers_from 0 5)
      ++ (input_clause (1 ∷ 3 ∷ 5 ∷ []) ∷ input_clause (0 ∷ 7 ∷ 9 ∷ []) ∷ input_clause (8 ∷ []) ∷ resolve_step 0 1 1 1 ∷ resolve_step 2 1 3 4 ∷ [])));
  answer = 0 ∷ 0 ∷ 0 ∷ 5 ∷ 5 ∷ 5 ∷ 0 ∷ [];
  tables = holding (numbers_from 0 5) (numbers_from 5 5) (10 ∷ 3 ∷ 1 ∷ 0 ∷ 0 ∷ 11 ∷ 3 ∷ 1 ∷ 0 ∷ 0 ∷ 12 ∷ 1 ∷ 1 ∷ 0 ∷ 0 ∷ 13 ∷ 4 ∷ 2 ∷ 0 ∷ 0 ∷ 14 ∷ 3 ∷ 3 ∷ 0 ∷ 0 ∷ []) [];
  work = 1 ∷ 1 ∷ [];
  readout = lines ("open" ∷ "0 1 +s0 +s1 +s2" ∷ "1 1 -s0 +s3 +s4" ∷ "2 1 -s4" ∷ "3 2 +s1 +s2 +s3 +s4" ∷ "4 3 +s1 +s2 +s3" ∷ []);
}

-- Document 02, Q-6: a curfew, clause 0, and its breach, clause 1, resolved to the empty clause 2. The curfew is first dated 300 to 310, and after the
-- step 100 to 200, which supersedes that. The windows are in no table. Accepted on day 200, and open on day 300.
abbrev pub season_on : ℕ → List ℕ → List ℕ → Case
season_on day answer firstLine = record {
  day = day;
  file = file_bytes (symbol_of 0 ∷ application_row 0 [] ∷ input_clause (0 ∷ []) ∷ record_of 8 0 (0 ∷ 300 ∷ 310 ∷ []) ∷ input_clause (1 ∷ []) ∷ resolve_step 1 1 0 1 ∷ record_of 8 0 (0 ∷ 100 ∷ 200 ∷ []) ∷ []);
  answer = answer;
  tables = holding (0 ∷ []) (1 ∷ []) (2 ∷ 1 ∷ 1 ∷ 0 ∷ 0 ∷ 4 ∷ 1 ∷ 1 ∷ 0 ∷ 0 ∷ 5 ∷ 0 ∷ 2 ∷ 0 ∷ 0 ∷ []) [];
  work = 1 ∷ [];
  readout = firstLine ++ lines ("0 1 -s0" ∷ "1 1 +s0" ∷ "2 2" ∷ []);
}

abbrev pub case_in_season : Case
case_in_season = season_on 200 (1 ∷ 2 ∷ 0 ∷ 1 ∷ 1 ∷ 3 ∷ 0 ∷ []) (lines ("accepted 2" ∷ []))

abbrev pub case_out_of_season : Case
case_out_of_season = season_on 300 (0 ∷ 0 ∷ 0 ∷ 1 ∷ 1 ∷ 3 ∷ 0 ∷ []) (lines ("open" ∷ []))

-- The same rule twice: -s0(v0) +s0(s1(v0)) resolved with +s0(s2), and then with what that gave. Each step binds v0 of its own use, at index 2 and at
-- index 3, and the second value is over the first.
abbrev pub case_twice : Case
case_twice = record {
  day = 0;
  file = file_bytes (symbol_of 1 ∷ symbol_of 1 ∷ symbol_of 0 ∷ application_row 2 [] ∷ application_row 0 (0 ∷ []) ∷ variable_row 0 ∷ application_row 1 (2 ∷ [])
      ∷ application_row 0 (2 ∷ []) ∷ application_row 0 (3 ∷ []) ∷ input_clause (3 ∷ []) ∷ input_clause (8 ∷ 11 ∷ []) ∷ resolve_step 0 1 1 1 ∷ resolve_step 2 1 1 1 ∷ []);
  answer = 0 ∷ 0 ∷ 0 ∷ 3 ∷ 6 ∷ 4 ∷ 2 ∷ [];
  tables = holding (0 ∷ 1 ∷ 2 ∷ []) (numbers_from 3 6) (9 ∷ 1 ∷ 1 ∷ 0 ∷ 0 ∷ 10 ∷ 2 ∷ 1 ∷ 0 ∷ 0 ∷ 11 ∷ 1 ∷ 2 ∷ 0 ∷ 1 ∷ 12 ∷ 1 ∷ 3 ∷ 1 ∷ 1 ∷ []) (2 ∷ 2 ∷ 0 ∷ 1 ∷ 2 ∷ 3 ∷ 3 ∷ 2 ∷ []);
  work = 3 ∷ 4 ∷ [];
  readout = lines ("open" ∷ "0 1 +s0(s2)" ∷ "1 1 -s0(v0.1) +s0(s1(v0.1))" ∷ "2 2 +s0(s1(s2))" ∷ "3 3 +s0(s1(s1(s2)))" ∷ []);
}

-- Document 02, Q-2: a literal on a repeat is on the earliest row. Row 2 repeats row 1, s0(v0), so the factor of +row 1 +row 2 has one row on both sides, and
-- takes work 1.
abbrev pub case_repeated_literal : Case
case_repeated_literal = record {
  day = 0;
  file = file_bytes (symbol_of 1 ∷ variable_row 0 ∷ application_row 0 (0 ∷ []) ∷ application_row 0 (0 ∷ []) ∷ input_clause (3 ∷ 5 ∷ []) ∷ factor_step 0 1 2 ∷ []);
  answer = 0 ∷ 0 ∷ 0 ∷ 1 ∷ 3 ∷ 2 ∷ 0 ∷ [];
  tables = holding (0 ∷ []) (1 ∷ 2 ∷ 2 ∷ []) (4 ∷ 2 ∷ 1 ∷ 0 ∷ 0 ∷ 5 ∷ 1 ∷ 1 ∷ 0 ∷ 0 ∷ []) [];
  work = 1 ∷ [];
  readout = lines ("open" ∷ "0 1 +s0(v0.1) +s0(v0.1)" ∷ "1 1 +s0(v0.1)" ∷ []);
}

-- The table: every case of the sheet, and those for the requests of document 02.
abbrev pub cases : List Case
cases =
    case_a ∷ case_b ∷ case_c ∷ case_longest ∷ case_too_long ∷ case_d ∷ case_e ∷ case_f ∷ case_g ∷ case_gbad ∷ case_h ∷ case_i ∷ case_j ∷ case_repeats ∷ case_several ∷ case_sides ∷ case_in_order ∷ case_in_season ∷ case_out_of_season ∷ case_twice ∷ case_repeated_literal ∷ case_k ∷ []

-- The definitions give what is written.
abbrev pub CasesHold : Type 0
CasesHold = map (λ c. case_of c.day c.file) cases ≡ cases
