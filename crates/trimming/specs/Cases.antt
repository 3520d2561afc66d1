-- Document 02, Q-12: what each record names, what is kept of small parts; a short file, record for record, and what it is trimmed to on two days; and the answers.
use Rattle.std.specs.Prelude.{◌≡◌, true, false, List, [], ◌∷◌, map, ℕ, ◌+◌, eqb}
use Rattle.record.specs.Bytes.{file_bytes}
use Rattle.record.specs.Record.{old_file, Record, symbolKind, windowKind}
use Rattle.unification.specs.Row.{variable}
use Rattle.derivation.specs.Derivation.{input, Derivation, resolve, factor}
use Rattle.renumbering.specs.Renumbering.{Renumbering}
use Rattle.verdict.specs.Cases.{record_of, symbol_of, variable_row, application_row, input_clause, resolve_step, factor_step}
use Rattle.verdict.specs.State.{State}
use Rattle.verdict.specs.Tables.{Tables, lengths_of}
use Rattle.verdict.specs.Verdict.{least_lengths, accepted, open', check}
use Rattle.writing.specs.Writing.{written, refused_with}
use Rattle.trimming.specs.Answer.{trim_answer}
use Rattle.trimming.specs.Kept.{Kept, clause_in}
use Rattle.trimming.specs.Trimming.{closed_up, closed_record, first_numbers, next_symbol, is_kept, trimmed_file}

-- The window of a clause; and a resolve on two right literals.
abbrev pub window : ℕ → ℕ → ℕ → Record
window clause first last = record_of 8 0 (clause ∷ first ∷ last ∷ [])

abbrev pub resolve_on_two : ℕ → ℕ → ℕ → ℕ → ℕ → Record
resolve_on_two a b c d e = record_of 7 2 (a ∷ b ∷ c ∷ d ∷ e ∷ [])

-- ── Parts ──

-- Numbers that are told apart: symbols get 10 more, rows 20 and clauses 30.
abbrev pub apart : Renumbering
apart = record { symbol = λ s. 10 + s; row = λ r. 20 + r; clause = λ n. 30 + n }

-- The fields of a record with these numbers.
abbrev pub named : Record → List ℕ
named r = (closed_record apart r).fields

-- Clauses 1, 2, 5 and 6 are those of a derivation: clause 6 of clauses 1 and 5, and clause 5 of clause 2.
abbrev pub derivation : Derivation
derivation = resolve 6 (input 1 []) 1 (factor 5 (input 2 []) 1 2 []) (1 ∷ []) []

-- Row 2 repeats row 1. Of symbols, rows and clauses those numbered 1 are kept.
abbrev pub repeating : State
repeating = record { symbols = []; rows = (1, variable 5) ∷ (1, variable 5) ∷ (0, variable 4) ∷ []; clauses = []; total = 0; windows = [] }

abbrev pub only_one : Kept
only_one = record { symbol = λ s. eqb s 1; row = λ r. eqb r 1; clause = λ n. eqb n 1 }

pub record PartsHold : Type 0 where
  -- What each kind of record names; literals are 2 × row, plus 1 if positive.
  pub application : named (application_row 2 (6 ∷ 0 ∷ [])) ≡ 12 ∷ 26 ∷ 20 ∷ []
  pub input_named : named (input_clause (5 ∷ 8 ∷ [])) ≡ 45 ∷ 48 ∷ []
  pub resolve_named : named (resolve_step 1 2 3 4) ≡ 31 ∷ 2 ∷ 33 ∷ 4 ∷ []
  pub several_named : named (resolve_on_two 1 2 3 4 5) ≡ 31 ∷ 2 ∷ 33 ∷ 4 ∷ 5 ∷ []
  pub factor_named : named (factor_step 1 2 3) ≡ 31 ∷ 2 ∷ 3 ∷ []
  pub window_named : named (window 1 2 3) ≡ 31 ∷ 2 ∷ 3 ∷ []
  pub others : (named (symbol_of 1) ≡ []) × (named (variable_row 7) ≡ 7 ∷ [])
  pub clauses : map (clause_in derivation) (0 ∷ 1 ∷ 2 ∷ 3 ∷ 4 ∷ 5 ∷ 6 ∷ []) ≡ false ∷ true ∷ true ∷ false ∷ false ∷ true ∷ true ∷ []
  -- Numbers close up, and a repeated row has the number of the earliest.
  pub rows : map (closed_up repeating only_one).row (1 ∷ 2 ∷ []) ≡ 0 ∷ 0 ∷ []
  -- A window, with those after it: superseded, not superseded, and of a clause that goes. A symbol that stays, and one that goes.
  pub windows : is_kept only_one first_numbers windowKind (window 1 0 5) (window 2 0 1 ∷ window 1 0 9 ∷ []) ≡ false
  pub last_windows : is_kept only_one first_numbers windowKind (window 1 0 5) (window 2 0 1 ∷ []) ≡ true
  pub other_windows : is_kept only_one first_numbers windowKind (window 2 0 5) [] ≡ false
  pub symbols : (is_kept only_one (next_symbol first_numbers) symbolKind (symbol_of 0) [] ≡ true) × (is_kept only_one first_numbers symbolKind (symbol_of 0) [] ≡ false)

-- ── A file ──

-- Symbols p, q, f and c. Rows 4, 6 and 9 repeat rows 0, 5 and 3, and of rows 3 and 9 only the later one is named. Clause 0 is no clause's parent. Clauses 4 and 6 are
-- empty: clause 4 uses clause 3, whose window ends on day 5. Clause 1 has three windows, the last of them behind all else; clauses 0 and 3 have one each.
abbrev pub untrimmed : List Record
untrimmed =
    symbol_of 1 ∷ symbol_of 0 ∷ symbol_of 1 ∷ symbol_of 0
    ∷ variable_row 0 ∷ application_row 1 [] ∷ application_row 3 [] ∷ application_row 0 (0 ∷ []) ∷ variable_row 0
    ∷ variable_row 1 ∷ variable_row 1 ∷ application_row 2 (6 ∷ []) ∷ application_row 0 (7 ∷ []) ∷ application_row 0 (4 ∷ []) ∷ application_row 0 (2 ∷ [])
    ∷ input_clause (2 ∷ []) ∷ input_clause (19 ∷ []) ∷ window 1 0 1 ∷ window 0 0 9 ∷ input_clause (16 ∷ 18 ∷ [])
    ∷ input_clause (20 ∷ []) ∷ window 1 2 3 ∷ window 3 0 5
    ∷ resolve_step 1 1 3 1 ∷ factor_step 2 1 2 ∷ resolve_step 1 1 5 1 ∷ window 1 0 9 ∷ []

-- On day 7 clause 6 is accepted. It uses clauses 1, 2 and 5, rows 0, 3, 5, 7 and 8, and symbols p and f; and of the windows the last one of clause 1 stays.
abbrev pub trimmed_later : List Record
trimmed_later =
    symbol_of 1 ∷ symbol_of 1
    ∷ variable_row 0 ∷ application_row 0 (0 ∷ []) ∷ variable_row 1 ∷ application_row 1 (2 ∷ []) ∷ application_row 0 (3 ∷ [])
    ∷ input_clause (3 ∷ []) ∷ input_clause (8 ∷ 2 ∷ []) ∷ factor_step 1 1 2 ∷ resolve_step 0 1 2 1 ∷ window 0 0 9 ∷ []

-- On day 3 clause 4 is accepted. It uses clauses 1 and 3, rows 0, 2, 3 and 10, and symbols p and c.
abbrev pub trimmed_earlier : List Record
trimmed_earlier =
    symbol_of 1 ∷ symbol_of 0
    ∷ variable_row 0 ∷ application_row 1 [] ∷ application_row 0 (0 ∷ []) ∷ application_row 0 (1 ∷ [])
    ∷ input_clause (5 ∷ []) ∷ input_clause (6 ∷ []) ∷ window 1 0 5 ∷ resolve_step 0 1 1 1 ∷ window 0 0 9 ∷ []

-- A resolve on two right literals: clause 3, of clauses 1 and 2.
abbrev pub untrimmed_two : List Record
untrimmed_two =
    symbol_of 0 ∷ symbol_of 1 ∷ application_row 0 [] ∷ variable_row 0 ∷ application_row 1 (1 ∷ []) ∷ variable_row 1 ∷ application_row 1 (3 ∷ [])
    ∷ input_clause (1 ∷ []) ∷ input_clause (5 ∷ []) ∷ input_clause (4 ∷ 8 ∷ []) ∷ resolve_on_two 1 1 2 1 2 ∷ []

abbrev pub trimmed_two : List Record
trimmed_two =
    symbol_of 1 ∷ variable_row 0 ∷ application_row 0 (0 ∷ []) ∷ variable_row 1 ∷ application_row 0 (2 ∷ [])
    ∷ input_clause (3 ∷ []) ∷ input_clause (2 ∷ 6 ∷ []) ∷ resolve_on_two 0 1 1 1 2 ∷ []

pub record CasesHold : Type 0 where
  pub later : trimmed_file 7 (file_bytes untrimmed) ≡ file_bytes trimmed_later
  pub earlier : trimmed_file 3 (file_bytes untrimmed) ≡ file_bytes trimmed_earlier
  pub on_two : trimmed_file 0 (file_bytes untrimmed_two) ≡ file_bytes trimmed_two
  -- What is trimmed stays as it is.
  pub later_again : trimmed_file 7 (file_bytes trimmed_later) ≡ file_bytes trimmed_later
  pub earlier_again : trimmed_file 3 (file_bytes trimmed_earlier) ≡ file_bytes trimmed_earlier
  -- The clauses that the file and the trimmed file are accepted with.
  pub accepted_later : (check 7 (old_file (file_bytes untrimmed)) least_lengths).verdict ≡ accepted 6
  pub accepted_later_again : (check 7 (old_file (file_bytes trimmed_later)) least_lengths).verdict ≡ accepted 3
  pub accepted_earlier : (check 3 (old_file (file_bytes untrimmed)) least_lengths).verdict ≡ accepted 4
  pub accepted_earlier_again : (check 3 (old_file (file_bytes trimmed_earlier)) least_lengths).verdict ≡ accepted 2
  -- On day 10 clause 1 is not in force, and the file is open.
  pub open_last : (check 10 (old_file (file_bytes untrimmed)) least_lengths).verdict ≡ open'

-- ── Answers ──

-- The answers, with tables of the least lengths: the trimmed file's length; 23 on day 10; a file with a record of kind 0 has its own refusal, and a short output comes
-- before all else.
pub record AnswersHold (tables : Tables) (least : lengths_of tables ≡ least_lengths) : Type 0 where
  pub is_written : trim_answer 7 (file_bytes untrimmed) tables 65536 ≡ written 192
  pub is_open : trim_answer 10 (file_bytes untrimmed) tables 65536 ≡ refused_with 23 1 0
  pub is_refused : trim_answer 7 (file_bytes (symbol_of 0 ∷ record_of 0 0 [] ∷ [])) tables 65536 ≡ refused_with 3 1 1
  pub is_short : trim_answer 10 (file_bytes (record_of 0 0 [] ∷ [])) tables 65535 ≡ refused_with 2 0 0
