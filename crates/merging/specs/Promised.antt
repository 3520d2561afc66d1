-- Document 02, Q-8: what is shown of the answer to a merge, and of the merged file.
use Rattle.std.specs.Prelude.{◌≡◌, ◌↔◌, Bool, List, [], ◌∷◌, ◌++◌, map, reverse, ℕ, ◌+◌, ◌≤◌, ◌<◌, leb, length, get_or, take}
use Rattle.std.proofs.Math.Option.{Option, none, some}
use Rattle.record.specs.Record.{pick, old_file, Record, records}
use Rattle.record.specs.Sorts.{is_symbol, how_many}
use Rattle.unification.specs.Term.{Term}
use Rattle.derivation.specs.Derivation.{literals, input, RowLiteral}
use Rattle.demands.specs.Conditions.{OneOf, TableShort}
use Rattle.demands.specs.Demands.{RecordAt, InForce}
use Rattle.verdict.specs.Force.{window_of}
use Rattle.verdict.specs.Refusal.{Reason, reason_number}
use Rattle.demands.specs.Repeats.{term_by_numbers}
use Rattle.verdict.specs.State.{State, Window, rows_of, derivations, clause_of}
use Rattle.verdict.specs.Tables.{Tables, lengths_of, tables_after}
use Rattle.verdict.specs.Verdict.{refusal, check, Stands}
use Rattle.writing.specs.Writing.{written, refused_with, output_left, WrittenAt}
use Rattle.merging.specs.Answer.{symbol_list, merge_answer, tables_left}
use Rattle.merging.specs.Merging.{merged, merged_file}

-- ── When a merge is refused ──

-- 17: record k is the first of its file that is a step.
pub record FirstStep (file : List ℕ) (k : ℕ) : Type 0 where
  pub step_record : Record
  pub here : RecordAt (old_file file) k step_record
  pub is_kind : OneOf step_record.kind (5 ∷ 6 ∷ 7 ∷ [])
  pub none_before : (j : ℕ) (r : Record) → j < k → RecordAt (old_file file) j r → ¬ OneOf r.kind (5 ∷ 6 ∷ 7 ∷ [])

-- 18: record k of the second file is a symbol whose number the first's list has, with another arity; and it is the first such record.
pub record OtherSymbol (first second : List ℕ) (k : ℕ) : Type 0 where
  pub symbol : Record
  pub here : RecordAt (old_file second) k symbol
  pub is_kind : symbol.kind ≡ 1
  pub in_first : how_many is_symbol (take k (records (old_file second))) < length (symbol_list (records (old_file first)))
  pub differs : ¬ (get_or (symbol_list (records (old_file first))) (how_many is_symbol (take k (records (old_file second)))) 0 ≡ symbol.count)

pub record FirstOtherSymbol (first second : List ℕ) (k : ℕ) : Type 0 where
  pub differing : OtherSymbol first second k
  pub none_before : (j : ℕ) → j < k → ¬ OtherSymbol first second j

-- The conditions, each with its place in the order in which they are looked at, and the number, file and record that it gives: 2 for a short output; a
-- file's own refusal, the first file first; 17, looking in the first file first; 18; 19.
pub data Condition (first second : List ℕ) (tables : Tables) (room : ℕ) : (place number file k : ℕ) → Type 0 where
  short_output : room < 65536 → Condition first second tables room 0 2 0 0
  first_refused : {reason : Reason} {k : ℕ} → (check 0 (old_file first) (lengths_of tables)).verdict ≡ refusal reason k → Condition first second tables room 1 (reason_number reason) 1 k
  second_refused : {reason : Reason} {k : ℕ} → (check 0 (old_file second) (lengths_of (tables_after (old_file first) tables))).verdict ≡ refusal reason k → Condition first second tables room 2 (reason_number reason) 2 k
  step_in_first : {k : ℕ} → FirstStep first k → Condition first second tables room 3 17 1 k
  step_in_second : {k : ℕ} → FirstStep second k → Condition first second tables room 4 17 2 k
  other_symbols : {k : ℕ} → FirstOtherSymbol first second k → Condition first second tables room 5 18 2 k
  too_many_records : 4096 < length (merged (records (old_file first)) (records (old_file second))) → Condition first second tables room 6 19 0 0

-- A list begins another.
abbrev pub Begins : List ℕ → List ℕ → Type 0
Begins xs ys = (zs : List ℕ) × (ys ≡ xs ++ zs)

-- The longer of two lists.
abbrev pub longer : List ℕ → List ℕ → List ℕ
longer xs ys = pick (leb (length ys) (length xs)) xs ys

-- ── The merged file ──

-- The clauses of a state, clause 0 first, each with its literals as signs and as terms over symbols and variable numbers.
abbrev pub clauses_written : State → List (List (Bool × Term ℕ))
clauses_written S = reverse (map (λ c. map (λ l. (l.0, term_by_numbers (rows_of S) l.1.0)) (literals c)) (derivations S))

-- The first and last day of a clause, if it has them.
abbrev pub window_days : Option Window → Option (ℕ × ℕ)
window_days none = none
window_days (some w) = some (w.first, w.last)

abbrev pub days_in : State → ℕ → Option (ℕ × ℕ)
days_in S n = window_days (window_of S.windows n)

-- The merged file stands and leaves M, where the first leaves S and the second T.
pub record Merged (first second : List ℕ) (S T M : State) : Type 0 where
  pub stands : Stands (old_file (merged_file first second)) M
  -- Whatever the day, its check with tables long enough does not refuse it.
  pub every_day : (day : ℕ) (tables : Tables) → ¬ TableShort tables → (reason : Reason) (k : ℕ) → ¬ ((check day (old_file (merged_file first second)) (lengths_of tables)).verdict ≡ refusal reason k)
  -- Its clauses are input clauses, the first's and then the second's, term for term, in order and with their signs.
  pub inputs : (n : ℕ) → n < length M.clauses → (ls : List RowLiteral) × (clause_of M n ≡ some (input n ls))
  pub clauses : clauses_written M ≡ clauses_written S ++ clauses_written T
  -- Each has the days that it has in its own file, superseding ones,
  pub days_of_first : (n : ℕ) → n < length S.clauses → days_in M n ≡ days_in S n
  pub days_of_second : (n : ℕ) → days_in M (length S.clauses + n) ≡ days_in T n
  -- and so it is in force on the days on which it is there, by the records of the files.
  pub force_of_first : (day n : ℕ) → n < length S.clauses → InForce (old_file (merged_file first second)) day n ↔ InForce (old_file first) day n
  pub force_of_second : (day n : ℕ) → InForce (old_file (merged_file first second)) day (length S.clauses + n) ↔ InForce (old_file second) day n
  -- Its symbols are the longer list.
  pub symbols : symbol_list (records (old_file (merged_file first second))) ≡ longer (symbol_list (records (old_file first))) (symbol_list (records (old_file second)))

-- ── What a merge leaves ──

pub record MergePromised (first second : List ℕ) (tables : Tables) (room : ℕ) : Type 0 where
  -- A merge is refused with a number, a file and a record exactly if the condition for them holds and none before it does,
  pub refused_only : (number file k : ℕ) → merge_answer first second tables room ≡ refused_with number file k
      → (place : ℕ) × Condition first second tables room place number file k × ((p n f j : ℕ) → Condition first second tables room p n f j → place ≤ p)
  pub refused_if : (place number file k : ℕ) → Condition first second tables room place number file k → ((p n f j : ℕ) → Condition first second tables room p n f j → place ≤ p)
      → merge_answer first second tables room ≡ refused_with number file k
  -- and written exactly if none holds; then with the length of the merged file.
  pub written_only : (n : ℕ) → merge_answer first second tables room ≡ written n → (n ≡ length (merged_file first second)) × ((p m f j : ℕ) → ¬ Condition first second tables room p m f j)
  pub written_if : ((p n f j : ℕ) → ¬ Condition first second tables room p n f j) → merge_answer first second tables room ≡ written (length (merged_file first second))
  -- The output is written only if the merge goes through, and not past the merged file's end.
  pub output_written : (n : ℕ) → merge_answer first second tables room ≡ written n → (output : List ℕ) → length output ≡ room
      → WrittenAt (merged_file first second) output (output_left (merge_answer first second tables room) (merged_file first second) output)
  pub output_kept : (number file k : ℕ) → merge_answer first second tables room ≡ refused_with number file k → (output : List ℕ) → output_left (merge_answer first second tables room) (merged_file first second) output ≡ output
  -- A short output leaves the tables untouched; else they are as the last check left them, the first's if that refuses its file.
  pub tables_kept : room < 65536 → tables_left first second tables room ≡ tables
  pub tables_of_first : ¬ (room < 65536) → (reason : Reason) (k : ℕ) → (check 0 (old_file first) (lengths_of tables)).verdict ≡ refusal reason k → tables_left first second tables room ≡ tables_after (old_file first) tables
  pub tables_of_second : ¬ (room < 65536) → ((reason : Reason) (k : ℕ) → ¬ ((check 0 (old_file first) (lengths_of tables)).verdict ≡ refusal reason k))
      → tables_left first second tables room ≡ tables_after (old_file second) (tables_after (old_file first) tables)
  -- 18: there is a symbol that differs exactly if neither symbol list begins the other.
  pub neither_begins : (k : ℕ) → OtherSymbol first second k → ¬ Begins (symbol_list (records (old_file first))) (symbol_list (records (old_file second))) × ¬ Begins (symbol_list (records (old_file second))) (symbol_list (records (old_file first)))
  pub other_there : ¬ Begins (symbol_list (records (old_file first))) (symbol_list (records (old_file second))) → ¬ Begins (symbol_list (records (old_file second))) (symbol_list (records (old_file first))) → (k : ℕ) × OtherSymbol first second k
  -- What is written stands, with the clauses, days and symbols of both.
  pub written : (n : ℕ) → merge_answer first second tables room ≡ written n → (S : State) × (T : State) × (M : State) × Stands (old_file first) S × Stands (old_file second) T × Merged first second S T M
