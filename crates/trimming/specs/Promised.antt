-- Document 02, Q-12: what is shown of the answer to a trim, and of the trimmed file.
use Rattle.std.specs.Prelude.{◌≡◌, Bool, List, map, ℕ, suc, ◌≤◌, ◌<◌, length}
use Rattle.std.proofs.Math.Option.{some}
use Rattle.record.specs.Bytes.{Bytes}
use Rattle.record.specs.Record.{old_file, Record, record_at}
use Rattle.unification.specs.Row.{Variable}
use Rattle.unification.specs.Term.{Term}
use Rattle.derivation.specs.Derivation.{Derivation, maximum_index, uses, StrictlyRising}
use Rattle.derivation.specs.Ground.{instances, value_in}
use Rattle.derivation.specs.Written.{written as literalsWritten}
use Rattle.demands.specs.Conditions.{OneOf, TableShort}
use Rattle.demands.specs.Demands.{RecordAt}
use Rattle.renumbering.specs.Renumbering.{Renumbering, renamed_term, literal_with_symbols}
use Rattle.verdict.specs.Refusal.{Reason, reason_number}
use Rattle.verdict.specs.State.{State, arity_of, row_of, term_of, clause_of}
use Rattle.verdict.specs.Tables.{Tables, lengths_of, tables_after}
use Rattle.verdict.specs.Text.{variable_number}
use Rattle.verdict.specs.Verdict.{refusal, open', accepted, check, Stands}
use Rattle.writing.specs.Writing.{written, refused_with, output_left, WrittenAt}
use Rattle.trimming.specs.Answer.{trim_answer, tables_left}
use Rattle.trimming.specs.Trimming.{closed_record, trimmed_records, trimmed_file}
use Rattle.trimming.specs.Used.{UsedClause, UsedSymbol, Needed}

-- ── When a trim is refused ──

-- The conditions, each with its place in the order in which they are looked at, and the number, file and record that it gives: 2 for a short output; the file's own
-- refusal; 23 for a file that stands and is not accepted on the day.
pub data Condition (day : ℕ) (file : List ℕ) (tables : Tables) (room : ℕ) : (place number which k : ℕ) → Type 0 where
  short_output : room < 65536 → Condition day file tables room 0 2 0 0
  file_refused : {reason : Reason} {k : ℕ} → (check day (old_file file) (lengths_of tables)).verdict ≡ refusal reason k → Condition day file tables room 1 (reason_number reason) 1 k
  not_accepted : (check day (old_file file) (lengths_of tables)).verdict ≡ open' → Condition day file tables room 2 23 1 0

-- ── A file and its trimmed one ──

-- The literals of a clause as a readout prints them: terms over variables, each with its number and its index.
abbrev pub read_out : State → Derivation → List (Bool × Term (ℕ × ℕ))
read_out S c = map (λ l. (l.0, renamed_term (λ s. s) (λ (x : Variable). (variable_number (row_of S x.0), x.1)) l.1)) (literalsWritten (term_of S) c)

-- A clause d of T is a clause c of S: the same maximum index, and literals that read out the same but for the numbers of symbols.
pub record SameClause (symbol : ℕ → ℕ) (S T : State) (c d : Derivation) : Type 0 where
  pub index : maximum_index d ≡ maximum_index c
  pub literals : read_out T d ≡ map (literal_with_symbols symbol) (read_out S c)

-- The trimmed file, where the file leaves S and is accepted with clause n, which is c.
pub record Trimmed (day : ℕ) (file : List ℕ) (S : State) (n : ℕ) (c : Derivation) : Type 0 where
  -- How symbols, rows and clauses are renumbered. What is used stays in its order, and symbols have the arity that they had.
  pub numbers : Renumbering
  pub left : State
  pub clauses_in_order : (i j : ℕ) → UsedClause S n i → UsedClause S n j → i < j → numbers.clause i < numbers.clause j
  pub symbols_in_order : (s t : ℕ) → UsedSymbol S n s → UsedSymbol S n t → s < t → numbers.symbol s < numbers.symbol t
  pub arities_kept : (s : ℕ) → UsedSymbol S n s → arity_of left (numbers.symbol s) ≡ arity_of S s
  -- Its records are the needed ones of the file and no others, in their order, with numbers closed up.
  pub kept : List ℕ
  pub kept_in_order : StrictlyRising kept
  pub kept_needed : (k : ℕ) → OneOf k kept → (r : Record) → RecordAt (old_file file) k r → Needed (old_file file) S n k r
  pub needed_kept : (k : ℕ) (r : Record) → RecordAt (old_file file) k r → Needed (old_file file) S n k r → OneOf k kept
  pub are_records : trimmed_records day file ≡ map (λ k. closed_record numbers (record_at (old_file file) k)) kept
  -- It stands, and is accepted on the same day with its last clause, which is the accepted clause of the file.
  pub stands : Stands (old_file (trimmed_file day file)) left
  pub accepted_again : (tables : Tables) → ¬ TableShort tables → (check day (old_file (trimmed_file day file)) (lengths_of tables)).verdict ≡ accepted (numbers.clause n)
  pub is_last : suc (numbers.clause n) ≡ length left.clauses
  -- Its clauses are those that are used, with maximum indices and literals as they were.
  pub clauses : (m : ℕ) (d : Derivation) → UsedClause S n m → clause_of S m ≡ some d → (e : Derivation) × (clause_of left (numbers.clause m) ≡ some e) × SameClause numbers.symbol S left d e
  pub only_clauses : (i : ℕ) → i < length left.clauses → (m : ℕ) × UsedClause S n m × (numbers.clause m ≡ i)
  -- The instances behind its acceptance are those of the file, but for the numbers of symbols; unbound variables are filled by the extra constant.
  pub same_instances : (e : Derivation) → clause_of left (numbers.clause n) ≡ some e
      → instances (term_of left) (value_in (term_of left) e) 1 (uses e) ≡ map (map (literal_with_symbols numbers.symbol)) (instances (term_of S) (value_in (term_of S) c) 1 (uses c))
  -- Trimming it gives its own bytes, which are bytes.
  pub again : trimmed_file day (trimmed_file day file) ≡ trimmed_file day file
  pub bytes : Bytes file → Bytes (trimmed_file day file)
  pub not_longer : length (trimmed_file day file) ≤ length file

-- ── What a trim leaves ──
pub record TrimPromised (day : ℕ) (file : List ℕ) (tables : Tables) (room : ℕ) : Type 0 where
  -- A trim is refused with a number, a file and a record exactly if the condition for them holds and none before it does,
  pub refused_only : (number which k : ℕ) → trim_answer day file tables room ≡ refused_with number which k
      → (place : ℕ) × Condition day file tables room place number which k × ((p n f j : ℕ) → Condition day file tables room p n f j → place ≤ p)
  pub refused_if : (place number which k : ℕ) → Condition day file tables room place number which k → ((p n f j : ℕ) → Condition day file tables room p n f j → place ≤ p)
      → trim_answer day file tables room ≡ refused_with number which k
  -- and written exactly if none holds; then with the length of the trimmed file.
  pub written_only : (n : ℕ) → trim_answer day file tables room ≡ written n → (n ≡ length (trimmed_file day file)) × ((p m f j : ℕ) → ¬ Condition day file tables room p m f j)
  pub written_if : ((p n f j : ℕ) → ¬ Condition day file tables room p n f j) → trim_answer day file tables room ≡ written (length (trimmed_file day file))
  -- The output is written only if the trim goes through, and not past the trimmed file's end.
  pub output_written : (n : ℕ) → trim_answer day file tables room ≡ written n → (output : List ℕ) → length output ≡ room
      → WrittenAt (trimmed_file day file) output (output_left (trim_answer day file tables room) (trimmed_file day file) output)
  pub output_kept : (number which k : ℕ) → trim_answer day file tables room ≡ refused_with number which k → (output : List ℕ) → output_left (trim_answer day file tables room) (trimmed_file day file) output ≡ output
  -- A short output leaves the tables untouched; else they are as the check left them.
  pub tables_kept : room < 65536 → tables_left file tables room ≡ tables
  pub tables_checked : ¬ (room < 65536) → tables_left file tables room ≡ tables_after (old_file file) tables
  -- What is written is the trimmed file of the accepted clause.
  pub trimmed : (n : ℕ) → trim_answer day file tables room ≡ written n
      → (S : State) × (a : ℕ) × (c : Derivation) × Stands (old_file file) S × ((check day (old_file file) (lengths_of tables)).verdict ≡ accepted a) × (clause_of S a ≡ some c) × Trimmed day file S a c
