-- Document 02, Q-11: what is shown of the answer to a conversion, and of the converted file.
use Rattle.std.specs.Prelude.{◌≡◌, ◌↔◌, List, [], ◌∷◌, ◌++◌, ℕ, ◌+◌, ◌*◌, ◌≤◌, ◌<◌, length, get_or}
use Rattle.std.proofs.Math.Option.{Option, none, some}
use Rattle.record.specs.Bytes.{Bytes}
use Rattle.record.specs.Record.{Record, File, records, field_a, field_b, field_c}
use Rattle.record.specs.Sorts.{is_window, is_clause, how_many}
use Rattle.record.specs.declared.Form.TheVariants.{Old, New}
use Rattle.verdict.specs.Force.{window_of}
use Rattle.verdict.specs.Refusal.{Reason, reason_number}
use Rattle.verdict.specs.State.{State, Window, arities, rows_of, derivations}
use Rattle.verdict.specs.Tables.{Tables, lengths_of, tables_after}
use Rattle.verdict.specs.Verdict.{Lengths, refusal, check, Stands}
use Rattle.writing.specs.Writing.{written, refused_with, output_left, WrittenAt}
use Rattle.converting.specs.Answer.{conversion_answer, tables_left}
use Rattle.converting.specs.Converting.{always, is_dated, converted, converted_file}

-- ── When a conversion is refused ──

-- The conditions, each with its place in the order in which they are looked at, and the number, file and record that it gives: 2 for a short output; the file's
-- own refusal, by its own form; 22 for a result that has too many records for its form.
pub data Condition (file : File) (tables : Tables) (room : ℕ) : (place number which k : ℕ) → Type 0 where
  short_output : room < 65536 → Condition file tables room 0 2 0 0
  file_refused : {reason : Reason} {k : ℕ} → (check 0 file (lengths_of tables)).verdict ≡ refusal reason k → Condition file tables room 1 (reason_number reason) 1 k
  too_many_new : file.form ≡ Old → 3276 < length (converted file) → Condition file tables room 2 22 0 0
  too_many_old : file.form ≡ New → 4096 < length (converted file) → Condition file tables room 2 22 0 0

-- ── A file and its conversion ──

-- The first and last day of a clause in a state, always where it has no window.
abbrev pub window_days : Option Window → ℕ × ℕ
window_days none = always
window_days (some w) = (w.first, w.last)

abbrev pub days_in : State → ℕ → ℕ × ℕ
days_in S n = window_days (window_of S.windows n)

-- Two states with the same symbols and rows, the same clauses and steps with their bindings, and for each clause the same days.
pub record SameContents (S T : State) : Type 0 where
  pub symbols : arities S ≡ arities T
  pub rows : rows_of S ≡ rows_of T
  pub clauses : derivations S ≡ derivations T
  pub days : (n : ℕ) → days_in S n ≡ days_in T n

-- The tables that two checks leave: for each clause the same literal count, maximum index, first binding and number of bindings, and the same bindings.
pub record SameCells (t u : Tables) : Type 0 where
  pub clauses : (n i : ℕ) → 1 ≤ i → i ≤ 4 → get_or t.clauses (5 * n + i) 0 ≡ get_or u.clauses (5 * n + i) 0
  pub bindings : t.bindings ≡ u.bindings

-- A window, after some records: it stands straight after an input clause, is for that one, and is not always.
pub record StraightAfter (before : List Record) (window : Record) : Type 0 where
  pub earlier : List Record
  pub clause : Record
  pub after : before ≡ earlier ++ (clause ∷ [])
  pub is_kind : clause.kind ≡ 4
  pub names : field_a window ≡ how_many is_clause earlier
  pub not_always : ¬ ((field_b window, field_c window) ≡ always)

-- ── What a conversion leaves ──

pub record ConversionPromised (file : File) (tables : Tables) (room : ℕ) : Type 0 where
  -- A conversion is refused with a number, a file and a record exactly if the condition for them holds and none before it does,
  pub refused_only : (number which k : ℕ) → conversion_answer file tables room ≡ refused_with number which k
      → (place : ℕ) × Condition file tables room place number which k × ((p n f j : ℕ) → Condition file tables room p n f j → place ≤ p)
  pub refused_if : (place number which k : ℕ) → Condition file tables room place number which k → ((p n f j : ℕ) → Condition file tables room p n f j → place ≤ p)
      → conversion_answer file tables room ≡ refused_with number which k
  -- and written exactly if none holds; then with the length of the converted file, which is at most 65,536, and 65,520 in the new form.
  pub written_only : (n : ℕ) → conversion_answer file tables room ≡ written n → (n ≡ length (converted_file file).bytes) × ((p m f j : ℕ) → ¬ Condition file tables room p m f j)
  pub written_if : ((p n f j : ℕ) → ¬ Condition file tables room p n f j) → conversion_answer file tables room ≡ written (length (converted_file file).bytes)
  pub not_longer : (n : ℕ) → conversion_answer file tables room ≡ written n → (n ≤ 65536) × (file.form ≡ Old → n ≤ 65520)
  -- The result has the records that are no windows; or all records, and one more for each clause that is not always in force.
  pub counted_new : file.form ≡ Old → length (converted file) + how_many is_window (records file) ≡ length (records file)
  pub counted_old : file.form ≡ New → length (converted file) ≡ length (records file) + how_many is_dated (records file)
  -- Whether the file is refused, with what and where, does not depend on the day.
  pub every_day : (day : ℕ) (reason : Reason) (k : ℕ) → ((check 0 file (lengths_of tables)).verdict ≡ refusal reason k) ↔ ((check day file (lengths_of tables)).verdict ≡ refusal reason k)
  -- The output is written only if the conversion goes through, and not past the converted file's end.
  pub output_written : (n : ℕ) → conversion_answer file tables room ≡ written n → (output : List ℕ) → length output ≡ room
      → WrittenAt (converted_file file).bytes output (output_left (conversion_answer file tables room) (converted_file file).bytes output)
  pub output_kept : (number which k : ℕ) → conversion_answer file tables room ≡ refused_with number which k → (output : List ℕ) → output_left (conversion_answer file tables room) (converted_file file).bytes output ≡ output
  -- A short output leaves the tables untouched; else they are as the check left them.
  pub tables_kept : room < 65536 → tables_left file tables room ≡ tables
  pub tables_checked : ¬ (room < 65536) → tables_left file tables room ≡ tables_after file tables
  -- The converted file stands in its form, with the contents of the file; its bytes are bytes.
  pub stands : (n : ℕ) → conversion_answer file tables room ≡ written n → (S : State) × (T : State) × Stands file S × Stands (converted_file file) T × SameContents S T
  pub bytes : (n : ℕ) → conversion_answer file tables room ≡ written n → Bytes file.bytes → Bytes (converted_file file).bytes
  -- On each day the check gives both the same verdict and counts, whatever the tables' lengths, and leaves the same cells for each clause.
  pub same_answer : (n : ℕ) → conversion_answer file tables room ≡ written n → (day : ℕ) → day < 65536 → (lengths : Lengths) → check day (converted_file file) lengths ≡ check day file lengths
  pub same_cells : (n : ℕ) → conversion_answer file tables room ≡ written n → (others : Tables) → SameCells (tables_after (converted_file file) others) (tables_after file others)
  -- In the old form each window stands straight after its clause, and none is written for a clause that is always in force.
  pub windows_placed : (n : ℕ) → conversion_answer file tables room ≡ written n → file.form ≡ New → (before after : List Record) (window : Record)
      → converted file ≡ before ++ (window ∷ after) → window.kind ≡ 8 → StraightAfter before window
  -- Back and forth from the new form gives equal bytes; from the old form, the same contents.
  pub new_again : (n : ℕ) → conversion_answer file tables room ≡ written n → file.form ≡ New → Bytes file.bytes → converted_file (converted_file file) ≡ file
  pub back_again : (n m : ℕ) (others : Tables) (space : ℕ) → conversion_answer file tables room ≡ written n → conversion_answer (converted_file file) others space ≡ written m
      → (S : State) × (T : State) × Stands file S × Stands (converted_file (converted_file file)) T × SameContents S T
