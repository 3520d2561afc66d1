-- A record in which repeated rows are replaced by the earliest equal ones is read as it was, and so is the file of such records.
use mathlib.Core.Path.{◌≡◌, refl, sym, ap, ap₂, ◌∙◌}
use mathlib.Core.Bool.{Bool, true, false, ◌&&◌}
use mathlib.Core.List.{List, [], ◌∷◌, ◌++◌, map}
use Prim.Native.Nat.{ℕ, zero, suc, ◌+◌, ◌*◌, ◌/◌, ◌%◌}
use native.Mathlib.Omega.{arith}
use lib.Dec.{eqb, leb, ltb, ltb→lt, lt→ltb}
use lib.ListN.{length, take, drop, length-drop}
use lib.Seq.{drop-drop}
use Rattle.record.specs.Record.{File, in_form, record_length, record_count, Record, records, otherKind, Kind, symbolKind, variableKind, applicationKind, inputKind, resolveKind, factorKind, severalKind, windowKind, field_a}
use Rattle.record.proofs.Bytes.{file_length, file_records, WholeRecords}
use Rattle.record.proofs.Records.{Shaped, HaveDays, records_length, records_shaped, records_days}
use Rattle.unification.specs.Repeated.{earliest_row}
use Rattle.unification.specs.Row.{Row, application, row_at}
use Rattle.unification.proofs.Repeats.{earliest_equal_lem, earliest_itself, earliest_absent}
use Rattle.unification.proofs.Tests.{to_t, from_t}
use Rattle.derivation.specs.Derivation.{input, RowLiteral, literal_of, input_literals}
use Rattle.verdict.specs.Refusal.{tests, outline_tests, outOfRange, notThere, crossedDays, variableLiteral, kind_of_record, zeros, zero_days, in_order, argument_rows, has_arity, all_below, is_application, all_applications}
use Rattle.demands.specs.Repeats.{replaced_fields, replaced, replaced_from, replaced_file}
use Rattle.verdict.specs.State.{State, empty_state, with_clause, with_days_beside, rows_of, arity_of, row_of, earliest_of, next_clause}
use Rattle.verdict.specs.Step.{stands, refused, Result, require_all, enter_row, enter, step, read, Ending, refused_at}
use Rattle.verdict.specs.Verdict.{ending}
use Rattle.demands.proofs.Inversions.{not_below}
use Rattle.record.specs.declared.Form.{Form}
use Rattle.record.specs.declared.Form.TheVariants.{Old, New}

-- ── The earliest row of any number ──

-- It is there where the row is, is the same row, and is its own earliest row.
module _ (ws : List Row) where
  earliest_below : (r : ℕ) → ltb (earliest_row ws r) (length ws) ≡ ltb r (length ws)
  earliest_below r = try (ltb r (length ws)) refl
    where
      try : (b : Bool) → ltb r (length ws) ≡ b → ltb (earliest_row ws r) (length ws) ≡ b
      try true q = from_t _ (lt→ltb (earliest_row ws r) (length ws) (earliest_equal_lem ws r (ltb→lt r (length ws) (to_t (ltb r (length ws)) q))).earliest.there)
      try false q = ap (λ (a : ℕ). ltb a (length ws)) (earliest_absent ws r (not_below r (length ws) q)) ∙ q

  earliest_row_lem : (r : ℕ) → row_at ws (earliest_row ws r) ≡ row_at ws r
  earliest_row_lem r = try (ltb r (length ws)) refl
    where
      try : (b : Bool) → ltb r (length ws) ≡ b → row_at ws (earliest_row ws r) ≡ row_at ws r
      try true q = (earliest_equal_lem ws r (ltb→lt r (length ws) (to_t (ltb r (length ws)) q))).equals
      try false q = ap (row_at ws) (earliest_absent ws r (not_below r (length ws) q))

  earliest_twice : (r : ℕ) → earliest_row ws (earliest_row ws r) ≡ earliest_row ws r
  earliest_twice r = try (ltb r (length ws)) refl
    where
      try : (b : Bool) → ltb r (length ws) ≡ b → earliest_row ws (earliest_row ws r) ≡ earliest_row ws r
      try true q = earliest_itself ws (earliest_row ws r) (earliest_equal_lem ws r (ltb→lt r (length ws) (to_t (ltb r (length ws)) q))).earliest
      try false q = ap (earliest_row ws) (earliest_absent ws r (not_below r (length ws) q))

  -- The same of lists of rows, and of literals.
  rows_there_lem : (xs : List ℕ) → all_below (length ws) (map (earliest_row ws) xs) ≡ all_below (length ws) xs
  rows_there_lem [] = refl
  rows_there_lem (x ∷ xs) = ap₂ ◌&&◌ (earliest_below x) (rows_there_lem xs)

  rows_twice : (xs : List ℕ) → map (earliest_row ws) (map (earliest_row ws) xs) ≡ map (earliest_row ws) xs
  rows_twice [] = refl
  rows_twice (x ∷ xs) = ap₂ (λ (a : ℕ) (l : List ℕ). a ∷ l) (earliest_twice x) (rows_twice xs)

  abbrev taken : RowLiteral → RowLiteral
  taken l = (l.0, earliest_row ws l.1)

  literals_there : (ls : List RowLiteral) → all_below (length ws) (map (λ (l : RowLiteral). l.1) (map taken ls)) ≡ all_below (length ws) (map (λ (l : RowLiteral). l.1) ls)
  literals_there [] = refl
  literals_there (l ∷ ls) = ap₂ ◌&&◌ (earliest_below l.1) (literals_there ls)

  literals_apply : (ls : List RowLiteral) → all_applications (row_at ws) (map taken ls) ≡ all_applications (row_at ws) ls
  literals_apply [] = refl
  literals_apply (l ∷ ls) = ap₂ ◌&&◌ (ap is_application (earliest_row_lem l.1)) (literals_apply ls)

  literals_twice : (ls : List RowLiteral) → map taken (map taken ls) ≡ map taken ls
  literals_twice [] = refl
  literals_twice (l ∷ ls) = ap₂ (λ (a : ℕ) (ms : List RowLiteral). (l.0, a) ∷ ms) (earliest_twice l.1) (literals_twice ls)

  -- A literal's number with its row replaced.
  abbrev replaced_number : ℕ → ℕ
  replaced_number n = 2 * earliest_row ws (n / 2) + n % 2

  literal_replaced : (n : ℕ) → literal_of (replaced_number n) ≡ taken (literal_of n)
  literal_replaced n = ap₂ (λ (a b : ℕ). (eqb a 1, b)) (sign (earliest_row ws (n / 2)) n) (row (earliest_row ws (n / 2)) n)
    where
      sign : (a n : ℕ) → (2 * a + n % 2) % 2 ≡ n % 2
      sign a n = omega arith

      row : (a n : ℕ) → (2 * a + n % 2) / 2 ≡ a
      row a n = omega arith

  literals_replaced : (ns : List ℕ) → map literal_of (map replaced_number ns) ≡ map taken (map literal_of ns)
  literals_replaced [] = refl
  literals_replaced (n ∷ ns) = ap₂ (λ (l : RowLiteral) (ls : List RowLiteral). l ∷ ls) (literal_replaced n) (literals_replaced ns)

-- ── The first fields of a record changed ──
module _ (f : ℕ → ℕ) where
  first_taken : (n : ℕ) (xs : List ℕ) → take n (map f (take n xs) ++ drop n xs) ≡ map f (take n xs)
  first_taken zero xs = refl
  first_taken (suc n) [] = refl
  first_taken (suc n) (x ∷ xs) = ap (λ (l : List ℕ). f x ∷ l) (first_taken n xs)

  first_dropped : (n : ℕ) (xs : List ℕ) → drop n (map f (take n xs) ++ drop n xs) ≡ drop n xs
  first_dropped zero xs = refl
  first_dropped (suc n) [] = refl
  first_dropped (suc n) (x ∷ xs) = first_dropped n xs

  first_length : (n : ℕ) (xs : List ℕ) → length (map f (take n xs) ++ drop n xs) ≡ length xs
  first_length zero xs = refl
  first_length (suc n) [] = refl
  first_length (suc n) (x ∷ xs) = ap suc (first_length n xs)

-- ── One record ──
module _ (S : State) (k : ℕ) (r : Record) where
  abbrev ws : List Row
  ws = rows_of S

  -- The record with the fields that a kind gives it, and the step of a kind.
  abbrev changed : Kind → Record
  changed kind = record { kind = r.kind; count = r.count; fields = replaced_fields S kind r; days = r.days }

  abbrev step_of : Kind → Record → Result
  step_of kind q = require_all (tests S kind q) (require_all (outline_tests S kind q) (enter S k kind q))

  -- The fields after an application's symbol.
  after_symbol : drop (1 + r.count) r.fields ≡ drop r.count (drop 1 r.fields)
  after_symbol = sym (drop-drop r.count 1 r.fields)

  changed_arguments : argument_rows (changed applicationKind) ≡ map (earliest_of S) (argument_rows r)
  changed_arguments =
      ap (λ (l : List ℕ). take r.count (map (earliest_of S) (argument_rows r) ++ l)) after_symbol ∙ first_taken (earliest_of S) r.count (drop 1 r.fields)

  changed_rest : drop (1 + r.count) (changed applicationKind).fields ≡ drop (1 + r.count) r.fields
  changed_rest =
      sym (drop-drop r.count 1 (changed applicationKind).fields)
      ∙ ap (λ (l : List ℕ). drop r.count (map (earliest_of S) (argument_rows r) ++ l)) after_symbol
      ∙ first_dropped (earliest_of S) r.count (drop 1 r.fields)
      ∙ sym after_symbol

  application_alike : step_of applicationKind (changed applicationKind) ≡ step_of applicationKind r
  application_alike =
      let below : all_below (length ws) (argument_rows (changed applicationKind)) ≡ all_below (length ws) (argument_rows r) = ap (all_below (length ws)) changed_arguments ∙ rows_there_lem ws (argument_rows r) in
      let rows : map (earliest_of S) (argument_rows (changed applicationKind)) ≡ map (earliest_of S) (argument_rows r) = ap (map (earliest_of S)) changed_arguments ∙ rows_twice ws (argument_rows r) in
      λ i. require_all ((zero_days r.days && (leb r.count 6 && zeros (changed_rest i)), outOfRange) ∷ (has_arity r.count (arity_of S (field_a r)) && below i, notThere) ∷ []) (enter_row S k (application (field_a r) (rows i)))

  changed_literals : input_literals (changed inputKind) ≡ map (taken ws) (input_literals r)
  changed_literals = ap (map literal_of) (first_taken (replaced_number ws) r.count r.fields) ∙ literals_replaced ws (take r.count r.fields)

  input_alike : step_of inputKind (changed inputKind) ≡ step_of inputKind r
  input_alike =
      let rest = first_dropped (replaced_number ws) r.count r.fields in
      let there : all_below (length ws) (map (λ (l : RowLiteral). l.1) (input_literals (changed inputKind))) ≡ all_below (length ws) (map (λ (l : RowLiteral). l.1) (input_literals r)) =
      ap (λ (ls : List RowLiteral). all_below (length ws) (map (λ (l : RowLiteral). l.1) ls)) changed_literals ∙ literals_there ws (input_literals r)
      in
      let applied : all_applications (row_of S) (input_literals (changed inputKind)) ≡ all_applications (row_of S) (input_literals r) = ap (all_applications (row_of S)) changed_literals ∙ literals_apply ws (input_literals r) in
      let new : map (taken ws) (input_literals (changed inputKind)) ≡ map (taken ws) (input_literals r) = ap (map (taken ws)) changed_literals ∙ literals_twice ws (input_literals r) in
      λ i. require_all ((leb r.count 7 && zeros (rest i), outOfRange) ∷ (there i, notThere) ∷ (in_order r.days, crossedDays) ∷ (applied i, variableLiteral) ∷ []) (stands (with_days_beside (with_clause S k (input (next_clause S) (new i))) (next_clause S) r.days))

  kind_alike : (kind : Kind) → step_of kind (changed kind) ≡ step_of kind r
  kind_alike symbolKind = refl
  kind_alike variableKind = refl
  kind_alike applicationKind = application_alike
  kind_alike inputKind = input_alike
  kind_alike resolveKind = refl
  kind_alike severalKind = refl
  kind_alike factorKind = refl
  kind_alike windowKind = refl
  kind_alike otherKind = refl

  -- A replaced record is read as it was, and has seven fields.
  step_replaced : step S k (replaced S r) ≡ step S k r
  step_replaced = kind_alike (kind_of_record r)

  changed_seven : length r.fields ≡ 7 → (kind : Kind) → length (replaced_fields S kind r) ≡ 7
  changed_seven e symbolKind = e
  changed_seven e variableKind = e
  changed_seven e applicationKind =
      ap (λ (l : List ℕ). suc (length (map (earliest_of S) (argument_rows r) ++ l))) after_symbol
      ∙ ap suc (first_length (earliest_of S) r.count (drop 1 r.fields) ∙ length-drop 1 r.fields) ∙ omega arith
  changed_seven e inputKind = first_length (replaced_number ws) r.count r.fields ∙ e
  changed_seven e resolveKind = e
  changed_seven e severalKind = e
  changed_seven e factorKind = e
  changed_seven e windowKind = e
  changed_seven e otherKind = e

-- ── All records ──
read_replaced : (S : State) (k : ℕ) (rs : List Record) → read S k (replaced_from S k rs) ≡ read S k rs
read_replaced S k [] = refl
read_replaced S k (r ∷ rs) =
    ap (λ (o : Result). elim o [ stands T ↦ read T (suc k) (rest (step S k r)) | refused reason ↦ refused_at S reason k ]) (step_replaced S k r)
    ∙ try (step S k r) (rest (step S k r)) refl (λ T. read_replaced T (suc k) rs)
  where
    rest : Result → List Record
    rest o = elim o [ stands T ↦ replaced_from T (suc k) rs | refused reason ↦ rs ]

    try : (o : Result) (l : List Record) → l ≡ rest o → ((T : State) → read T (suc k) (replaced_from T (suc k) rs) ≡ read T (suc k) rs)
        → ◌≡◌ {A = Ending} (elim o [ stands T ↦ read T (suc k) l | refused reason ↦ refused_at S reason k ]) (elim o [ stands T ↦ read T (suc k) rs | refused reason ↦ refused_at S reason k ])
    try (stands T) l e ih = ap (read T (suc k)) e ∙ ih T
    try (refused reason) l e ih = refl

from_shaped : (S : State) (k : ℕ) (rs : List Record) → Shaped rs → Shaped (replaced_from S k rs)
from_shaped S k [] h = tt
from_shaped S k (r ∷ rs) h = (changed_seven S k r h.0 (kind_of_record r), try (step S k r) (λ T. from_shaped T (suc k) rs h.1))
  where
    try : (o : Result) → ((T : State) → Shaped (replaced_from T (suc k) rs)) → Shaped (elim o [ stands T ↦ replaced_from T (suc k) rs | refused reason ↦ rs ])
    try (stands T) ih = ih T
    try (refused reason) ih = h.1

from_days : (form : Form) (S : State) (k : ℕ) (rs : List Record) → HaveDays form rs → HaveDays form (replaced_from S k rs)
from_days form S k [] h = tt
from_days form S k (r ∷ rs) h = (h.0, try (step S k r) (λ T. from_days form T (suc k) rs h.1))
  where
    try : (o : Result) → ((T : State) → HaveDays form (replaced_from T (suc k) rs)) → HaveDays form (elim o [ stands T ↦ replaced_from T (suc k) rs | refused reason ↦ rs ])
    try (stands T) ih = ih T
    try (refused reason) ih = h.1

from_length : (S : State) (k : ℕ) (rs : List Record) → length (replaced_from S k rs) ≡ length rs
from_length S k [] = refl
from_length S k (r ∷ rs) = ap suc (try (step S k r) (λ T. from_length T (suc k) rs))
  where
    try : (o : Result) → ((T : State) → length (replaced_from T (suc k) rs) ≡ length rs) → length {A = Record} (elim o [ stands T ↦ replaced_from T (suc k) rs | refused reason ↦ rs ]) ≡ length rs
    try (stands T) ih = ih T
    try (refused reason) ih = refl

-- ── The file ──
whole_length : (form : Form) (bytes : List ℕ) → WholeRecords form bytes → record_length form * record_count (in_form form bytes) ≡ length bytes
whole_length Old bytes e = omega arith
whole_length New bytes e = omega arith

module _ (file : File) where
  pub replaced_length : WholeRecords file.form file.bytes → length (replaced_file file).bytes ≡ length file.bytes
  replaced_length e =
      file_length file.form (replaced_from empty_state 0 (records file)) ∙ ap (λ (n : ℕ). record_length file.form * n) (from_length empty_state 0 (records file) ∙ records_length file)
      ∙ whole_length file.form file.bytes e

  pub replaced_ending : ending (replaced_file file) ≡ ending file
  unfolding ending
  replaced_ending =
      ap (read empty_state 0) (file_records file.form (replaced_from empty_state 0 (records file)) (from_shaped empty_state 0 (records file) (records_shaped file)) (from_days file.form empty_state 0 (records file) (records_days file))) ∙ read_replaced empty_state 0 (records file)
