-- The short files are trimmed as they are written out, and the answers are as they are written out.
use mathlib.Core.Path.{◌≡◌, refl, ap, ◌∙◌}
use mathlib.Core.Bool.{Bool, true, false}
use mathlib.Core.Option.{Option, none, some}
use mathlib.Core.List.{List, [], ◌∷◌}
use Prim.Native.Nat.{ℕ}
use lib.ListN.{length}
use Rattle.record.specs.Bytes.{record_bytes, bytes_in, file_bytes}
use Rattle.record.specs.Record.{pick, old_file, Record, records}
use Rattle.unification.specs.Outlines.{most_outline_pairs, clash_within}
use Rattle.unification.specs.Unification.{most_work, most_bindings, most_links, run}
use Rattle.derivation.specs.Derivation.{Derivation}
use Rattle.renumbering.specs.Renumbering.{Renumbering}
use Rattle.verdict.specs.Cases.{record_of, symbol_of}
use Rattle.verdict.specs.Refusal.{kind_of_record, most_literals, most_index}
use Rattle.verdict.specs.State.{State}
use Rattle.verdict.specs.Step.{require, add_clause, state_of}
use Rattle.verdict.specs.Tables.{Tables, lengths_of}
use Rattle.verdict.specs.Verdict.{Lengths, least_lengths, ending, check}
use Rattle.writing.specs.Writing.{written, refused_with}
use Rattle.trimming.specs.Answer.{trim_answer}
use Rattle.trimming.specs.Cases.{PartsHold, CasesHold, AnswersHold, untrimmed, untrimmed_two, trimmed_later, trimmed_earlier, trimmed_two}
use Rattle.trimming.specs.Kept.{Kept, kept_for}
use Rattle.trimming.specs.Trimming.{Next, first_numbers, next_after, is_kept, closed_record, closed_up, trimmed_from, trimmed_for, accepted_clause, trimmed_file}

pub parts_hold : PartsHold
parts_hold = record {
  application = refl;
  input_named = refl;
  resolve_named = refl;
  several_named = refl;
  factor_named = refl;
  window_named = refl;
  others = (refl, refl);
  clauses = refl;
  rows = refl;
  windows = refl;
  last_windows = refl;
  other_windows = refl;
  symbols = (refl, refl);
}

-- ── The same with the rest named once, so that computing does not double with every record ──
abbrev kept_if : Bool → Record → List Record → List Record
kept_if true r rs = r ∷ rs
kept_if false r rs = rs

abbrev one_by_one : Kept → Renumbering → Next → List Record → List Record
one_by_one K N n [] = []
one_by_one K N n (r ∷ rs) = kept_if (is_kept K n (kind_of_record r) r rs) (closed_record N r) (one_by_one K N (next_after n (kind_of_record r)) rs)

one_by_one_lem : (K : Kept) (N : Renumbering) (n : Next) (rs : List Record) → trimmed_from K N n rs ≡ one_by_one K N n rs
one_by_one_lem K N n [] = refl
one_by_one_lem K N n (r ∷ rs) = try (is_kept K n (kind_of_record r) r rs) (one_by_one_lem K N (next_after n (kind_of_record r)) rs)
  where
    try : (b : Bool) → trimmed_from K N (next_after n (kind_of_record r)) rs ≡ one_by_one K N (next_after n (kind_of_record r)) rs
        → pick b (closed_record N r ∷ trimmed_from K N (next_after n (kind_of_record r)) rs) (trimmed_from K N (next_after n (kind_of_record r)) rs) ≡ kept_if b (closed_record N r) (one_by_one K N (next_after n (kind_of_record r)) rs)
    try true h = ap (λ (l : List Record). closed_record N r ∷ l) h
    try false h = h

abbrev one_by_one_for : State → Option Derivation → List Record → List Record
one_by_one_for S none rs = []
one_by_one_for S (some c) rs = one_by_one (kept_for S c) (closed_up S (kept_for S c)) first_numbers rs

for_one_by_one : (S : State) (o : Option Derivation) (rs : List Record) → trimmed_for S o rs ≡ one_by_one_for S o rs
for_one_by_one S none rs = refl
for_one_by_one S (some c) rs = one_by_one_lem (kept_for S c) (closed_up S (kept_for S c)) first_numbers rs

abbrev trimmed_by : ℕ → State → List Record → List ℕ
trimmed_by day S rs = file_bytes (one_by_one_for S (accepted_clause day S) rs)

by_records_lem : (day : ℕ) (file : List ℕ) → trimmed_file day file ≡ trimmed_by day (state_of (ending (old_file file))) (records (old_file file))
unfolding trimmed_file
by_records_lem day file = ap file_bytes (for_one_by_one (state_of (ending (old_file file))) (accepted_clause day (state_of (ending (old_file file)))) (records (old_file file)))

-- ── The cases ──
abbrev trimmed_on : ℕ → List Record → List ℕ
trimmed_on day rs = trimmed_by day (state_of (ending (old_file (file_bytes rs)))) (records (old_file (file_bytes rs)))

later_computed : trimmed_on 7 untrimmed ≡ file_bytes trimmed_later
unfolding bytes_in record_bytes records check ending require add_clause clash_within most_outline_pairs run most_work most_bindings most_links most_literals most_index
later_computed = refl

earlier_computed : trimmed_on 3 untrimmed ≡ file_bytes trimmed_earlier
unfolding bytes_in record_bytes records check ending require add_clause clash_within most_outline_pairs run most_work most_bindings most_links most_literals most_index
earlier_computed = refl

two_computed : trimmed_on 0 untrimmed_two ≡ file_bytes trimmed_two
unfolding bytes_in record_bytes records check ending require add_clause clash_within most_outline_pairs run most_work most_bindings most_links most_literals most_index
two_computed = refl

later_again_lem : trimmed_on 7 trimmed_later ≡ file_bytes trimmed_later
unfolding bytes_in record_bytes records check ending require add_clause clash_within most_outline_pairs run most_work most_bindings most_links most_literals most_index
later_again_lem = refl

earlier_again_lem : trimmed_on 3 trimmed_earlier ≡ file_bytes trimmed_earlier
unfolding bytes_in record_bytes records check ending require add_clause clash_within most_outline_pairs run most_work most_bindings most_links most_literals most_index
earlier_again_lem = refl

pub cases_hold : CasesHold
unfolding bytes_in record_bytes records check ending require add_clause clash_within most_outline_pairs run most_work most_bindings most_links most_literals most_index
cases_hold = record {
  later = by_records_lem 7 (file_bytes untrimmed) ∙ later_computed;
  earlier = by_records_lem 3 (file_bytes untrimmed) ∙ earlier_computed;
  on_two = by_records_lem 0 (file_bytes untrimmed_two) ∙ two_computed;
  later_again = by_records_lem 7 (file_bytes trimmed_later) ∙ later_again_lem;
  earlier_again = by_records_lem 3 (file_bytes trimmed_earlier) ∙ earlier_again_lem;
  accepted_later = refl;
  accepted_later_again = refl;
  accepted_earlier = refl;
  accepted_earlier_again = refl;
  open_last = refl;
}

-- ── The answers ──
module _ (tables : Tables) (a : length tables.symbols ≡ 4096) (b : length tables.rows ≡ 4096) (c : length tables.clauses ≡ 20480) (d : length tables.bindings ≡ 32768) where
  -- What the trimmed file is does not have to be computed again.
  written_answer : length (trimmed_file 7 (file_bytes untrimmed)) ≡ 192 → trim_answer 7 (file_bytes untrimmed) tables 65536 ≡ written 192
  unfolding trim_answer bytes_in record_bytes records check ending require add_clause clash_within most_outline_pairs run most_work most_bindings most_links most_literals most_index
  written_answer e = rw (a, b, c, d) (ap written e)

  open_answer : trim_answer 10 (file_bytes untrimmed) tables 65536 ≡ refused_with 23 1 0
  unfolding trim_answer bytes_in record_bytes records check ending require add_clause clash_within most_outline_pairs run most_work most_bindings most_links most_literals most_index
  open_answer = rw (a, b, c, d) refl

  refused_answer : trim_answer 7 (file_bytes (symbol_of 0 ∷ record_of 0 0 [] ∷ [])) tables 65536 ≡ refused_with 3 1 1
  unfolding trim_answer bytes_in record_bytes records check ending require add_clause clash_within most_outline_pairs run most_work most_bindings most_links most_literals most_index
  refused_answer = rw (a, b, c, d) refl

short_answer : (tables : Tables) → trim_answer 10 (file_bytes (record_of 0 0 [] ∷ [])) tables 65535 ≡ refused_with 2 0 0
unfolding trim_answer
short_answer tables = refl

later_length : length (trimmed_file 7 (file_bytes untrimmed)) ≡ 192
unfolding bytes_in record_bytes
later_length = ap length cases_hold.later

pub answers_hold : (tables : Tables) (least : lengths_of tables ≡ least_lengths) → AnswersHold tables least
answers_hold tables e =
    let a = ap (λ (n : Lengths). n.symbols) e in
    let b = ap (λ (n : Lengths). n.rows) e in
    let c = ap (λ (n : Lengths). n.clauses) e in
    let d = ap (λ (n : Lengths). n.bindings) e in
    record { is_written = written_answer tables a b c d later_length; is_open = open_answer tables a b c d; is_refused = refused_answer tables a b c d; is_short = short_answer tables }
