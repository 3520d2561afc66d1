-- The answer to a merge, the tables and the output, on each way that the program takes.
use mathlib.Core.Path.{◌≡◌, sym, ap, ◌∙◌}
use mathlib.Core.Bool.{Bool, true, false}
use mathlib.Core.List.{List, [], ◌∷◌}
use Prim.Native.Nat.{ℕ, ◌≤◌, ◌<◌}
use lib.ListN.{length}
use borrow.Author.Tests.{lt-ltb, le-ltb}
use Rattle.record.specs.Record.{old_file}
use Rattle.verdict.specs.Refusal.{Reason}
use Rattle.verdict.specs.State.{State}
use Rattle.verdict.specs.Tables.{Tables, lengths_of, tables_after}
use Rattle.verdict.specs.Verdict.{Verdict, refusal, verdict_numbers, check}
use Rattle.demands.proofs.Demanded.{not_refused_lem}
use Rattle.answer.specs.Given.{verdict_coded, verdict_stands}
use Rattle.answer.specs.declared.Answer as answer
use Rattle.answer.proofs.GivenNumbers.{verdict_given_lem, symbols_given, rows_given, clauses_given, stands_not_refused}
use Rattle.checker.specs.Contract.{Checked}
use Rattle.checker.proofs.CheckedLaws.{tables_checked_lem}
use Rattle.writing.specs.Writing.{Writing, refused_with, writing_numbers, unless_refused, output_left}
use Rattle.writing.proofs.Written.{stands_on}
use Rattle.merging.specs.Answer.{merge_answer, tables_unless_refused, tables_left}
use Rattle.merging.specs.Merging.{merged_file}
use Rattle.merging.proofs.AnswerShown.{merge_promised}
use Rattle.merge.specs.Contract.{MergeAnswered}
use Rattle.writing_answer.specs.Given.{writing_given, own_refusal}
use Rattle.writing_answer.proofs.Refusals.{handed_on, stands_here, refused_here, refused_ends, refused_is}
use Rattle.merge_second.specs.Going.{FirstStands, second_answer, SecondAnswered}
use Rattle.merge_second.proofs.SecondAnswered.{refused_tables, tables_on, left_state}
use Rattle.writing_answer.specs.declared.NotWritten.{NotWritten}
use Rattle.std.specs.Prelude.{Result, Ok, Err, IsErrAnd, ⊤}

module _ (first second : List ℕ) (before : Tables) (output : List ℕ) where
  abbrev verdict₁ : Verdict
  verdict₁ = (check 0 (old_file first) (lengths_of before)).verdict

  -- A short output.
  pub short_answered : (m : Result ℕ NotWritten) → length output < 65536 → writing_given m ≡ 2 ∷ 2 ∷ 0 ∷ 0 ∷ [] → MergeAnswered first second before output m before output
  unfolding merge_answer tables_left
  short_answered m l g =
      let z = lt-ltb (length output) 65536 l in
      let t : tables_left first second before (length output) ≡ before = ap (λ (b : Bool). elim b [ true ↦ before | false ↦ tables_unless_refused verdict₁ (tables_after (old_file first) before) (tables_after (old_file second) (tables_after (old_file first) before)) ]) z in
      let a : merge_answer first second before (length output) ≡ refused_with 2 0 0 = ap (λ (b : Bool). elim b [ true ↦ refused_with 2 0 0 | false ↦ unless_refused 1 verdict₁ (second_answer first second (tables_after (old_file first) before)) ]) z in
      record {
        answer = g ∙ ap writing_numbers (sym a);
        symbols = ap (λ (x : Tables). x.symbols) (sym t);
        rows = ap (λ (x : Tables). x.rows) (sym t);
        clauses = ap (λ (x : Tables). x.clauses) (sym t);
        bindings = ap (λ (x : Tables). x.bindings) (sym t);
        output = ap (λ (x : Writing). output_left x (merged_file first second) output) (sym a);
        promised = merge_promised first second before (length output);
      }

  module _ (room : 65536 ≤ length output) where
    answer_checked : merge_answer first second before (length output) ≡ unless_refused 1 verdict₁ (second_answer first second (tables_after (old_file first) before))
    unfolding merge_answer
    answer_checked = ap (λ (b : Bool). elim b [ true ↦ refused_with 2 0 0 | false ↦ unless_refused 1 verdict₁ (second_answer first second (tables_after (old_file first) before)) ]) (le-ltb (length output) 65536 room)

    tables_left_lem : tables_left first second before (length output) ≡ tables_unless_refused verdict₁ (tables_after (old_file first) before) (tables_after (old_file second) (tables_after (old_file first) before))
    unfolding tables_left
    tables_left_lem = ap (λ (b : Bool). elim b [ true ↦ before | false ↦ tables_unless_refused verdict₁ (tables_after (old_file first) before) (tables_after (old_file second) (tables_after (old_file first) before)) ]) (le-ltb (length output) 65536 room)

    -- All of it, from the answer, the tables and the output.
    answered : (m : Result ℕ NotWritten) (after : Tables) (left : List ℕ) → writing_given m ≡ writing_numbers (merge_answer first second before (length output)) → after ≡ tables_left first second before (length output) → left ≡ output_left (merge_answer first second before (length output)) (merged_file first second) output
        → MergeAnswered first second before output m after left
    answered m after left g t o = record {
      answer = g;
      symbols = ap (λ (x : Tables). x.symbols) t;
      rows = ap (λ (x : Tables). x.rows) t;
      clauses = ap (λ (x : Tables). x.clauses) t;
      bindings = ap (λ (x : Tables). x.bindings) t;
      output = o;
      promised = merge_promised first second before (length output);
    }

    module _ (mine : answer.Answer) (between : Tables) (K : Checked 0 (old_file first) before mine between) where
      given₁ : verdict_coded mine.verdict ≡ verdict_numbers (check 0 (old_file first) (lengths_of before)).verdict
      given₁ = verdict_given_lem 0 (old_file first) (lengths_of before) mine K.answer

      pub first_refused_lem : (m : Result ℕ NotWritten) {e : NotWritten} → IsErrAnd m (λ y. y ≡ e) → own_refusal 1 mine.verdict ≡ Err e → MergeAnswered first second before output m between output
      first_refused_lem m p q =
          answered m between output
          (ap writing_given (handed_on m p) ∙ sym (refused_ends 1 mine.verdict verdict₁ (second_answer first second (tables_after (old_file first) before)) given₁ q) ∙ ap writing_numbers (sym answer_checked))
          (tables_checked_lem 0 (old_file first) before mine between K ∙ sym (refused_tables mine.verdict verdict₁ (tables_after (old_file first) before) (tables_after (old_file second) (tables_after (old_file first) before)) given₁ (refused_here 1 mine.verdict q)) ∙ sym tables_left_lem)
          (sym (refused_is 1 mine.verdict verdict₁ (second_answer first second (tables_after (old_file first) before)) given₁ q (merged_file first second) output) ∙ ap (λ (x : Writing). output_left x (merged_file first second) output) (sym answer_checked))

      module _ {u : ⊤} (s : own_refusal 1 mine.verdict ≡ Ok u) where
        not_first : (q : Reason) (k : ℕ) → ¬ ((check 0 (old_file first) (lengths_of before)).verdict ≡ refusal q k)
        not_first = stands_not_refused mine.verdict verdict₁ given₁ (stands_here 1 mine.verdict s)

        pub first_stands_lem : FirstStands first mine output
        first_stands_lem =
            let A = not_refused_lem 0 (old_file first) before not_first in
            let S = left_state (old_file first) before A.1.0 A.0 A.1.1 in
            record {
              state = A.1.0;
              stands = A.1.1;
              symbols = symbols_given 0 (old_file first) (lengths_of before) mine K.answer ∙ ap (λ (z : State). length z.symbols) S;
              rows = rows_given 0 (old_file first) (lengths_of before) mine K.answer ∙ ap (λ (z : State). length z.rows) S;
              clauses = clauses_given 0 (old_file first) (lengths_of before) mine K.answer ∙ ap (λ (z : State). length z.clauses) S;
              room = room;
            }

        pub second_answered : (m : Result ℕ NotWritten) (after : Tables) (left : List ℕ) → SecondAnswered first second between output m after left → MergeAnswered first second before output m after left
        second_answered m after left A =
            let w = tables_checked_lem 0 (old_file first) before mine between K in
            let e : second_answer first second between ≡ merge_answer first second before (length output) =
            ap (second_answer first second) w ∙ sym (stands_on 1 verdict₁ (second_answer first second (tables_after (old_file first) before)) not_first) ∙ sym answer_checked
            in
            answered m after left
            (A.answer ∙ ap writing_numbers e)
            (A.tables ∙ ap (tables_after (old_file second)) w ∙ sym (tables_on verdict₁ (tables_after (old_file first) before) (tables_after (old_file second) (tables_after (old_file first) before)) not_first) ∙ sym tables_left_lem)
            (A.bytes ∙ ap (λ (x : Writing). output_left x (merged_file first second) output) e)
