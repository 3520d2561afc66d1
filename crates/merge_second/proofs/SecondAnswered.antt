-- The tables after a refusal of either file, and the answer to a merge, the tables and the output after the second file's check.
use mathlib.Core.Path.{◌≡◌, refl, sym, ap, ◌∙◌}
use mathlib.Core.Bool.{true, false}
use mathlib.Core.List.{List}
use Prim.Native.Nat.{ℕ}
use lib.ListN.{length}
use Rattle.record.specs.Record.{File, old_file, records}
use Rattle.unification.proofs.Tests.{true_not_false}
use Rattle.verdict.specs.Refusal.{Reason}
use Rattle.verdict.specs.State.{State}
use Rattle.verdict.specs.Step.{state_of}
use Rattle.verdict.specs.Tables.{Tables, lengths_of}
use Rattle.verdict.specs.Verdict.{Verdict, accepted, open', refusal, verdict_numbers, check, long_enough, Stands, state_given}
use Rattle.demands.proofs.Demanded.{not_refused_lem}
use Rattle.verdict.proofs.Endings.{reading_records}
use Rattle.answer.specs.Given.{verdict_coded, verdict_stands}
use Rattle.answer.specs.declared.Answer as answer
use Rattle.answer.specs.declared.Verdict as verdict
use Rattle.answer.specs.declared.Verdict.TheVariants as verdicts
use Rattle.answer.proofs.GivenNumbers.{state_left, verdict_given_lem, symbols_given, stands_not_refused, refused_given}
use Rattle.checker.specs.Contract.{Checked}
use Rattle.checker.proofs.CheckedLaws.{tables_checked_lem}
use Rattle.writing.proofs.Written.{stands_on}
use Rattle.writing_answer.proofs.Refusals.{handed_on, stands_here, refused_ends, refused_is}
use Rattle.writing.specs.Writing.{Writing, writing_numbers, output_left}
use Rattle.merging.specs.Answer.{after_checks, tables_unless_refused}
use Rattle.merging.specs.Merging.{merged_file}
use Rattle.writing_answer.specs.Given.{writing_given, own_refusal}
use Rattle.merge_second.specs.Going.{FirstStands, SecondAnswered}
use Rattle.joining.specs.Joined.{BothStand, Joined}
use Rattle.writing_answer.specs.declared.NotWritten.{NotWritten}
use Rattle.std.specs.Prelude.{Result, Ok, Err, IsErrAnd, ⊤}

-- ── A verdict, and what becomes of the tables ──
pub refused_tables : (v : verdict.Verdict) (w : Verdict) (here next : Tables) → verdict_coded v ≡ verdict_numbers w → verdict_stands v ≡ false → tables_unless_refused w here next ≡ here
refused_tables verdicts.Open w here next e t = absurd (true_not_false refl t)
refused_tables (verdicts.Accepted n) w here next e t = absurd (true_not_false refl t)
refused_tables (verdicts.Refused q k) w here next e t = ap (λ (x : Verdict). tables_unless_refused x here next) (refused_given q k w e).1

pub tables_on : (w : Verdict) (here next : Tables) → ((q : Reason) (k : ℕ) → ¬ (w ≡ refusal q k)) → tables_unless_refused w here next ≡ next
tables_on (accepted n) here next h = refl
tables_on open' here next h = refl
tables_on (refusal q k) here next h = absurd (h q k refl)

-- The state that a check leaves is that of the file that stands.
pub left_state : (file : File) (tables : Tables) (S : State) → long_enough (lengths_of tables) ≡ true → Stands file S → state_left file (lengths_of tables) ≡ S
left_state file tables S l st = ap state_given (reading_records file (lengths_of tables) st.fits l) ∙ ap state_of st.reads

-- ── The second file's check ──
module _ (first second : List ℕ) (between : Tables) (output : List ℕ) (mine theirs : answer.Answer) (after : Tables) (L : Checked 0 (old_file second) between theirs after) where
  abbrev verdict₂ : Verdict
  verdict₂ = (check 0 (old_file second) (lengths_of between)).verdict

  given₂ : verdict_coded theirs.verdict ≡ verdict_numbers (check 0 (old_file second) (lengths_of between)).verdict
  given₂ = verdict_given_lem 0 (old_file second) (lengths_of between) theirs L.answer

  pub second_refused_lem : (m : Result ℕ NotWritten) {e : NotWritten} → IsErrAnd m (λ y. y ≡ e) → own_refusal 2 theirs.verdict ≡ Err e → SecondAnswered first second between output m after output
  second_refused_lem m p q = record {
    answer = ap writing_given (handed_on m p) ∙ sym (refused_ends 2 theirs.verdict verdict₂ (after_checks (records (old_file first)) (records (old_file second))) given₂ q);
    tables = tables_checked_lem 0 (old_file second) between theirs after L;
    bytes = sym (refused_is 2 theirs.verdict verdict₂ (after_checks (records (old_file first)) (records (old_file second))) given₂ q (merged_file first second) output);
  }

  module _ {u : ⊤} (s : own_refusal 2 theirs.verdict ≡ Ok u) where
    not_second : (q : Reason) (k : ℕ) → ¬ ((check 0 (old_file second) (lengths_of between)).verdict ≡ refusal q k)
    not_second = stands_not_refused theirs.verdict verdict₂ given₂ (stands_here 2 theirs.verdict s)

    pub both_stand : FirstStands first mine output → BothStand first second mine.symbols mine.rows mine.clauses theirs.symbols output
    both_stand F =
        let B = not_refused_lem 0 (old_file second) between not_second in
        let T = left_state (old_file second) between B.1.0 B.0 B.1.1 in
        record {
          of_first = F.state;
          of_second = B.1.0;
          first_stands = F.stands;
          second_stands = B.1.1;
          symbols_of_first = F.symbols;
          rows_of_first = F.rows;
          clauses_of_first = F.clauses;
          symbols_of_second = symbols_given 0 (old_file second) (lengths_of between) theirs L.answer ∙ ap (λ (z : State). length z.symbols) T;
          room = F.room;
        }

    pub both_joined : (m : Result ℕ NotWritten) (left : List ℕ) → Joined first second output m left → SecondAnswered first second between output m after left
    both_joined m left J =
        let e = stands_on 2 verdict₂ (after_checks (records (old_file first)) (records (old_file second))) not_second in
        record {
          answer = J.answer ∙ ap writing_numbers (sym e);
          tables = tables_checked_lem 0 (old_file second) between theirs after L;
          bytes = J.bytes ∙ ap (λ (y : Writing). output_left y (merged_file first second) output) (sym e);
        }
