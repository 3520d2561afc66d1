-- The answer to a conversion, the tables and the output, on each way that the program takes.
use mathlib.Core.Path.{◌≡◌, refl, sym, ap, ◌∙◌}
use mathlib.Core.Bool.{Bool, true, false}
use mathlib.Core.List.{List, [], ◌∷◌}
use Prim.Native.Nat.{ℕ, ◌≤◌, ◌<◌}
use lib.ListN.{length}
use borrow.Author.Tests.{lt-ltb, le-ltb}
use Rattle.record.specs.Record.{File}
use Rattle.verdict.specs.Refusal.{Reason}
use Rattle.verdict.specs.Tables.{Tables, lengths_of, tables_after}
use Rattle.verdict.specs.Verdict.{Verdict, refusal, verdict_numbers, check}
use Rattle.answer.specs.Given.{verdict_coded, verdict_stands}
use Rattle.answer.specs.declared.Answer.{Answer}
use Rattle.answer.proofs.GivenNumbers.{verdict_given_lem, stands_not_refused}
use Rattle.checker.specs.Contract.{Checked}
use Rattle.checker.proofs.CheckedLaws.{tables_checked_lem}
use Rattle.writing.proofs.Written.{stands_on}
use Rattle.writing_answer.proofs.Refusals.{handed_on, stands_here, refused_ends, refused_is}
use Rattle.writing.specs.Writing.{Writing, refused_with, writing_numbers, unless_refused, output_left}
use Rattle.converting.specs.Answer.{room_for, conversion_answer, tables_left}
use Rattle.converting.specs.Converting.{converted_file}
use Rattle.converting.proofs.ConversionShown.{not_refused_lem, conversion_promised}
use Rattle.writing_answer.specs.Given.{writing_given, own_refusal}
use Rattle.rewriting.specs.Rewritten.{Convertible, Rewritten}
use Rattle.writing_answer.specs.declared.NotWritten.{NotWritten}
use Rattle.std.specs.Prelude.{Result, Ok, Err, IsErrAnd, ⊤}
use Rattle.convert.specs.Contract.{ConversionAnswered}

module _ (file : File) (before : Tables) (output : List ℕ) where
  abbrev verdict₁ : Verdict
  verdict₁ = (check 0 file (lengths_of before)).verdict

  -- All of it, from the answer and the tables.
  answered : (x : Writing) (m : Result ℕ NotWritten) (after : Tables) (left : List ℕ) → conversion_answer file before (length output) ≡ x → writing_given m ≡ writing_numbers x → after ≡ tables_left file before (length output) → left ≡ output_left x (converted_file file).bytes output
      → ConversionAnswered file before output m after left
  answered x m after left e g t o = record {
    answer = g ∙ ap writing_numbers (sym e);
    symbols = ap (λ (y : Tables). y.symbols) t;
    rows = ap (λ (y : Tables). y.rows) t;
    clauses = ap (λ (y : Tables). y.clauses) t;
    bindings = ap (λ (y : Tables). y.bindings) t;
    output = o ∙ ap (λ (y : Writing). output_left y (converted_file file).bytes output) (sym e);
    promised = conversion_promised file before (length output);
  }

  -- A short output.
  pub short_answered : (m : Result ℕ NotWritten) → length output < 65536 → writing_given m ≡ 2 ∷ 2 ∷ 0 ∷ 0 ∷ [] → ConversionAnswered file before output m before output
  unfolding conversion_answer tables_left
  short_answered m l g =
      let z = lt-ltb (length output) 65536 l in
      answered (refused_with 2 0 0) m before output
      (ap (λ (b : Bool). elim b [ true ↦ refused_with 2 0 0 | false ↦ unless_refused 1 verdict₁ (room_for file) ]) z) g
      (sym (ap (λ (b : Bool). elim b [ true ↦ before | false ↦ tables_after file before ]) z)) refl

  module _ (room : 65536 ≤ length output) (a : Answer) (after : Tables) (K : Checked 0 file before a after) where
    answer_checked : conversion_answer file before (length output) ≡ unless_refused 1 verdict₁ (room_for file)
    unfolding conversion_answer
    answer_checked = ap (λ (b : Bool). elim b [ true ↦ refused_with 2 0 0 | false ↦ unless_refused 1 verdict₁ (room_for file) ]) (le-ltb (length output) 65536 room)

    tables_left_lem : after ≡ tables_left file before (length output)
    unfolding tables_left
    tables_left_lem = tables_checked_lem 0 file before a after K ∙ sym (ap (λ (x : Bool). elim x [ true ↦ before | false ↦ tables_after file before ]) (le-ltb (length output) 65536 room))

    given₁ : verdict_coded a.verdict ≡ verdict_numbers (check 0 file (lengths_of before)).verdict
    given₁ = verdict_given_lem 0 file (lengths_of before) a K.answer

    -- The file's own refusal.
    pub file_refused_lem : (m : Result ℕ NotWritten) {e : NotWritten} → IsErrAnd m (λ y. y ≡ e) → own_refusal 1 a.verdict ≡ Err e → ConversionAnswered file before output m after output
    file_refused_lem m p q =
        answered (unless_refused 1 verdict₁ (room_for file)) m after output answer_checked
        (ap writing_given (handed_on m p) ∙ sym (refused_ends 1 a.verdict verdict₁ (room_for file) given₁ q)) tables_left_lem
        (sym (refused_is 1 a.verdict verdict₁ (room_for file) given₁ q (converted_file file).bytes output))

    -- A file that stands.
    module _ {u : ⊤} (s : own_refusal 1 a.verdict ≡ Ok u) where
      none_refused : (q : Reason) (k : ℕ) → ¬ ((check 0 file (lengths_of before)).verdict ≡ refusal q k)
      none_refused = stands_not_refused a.verdict verdict₁ given₁ (stands_here 1 a.verdict s)

      pub convertible : Convertible file output
      convertible = record { fits = (not_refused_lem file (lengths_of before) none_refused).1.fits; room = room }

      pub file_rewritten : (m : Result ℕ NotWritten) (left : List ℕ) → Rewritten file output m left → ConversionAnswered file before output m after left
      file_rewritten m left R = answered (room_for file) m after left (answer_checked ∙ stands_on 1 verdict₁ (room_for file) none_refused) R.answer tables_left_lem R.bytes
