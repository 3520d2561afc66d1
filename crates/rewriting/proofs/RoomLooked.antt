-- A result that has too many records for its form, and one that is written.
use mathlib.Core.Path.{◌≡◌, sym, ap, ◌∙◌, subst}
use mathlib.Core.Bool.{Bool, true, false}
use mathlib.Core.List.{List, [], ◌∷◌, ◌++◌}
use Prim.Native.Nat.{ℕ, ◌*◌, ◌%◌, ◌≤◌, ◌<◌}
use native.Mathlib.Omega.{arith}
use lib.Dec.{eqb, leb, leb→le}
use lib.ListN.{length, drop}
use borrow.Author.Tests.{lt-ltb, le-ltb}
use Rattle.record.specs.Bytes.{bytes_in}
use Rattle.record.specs.Record.{File, in_form, old_file, new_file, record_length, records}
use Rattle.record.specs.declared.Form.{Form}
use Rattle.record.specs.declared.Form.TheVariants.{Old, New}
use Rattle.record.proofs.Bytes.{file_length}
use Rattle.unification.proofs.Tests.{to_t, both_true}
use Rattle.verdict.specs.Verdict.{fitting_length}
use Rattle.writing.specs.Writing.{Writing, written, refused_with, writing_numbers, output_left}
use Rattle.converting.specs.Answer.{room_for}
use Rattle.converting.specs.Converting.{other_form, most_records, to_new_records, to_old_records, converted, converted_file}
use Rattle.placing.specs.Placing.{Written}
use Rattle.day_table.specs.DayTable.{DaysTold}
use Rattle.convert_new.specs.NewFile.{NewWritable}
use Rattle.convert_old.specs.OldFile.{OldWritable}
use Rattle.writing_answer.specs.Given.{writing_given}
use Rattle.rewriting.specs.Rewritten.{Convertible, Rewritten}
use Rattle.writing_answer.specs.declared.NotWritten.{NotWritten}
use Rattle.std.specs.Prelude.{Result, Ok, Err, ⊤}

-- A length that a form allows is at most 65,536.
short_length : (form : Form) (bytes : List ℕ) → fitting_length form (length bytes) ≡ true → length bytes ≤ 65536
short_length Old bytes e = leb→le (length bytes) 65536 (to_t (leb (length bytes) 65536) (both_true (leb (length bytes) 65536) (eqb (length bytes % 16) 0) e).0)
short_length New bytes e = let l = leb→le (length bytes) 65520 (to_t (leb (length bytes) 65520) (both_true (leb (length bytes) 65520) (eqb (length bytes % 20) 0) e).0) in omega arith

few_bytes : (form : Form) (n : ℕ) → n ≤ most_records form → record_length form * n ≤ 65536
few_bytes Old n h = omega arith
few_bytes New n h = omega arith

module _ (file : File) (output : List ℕ) (asked : Convertible file output) {n : ℕ} (isCount : n ≡ length (converted file)) where
  abbrev looked : Bool → Writing
  looked b = elim b [ true ↦ refused_with 22 0 0 | false ↦ written (record_length (other_form file.form) * length (converted file)) ]

  pub too_many_lem : most_records (other_form file.form) < n → {m : Result ℕ NotWritten} → writing_given m ≡ 2 ∷ 22 ∷ 0 ∷ 0 ∷ [] → Rewritten file output m output
  too_many_lem h g =
      let e : room_for file ≡ refused_with 22 0 0 = ap looked (lt-ltb (most_records (other_form file.form)) (length (converted file)) (subst (λ (x : ℕ). most_records (other_form file.form) < x) isCount h)) in
      record { answer = g ∙ ap writing_numbers (sym e); bytes = ap (λ (x : Writing). output_left x (converted_file file).bytes output) (sym e) }

  module _ (h : n ≤ most_records (other_form file.form)) where
    bytes_length : length (bytes_in (other_form file.form) (converted file)) ≡ record_length (other_form file.form) * n
    bytes_length = file_length (other_form file.form) (converted file) ∙ ap (λ (x : ℕ). record_length (other_form file.form) * x) (sym isCount)

    few : length (bytes_in (other_form file.form) (converted file)) ≤ 65536
    few = omega (arith, bytes_length, few_bytes (other_form file.form) n h)

    pub room_enough : length (bytes_in (other_form file.form) (converted file)) ≤ length output
    room_enough = omega (arith, few, asked.room)

    module _ {left : List ℕ} {end : ℕ} (W : Written (bytes_in (other_form file.form) (converted file)) output left end) where
      pub short_end : end ≤ 65536
      short_end = omega (arith, W.ends, few)

      pub rewritten : {m : Result ℕ NotWritten} → writing_given m ≡ 0 ∷ end ∷ 0 ∷ 0 ∷ [] → Rewritten file output m left
      unfolding converted_file
      rewritten g =
          let ends : end ≡ record_length (other_form file.form) * length (converted file) = W.ends ∙ file_length (other_form file.form) (converted file) in
          let e : room_for file ≡ written (record_length (other_form file.form) * length (converted file)) =
          ap looked (le-ltb (most_records (other_form file.form)) (length (converted file)) (subst (λ (x : ℕ). x ≤ most_records (other_form file.form)) isCount h))
          in
          record {
            answer = g ∙ ap (λ (x : ℕ). 0 ∷ x ∷ 0 ∷ 0 ∷ []) ends ∙ ap writing_numbers (sym e);
            bytes = W.bytes ∙ ap (λ (x : ℕ). bytes_in (other_form file.form) (converted file) ++ drop x output) ends ∙ ap (λ (x : Writing). output_left x (bytes_in (other_form file.form) (converted file)) output) (sym e);
          }

-- What the writing asks.
pub to_write_new : (file output : List ℕ) → Convertible (old_file file) output → {n : ℕ} → n ≡ length (to_new_records (records (old_file file))) → n ≤ 3276
    → (before table : List ℕ) → DaysTold (records (old_file file)) before table → NewWritable file table output
to_write_new file output asked e h before table D = record { short = short_length Old file asked.fits; told = D.told; room = room_enough (old_file file) output asked e h }

pub to_write_old : (file output : List ℕ) → Convertible (new_file file) output → {n : ℕ} → n ≡ length (to_old_records (records (new_file file))) → n ≤ 4096 → OldWritable file output
to_write_old file output asked e h = record { short = short_length New file asked.fits; room = room_enough (new_file file) output asked e h }

-- The form that the program was told.
pub told_form : {form f : Form} (bytes output : List ℕ) {m : Result ℕ NotWritten} {left : List ℕ} → form ≡ f → Rewritten (in_form f bytes) output m left → Rewritten (in_form form bytes) output m left
told_form bytes output {m} {left} e R = subst (λ (x : Form). Rewritten (in_form x bytes) output m left) (sym e) R
