-- The lengths of case C, for every file.
use mathlib.Core.Path.{◌≡◌, refl}
use mathlib.Core.Bool.{false}
use Prim.Native.Nat.{ℕ}
use Rattle.record.specs.Record.{File, old_file, new_file}
use Rattle.unification.proofs.Tests.{true_not_false}
use Rattle.verdict.specs.Verdict.{check, answer_numbers, Lengths, fitting}
use Rattle.demands.specs.Lengths.{refused_for_length, LengthsHold}
use Rattle.demands.proofs.Demanded.{length_only}

bad_length : (day : ℕ) (file : File) (lengths : Lengths) → fitting file ≡ false → answer_numbers (check day file lengths) ≡ refused_for_length
unfolding check
bad_length day file lengths f = rw f

pub lengths_hold : LengthsHold
lengths_hold = record {
  longest = λ day bytes tables k l z. true_not_false (rw l refl) (length_only day (old_file bytes) tables k z);
  fifteen = λ day bytes lengths l. bad_length day (old_file bytes) lengths (rw l refl);
  too_long = λ day bytes lengths l. bad_length day (old_file bytes) lengths (rw l refl);
  longest_new = λ day bytes tables k l z. true_not_false (rw l refl) (length_only day (new_file bytes) tables k z);
  too_long_new = λ day bytes lengths l. bad_length day (new_file bytes) lengths (rw l refl);
}
