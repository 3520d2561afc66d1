-- Where the file stands after the two bytes of day.
use mathlib.Core.Path.{◌≡◌, refl, sym, ap, ◌∙◌}
use mathlib.Core.Bool.{Bool, false}
use mathlib.Core.List.{List, [], ◌∷◌}
use Prim.Native.Nat.{ℕ, zero, suc, ◌-◌, ◌≤◌, ◌<◌}
use native.Mathlib.Omega.{arith}
use lib.ListN.{length, take, drop, length-take, length-drop}
use borrow.Author.Tests.{lt-ltb, le-ltb, lt-leb}
use Rattle.record.specs.Record.{pick, File, old_file}
use Rattle.verdict.specs.Refusal.{badLength}
use Rattle.verdict.specs.Verdict.{refusal, check, Lengths, fitting_length, fitting}
use Rattle.program_input.specs.Input.{file_part, file_in, InputsRead}
use Rattle.std.specs.declared.ops.Range.{Range}
use Rattle.record.specs.declared.Form.TheVariants.{Old}

short_part : (n : ℕ) → n < 2 → record { start = 0; end = 1 } ≡ file_part n
short_part n l = sym (ap (λ (b : Bool). pick b (record { start = 0; end = 1 }) (record { start = 2; end = n })) (lt-ltb n 2 l))

whole_part : (n : ℕ) → 2 ≤ n → record { start = 2; end = n } ≡ file_part n
whole_part n l = sym (ap (λ (b : Bool). pick b (record { start = 0; end = 1 }) (record { start = 2; end = n })) (le-ltb n 2 l))

one_byte : (space : List ℕ) → 1 ≤ length space → length (take 1 (drop 0 space)) ≡ 1
one_byte [] l = absurd (omega arith)
one_byte (b ∷ bs) l = refl

unfit_refused : (file : File) (day : ℕ) (lengths : Lengths) → fitting file ≡ false → (check day file lengths).verdict ≡ refusal badLength 0
unfolding check
unfit_refused file day lengths e = rw e

over_unfit : (n : ℕ) → 65536 < n → fitting_length Old n ≡ false
over_unfit n l = rw (lt-leb n 65536 l)

between : (space : List ℕ) (n : ℕ) → 2 ≤ n → n ≤ length space → take (n - 2) (drop 2 space) ≡ drop 2 (take n space)
between space zero l m = absurd (omega arith)
between space (suc zero) l m = absurd (omega arith)
between [] (suc (suc n)) l m = absurd (omega arith)
between (x ∷ []) (suc (suc n)) l m = absurd (omega arith)
between (x ∷ y ∷ xs) (suc (suc n)) l m = let e : suc (suc n) - 2 ≡ n = omega arith in ap (λ (k : ℕ). take k xs) e

pub inputs_read : InputsRead
inputs_read = record {
  after_day = λ space n l m. ap (λ (p : Range ℕ). take (p.end - p.start) (drop p.start space)) (sym (whole_part n l)) ∙ between space n l m;
  short = λ space n day lengths l m. unfit_refused (old_file (file_in space n)) day lengths (ap (fitting_length Old) (ap (λ (p : Range ℕ). length (take (p.end - p.start) (drop p.start space))) (sym (short_part n l)) ∙ one_byte space m));
  long = λ space n day lengths l m.
      let file = ap (λ (p : Range ℕ). take (p.end - p.start) (drop p.start space)) (sym (whole_part n (omega arith))) in
      unfit_refused (old_file (file_in space n)) day lengths (over_unfit (length (file_in space n)) (omega (arith, ap length file, length-take (n - 2) (drop 2 space), length-drop 2 space)));
}
