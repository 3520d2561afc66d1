-- The answers of a function that writes a file are apart from each other; a file that stands goes on; and what is written stands at the output's start.
use mathlib.Core.Path.{◌≡◌, refl, sym, ap, ◌∙◌, subst}
use mathlib.Core.List.{List, ◌++◌}
use Prim.Native.Nat.{ℕ, ◌+◌, ◌-◌, ◌≤◌}
use native.Mathlib.Omega.{arith}
use lib.ListN.{length, get_or, drop, length-append, length-drop, get_or-append}
use lib.Seq.{get_or-append-add, get_or-drop}
use Rattle.verdict.specs.Refusal.{Reason}
use Rattle.verdict.specs.Verdict.{Verdict, accepted, open', refusal}
use Rattle.writing.specs.Writing.{Writing, written, refused_with, unless_refused, output_left, WrittenAt}

pub same_refused : {a b c x y z : ℕ} → refused_with a b c ≡ refused_with x y z → (a ≡ x) × (b ≡ y) × (c ≡ z)
same_refused e = (cc, cc, cc)

pub written_not_refused : {n a b c : ℕ} → written n ≡ refused_with a b c → ⊥
written_not_refused e = let z : ◌≡◌ {A = ℕ} 0 1 = cc in omega arith

pub same_written : {n m : ℕ} → written n ≡ written m → n ≡ m
same_written e = cc

-- A file that stands goes on.
pub stands_on : (file : ℕ) (w : Verdict) (next : Writing) → ((q : Reason) (k : ℕ) → ¬ (w ≡ refusal q k)) → unless_refused file w next ≡ next
stands_on file (accepted n) next h = refl
stands_on file open' next h = refl
stands_on file (refusal q k) next h = absurd (h q k refl)

-- An answer that is written leaves the file at the start of an output that has room for it, and the rest as it was.
pub written_at : (file output : List ℕ) (a : Writing) (n : ℕ) → a ≡ written n → n ≡ length file → length file ≤ length output → WrittenAt file output (output_left a file output)
written_at file output a n e m room =
    let q = length-drop n output in
    let p = length-append file (drop n output) in
    subst (λ (x : Writing). WrittenAt file output (output_left x file output)) (sym e) (record {
      same_length = omega (arith, p, q, m, room);
      at_start = λ i x. get_or-append file (drop n output) 0 i x;
      rest_kept = λ i x.
          let z : i ≡ length file + (i - n) = omega (arith, m) in
          let y : n + (i - n) ≡ i = omega (arith, m) in
          ap (λ (j : ℕ). get_or (file ++ drop n output) j 0) z ∙ get_or-append-add file (drop n output) (i - n) 0 ∙ get_or-drop n output (i - n) 0 ∙ ap (λ (j : ℕ). get_or output j 0) y;
    })

-- And one that is refused leaves it as it was.
pub refused_kept : (file output : List ℕ) (a : Writing) (number which k : ℕ) → a ≡ refused_with number which k → output_left a file output ≡ output
refused_kept file output a number which k e = ap (λ (x : Writing). output_left x file output) e
