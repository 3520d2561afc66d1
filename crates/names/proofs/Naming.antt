-- A variable's name in every line that goes on from where it was written.
use mathlib.Core.Path.{◌≡◌, sym, ◌∙◌, subst}
use mathlib.Core.Bool.{Bool, true, false}
use mathlib.Core.List.{List, ◌∷◌, ◌++◌}
use Prim.Native.Nat.{ℕ, suc, ◌≤◌}
use native.Mathlib.Omega.{arith}
use lib.Dec.{eqb}
use Rattle.record.specs.Record.{pick}
use Rattle.unification.specs.Nodes.{part}
use Rattle.unification.specs.Row.{Variable}
use Rattle.verdict.specs.Text.{decimal}
use Rattle.text.specs.Buffer.{Wrote}
use Rattle.numbering.specs.Numbering.{count_after, NumberReady, TakesNumber}
use Rattle.numbering.specs.declared.Naming.TheVariants.{ByIndex, ByAppearance}
use Rattle.appearance.proofs.Positions.{noted_position}
use Rattle.names.specs.Names.{NameReady, WritesName}
use Rattle.names.specs.declared.Place.{Place}

-- Numbering asks no more than that.
pub number_ready : {N K L : List ℕ} {count : ℕ} {x : Variable} → NameReady ByAppearance N K L count x → NumberReady N K L count x
number_ready R = record { table = R.table; numberable = R.numberable; seen = R.seen; numbers = R.numbered; room = R.room }

count_most : (count n : ℕ) → count_after count n ≤ suc count
count_most count n = try (eqb n count)
  where
    try : (b : Bool) → pick b (suc count) count ≤ suc count
    try true = omega arith
    try false = omega arith

pub name_numbered : (N T T' : List ℕ) (at : ℕ) (K K' L L' : List ℕ) (count : ℕ) (x : Variable) (n : ℕ) → TakesNumber N K K' L L' count x n → (w : Place) → Wrote T T' at w.end (118 ∷ decimal n) → w.count ≡ count_after count n → WritesName ByAppearance N T T' at K K' L L' count x w
name_numbered N T T' at K K' L L' count x n G w v q = record {
  numbered = λ seen H. rw q (G seen H).1;
  wrote = λ row e seen H all W. subst (λ (k : ℕ). Wrote T T' at w.end (118 ∷ decimal k)) ((G seen H).0 ∙ sym (noted_position seen all x W)) v;
  room = v.kept.room;
  most = omega (arith, q, count_most count n);
}

pub name_written : (N T T' : List ℕ) (at : ℕ) (K L : List ℕ) (count : ℕ) (x : Variable) (m : ℕ) → m ≡ part N x.0 0 → (w : Place) → Wrote T T' at w.end (118 ∷ (decimal m ++ (46 ∷ decimal x.1))) → w.count ≡ count → WritesName ByIndex N T T' at K K L L count x w
name_written N T T' at K L count x m p w v q = record {
  numbered = λ seen H. H;
  wrote = λ row e seen H all W. subst (λ (k : ℕ). Wrote T T' at w.end (118 ∷ (decimal k ++ (46 ∷ decimal x.1)))) (p ∙ sym e) v;
  room = v.kept.room;
  most = omega (arith, q);
}
