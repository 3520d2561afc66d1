-- A record whose kind is not numbered 8 is no window.
use mathlib.Core.Path.{◌≡◌, refl, ◌∙◌}
use mathlib.Core.Bool.{Bool, true, false}
use mathlib.Core.List.{List}
use Prim.Native.Nat.{ℕ}
use lib.Dec.{eqb}
use borrow.Author.Tests.{ne_eqb}
use Rattle.record.specs.Record.{pick, decoded, kind_of, symbolKind, variableKind, applicationKind, inputKind, resolveKind, factorKind, severalKind, windowKind, otherKind}
use Rattle.verdict.specs.Refusal.{kind_of_record}
use Rattle.marking.specs.Marking.{is_window}

module _ (symbols rows clauses part : List ℕ) {n : ℕ} (is_kind : n ≡ kind_of part) where
  pub no_window_lem : ¬ (n ≡ 8) → is_window symbols rows clauses (kind_of_record (decoded part)) ≡ false
  no_window_lem h = try (eqb (kind_of part) 1) (eqb (kind_of part) 2) (eqb (kind_of part) 3) (eqb (kind_of part) 4) (eqb (kind_of part) 5) (eqb (kind_of part) 6) (eqb (kind_of part) 7) (eqb (kind_of part) 8) (ne_eqb (kind_of part) 8 (λ q. h (is_kind ∙ q)))
    where
      try : (a b c d e f g w : Bool) → w ≡ false
          → is_window symbols rows clauses (pick a symbolKind (pick b variableKind (pick c applicationKind (pick d inputKind (pick e resolveKind (pick f factorKind (pick g severalKind (pick w windowKind otherKind)))))))) ≡ false
      try true b c d e f g w z = refl
      try false true c d e f g w z = refl
      try false false true d e f g w z = refl
      try false false false true e f g w z = refl
      try false false false false true f g w z = refl
      try false false false false false true g w z = refl
      try false false false false false false true w z = refl
      try false false false false false false false false z = refl
      try false false false false false false false true z = z
