-- The name of a variable: a one-to-one renaming of the variables leaves it as it is, so neither row nor index is in it, and the first name is `0`.
use mathlib.Core.Path.{◌≡◌, refl, sym, ap, ap₂, ◌∙◌}
use mathlib.Core.Bool.{Bool, true, false}
use mathlib.Core.List.{List, [], ◌∷◌, map}
use Prim.Native.Nat.{ℕ, suc}
use Rattle.record.specs.Record.{pick}
use Rattle.unification.specs.Row.{Variable, same}
use Rattle.unification.proofs.Lists.{Each}
use Rattle.unification.proofs.Tests.{same_eq, same_refl, true_not_false}
use Rattle.appearance.specs.Appearance.{position, number_in}

-- A renaming f that is one-to-one where P holds.
module _ (P : Variable → Type 0) (f : Variable → Variable) (once : (x y : Variable) → P x → P y → f x ≡ f y → x ≡ y) where
  same_renamed : (x y : Variable) → P x → P y → same (f x) (f y) ≡ same x y
  same_renamed x y h k = try (same x y) refl (same (f x) (f y)) refl
    where
      try : (b : Bool) → same x y ≡ b → (c : Bool) → same (f x) (f y) ≡ c → c ≡ b
      try true p true q = refl
      try true p false q = absurd (true_not_false (ap (λ (z : Variable). same (f x) (f z)) (sym (same_eq x y p)) ∙ same_refl (f x)) q)
      try false p true q = absurd (true_not_false (ap (same x) (sym (once x y h k (same_eq (f x) (f y) q))) ∙ same_refl x) p)
      try false p false q = refl

  pub position_renamed : (seen : List Variable) (x : Variable) → Each P seen → P x → position (map f seen) (f x) ≡ position seen x
  position_renamed [] x h k = refl
  position_renamed (y ∷ seen) x h k = ap₂ (λ (b : Bool) (n : ℕ). pick b 0 (suc n)) (same_renamed y x h.0 k) (position_renamed seen x h.1 k)

  pub number_renamed : (seen : List Variable) (x : Variable) → Each P seen → P x → number_in (map f seen) (f x) ≡ number_in seen x
  number_renamed seen x h k = rw (position_renamed seen x h k)

-- Numbers begin with 0: 48 is its digit.
pub first_number : (x : Variable) (more : List Variable) → number_in (x ∷ more) x ≡ 48 ∷ []
first_number x more = rw (same_refl x)
