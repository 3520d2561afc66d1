-- What a size says of the cells.
use mathlib.Core.Path.{◌≡◌, refl, sym, ap}
use mathlib.Core.Bool.{Bool, true, false}
use native.Mathlib.Omega.{arith}
use Prim.Native.Nat.{ℕ, ◌≤◌, ◌<◌}
use lib.Dec.{leb}
use borrow.Author.Tests.{leb-true, leb-false}
use Rattle.record.specs.Record.{pick}
use Rattle.resolvent_size.specs.Size.{sized, size_within}
use Rattle.resolvent_size.specs.declared.Size.{Size}
use Rattle.std.specs.Prelude.{Some, None}

-- Past the limits, either of them is passed.
pub past_either : (n i : ℕ) (X : Type 0) → (128 < n → X) → (4096 < i → X) → size_within n i ≡ None → X
past_either n i X many high = try (leb n 128) refl (leb i 4096) refl
  where
    try : (a : Bool) → leb n 128 ≡ a → (b : Bool) → leb i 4096 ≡ b → pick a (pick b (sized n i) None) None ≡ None → X
    try true p true q e = absurd (let z : ◌≡◌ {A = ℕ} 0 1 = cc in omega arith)
    try true p false q e = high (leb-false i 4096 q)
    try false p b q e = many (leb-false n 128 p)

-- Within them, the size has both numbers.
pub within_both : (n i : ℕ) (z : Size) → size_within n i ≡ Some z → (z.literals ≡ n) × (z.maximum ≡ i) × (n ≤ 128) × (i ≤ 4096)
within_both n i z = try (leb n 128) refl (leb i 4096) refl
  where
    try : (s : Bool) → leb n 128 ≡ s → (t : Bool) → leb i 4096 ≡ t → pick s (pick t (sized n i) None) None ≡ Some z → (z.literals ≡ n) × (z.maximum ≡ i) × (n ≤ 128) × (i ≤ 4096)
    try true p true q e =
        let same : ◌≡◌ {A = Size} (record { literals = n; maximum = i }) z = cc in
        (ap (λ (s : Size). s.literals) (sym same), ap (λ (s : Size). s.maximum) (sym same), leb-true n 128 p, leb-true i 4096 q)
    try true p false q e = absurd (let z : ◌≡◌ {A = ℕ} 0 1 = cc in omega arith)
    try false p t q e = absurd (let z : ◌≡◌ {A = ℕ} 0 1 = cc in omega arith)
