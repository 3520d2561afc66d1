-- Facts on tests, and on constructors that differ.
use mathlib.Core.Path.{◌≡◌, refl}
use mathlib.Core.Bool.{Bool, true, false, ◌&&◌}
use mathlib.Core.Option.{Option, none, some}
use Prim.Native.Nat.{ℕ}
use native.Mathlib.Omega.{arith}
use lib.Dec.{eqb, T, eqb→eq, eqb_refl}
use Rattle.unification.specs.Row.{same}

pub to_t : (b : Bool) → b ≡ true → T b
to_t b h = rw h tt

pub from_t : (b : Bool) → T b → b ≡ true
from_t true h = refl
from_t false h = absurd h

pub both_true : (a b : Bool) → (a && b) ≡ true → (a ≡ true) × (b ≡ true)
both_true true true h = (refl, refl)
both_true true false h = (refl, h)
both_true false true h = (h, refl)
both_true false false h = (h, h)

pub same_eq : (x y : ℕ × ℕ) → same x y ≡ true → x ≡ y
same_eq x y h =
    let p : x.0 ≡ y.0 = eqb→eq x.0 y.0 (to_t (eqb x.0 y.0) (both_true (eqb x.0 y.0) (eqb x.1 y.1) h).0) in
    let q : x.1 ≡ y.1 = eqb→eq x.1 y.1 (to_t (eqb x.1 y.1) (both_true (eqb x.0 y.0) (eqb x.1 y.1) h).1) in
    λ i. (p i, q i)

pub same_refl : (x : ℕ × ℕ) → same x x ≡ true
same_refl x = rw (from_t (eqb x.0 x.0) (eqb_refl x.0), from_t (eqb x.1 x.1) (eqb_refl x.1))

pub true_not_false : {b : Bool} → b ≡ true → b ≡ false → ⊥
true_not_false p q = let z : ◌≡◌ {A = ℕ} 0 1 = cc in omega arith

pub some_not_none : {A : Type 0} {o : Option A} {a : A} → o ≡ none → o ≡ some a → ⊥
some_not_none p q = let z : ◌≡◌ {A = ℕ} 0 1 = cc in omega arith

pub some_injective : {A : Type 0} {a b : A} → ◌≡◌ {A = Option A} (some a) (some b) → a ≡ b
some_injective p = cc
