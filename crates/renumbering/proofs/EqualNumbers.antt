-- Two numbers are equal exactly if they are after a renumbering that is one to one on them; the same of expressions.
use mathlib.Core.Path.{◌≡◌, refl, sym, ap, ◌∙◌}
use mathlib.Core.Bool.{Bool, true, false, ◌&&◌}
use Prim.Native.Nat.{ℕ}
use lib.Dec.{eqb, eqb→eq, eqb_refl}
use Rattle.unification.specs.Row.{Expression, same}
use Rattle.unification.proofs.Outlines.{numbers_differ}
use Rattle.unification.proofs.Tests.{to_t, from_t, true_not_false}
use Rattle.renumbering.specs.Renumbering.{Renumbering}
use Rattle.renumbering.proofs.Renumbered.{renumbered_expression}

pub numbers_renumbered : (f : ℕ → ℕ) (a b : ℕ) → (f a ≡ f b → a ≡ b) → eqb (f a) (f b) ≡ eqb a b
numbers_renumbered f a b one = try (eqb a b) refl
  where
    try : (c : Bool) → eqb a b ≡ c → eqb (f a) (f b) ≡ c
    try true q = ap (λ (n : ℕ). eqb (f a) (f n)) (sym (eqb→eq a b (to_t (eqb a b) q))) ∙ from_t (eqb (f a) (f a)) (eqb_refl (f a))
    try false q = numbers_differ (f a) (f b) (λ p. true_not_false (ap (eqb a) (sym (one p)) ∙ from_t (eqb a a) (eqb_refl a)) q)

pub same_renumbered : (N : Renumbering) (x y : Expression) → (N.row x.0 ≡ N.row y.0 → x.0 ≡ y.0) → same (renumbered_expression N x) (renumbered_expression N y) ≡ same x y
same_renumbered N x y one = ap (λ (b : Bool). b && eqb x.1 y.1) (numbers_renumbered N.row x.0 y.0 one)
