-- The fields of a record from one on, and whether they are zero.
use mathlib.Core.Path.{◌≡◌, refl, ◌∙◌, sym}
use mathlib.Core.Bool.{true, false}
use mathlib.Core.List.{List, ◌∷◌}
use Prim.Native.Nat.{ℕ, zero, suc, ◌+◌, ◌≤◌, ◌<◌}
use native.Mathlib.Omega.{arith}
use lib.ListN.{drop, drop_of_length-le}
use borrow.Author.Tests.{eq-eqb, ne_eqb}
use Rattle.record.specs.Record.{field_of, fields_of}
use Rattle.verdict.specs.Refusal.{zeros}

-- From field i on: field i, and the fields after it.
pub field_next : (p : List ℕ) (i : ℕ) → i < 7 → drop i (fields_of p) ≡ field_of p i ∷ drop (i + 1) (fields_of p)
field_next p zero h = refl
field_next p (suc zero) h = refl
field_next p (suc (suc zero)) h = refl
field_next p (suc (suc (suc zero))) h = refl
field_next p (suc (suc (suc (suc zero)))) h = refl
field_next p (suc (suc (suc (suc (suc zero))))) h = refl
field_next p (suc (suc (suc (suc (suc (suc zero)))))) h = refl
field_next p (suc (suc (suc (suc (suc (suc (suc i))))))) h = absurd (omega arith)

-- Zeros.
pub zeros_stop : (p : List ℕ) (i : ℕ) {n : ℕ} → i < 7 → n ≡ field_of p i → (n ≡ 0 → ⊥) → zeros (drop i (fields_of p)) ≡ false
zeros_stop p i h e z = rw (field_next p i h, ne_eqb (field_of p i) 0 (λ q. z (e ∙ q)))

pub zeros_on : (p : List ℕ) (i : ℕ) {n : ℕ} → i < 7 → n ≡ field_of p i → n ≡ 0 → zeros (drop i (fields_of p)) ≡ zeros (drop (i + 1) (fields_of p))
zeros_on p i h e z = rw (field_next p i h, eq-eqb (field_of p i) 0 (sym e ∙ z))

pub zeros_end : (p : List ℕ) (i : ℕ) → 7 ≤ i → zeros (drop i (fields_of p)) ≡ true
zeros_end p i h = rw (drop_of_length-le (fields_of p) h)
