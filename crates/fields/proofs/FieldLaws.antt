-- Tests of the numbers that a record names.
use mathlib.Core.Path.{◌≡◌, refl, ap}
use mathlib.Core.Bool.{Bool, ◌&&◌}
use mathlib.Core.List.{List, [], ◌∷◌, map}
use Prim.Native.Nat.{ℕ, ◌/◌}
use lib.Dec.{ltb}
use borrow.Author.Tests.{ne_eqb}
use Rattle.std.specs.List.{list_all}
use Rattle.record.specs.Record.{otherKind, kind_numbered}
use Rattle.derivation.specs.Derivation.{literal_of}
use Rattle.verdict.specs.Refusal.{all_below}

-- Rows below a limit: argument rows, and the rows of literals.
pub rows_all : (limit : ℕ) (ns : List ℕ) → list_all (λ n. ltb n limit) ns ≡ all_below limit ns
rows_all limit [] = refl
rows_all limit (n ∷ ns) = ap (λ (b : Bool). ltb n limit && b) (rows_all limit ns)

pub literal_rows_all : (limit : ℕ) (ns : List ℕ) → list_all (λ n. ltb (n / 2) limit) ns ≡ all_below limit (map (λ l. l.1) (map literal_of ns))
literal_rows_all limit [] = refl
literal_rows_all limit (n ∷ ns) = ap (λ (b : Bool). ltb (n / 2) limit && b) (literal_rows_all limit ns)

-- A number that no kind has.
pub kind_other : (k : ℕ) → (k ≡ 1 → ⊥) → (k ≡ 2 → ⊥) → (k ≡ 3 → ⊥) → (k ≡ 4 → ⊥) → (k ≡ 5 → ⊥) → (k ≡ 6 → ⊥) → (k ≡ 7 → ⊥) → (k ≡ 8 → ⊥) → kind_numbered k ≡ otherKind
kind_other k a b d e f g h i = rw (ne_eqb k 1 a, ne_eqb k 2 b, ne_eqb k 3 d, ne_eqb k 4 e, ne_eqb k 5 f, ne_eqb k 6 g, ne_eqb k 7 h, ne_eqb k 8 i)
