-- Numbers at the start of a line, after a hidden literal, and from call to call: none at first, as they were after going back, and room for as long as the lengths stay.
use mathlib.Core.Path.{◌≡◌, refl, ◌∙◌, subst}
use mathlib.Core.List.{List, [], ◌∷◌, ◌++◌}
use Prim.Native.Nat.{ℕ, suc}
use lib.ListN.{length}
use Rattle.unification.specs.Row.{Variable}
use Rattle.appearance.specs.Growing.{Longer}
use Rattle.numbering.specs.Numbering.{NumbersFrom, NumberRoom, Numbers, Numbered}
use Rattle.numbering.specs.declared.Naming.{Naming}
use Rattle.numbering.specs.declared.Naming.TheVariants.{ByIndex, ByAppearance}

-- Fewer variables, of those that have numbers.
numbers_fewer : (N K L : List ℕ) (i : ℕ) (seen more : List Variable) → NumbersFrom N K L i (seen ++ more) → NumbersFrom N K L i seen
numbers_fewer N K L i [] more E = tt
numbers_fewer N K L i (x ∷ xs) more E = (E.0, numbers_fewer N K L (suc i) xs more E.1)

numbers_before : {N K L : List ℕ} {count count' : ℕ} {seen all : List Variable} → Longer seen all → count ≡ length seen → Numbers N K L count' all → Numbers N K L count seen
numbers_before {N} {K} {L} {seen = seen} W e G = record { room = G.room; counted = e; each = numbers_fewer N K L 0 seen W.more (subst (NumbersFrom N K L 0) W.grown G.each) }

-- Going back to the variables seen before: their numbers are as they were.
pub numbered_back : (naming : Naming) (N K L K' L' : List ℕ) (count count' : ℕ) (seen all : List Variable) → Longer seen all → Numbered naming N K L count seen → Numbered naming N K' L' count' all → Numbered naming N K' L' count seen
numbered_back ByIndex N K L K' L' count count' seen all W G H = tt
numbered_back ByAppearance N K L K' L' count count' seen all W G H = numbers_before W G.counted H

-- At first none has a number.
pub numbered_none : (naming : Naming) (N K L : List ℕ) → NumberRoom naming K L → Numbered naming N K L 0 []
numbered_none ByIndex N K L h = tt
numbered_none ByAppearance N K L h = record { room = h; counted = refl; each = tt }

-- Room stays as long as the lengths do.
pub room_kept : (naming : Naming) (K L K' L' : List ℕ) → length K' ≡ length K → length L' ≡ length L → NumberRoom naming K L → NumberRoom naming K' L'
room_kept ByIndex K L K' L' p q h = tt
room_kept ByAppearance K L K' L' p q h = record { cells = p ∙ h.cells; list = q ∙ h.list }
