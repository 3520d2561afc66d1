-- At every turn literal n of clause c is the literal of the place, its index raised by what is added; the clause number falls.
use mathlib.Core.List.{List}
use Prim.Native.Nat.{ℕ}
use Rattle.derivation.specs.Derivation.{Derivation}
use Rattle.derivation.specs.Stored.{Stored}
use Rattle.named_literals.specs.Named.{ComesFrom}
use Rattle.literal_walk.proofs.input_place.Given as goal

abbrev pub invariant-loop-up : goal.invariant-loop-up
invariant-loop-up l = (B : List ℕ) (d : Derivation) → Stored l.origins l.clauses B l.c d → ComesFrom l.origins l.clauses B d l.n l.place.clause l.place.number l.place.added

abbrev pub decreases-loop-up : goal.decreases-loop-up
decreases-loop-up l = l.place.clause
