-- The line of a clause in either readout, over the names of its variables.
use mathlib.Core.Path.{◌≡◌, refl}
use mathlib.Core.List.{[]}
use Prim.Native.Nat.{ℕ}
use Rattle.derivation.specs.Derivation.{Derivation}
use Rattle.derivation.specs.Written.{written}
use Rattle.verdict.specs.State.{State, row_of, term_of}
use Rattle.verdict.specs.Text.{literals_text}
use Rattle.verdict.specs.Readout.{line_with}
use Rattle.appearance.specs.Appearance.{all_shown}
use Rattle.numbering.specs.Numbering.{line_of, name_of}
use Rattle.numbering.specs.declared.Naming.{Naming}
use Rattle.numbering.specs.declared.Naming.TheVariants.{ByIndex, ByAppearance}

pub line_named : (naming : Naming) (S : State) (n : ℕ) (c : Derivation) → line_of naming S n c ≡ line_with (literals_text (name_of naming (row_of S) (all_shown [] (written (term_of S) c))) (written (term_of S) c)) n c
line_named ByIndex S n c = refl
line_named ByAppearance S n c = refl
