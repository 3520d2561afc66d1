-- The fields of applications and input clauses as the first ones of a list.
use mathlib.Core.Path.{◌≡◌, sym, ap₂}
use mathlib.Core.Bool.{Bool}
use Prim.Native.Nat.{ℕ, suc, ◌≤◌}
use native.Mathlib.Omega.{arith}
use lib.Dec.{ltb, leb-suc-suc}
use borrow.Author.Tests.{ne_eqb}
use Rattle.record.specs.Record.{pick, applicationKind, inputKind}
use Rattle.naming.specs.Naming.{named_in}
use Rattle.naming.specs.declared.Named.{Named}
use Rattle.naming.specs.declared.Named.TheVariants.{Nothing, Symbol, Row, Literal}

-- Fields that are named as the first ones below a bound are, from a field on.
abbrev pub NamedBelow : (ℕ → Named) → Named → ℕ → ℕ → Type 0
NamedBelow named what bound from = (i : ℕ) → from ≤ i → named i ≡ pick (ltb i bound) what Nothing

pub literals_named : (n : ℕ) → NamedBelow (named_in inputKind n) Literal n 0
literals_named n i h = λ t. pick (ltb i n) Literal Nothing

pub arguments_named : (n : ℕ) → NamedBelow (named_in applicationKind n) Row (suc n) 1
arguments_named n i h = ap₂ (λ (a b : Bool). pick a Symbol (pick b Row Nothing)) (ne_eqb i 0 (λ e. omega arith)) (sym (leb-suc-suc i n))
