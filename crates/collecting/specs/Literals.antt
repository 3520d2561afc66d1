-- The contracts of the functions that collect the literals of a clause into a list. What the literals are is in the derivation's
-- definitions; this file only says how the list holds them.
use Rattle.std.specs.Prelude.{◌≡◌, List, ℕ, ◌+◌, ◌*◌, ◌≤◌, ◌<◌, length, get_or}
use Rattle.std.proofs.Math.Option.{some}
use Rattle.derivation.specs.Derivation.{literals, Literal, literal_of, Derivation, numbered, without_all, maximum_index}
use Rattle.named_literals.specs.Named.{left_over, passed, NamesRights, raise_named}
use Rattle.derivation.specs.Stored.{Stored}
use Rattle.collecting.specs.declared.literals.ListedLiteral.{ListedLiteral}

-- A literal from its number in an input clause's origin, and its index.
abbrev pub literal_with : ℕ → ℕ → Literal
literal_with code index = ((literal_of code).0, ((literal_of code).1, index))

-- Literal n of a list.
unfoldable pub listed : List ListedLiteral → ℕ → Literal
listed L n = let x = get_or L n (record { code = 0; index = 0 }) in literal_with x.code x.index

-- After number `base` the list has the literals ls, with their indices raised by o.
pub record Holds (L : List ListedLiteral) (base o : ℕ) (ls : List Literal) : Type 0 where
  pub literal : (n : ℕ) → 1 ≤ n → n ≤ length ls → some (listed L (base + n)) ≡ raise_named o (numbered ls n)

-- Literal n is the one given, and every other one is as it was.
pub record Placed (L L' : List ListedLiteral) (n code index : ℕ) : Type 0 where
  pub here : listed L' n ≡ literal_with code index
  pub others : (k : ℕ) → ¬ (k ≡ n) → listed L' k ≡ listed L k

-- Of the literals after number `base`, as far as number `end`, those are left that are not the a-th; the last one has number r.
pub record Deleted (L L' : List ListedLiteral) (base end a r : ℕ) : Type 0 where
  pub before : (k : ℕ) → k ≤ base → listed L' k ≡ listed L k
  pub last : (count : ℕ) → end ≡ base + count → r ≡ base + left_over count a
  pub left : (count : ℕ) → end ≡ base + count → (n : ℕ) → 1 ≤ n → n ≤ left_over count a → listed L' (base + n) ≡ listed L (base + passed n a)

-- What taking out the right literals that clause c's step names asks: literals after number `base` as far as number `end`, and that the
-- step names some.
pub record RightsDeletable (O : List ℕ) (base end c : ℕ) : Type 0 where
  pub inside : base ≤ end
  pub few : end < 16512
  pub numbers : List ℕ
  pub names : NamesRights O c numbers

-- Of the literals after number `base`, as far as number `end`, those are left that the resolve c does not name on its right, whichever
-- literals they are; the last one has number r.
pub record RightsDeleted (O : List ℕ) (L L' : List ListedLiteral) (base end c r : ℕ) : Type 0 where
  pub before : (k : ℕ) → k ≤ base → listed L' k ≡ listed L k
  pub last : (ns : List ℕ) → NamesRights O c ns → (ls : List Literal) → end ≡ base + length ls → r ≡ base + length (without_all ls ns)
  pub holds : (ns : List ℕ) → NamesRights O c ns → (ls : List Literal) → end ≡ base + length ls → (o : ℕ) → Holds L base o ls → Holds L' base o (without_all ls ns)

-- What collecting clause c after number `base`, at offset o, asks: a derivation that is clause c of the tables, whose indices, raised by o,
-- are within document 01's limit, and room for its literals and for four more at each step that it has at most: so many a step names of one parent.
pub record Collectable (O C : List ℕ) (base c o : ℕ) : Type 0 where
  pub bindings : List ℕ
  pub derivation : Derivation
  pub stored : Stored O C bindings c derivation
  pub fits : o + maximum_index derivation ≤ 4096
  pub few : base + length (literals derivation) + 4 * c < 16512

-- What it says: the list is as it was up to number `base`, the clause's literals are after it, raised by o, and the last one has number `end`.
pub record Collected (O C : List ℕ) (L L' : List ListedLiteral) (base c o end : ℕ) : Type 0 where
  pub before : (k : ℕ) → k ≤ base → listed L' k ≡ listed L k
  pub last : (B : List ℕ) (d : Derivation) → Stored O C B c d → end ≡ base + length (literals d)
  pub holds : (B : List ℕ) (d : Derivation) → Stored O C B c d → Holds L' base o (literals d)
