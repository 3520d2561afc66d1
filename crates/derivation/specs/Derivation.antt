-- Document 01, "Indices and bindings": a clause as its derivation, with its literals, its maximum index and what is looked up in it.
use Rattle.std.specs.Prelude.{Bool, List, [], ◌∷◌, ◌++◌, map, ℕ, zero, suc, ◌+◌, ◌-◌, ◌/◌, ◌%◌, ◌<◌, eqb, leb, take}
use Rattle.std.proofs.Math.Option.{Option, none, some}
use Rattle.record.specs.Record.{pick, Record}
use Rattle.unification.specs.Environment.{Binding, Environment, extend}
use Rattle.unification.specs.Row.{Expression}
use Rattle.unification.specs.Unification.{Pair}

-- A literal: its sign, true for a positive one, and its atom's expression. In an input clause only the atom's row is written.
abbrev pub Literal : Type 0
Literal = Bool × Expression

abbrev pub RowLiteral : Type 0
RowLiteral = Bool × ℕ

-- The literals of an input clause's record: each is 2 × row, plus 1 if positive.
abbrev pub literal_of : ℕ → RowLiteral
literal_of n = (eqb (n % 2) 1, n / 2)

abbrev pub input_literals : Record → List RowLiteral
input_literals r = map literal_of (take r.count r.fields)

-- A clause: its number, the derivations of its parents, and the bindings that its own step added, the newest first.
pub data Derivation : Type 0 where
  input : ℕ → List RowLiteral → Derivation
  -- left clause and literal, right clause and literals
  resolve : ℕ → Derivation → ℕ → Derivation → List ℕ → List Binding → Derivation
  -- clause, literal kept, literal deleted
  factor : ℕ → Derivation → ℕ → ℕ → List Binding → Derivation

-- The number that the file gives a clause.
abbrev pub clause_number : Derivation → ℕ
clause_number (input number ls) = number
clause_number (resolve number l a r ns bs) = number
clause_number (factor number c a b bs) = number

-- Literal numbers start at 1: the literal of a number, if there is one, and all literals but that one.
abbrev pub numbered {ℓ} : {A : Type ℓ} → List A → ℕ → Option A
numbered [] n = none
numbered (l ∷ ls) zero = none
numbered (l ∷ ls) (suc zero) = some l
numbered (l ∷ ls) (suc (suc n)) = numbered ls (suc n)

abbrev pub without {ℓ} : {A : Type ℓ} → List A → ℕ → List A
without [] n = []
without (l ∷ ls) zero = l ∷ ls
without (l ∷ ls) (suc zero) = ls
without (l ∷ ls) (suc (suc n)) = l ∷ without ls (suc n)

-- The same of several numbers (document 02, Q-3): their literals, if each exists; and all literals but theirs. The numbers rise, and the last
-- is taken out first, so that those before it still count.
abbrev pub numbered_all {ℓ} : {A : Type ℓ} → List A → List ℕ → Option (List A)
numbered_all ls [] = some []
numbered_all ls (n ∷ ns) = elim (numbered ls n) [ none ↦ none | some l ↦ elim (numbered_all ls ns) [ none ↦ none | some ms ↦ some (l ∷ ms) ] ]

abbrev pub without_all {ℓ} : {A : Type ℓ} → List A → List ℕ → List A
without_all ls [] = ls
without_all ls (n ∷ ns) = without (without_all ls ns) n

abbrev pub StrictlyRising : List ℕ → Type 0
StrictlyRising [] = Unit {0}
StrictlyRising (n ∷ []) = Unit {0}
StrictlyRising (n ∷ m ∷ ns) = (n < m) × StrictlyRising (m ∷ ns)

-- An index raised by m.
abbrev pub raise : ℕ → Expression → Expression
raise m e = (e.0, m + e.1)

abbrev pub raise_literal : ℕ → Literal → Literal
raise_literal m l = (l.0, raise m l.1)

-- What a resolve unifies: the left atom with each right one in turn, raised by the left maximum index m.
abbrev pub pairs_with : ℕ → Expression → List Expression → List Pair
pairs_with m e ds = map (λ d. (e, raise m d)) ds

-- An input clause's literals at index k.
abbrev pub placed : ℕ → List RowLiteral → List Literal
placed k ls = map (λ l. (l.0, (l.1, k))) ls

abbrev pub maximum_index : Derivation → ℕ
maximum_index (input number ls) = 1
maximum_index (resolve number l a r ns bs) = maximum_index l + maximum_index r
maximum_index (factor number c a b bs) = maximum_index c

abbrev pub literals : Derivation → List Literal
literals (input number ls) = placed 1 ls
literals (resolve number l a r ns bs) = without (literals l) a ++ map (raise_literal (maximum_index l)) (without_all (literals r) ns)
literals (factor number c a b bs) = without (literals c) b

-- The bindings that a clause's own step added.
abbrev pub own_bindings : Derivation → List Binding
own_bindings (input number ls) = []
own_bindings (resolve number l a r ns bs) = bs
own_bindings (factor number c a b bs) = bs

-- Both parents' environments as one: up to the left maximum index m the left one's; above it the index is lowered by m, looked up
-- in the right one, and the answer raised again.
abbrev pub raise_answer : ℕ → Option Expression → Option Expression
raise_answer m none = none
raise_answer m (some e) = some (raise m e)

abbrev pub joined : ℕ → Environment → Environment → Environment
joined m left right x = pick (leb x.1 m) (left x) (raise_answer m (right (x.0, x.1 - m)))

-- Looking up a variable in a clause: its own bindings come first, then its parents'.
abbrev pub lookup : Derivation → Environment
lookup (input number ls) x = none
lookup (resolve number l a r ns bs) x = extend (joined (maximum_index l) (lookup l) (lookup r)) bs x
lookup (factor number c a b bs) x = extend (lookup c) bs x

-- Document 01, "Uses, values and instances": the input clauses of a derivation, each as often as it is used. A use is the input clause's
-- number with its literals.
abbrev pub Use : Type 0
Use = ℕ × List RowLiteral

abbrev pub uses : Derivation → List Use
uses (input number ls) = (number, ls) ∷ []
uses (resolve number l a r ns bs) = uses l ++ uses r
uses (factor number c a b bs) = uses c
