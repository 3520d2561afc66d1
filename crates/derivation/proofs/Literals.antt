-- Laws of literal lists: numbers, what is left without one, and indices in range.
use mathlib.Core.Path.{◌≡◌, refl, ap, ap₂, ◌∙◌, subst}
use mathlib.Core.Bool.{Bool, true, false}
use mathlib.Core.Option.{Option, none, some}
use mathlib.Core.List.{List, [], ◌∷◌, map}
use Prim.Native.Nat.{ℕ, zero, suc, ◌+◌, ◌-◌, ◌≤◌, ◌<◌}
use native.Mathlib.Omega.{arith}
use lib.Dec.{leb, leb→le, le→leb, nleb→lt}
use lib.ListN.{length, length-append}
use Rattle.unification.specs.Environment.{Environment}
use Rattle.unification.specs.Row.{Variable}
use Rattle.unification.proofs.Lists.{Each, each_append, each_map, each_more}
use Rattle.unification.proofs.Tests.{to_t, from_t, some_not_none, some_injective}
use Rattle.derivation.specs.Derivation.{literals, input, Literal, RowLiteral, Derivation, resolve, factor, numbered, without, numbered_all, without_all, StrictlyRising, raise_literal, placed, maximum_index, raise_answer, joined, uses}

-- Several numbers: the first one's literal, then the others'.
pub numbered_cons : {A : Type 0} (xs : List A) (n : ℕ) (ns : List ℕ) (ys : List A) → numbered_all xs (n ∷ ns) ≡ some ys → (y : A) × (zs : List A) × (numbered xs n ≡ some y) × (numbered_all xs ns ≡ some zs) × (y ∷ zs ≡ ys)
numbered_cons {A} xs n ns ys q = try (numbered xs n) refl (numbered_all xs ns) refl q
  where
    try : (o : Option A) → numbered xs n ≡ o → (p : Option (List A)) → numbered_all xs ns ≡ p → elim o [ none ↦ none | some l ↦ elim p [ none ↦ none | some ms ↦ some (l ∷ ms) ] ] ≡ some ys
        → (y : A) × (zs : List A) × (numbered xs n ≡ some y) × (numbered_all xs ns ≡ some zs) × (y ∷ zs ≡ ys)
    try none e p f r = absurd (some_not_none refl r)
    try (some y) e none f r = absurd (some_not_none refl r)
    try (some y) e (some zs) f r = (y, zs, e, f, some_injective r)

pub numbered_all_cons : {A : Type 0} (xs : List A) (n : ℕ) (ns : List ℕ) (y : A) (zs : List A) → numbered xs n ≡ some y → numbered_all xs ns ≡ some zs → numbered_all xs (n ∷ ns) ≡ some (y ∷ zs)
numbered_all_cons {A} xs n ns y zs e f =
    ap (λ (o : Option A). elim o [ none ↦ none | some l ↦ elim (numbered_all xs ns) [ none ↦ none | some ms ↦ some (l ∷ ms) ] ]) e
    ∙ ap (λ (p : Option (List A)). elim p [ none ↦ none | some ms ↦ some (y ∷ ms) ]) f

module _ {A B : Type 0} (f : A → B) where
  pub map_without : (xs : List A) (k : ℕ) → map f (without xs k) ≡ without (map f xs) k
  map_without [] k = refl
  map_without (x ∷ xs) zero = refl
  map_without (x ∷ xs) (suc zero) = refl
  map_without (x ∷ xs) (suc (suc k)) = ap (λ (r : List B). f x ∷ r) (map_without xs (suc k))

  pub map_numbered : (xs : List A) (k : ℕ) (a : A) → numbered xs k ≡ some a → numbered (map f xs) k ≡ some (f a)
  map_numbered [] k a q = absurd (some_not_none refl q)
  map_numbered (x ∷ xs) zero a q = absurd (some_not_none refl q)
  map_numbered (x ∷ xs) (suc zero) a q = ap (λ (y : A). some (f y)) (some_injective q)
  map_numbered (x ∷ xs) (suc (suc k)) a q = map_numbered xs (suc k) a q

  pub map_without_all : (xs : List A) (ns : List ℕ) → map f (without_all xs ns) ≡ without_all (map f xs) ns
  map_without_all xs [] = refl
  map_without_all xs (n ∷ ns) = map_without (without_all xs ns) n ∙ ap (λ (ys : List B). without ys n) (map_without_all xs ns)

  pub map_numbered_all : (xs : List A) (ns : List ℕ) (as' : List A) → numbered_all xs ns ≡ some as' → numbered_all (map f xs) ns ≡ some (map f as')
  map_numbered_all xs [] as' q = ap (λ (ys : List A). some (map f ys)) (some_injective q)
  map_numbered_all xs (n ∷ ns) as' q = let z = numbered_cons xs n ns as' q in numbered_all_cons (map f xs) n ns (f z.0) (map f z.1) (map_numbered xs n z.0 z.2) (map_numbered_all xs ns z.1 z.3) ∙ ap (λ (ys : List A). some (map f ys)) z.4

-- What holds of every literal holds of a numbered one, and of what is left.
module _ {A : Type 0} (P : A → Type 0) where
  pub each_numbered : (xs : List A) (k : ℕ) (a : A) → numbered xs k ≡ some a → Each P xs → P a
  each_numbered [] k a q h = absurd (some_not_none refl q)
  each_numbered (x ∷ xs) zero a q h = absurd (some_not_none refl q)
  each_numbered (x ∷ xs) (suc zero) a q h = subst P (some_injective q) h.0
  each_numbered (x ∷ xs) (suc (suc k)) a q h = each_numbered xs (suc k) a q h.1

  pub each_without : (xs : List A) (k : ℕ) → Each P xs → Each P (without xs k)
  each_without [] k h = h
  each_without (x ∷ xs) zero h = h
  each_without (x ∷ xs) (suc zero) h = h.1
  each_without (x ∷ xs) (suc (suc k)) h = (h.0, each_without xs (suc k) h.1)

  pub each_numbered_all : (xs : List A) (ns : List ℕ) (ys : List A) → numbered_all xs ns ≡ some ys → Each P xs → Each P ys
  each_numbered_all xs [] ys q h = subst (Each P) (some_injective q) tt
  each_numbered_all xs (n ∷ ns) ys q h = let z = numbered_cons xs n ns ys q in subst (Each P) z.4 (each_numbered xs n z.0 z.2 h, each_numbered_all xs ns z.1 z.3 h)

  pub each_without_all : (xs : List A) (ns : List ℕ) → Each P xs → Each P (without_all xs ns)
  each_without_all xs [] h = h
  each_without_all xs (n ∷ ns) h = each_without (without_all xs ns) n (each_without_all xs ns h)

-- A number below that of the literal taken out stays, and so does one below several that rise.
none_numbered : {A : Type 0} (xs : List A) → numbered xs 0 ≡ none
none_numbered [] = refl
none_numbered (x ∷ xs) = refl

pub number_stays : {A : Type 0} (xs : List A) (k n : ℕ) → k < n → numbered (without xs n) k ≡ numbered xs k
number_stays [] k n l = refl
number_stays (x ∷ xs) k zero l = absurd (omega arith)
number_stays (x ∷ xs) zero (suc zero) l = none_numbered xs
number_stays (x ∷ xs) (suc k) (suc zero) l = absurd (omega arith)
number_stays (x ∷ xs) zero (suc (suc n)) l = refl
number_stays (x ∷ xs) (suc zero) (suc (suc n)) l = refl
number_stays (x ∷ xs) (suc (suc k)) (suc (suc n)) l = number_stays xs (suc k) (suc n) (omega arith)

pub rising_tail : (n : ℕ) (ns : List ℕ) → StrictlyRising (n ∷ ns) → StrictlyRising ns
rising_tail n [] h = tt
rising_tail n (m ∷ ns) h = h.1

pub first_stays : {A : Type 0} (xs : List A) (n : ℕ) (ns : List ℕ) → StrictlyRising (n ∷ ns) → numbered (without_all xs ns) n ≡ numbered xs n
first_stays xs n [] h = refl
first_stays xs n (m ∷ ns) h = number_stays (without_all xs ns) n m h.0 ∙ below xs n m ns h.0 h.1
  where
    below : {A : Type 0} (xs : List A) (n m : ℕ) (ns : List ℕ) → n < m → StrictlyRising (m ∷ ns) → numbered (without_all xs ns) n ≡ numbered xs n
    below xs n m [] l h = refl
    below xs n m (k ∷ ns) l h = let j = h.0 in number_stays (without_all xs ns) n k (omega arith) ∙ below xs n k ns (omega arith) h.1

-- Indices from 1 to m.
abbrev pub In : ℕ → ℕ → Type 0
In m i = (1 ≤ i) × (i ≤ m)

abbrev pub LiteralIn : ℕ → Literal → Type 0
LiteralIn m l = In m l.1.1

in_placed : (ls : List RowLiteral) → Each (LiteralIn 1) (placed 1 ls)
in_placed [] = tt
in_placed (l ∷ ls) = (omega arith, in_placed ls)

-- The literals of a clause have indices up to its maximum index.
pub literals_in_lem : (c : Derivation) → Each (LiteralIn (maximum_index c)) (literals c)
literals_in_lem (input number ls) = in_placed ls
literals_in_lem (resolve number l a r ns bs) =
    each_append (LiteralIn (maximum_index l + maximum_index r)) (without (literals l) a) (map (raise_literal (maximum_index l)) (without_all (literals r) ns))
    (each_more (LiteralIn (maximum_index l)) (LiteralIn (maximum_index l + maximum_index r)) (λ x h. omega arith) (without (literals l) a)
    (each_without (LiteralIn (maximum_index l)) (literals l) a (literals_in_lem l)))
    (each_map (LiteralIn (maximum_index r)) (LiteralIn (maximum_index l + maximum_index r)) (raise_literal (maximum_index l)) (λ x h. omega arith) (without_all (literals r) ns)
    (each_without_all (LiteralIn (maximum_index r)) (literals r) ns (literals_in_lem r)))
literals_in_lem (factor number c a b bs) = each_without (LiteralIn (maximum_index c)) (literals c) b (literals_in_lem c)

-- Tests of an order, as equations.
pub leb_true : (m n : ℕ) → m ≤ n → leb m n ≡ true
leb_true m n h = from_t (leb m n) (le→leb m n h)

pub leb_false : (m n : ℕ) → n < m → leb m n ≡ false
leb_false m n h = try (leb m n) refl
  where
    try : (b : Bool) → leb m n ≡ b → b ≡ false
    try true q = let l : m ≤ n = leb→le m n (to_t (leb m n) q) in absurd (omega arith)
    try false q = refl

pub leb_false_lt : (m n : ℕ) → leb m n ≡ false → n < m
leb_false_lt m n q = nleb→lt m n (rw q tt)

-- Both parents' environments as one.
pub joined_left : (m : ℕ) (ρ ρ' : Environment) (x : Variable) → x.1 ≤ m → joined m ρ ρ' x ≡ ρ x
joined_left m ρ ρ' x h = rw (leb_true x.1 m h)

pub joined_right : (m : ℕ) (ρ ρ' : Environment) (v i : ℕ) → 1 ≤ i → joined m ρ ρ' (v, m + i) ≡ raise_answer m (ρ' (v, i))
joined_right m ρ ρ' v i h =
    let q : m + i - m ≡ i = omega arith in
    rw (leb_false (m + i) m (omega arith), q)

-- A maximum index is the number of uses.
pub uses_length : (c : Derivation) → length (uses c) ≡ maximum_index c
uses_length (input number ls) = refl
uses_length (resolve number l a r ns bs) = length-append (uses l) (uses r) ∙ ap₂ ◌+◌ (uses_length l) (uses_length r)
uses_length (factor number c a b bs) = uses_length c
