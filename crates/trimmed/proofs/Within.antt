-- Clauses of a derivation: each stands at its number, its parents are of the derivation too, and so is every parent's child but the last clause.
use mathlib.Core.Path.{◌≡◌, refl, sym, ap, ◌∙◌, subst}
use mathlib.Core.Logic.{◌⊎◌, inl, inr}
use mathlib.Core.Bool.{Bool, true, false, ◌||◌}
use mathlib.Core.Option.{some}
use mathlib.Core.List.{List, [], ◌∷◌, ◌++◌}
use Prim.Native.Nat.{ℕ, ◌≤◌, ◌<◌}
use native.Mathlib.Omega.{arith}
use lib.Dec.{eqb}
use lib.ListN.{length}
use Rattle.record.specs.Record.{pick}
use Rattle.unification.specs.Environment.{Binding}
use Rattle.unification.proofs.Repeats.{itself}
use Rattle.unification.proofs.Tests.{some_injective}
use Rattle.derivation.specs.Derivation.{input, RowLiteral, Derivation, resolve, factor, clause_number, Use, uses}
use Rattle.verdict.specs.State.{State, entry, derivations, clause_of}
use Rattle.demands.specs.Conditions.{OneOf}
use Rattle.demands.proofs.Inversions.{entry_below, entry_more}
use Rattle.demands.proofs.RangeTests.{equal}
use Rattle.demands.proofs.Sources.{Sourced, earlier, earlier_length, source_of, number_of}
use Rattle.trimming.specs.Kept.{clause_in}
use Rattle.trimmed.proofs.Reaching.{either_true, left_true, right_true}

-- The second clause is of the first one's derivation.
pub data Within : Derivation → Derivation → Type 0 where
  itself' : {d : Derivation} → Within d d
  in_left : {number a : ℕ} {l r x : Derivation} {ns : List ℕ} {bs : List Binding} → Within l x → Within (resolve number l a r ns bs) x
  in_right : {number a : ℕ} {l r x : Derivation} {ns : List ℕ} {bs : List Binding} → Within r x → Within (resolve number l a r ns bs) x
  in_factored : {number a b : ℕ} {d x : Derivation} {bs : List Binding} → Within d x → Within (factor number d a b bs) x

pub within_twice : {c d x : Derivation} → Within c d → Within d x → Within c x
within_twice itself' w = w
within_twice (in_left v) w = in_left (within_twice v w)
within_twice (in_right v) w = in_right (within_twice v w)
within_twice (in_factored v) w = in_factored (within_twice v w)

own_in : (c : Derivation) → clause_in c (clause_number c) ≡ true
own_in (input number ls) = itself number
own_in (resolve number l a r ns bs) = left_true (eqb number number) (clause_in l number || clause_in r number) (itself number)
own_in (factor number d a b bs) = left_true (eqb number number) (clause_in d number) (itself number)

-- It has the number of one of the derivation's.
pub within_in : (c x : Derivation) → Within c x → clause_in c (clause_number x) ≡ true
within_in c x itself' = own_in c
within_in (resolve number l a r ns bs) x (in_left w) =
    right_true (eqb (clause_number x) number) (clause_in l (clause_number x) || clause_in r (clause_number x)) (left_true (clause_in l (clause_number x)) (clause_in r (clause_number x)) (within_in l x w))
within_in (resolve number l a r ns bs) x (in_right w) =
    right_true (eqb (clause_number x) number) (clause_in l (clause_number x) || clause_in r (clause_number x)) (right_true (clause_in l (clause_number x)) (clause_in r (clause_number x)) (within_in r x w))
within_in (factor number d a b bs) x (in_factored w) = right_true (eqb (clause_number x) number) (clause_in d (clause_number x)) (within_in d x w)

-- ── Uses are input clauses of the derivation ──
one_append_left : {A : Type 0} (xs ys : List A) (a : A) → OneOf a xs → OneOf a (xs ++ ys)
one_append_left [] ys a o = absurd o
one_append_left (x ∷ xs) ys a (inl e) = inl e
one_append_left (x ∷ xs) ys a (inr o) = inr (one_append_left xs ys a o)

one_append_right : {A : Type 0} (xs ys : List A) (a : A) → OneOf a ys → OneOf a (xs ++ ys)
one_append_right [] ys a o = o
one_append_right (x ∷ xs) ys a o = inr (one_append_right xs ys a o)

one_of_append : {A : Type 0} (xs ys : List A) (a : A) → OneOf a (xs ++ ys) → OneOf a xs ⊎ OneOf a ys
one_of_append [] ys a o = inr o
one_of_append (x ∷ xs) ys a (inl e) = inl (inl e)
one_of_append {A} (x ∷ xs) ys a (inr o) = try (one_of_append xs ys a o)
  where
    try : OneOf a xs ⊎ OneOf a ys → OneOf a (x ∷ xs) ⊎ OneOf a ys
    try (inl p) = inl (inr p)
    try (inr p) = inr p

pub input_used : (c : Derivation) (m : ℕ) (ls : List RowLiteral) → Within c (input m ls) → OneOf (m, ls) (uses c)
input_used (input number ks) m ls itself' = inl refl
input_used (resolve number l a r ns bs) m ls (in_left w) = one_append_left (uses l) (uses r) (m, ls) (input_used l m ls w)
input_used (resolve number l a r ns bs) m ls (in_right w) = one_append_right (uses l) (uses r) (m, ls) (input_used r m ls w)
input_used (factor number d a b bs) m ls (in_factored w) = input_used d m ls w

pub used_input : (c : Derivation) (u : Use) → OneOf u (uses c) → Within c (input u.0 u.1)
used_input (input number ls) u (inl e) = subst (λ (v : Use). Within (input number ls) (input v.0 v.1)) (sym e) itself'
used_input (input number ls) u (inr o) = absurd o
used_input (resolve number l a r ns bs) u o = try (one_of_append (uses l) (uses r) u o) (used_input l u) (used_input r u)
  where
    try : OneOf u (uses l) ⊎ OneOf u (uses r) → (OneOf u (uses l) → Within l (input u.0 u.1)) → (OneOf u (uses r) → Within r (input u.0 u.1)) → Within (resolve number l a r ns bs) (input u.0 u.1)
    try (inl p) f g = in_left (f p)
    try (inr p) f g = in_right (g p)
used_input (factor number d a b bs) u o = in_factored (used_input d u o)

-- ── Over the clauses of a state ──
earlier_entry : (cs : List Derivation) (n m : ℕ) (c : Derivation) → entry (earlier cs n) m ≡ some c → entry cs m ≡ some c
earlier_entry [] n m c q = q
earlier_entry (d ∷ cs) n m c q = try (eqb n (length cs)) q (earlier_entry cs n m c)
  where
    try : (b : Bool) → entry (pick b cs (earlier cs n)) m ≡ some c → (entry (earlier cs n) m ≡ some c → entry cs m ≡ some c) → entry (d ∷ cs) m ≡ some c
    try true p ih = entry_more d cs m c p
    try false p ih = entry_more d cs m c (ih p)

module _ (S : State) (H : Sourced (derivations S)) where
  pub at_number : (n : ℕ) (c : Derivation) → clause_of S n ≡ some c → clause_of S (clause_number c) ≡ some c
  at_number n c q = ap (clause_of S) (number_of (derivations S) H n c q) ∙ q

  older : (n m : ℕ) (c d : Derivation) → clause_of S n ≡ some c → entry (earlier (derivations S) n) m ≡ some d → (m < n) × (clause_of S m ≡ some d)
  older n m c d p q = (let l = entry_below (earlier (derivations S) n) m d q in let e = earlier_length (derivations S) n c p in omega arith, earlier_entry (derivations S) n m d q)

  -- A clause's parents stand at their numbers, which are smaller.
  pub left_stands : (n m a : ℕ) (l r : Derivation) (ns : List ℕ) (bs : List Binding) → clause_of S n ≡ some (resolve m l a r ns bs) → (clause_number l < n) × (clause_of S (clause_number l) ≡ some l)
  left_stands n m a l r ns bs q = older n (clause_number l) _ l q (source_of (derivations S) H n _ q).1

  pub right_stands : (n m a : ℕ) (l r : Derivation) (ns : List ℕ) (bs : List Binding) → clause_of S n ≡ some (resolve m l a r ns bs) → (clause_number r < n) × (clause_of S (clause_number r) ≡ some r)
  right_stands n m a l r ns bs q = older n (clause_number r) _ r q (source_of (derivations S) H n _ q).2

  pub factored_stands : (n m a b : ℕ) (d : Derivation) (bs : List Binding) → clause_of S n ≡ some (factor m d a b bs) → (clause_number d < n) × (clause_of S (clause_number d) ≡ some d)
  factored_stands n m a b d bs q = older n (clause_number d) _ d q (source_of (derivations S) H n _ q).1

  -- Every clause of a derivation that stands stands, at no greater number.
  pub within_stands : (c x : Derivation) → clause_of S (clause_number c) ≡ some c → Within c x → (clause_number x ≤ clause_number c) × (clause_of S (clause_number x) ≡ some x)
  within_stands c x q itself' = (omega arith, q)
  within_stands (resolve number l a r ns bs) x q (in_left w) =
      let p = left_stands number number a l r ns bs q in
      let z = within_stands l x p.1 w in
      (omega (arith, p.0, z.0), z.1)
  within_stands (resolve number l a r ns bs) x q (in_right w) =
      let p = right_stands number number a l r ns bs q in
      let z = within_stands r x p.1 w in
      (omega (arith, p.0, z.0), z.1)
  within_stands (factor number d a b bs) x q (in_factored w) =
      let p = factored_stands number number a b d bs q in
      let z = within_stands d x p.1 w in
      (omega (arith, p.0, z.0), z.1)

  -- A number of the derivation is that of one of its clauses.
  pub in_within : (c : Derivation) (n : ℕ) → clause_in c n ≡ true → (x : Derivation) × Within c x × (clause_number x ≡ n)
  in_within (input number ls) n h = (input number ls, itself', sym (equal n number h))
  in_within (resolve number l a r ns bs) n h = try (either_true (eqb n number) (clause_in l n || clause_in r n) h) (in_within l n) (in_within r n)
    where
      below : (clause_in l n ≡ true) ⊎ (clause_in r n ≡ true) → (clause_in l n ≡ true → (x : Derivation) × Within l x × (clause_number x ≡ n)) → (clause_in r n ≡ true → (x : Derivation) × Within r x × (clause_number x ≡ n)) → (x : Derivation) × Within (resolve number l a r ns bs) x × (clause_number x ≡ n)
      below (inl p) f g = let z = f p in (z.0, in_left z.1, z.2)
      below (inr p) f g = let z = g p in (z.0, in_right z.1, z.2)

      try : (eqb n number ≡ true) ⊎ ((clause_in l n || clause_in r n) ≡ true) → (clause_in l n ≡ true → (x : Derivation) × Within l x × (clause_number x ≡ n)) → (clause_in r n ≡ true → (x : Derivation) × Within r x × (clause_number x ≡ n)) → (x : Derivation) × Within (resolve number l a r ns bs) x × (clause_number x ≡ n)
      try (inl p) f g = (resolve number l a r ns bs, itself', sym (equal n number p))
      try (inr p) f g = below (either_true (clause_in l n) (clause_in r n) p) f g
  in_within (factor number d a b bs) n h = try (either_true (eqb n number) (clause_in d n) h) (in_within d n)
    where
      try : (eqb n number ≡ true) ⊎ (clause_in d n ≡ true) → (clause_in d n ≡ true → (x : Derivation) × Within d x × (clause_number x ≡ n)) → (x : Derivation) × Within (factor number d a b bs) x × (clause_number x ≡ n)
      try (inl p) f = (factor number d a b bs, itself', sym (equal n number p))
      try (inr p) f = let z = f p in (z.0, in_factored z.1, z.2)

  -- So the clause at a number of the derivation is one of its clauses.
  pub number_within : (c : Derivation) (n : ℕ) (x : Derivation) → clause_of S (clause_number c) ≡ some c → clause_in c n ≡ true → clause_of S n ≡ some x → Within c x
  number_within c n x q h p =
      let z = in_within c n h in
      let y = (within_stands c z.0 q z.1).1 in
      subst (Within c) (some_injective (sym y ∙ ap (clause_of S) z.2 ∙ p)) z.1
