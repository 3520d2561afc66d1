-- What is left without some literals whose numbers rise are the remaining ones of the textbook.
use mathlib.Core.Path.{◌≡◌, refl, sym, ap, ◌∙◌}
use mathlib.Core.Bool.{Bool, true, false, ◌||◌}
use mathlib.Core.List.{List, [], ◌∷◌, map}
use Prim.Native.Nat.{ℕ, zero, suc, ◌+◌, ◌≤◌}
use native.Mathlib.Omega.{arith}
use lib.Dec.{eqb, eqb_refl}
use Rattle.record.specs.Record.{pick}
use Rattle.unification.proofs.Outlines.{numbers_differ}
use Rattle.unification.proofs.Tests.{from_t}
use Rattle.derivation.specs.Derivation.{without, without_all, StrictlyRising}
use Rattle.derivation.specs.Textbook.{among, remaining}
use Rattle.derivation.proofs.Literals.{rising_tail}

module _ {A B : Type 0} (f : A → B) where
  pub map_remaining : (n : ℕ) (ns : List ℕ) (xs : List A) → map f (remaining n ns xs) ≡ remaining n ns (map f xs)
  map_remaining n ns [] = refl
  map_remaining n ns (x ∷ xs) = try (among n ns) (remaining (suc n) ns xs) (map_remaining (suc n) ns xs)
    where
      try : (b : Bool) (us : List A) {ws : List B} → map f us ≡ ws → map f (pick b us (x ∷ us)) ≡ pick b ws (f x ∷ ws)
      try true us q = q
      try false us q = ap (λ (r : List B). f x ∷ r) q

-- A number below those that rise is none of them.
not_among : (m i : ℕ) (ns : List ℕ) → StrictlyRising (m ∷ ns) → i ≤ m → among i ns ≡ false
not_among m i [] h l = refl
not_among m i (n ∷ ns) h l =
    let j = h.0 in
    λ k. numbers_differ i n (λ q. omega arith) k || not_among n i ns h.1 (omega arith) k

module _ {A : Type 0} where
  nothing_out : (n : ℕ) (xs : List A) → remaining n [] xs ≡ xs
  nothing_out n [] = refl
  nothing_out n (x ∷ xs) = ap (λ (r : List A). x ∷ r) (nothing_out (suc n) xs)

  -- A number below that of the first literal takes nothing out.
  passed : (k n : ℕ) (ns : List ℕ) (xs : List A) → n ≤ k → remaining (suc k) (n ∷ ns) xs ≡ remaining (suc k) ns xs
  passed k n ns [] h = refl
  passed k n ns (x ∷ xs) h = let q = passed (suc k) n ns xs (omega arith) in λ i. pick (numbers_differ (suc k) n (λ e. omega arith) i || among (suc k) ns) (q i) (x ∷ q i)

  without_zero : (xs : List A) → without xs 0 ≡ xs
  without_zero [] = refl
  without_zero (x ∷ xs) = refl

  -- The number n, below all of ns, is that of the j-th literal where the first has number 1 + k.
  one_out : (k j n : ℕ) (ns : List ℕ) (xs : List A) → n ≡ k + j → StrictlyRising (n ∷ ns) → without (remaining (suc k) ns xs) j ≡ remaining (suc k) (n ∷ ns) xs
  one_out k j n ns [] e h = refl
  one_out k zero n ns (x ∷ xs) e h = without_zero (remaining (suc k) ns (x ∷ xs)) ∙ sym (passed k n ns (x ∷ xs) (omega arith))
  one_out k (suc zero) n ns (x ∷ xs) e h =
      let here : n ≡ suc k = omega arith in
      ap (λ b. without (pick b (remaining (suc (suc k)) ns xs) (x ∷ remaining (suc (suc k)) ns xs)) 1) (not_among n (suc k) ns h (omega arith))
      ∙ sym (passed (suc k) n ns xs (omega arith))
      ∙ ap (λ b. pick (b || among (suc k) ns) (remaining (suc (suc k)) (n ∷ ns) xs) (x ∷ remaining (suc (suc k)) (n ∷ ns) xs)) (sym (ap (eqb (suc k)) here ∙ from_t (eqb (suc k) (suc k)) (eqb_refl (suc k))))
  one_out k (suc (suc j)) n ns (x ∷ xs) e h =
      let f = not_among n (suc k) ns h (omega arith) in
      ap (λ b. without (pick b (remaining (suc (suc k)) ns xs) (x ∷ remaining (suc (suc k)) ns xs)) (suc (suc j))) f
      ∙ ap (λ (r : List A). x ∷ r) (one_out (suc k) (suc j) n ns xs (omega arith) h)
      ∙ ap (λ b. pick b (remaining (suc (suc k)) (n ∷ ns) xs) (x ∷ remaining (suc (suc k)) (n ∷ ns) xs)) (sym (λ i. numbers_differ (suc k) n (λ q. omega arith) i || f i))

  -- All named literals go, and no other.
  pub all_out : (xs : List A) (ns : List ℕ) → StrictlyRising ns → without_all xs ns ≡ remaining 1 ns xs
  all_out xs [] h = sym (nothing_out 1 xs)
  all_out xs (n ∷ ns) h = ap (λ (ys : List A). without ys n) (all_out xs ns (rising_tail n ns h)) ∙ one_out 0 n n ns xs (omega arith) h

  pub named_out : (xs : List A) (n : ℕ) → without xs n ≡ remaining 1 (n ∷ []) xs
  named_out xs n = all_out xs (n ∷ []) tt
