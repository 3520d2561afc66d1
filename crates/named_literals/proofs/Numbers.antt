-- Laws of literal numbers: in a list without one element, in two lists joined, in a list of changed elements, and in an origin's numbers.
use mathlib.Core.Path.{◌≡◌, refl, sym, ap, ap₂, ◌∙◌, subst}
use mathlib.Core.Bool.{Bool, true, false}
use mathlib.Core.Option.{Option, none, some}
use mathlib.Core.List.{List, [], ◌∷◌, ◌++◌, map}
use Prim.Native.Nat.{ℕ, zero, suc, ◌+◌, ◌-◌, ◌≤◌, ◌<◌}
use native.Mathlib.Omega.{arith}
use lib.Dec.{eqb, leb, ltb}
use lib.ListN.{length, get_or, take, replicate, length-take, length-map}
use Rattle.record.specs.Record.{pick}
use Rattle.unification.specs.Nodes.{part}
use Rattle.derivation.specs.Derivation.{Literal, RowLiteral, literal_of, numbered, without, without_all, raise_literal, placed}
use Rattle.derivation.specs.Stored.{origin_numbers, origin_code, right_cells}
use Rattle.named_literals.specs.Named.{left_over, passed, passed_all, NamesRights, PassesRights, raise_named}
use Rattle.derivation.proofs.Literals.{map_numbered}
use native.Mathlib.Numerals.{add-one}
use borrow.Author.Tests.{ne_eqb, leb-true, leb-false, ltb-true, ltb-false, le-leb, lt-leb, lt-ltb, le-ltb}

left_over_suc : (m a : ℕ) → left_over m (suc a) ≡ pick (leb (suc a) m) (m - 1) m
unfolding left_over
left_over_suc m a = rw (ne_eqb (suc a) 0 (λ z. omega arith))

passed_suc : (n a : ℕ) → passed n (suc a) ≡ pick (ltb n (suc a)) n (suc n)
unfolding passed
passed_suc n a = rw (ne_eqb (suc a) 0 (λ z. omega arith), add-one)

passed_zero : (n : ℕ) → passed n 0 ≡ n
unfolding passed
passed_zero n = refl

module _ {A : Type 0} where
  -- So many are left without number a.
  pub length_without : (xs : List A) (a : ℕ) → length (without xs a) ≡ left_over (length xs) a
  unfolding left_over
  length_without [] zero = refl
  length_without [] (suc a) = rw (left_over_suc, lt-leb (suc a) 0 (omega arith))
  length_without (x ∷ xs) zero = refl
  length_without (x ∷ xs) (suc zero) = rw (left_over_suc, le-leb 1 (suc (length xs)) (omega arith)) (omega arith)
  length_without (x ∷ xs) (suc (suc a)) = ap suc (length_without xs (suc a) ∙ left_over_suc (length xs) a) ∙ try (leb (suc a) (length xs)) refl ∙ sym (left_over_suc (suc (length xs)) (suc a))
    where
      try : (b : Bool) → leb (suc a) (length xs) ≡ b → suc (pick b (length xs - 1) (length xs)) ≡ pick (leb (suc (suc a)) (suc (length xs))) (suc (length xs) - 1) (suc (length xs))
      try true q = let l = leb-true (suc a) (length xs) q in rw (le-leb (suc (suc a)) (suc (length xs)) (omega arith)) (omega arith)
      try false q = let l = leb-false (suc a) (length xs) q in rw (lt-leb (suc (suc a)) (suc (length xs)) (omega arith))

  -- The n-th of those left.
  pub numbered_without : (xs : List A) (a n : ℕ) → 1 ≤ n → numbered (without xs a) n ≡ numbered xs (passed n a)
  numbered_without [] a n h = refl
  numbered_without (x ∷ xs) zero n h = rw passed_zero
  numbered_without (x ∷ xs) (suc zero) zero h = absurd (omega arith)
  numbered_without (x ∷ xs) (suc zero) (suc n) h = rw (passed_suc, le-ltb (suc n) 1 (omega arith))
  numbered_without (x ∷ xs) (suc (suc a)) zero h = absurd (omega arith)
  numbered_without (x ∷ xs) (suc (suc a)) (suc zero) h = rw (passed_suc, lt-ltb 1 (suc (suc a)) (omega arith))
  numbered_without (x ∷ xs) (suc (suc a)) (suc (suc n)) h =
      numbered_without xs (suc a) (suc n) (omega arith) ∙ ap (numbered xs) (passed_suc (suc n) a) ∙ try (ltb (suc n) (suc a)) refl ∙ ap (numbered (x ∷ xs)) (sym (passed_suc (suc (suc n)) (suc a)))
    where
      try : (b : Bool) → ltb (suc n) (suc a) ≡ b → numbered xs (pick b (suc n) (suc (suc n))) ≡ numbered (x ∷ xs) (pick (ltb (suc (suc n)) (suc (suc a))) (suc (suc n)) (suc (suc (suc n))))
      try true q = let l = ltb-true (suc n) (suc a) q in rw (lt-ltb (suc (suc n)) (suc (suc a)) (omega arith))
      try false q = let l = ltb-false (suc n) (suc a) q in rw (le-ltb (suc (suc n)) (suc (suc a)) (omega arith))

-- It has a number among all of them.
pub passed_in : (count a n : ℕ) → 1 ≤ n → n ≤ left_over count a → (1 ≤ passed n a) × (passed n a ≤ count)
unfolding left_over passed
passed_in count a n l h = try (eqb a 0) refl h
  where
    more : (b : Bool) → ltb n a ≡ b → (c : Bool) → leb a count ≡ c → n ≤ pick c (count - 1) count → (1 ≤ pick b n (n + 1)) × (pick b n (n + 1) ≤ count)
    more true p true q h = (l, omega arith)
    more true p false q h = (l, h)
    more false p true q h = let k = leb-true a count q in (omega arith, omega arith)
    more false p false q h = let k = leb-false a count q in let j = ltb-false n a p in absurd (omega arith)

    try : (b : Bool) → eqb a 0 ≡ b → n ≤ pick b count (pick (leb a count) (count - 1) count) → (1 ≤ pick b n (pick (ltb n a) n (n + 1))) × (pick b n (pick (ltb n a) n (n + 1)) ≤ count)
    try true p h = (l, h)
    try false p h = more (ltb n a) refl (leb a count) refl h

-- The same for several numbers.
abbrev pub left_over_all : ℕ → List ℕ → ℕ
left_over_all count [] = count
left_over_all count (a ∷ ns) = left_over (left_over_all count ns) a

pub length_without_all : {A : Type 0} (xs : List A) (ns : List ℕ) → length (without_all xs ns) ≡ left_over_all (length xs) ns
length_without_all xs [] = refl
length_without_all xs (a ∷ ns) = length_without (without_all xs ns) a ∙ ap (λ (m : ℕ). left_over m a) (length_without_all xs ns)

passed_low : (n a : ℕ) → 1 ≤ n → 1 ≤ passed n a
unfolding passed
passed_low n a l = try (eqb a 0) (ltb n a)
  where
    try : (b c : Bool) → 1 ≤ pick b n (pick c n (n + 1))
    try true c = l
    try false true = l
    try false false = omega arith

pub passed_above : (n a : ℕ) → n ≤ passed n a
unfolding passed
passed_above n a = try (eqb a 0) (ltb n a)
  where
    try : (b c : Bool) → n ≤ pick b n (pick c n (n + 1))
    try true c = omega arith
    try false true = omega arith
    try false false = omega arith

pub passed_all_above : (n : ℕ) (ns : List ℕ) → n ≤ passed_all n ns
passed_all_above n [] = omega arith
passed_all_above n (a ∷ ns) = let x = passed_above n a in let y = passed_all_above (passed n a) ns in omega arith

pub numbered_without_all : {A : Type 0} (xs : List A) (ns : List ℕ) (n : ℕ) → 1 ≤ n → numbered (without_all xs ns) n ≡ numbered xs (passed_all n ns)
numbered_without_all xs [] n h = refl
numbered_without_all xs (a ∷ ns) n h = numbered_without (without_all xs ns) a n h ∙ numbered_without_all xs ns (passed n a) (passed_low n a h)

pub passed_all_in : (count : ℕ) (ns : List ℕ) (n : ℕ) → 1 ≤ n → n ≤ left_over_all count ns → (1 ≤ passed_all n ns) × (passed_all n ns ≤ count)
passed_all_in count [] n l h = (l, h)
passed_all_in count (a ∷ ns) n l h = let p = passed_in (left_over_all count ns) a n l h in passed_all_in count ns (passed n a) p.0 p.1

-- A zero passes nothing.
passed_zeros : (n : ℕ) (ns : List ℕ) (k : ℕ) → passed_all n (ns ++ replicate k 0) ≡ passed_all n ns
passed_zeros n [] zero = refl
passed_zeros n [] (suc k) = ap (λ (m : ℕ). passed_all m (replicate k 0)) (passed_zero n) ∙ passed_zeros n [] k
passed_zeros n (a ∷ ns) k = passed_zeros (passed n a) ns k

-- The cells of an origin: of one right literal the first, of more all four.
module _ {O : List ℕ} {c : ℕ} {ns : List ℕ} (H : NamesRights O c ns) where
  first_cell_lem : (xs : List ℕ) → length xs ≡ 1 → (y : ℕ) (ys zs : List ℕ) → y ∷ ys ≡ xs ++ zs → xs ≡ y ∷ []
  first_cell_lem [] l y ys zs e = absurd (omega arith)
  first_cell_lem (x ∷ []) l y ys zs e = ap (λ (m : ℕ). m ∷ []) (sym (ap (λ (xs : List ℕ). get_or xs 0 0) e))
  first_cell_lem (x ∷ w ∷ xs) l y ys zs e = absurd (omega arith)

  pub one_right : (n a u : ℕ) → a ≡ part O c 3 → u ≡ origin_code O c → u ≡ 3 → passed n a ≡ passed_all n ns
  one_right n a u pa pu three =
      let l : length ns ≡ 1 = let k = H.code in omega arith in
      sym (ap (passed_all n) (first_cell_lem ns l (part O c 3) (part O c 4 ∷ part O c 5 ∷ part O c 6 ∷ []) (replicate (4 - length ns) 0) H.cells) ∙ ap (passed n) (sym pa))

  pub all_rights : (n : ℕ) → passed_all n (right_cells O c) ≡ passed_all n ns
  all_rights n = ap (passed_all n) H.cells ∙ passed_zeros n ns (4 - length ns)

  pub passed_four : (n a b d e i j k r : ℕ) → a ≡ part O c 3 → i ≡ passed n a → b ≡ part O c 4 → j ≡ passed i b → d ≡ part O c 5 → k ≡ passed j d → e ≡ part O c 6 → r ≡ passed k e → r ≡ passed_all n ns
  passed_four n a b d e i j k r pa pi pb pj pd pk pe pr =
      pr ∙ ap₂ passed (pk ∙ ap₂ passed (pj ∙ ap₂ passed (pi ∙ ap (passed n) pa) pb) pd) pe ∙ all_rights n

-- No sum wraps on the way: every number is at most the last.
module _ {O : List ℕ} {c n : ℕ} (H : PassesRights O c n) where
  all_fit : passed_all n (right_cells O c) < 65536
  all_fit = subst (λ (m : ℕ). m < 65536) (sym (all_rights H.names n)) H.fits

  pub fits_first : (a : ℕ) → a ≡ part O c 3 → passed n a < 65536
  fits_first a pa = let z = passed_all_above (passed n (part O c 3)) (part O c 4 ∷ part O c 5 ∷ part O c 6 ∷ []) in rw pa (omega (arith, all_fit))

  pub fits_second : (a i b : ℕ) → a ≡ part O c 3 → i ≡ passed n a → b ≡ part O c 4 → passed i b < 65536
  fits_second a i b pa pi pb = let z = passed_all_above (passed (passed n (part O c 3)) (part O c 4)) (part O c 5 ∷ part O c 6 ∷ []) in rw (pi, pa, pb) (omega (arith, all_fit))

  pub fits_third : (a i b j d : ℕ) → a ≡ part O c 3 → i ≡ passed n a → b ≡ part O c 4 → j ≡ passed i b → d ≡ part O c 5 → passed j d < 65536
  fits_third a i b j d pa pi pb pj pd = let z = passed_all_above (passed (passed (passed n (part O c 3)) (part O c 4)) (part O c 5)) (part O c 6 ∷ []) in rw (pj, pi, pa, pb, pd) (omega (arith, all_fit))

  pub fits_fourth : (a i b j d k e : ℕ) → a ≡ part O c 3 → i ≡ passed n a → b ≡ part O c 4 → j ≡ passed i b → d ≡ part O c 5 → k ≡ passed j d → e ≡ part O c 6 → passed k e < 65536
  fits_fourth a i b j d k e pa pi pb pj pd pk pe = rw (pk, pj, pi, pa, pb, pd, pe) all_fit

module _ {A : Type 0} where
  pub numbered_left : (xs ys : List A) (n : ℕ) → 1 ≤ n → n ≤ length xs → numbered (xs ++ ys) n ≡ numbered xs n
  numbered_left [] ys n l h = absurd (omega arith)
  numbered_left (x ∷ xs) ys zero l h = refl
  numbered_left (x ∷ xs) ys (suc zero) l h = refl
  numbered_left (x ∷ xs) ys (suc (suc n)) l h = numbered_left xs ys (suc n) (omega arith) (omega arith)

  pub numbered_right : (xs ys : List A) (n : ℕ) → length xs < n → numbered (xs ++ ys) n ≡ numbered ys (n - length xs)
  numbered_right [] ys n h = let z : n ≡ n - 0 = omega arith in ap (numbered ys) z
  numbered_right (x ∷ xs) ys zero h = absurd (omega arith)
  numbered_right (x ∷ xs) ys (suc zero) h = absurd (omega arith)
  numbered_right (x ∷ xs) ys (suc (suc n)) h =
      let z : suc n - length xs ≡ suc (suc n) - suc (length xs) = omega arith in
      numbered_right xs ys (suc n) (omega arith) ∙ ap (numbered ys) z

  -- A number outside the list names nothing.
  pub numbered_zero : (xs : List A) → numbered xs 0 ≡ none
  numbered_zero [] = refl
  numbered_zero (x ∷ xs) = refl

  pub numbered_past : (xs : List A) (n : ℕ) → length xs < n → numbered xs n ≡ none
  numbered_past [] n h = refl
  numbered_past (x ∷ xs) zero h = refl
  numbered_past (x ∷ xs) (suc zero) h = absurd (omega arith)
  numbered_past (x ∷ xs) (suc (suc n)) h = numbered_past xs (suc n) (omega arith)

  pub numbered_take : (xs : List A) (k n : ℕ) → n ≤ length (take k xs) → numbered (take k xs) n ≡ numbered xs n
  numbered_take [] zero n h = refl
  numbered_take [] (suc k) n h = refl
  numbered_take (x ∷ xs) zero zero h = refl
  numbered_take (x ∷ xs) zero (suc n) h = absurd (omega arith)
  numbered_take (x ∷ xs) (suc k) zero h = refl
  numbered_take (x ∷ xs) (suc k) (suc zero) h = refl
  numbered_take (x ∷ xs) (suc k) (suc (suc n)) h = numbered_take xs k (suc n) (omega arith)

-- Literals that are raised have the numbers that they had.
pub numbered_raised : (m : ℕ) (ls : List Literal) (n : ℕ) → numbered (map (raise_literal m) ls) n ≡ raise_named m (numbered ls n)
numbered_raised m [] n = refl
numbered_raised m (l ∷ ls) zero = refl
numbered_raised m (l ∷ ls) (suc zero) = refl
numbered_raised m (l ∷ ls) (suc (suc n)) = numbered_raised m ls (suc n)

pub raise_named_zero : (o : Option Literal) → o ≡ raise_named 0 o
raise_named_zero none = refl
raise_named_zero (some l) = let z : l.1.1 ≡ 0 + l.1.1 = omega arith in ap (λ (i : ℕ). some (l.0, (l.1.0, i))) z

pub raise_named_twice : (m k : ℕ) (o : Option Literal) → raise_named m (raise_named k o) ≡ raise_named (m + k) o
raise_named_twice m k none = refl
raise_named_twice m k (some l) = let z : m + (k + l.1.1) ≡ m + k + l.1.1 = omega arith in ap (λ (i : ℕ). some (l.0, (l.1.0, i))) z

-- The seven numbers of an origin by number.
pub numbered_origin : (O : List ℕ) (p n : ℕ) → 1 ≤ n → n ≤ 7 → numbered (origin_numbers O p) n ≡ some (part O p (n - 1))
numbered_origin O p zero l h = absurd (omega arith)
numbered_origin O p (suc zero) l h = refl
numbered_origin O p (suc (suc zero)) l h = refl
numbered_origin O p (suc (suc (suc zero))) l h = refl
numbered_origin O p (suc (suc (suc (suc zero)))) l h = refl
numbered_origin O p (suc (suc (suc (suc (suc zero))))) l h = refl
numbered_origin O p (suc (suc (suc (suc (suc (suc zero)))))) l h = refl
numbered_origin O p (suc (suc (suc (suc (suc (suc (suc zero))))))) l h = refl
numbered_origin O p (suc (suc (suc (suc (suc (suc (suc (suc n)))))))) l h = absurd (omega arith)

-- An input clause's literals are its origin's numbers.
pub input_few : (O : List ℕ) (p n count : ℕ) → n ≤ length (placed 1 (map literal_of (take count (origin_numbers O p)))) → n ≤ 7
input_few O p n count h =
    let h' : n ≤ length (map literal_of (take count (origin_numbers O p))) = rw length-map at h in
    let h'' : n ≤ length (take count (origin_numbers O p)) = rw length-map at h' in
    let h''' = rw length-take at h'' in
    omega arith

pub input_numbered : (O : List ℕ) (p count n : ℕ) → 1 ≤ n → n ≤ length (placed 1 (map literal_of (take count (origin_numbers O p))))
    → numbered (placed 1 (map literal_of (take count (origin_numbers O p)))) n ≡ some ((literal_of (part O p (n - 1))).0, ((literal_of (part O p (n - 1))).1, 1))
input_numbered O p count n l h =
    let h' : n ≤ length (map literal_of (take count (origin_numbers O p))) = rw length-map at h in
    let h'' : n ≤ length (take count (origin_numbers O p)) = rw length-map at h' in
    map_numbered (λ (l : RowLiteral). (l.0, (l.1, 1))) (map literal_of (take count (origin_numbers O p))) n (literal_of (part O p (n - 1)))
    (map_numbered literal_of (take count (origin_numbers O p)) n (part O p (n - 1))
    (numbered_take (origin_numbers O p) count n h'' ∙ numbered_origin O p n l (input_few O p n count h)))
