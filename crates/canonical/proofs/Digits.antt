-- A number in decimal can be read back in one way, where what follows does not begin with a digit.
use mathlib.Core.Path.{◌≡◌, refl, sym, ap, ◌∙◌}
use mathlib.Core.Bool.{Bool, true, false, ◌&&◌}
use mathlib.Core.List.{List, [], ◌∷◌, ◌++◌}
use Prim.Native.Nat.{ℕ, zero, suc, ◌+◌, ◌-◌, ◌*◌, ◌/◌, ◌%◌, ◌<◌}
use native.Mathlib.Omega.{arith}
use lib.Dec.{leb, ltb}
use borrow.Author.Tests.{ltb-true, le-leb}
use Rattle.record.specs.Record.{pick}
use Rattle.verdict.specs.Text.{digits, decimal}

abbrev pub is_digit : ℕ → Bool
is_digit b = leb 48 b && leb b 57

-- The text does not begin with a digit.
abbrev pub NoDigit : List ℕ → Type 0
NoDigit [] = Unit {0}
NoDigit (b ∷ bs) = is_digit b ≡ false

-- What is left of a text after the digits that it begins with, and the number that these and the digits of n before them make.
abbrev read_on : ℕ → List ℕ → ℕ × List ℕ
read_on n [] = (n, [])
read_on n (b ∷ bs) = pick (is_digit b) (read_on (10 * n + (b - 48)) bs) (n, b ∷ bs)

-- The least number with more than k digits.
abbrev pub tens : ℕ → ℕ
tens zero = 1
tens (suc k) = 10 * tens k

read_digit : (n d : ℕ) → d < 10 → (x : List ℕ) → read_on n ((48 + d) ∷ x) ≡ read_on (10 * n + d) x
read_digit n d h x =
    let p : 10 * n + (48 + d - 48) ≡ 10 * n + d = omega arith in
    let q : is_digit (48 + d) ≡ true = rw (le-leb 48 (48 + d) (omega arith), le-leb (48 + d) 57 (omega arith)) in
    ap (λ (b : Bool). pick b (read_on (10 * n + (48 + d - 48)) x) (n, (48 + d) ∷ x)) q ∙ ap (λ (m : ℕ). read_on m x) p

read_digits : (k n : ℕ) → n < tens k → (x : List ℕ) → read_on 0 (digits k n x) ≡ read_on n x
read_digits zero n h x = let z : 0 ≡ n = omega arith in ap (λ (m : ℕ). read_on m x) z
read_digits (suc k) n h x = try (ltb n 10) refl (λ l y. read_digits k (n / 10) l y)
  where
    try : (b : Bool) → ltb n 10 ≡ b → (n / 10 < tens k → (y : List ℕ) → read_on 0 (digits k (n / 10) y) ≡ read_on (n / 10) y)
        → read_on 0 (pick b ((48 + n) ∷ x) (digits k (n / 10) ((48 + n % 10) ∷ x))) ≡ read_on n x
    try true q ih = let z : 10 * 0 + n ≡ n = omega arith in read_digit 0 n (ltb-true n 10 q) x ∙ ap (λ (m : ℕ). read_on m x) z
    try false q ih =
        let z : 10 * (n / 10) + n % 10 ≡ n = omega arith in
        ih (omega arith) ((48 + n % 10) ∷ x) ∙ read_digit (n / 10) (n % 10) (omega arith) x ∙ ap (λ (m : ℕ). read_on m x) z

digits_append : (k n : ℕ) (x y : List ℕ) → digits k n x ++ y ≡ digits k n (x ++ y)
digits_append zero n x y = refl
digits_append (suc k) n x y = try (ltb n 10) (digits_append k (n / 10) ((48 + n % 10) ∷ x) y)
  where
    try : (b : Bool) → digits k (n / 10) ((48 + n % 10) ∷ x) ++ y ≡ digits k (n / 10) ((48 + n % 10) ∷ (x ++ y))
        → pick b ((48 + n) ∷ x) (digits k (n / 10) ((48 + n % 10) ∷ x)) ++ y ≡ pick b ((48 + n) ∷ (x ++ y)) (digits k (n / 10) ((48 + n % 10) ∷ (x ++ y)))
    try true ih = refl
    try false ih = ih

read_end : (n : ℕ) (x : List ℕ) → NoDigit x → read_on n x ≡ (n, x)
read_end n [] h = refl
read_end n (b ∷ bs) h = ap (λ (t : Bool). pick t (read_on (10 * n + (b - 48)) bs) (n, b ∷ bs)) h

read_decimal : (n : ℕ) → n < 100000 → (x : List ℕ) → NoDigit x → read_on 0 (decimal n ++ x) ≡ (n, x)
read_decimal n h x k = ap (read_on 0) (digits_append 5 n [] x) ∙ read_digits 5 n h x ∙ read_end n x k

-- Two numbers with what follows them.
pub decimal_once : (n m : ℕ) (x y : List ℕ) → n < 100000 → m < 100000 → NoDigit x → NoDigit y → decimal n ++ x ≡ decimal m ++ y → (n ≡ m) × (x ≡ y)
decimal_once n m x y h k a b e =
    let p : ◌≡◌ {A = ℕ × List ℕ} (n, x) (m, y) = sym (read_decimal n h x a) ∙ ap (read_on 0) e ∙ read_decimal m k y b in
    (ap (λ (r : ℕ × List ℕ). r.0) p, ap (λ (r : ℕ × List ℕ). r.1) p)
