-- A number in decimal, one digit after another; and five digits at most.
use mathlib.Core.Path.{◌≡◌, refl, sym, ap, ap₂, ◌∙◌, subst}
use mathlib.Core.Bool.{Bool, true, false}
use mathlib.Core.List.{List, [], ◌∷◌, ◌++◌, append_assoc}
use Prim.Native.Nat.{ℕ, zero, suc, ◌+◌, ◌/◌, ◌%◌, ◌≤◌, ◌<◌}
use native.Mathlib.Omega.{arith}
use lib.Dec.{ltb}
use lib.ListN.{length}
use borrow.Author.Tests.{ne_eqb, ltb-true, ltb-false}
use Rattle.record.specs.Record.{pick}
use Rattle.verdict.specs.Text.{digits, decimal}
use Rattle.text.specs.Buffer.{Wrote, digit_text}
use Rattle.text.proofs.Positions.{wrote_nothing, wrote_then}

-- The digits of m, k at most, are x; none are the digits of 0.
record Front (k m : ℕ) (x : List ℕ) : Type 0 where
  none : m ≡ 0 → x ≡ []
  all : 1 ≤ m → (rest : List ℕ) → digits k m rest ≡ x ++ rest

front_none : Front 0 0 []
front_none = record { none = λ e. refl; all = λ (h : 1 ≤ 0). absurd (omega arith) }

-- One digit more: after the digits of a tenth of m comes its last digit.
module _ (k m tenth : ℕ) (x : List ℕ) (e : tenth ≡ m / 10) (F : Front k tenth x) where
  last_digit : (rest : List ℕ) → digits (suc k) m rest ≡ x ++ ((48 + m % 10) ∷ rest)
  last_digit rest = try (ltb m 10) refl
    where
      try : (b : Bool) → ltb m 10 ≡ b → pick b ((48 + m) ∷ rest) (digits k (m / 10) ((48 + m % 10) ∷ rest)) ≡ x ++ ((48 + m % 10) ∷ rest)
      try true q =
          let h = ltb-true m 10 q in
          let z : 48 + m ≡ 48 + m % 10 = omega arith in
          ap (◌∷ rest) z ∙ ap (◌++ ((48 + m % 10) ∷ rest)) (sym (F.none (omega arith)))
      try false q =
          let h = ltb-false m 10 q in
          ap (λ (j : ℕ). digits k j ((48 + m % 10) ∷ rest)) (sym e) ∙ F.all (omega arith) ((48 + m % 10) ∷ rest)

  front_more : Front (suc k) m (x ++ digit_text m)
  front_more =
      record {
        none = λ z. ap₂ ◌++◌ (F.none (omega arith)) (ap digit_text z);
        all = λ h rest. last_digit rest ∙ sym (append_assoc x ((48 + m % 10) ∷ []) rest)
            ∙ ap (λ (b : Bool). (x ++ pick b [] ((48 + m % 10) ∷ [])) ++ rest) (sym (ne_eqb m 0 (λ z. omega arith)));
      }

-- The digits before the last one, each found by a division.
abbrev before_last : ℕ → List ℕ
before_last n = ((digit_text (n / 10000) ++ digit_text (n / 1000)) ++ digit_text (n / 100)) ++ digit_text (n / 10)

decimal_digits : (n : ℕ) → n < 65536 → decimal n ≡ before_last n ++ ((48 + n % 10) ∷ [])
decimal_digits n h =
    let ten-thousands = front_more 0 (n / 10000) 0 [] (omega arith) front_none in
    let thousands = front_more 1 (n / 1000) (n / 10000) _ (omega arith) ten-thousands in
    let hundreds = front_more 2 (n / 100) (n / 1000) _ (omega arith) thousands in
    let tens = front_more 3 (n / 10) (n / 100) _ (omega arith) hundreds in
    last_digit 4 n (n / 10) _ refl tens []

digits_length : (k n : ℕ) (rest : List ℕ) → length (digits k n rest) ≤ k + length rest
digits_length zero n rest = omega arith
digits_length (suc k) n rest = try (digits_length k (n / 10) ((48 + n % 10) ∷ rest)) (ltb n 10)
  where
    try : length (digits k (n / 10) ((48 + n % 10) ∷ rest)) ≤ k + suc (length rest) → (b : Bool) → length (pick b ((48 + n) ∷ rest) (digits k (n / 10) ((48 + n % 10) ∷ rest))) ≤ suc k + length rest
    try ih true = omega arith
    try ih false = omega arith

pub decimal_length : (n : ℕ) → length (decimal n) ≤ 5
decimal_length n = digits_length 5 n []

-- A digit written, or nothing for 0.
module _ (T : List ℕ) (at n : ℕ) where
  pub wrote_no_digit : n ≡ 0 → Wrote T T at at (digit_text n)
  wrote_no_digit z = subst (λ (m : ℕ). Wrote T T at at (digit_text m)) (sym z) (wrote_nothing T at)

  pub wrote_digit : ¬ (n ≡ 0) → (T' : List ℕ) (end b : ℕ) → b ≡ 48 + n % 10 → Wrote T T' at end (b ∷ []) → Wrote T T' at end (digit_text n)
  wrote_digit z T' end b q w =
      subst (λ (l : List ℕ). Wrote T T' at end l) (ap (λ (a : ℕ). a ∷ []) q ∙ ap (λ (t : Bool). pick t [] ((48 + n % 10) ∷ [])) (sym (ne_eqb n 0 z))) w

-- Five digits written one after another are the number.
pub wrote_decimal : (T : List ℕ) (at n : ℕ) → n < 65536
    → (T₄ : List ℕ) (thousands : ℕ) → Wrote T T₄ at thousands (digit_text (n / 10000)) → (T₃ : List ℕ) (hundreds : ℕ) → Wrote T₄ T₃ thousands hundreds (digit_text (n / 1000))
    → (T₂ : List ℕ) (tens : ℕ) → Wrote T₃ T₂ hundreds tens (digit_text (n / 100)) → (T₁ : List ℕ) (ones : ℕ) → Wrote T₂ T₁ tens ones (digit_text (n / 10))
    → (T' : List ℕ) (end b : ℕ) → b ≡ 48 + n % 10 → Wrote T₁ T' ones end (b ∷ []) → Wrote T T' at end (decimal n)
wrote_decimal T at n h T₄ thousands v₄ T₃ hundreds v₃ T₂ tens v₂ T₁ ones v₁ T' end b q v₀ =
    subst (λ (l : List ℕ). Wrote T T' at end l) (ap (λ (a : ℕ). before_last n ++ (a ∷ [])) q ∙ sym (decimal_digits n h))
    (wrote_then T T₁ T' at ones end (before_last n) (b ∷ [])
    (wrote_then T T₂ T₁ at tens ones _ _ (wrote_then T T₃ T₂ at hundreds tens _ _ (wrote_then T T₄ T₃ at thousands hundreds _ _ v₄ v₃) v₂) v₁)
    v₀)
