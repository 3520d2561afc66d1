-- Writing one text after another is writing both.
use mathlib.Core.Path.{◌≡◌, refl, sym, ap, ap₂, ◌∙◌, subst}
use mathlib.Core.Bool.{Bool, true, false}
use mathlib.Core.List.{List, [], ◌∷◌, ◌++◌, append_assoc, append-nil}
use Prim.Native.Nat.{ℕ, ◌+◌, ◌-◌, ◌≤◌, ◌<◌}
use native.Mathlib.Numerals.{add-one}
use native.Mathlib.Omega.{arith}
use lib.Dec.{leb}
use lib.ListN.{length, get_or, take, set, length-append, length-set}
use lib.Seq.{take_all, take-nil, take-suc, take-set-le, take-suc-set, take-take, length-take-le, take-append-le, take-append-add}
use borrow.Author.Tests.{leb-true, leb-false}
use Rattle.text.specs.Buffer.{KeptBefore, fitting_part, Wrote}

pub kept_same : (T : List ℕ) (at : ℕ) → KeptBefore T T at
kept_same T at = record { room = refl; before = refl }

-- What was kept from a later position on.
pub kept_then : (T T' T'' : List ℕ) (at next : ℕ) → at ≤ next → KeptBefore T T' at → KeptBefore T' T'' next → KeptBefore T T'' at
kept_then T T' T'' at next h k l =
    record {
      room = l.room ∙ k.room;
      before = sym (take-take at next T'' h) ∙ ap (take at) l.before ∙ take-take at next T' h ∙ k.before;
    }

-- Nothing was written.
pub wrote_nothing : (T : List ℕ) (at : ℕ) → Wrote T T at at []
wrote_nothing T at =
    record {
      kept = kept_same T at;
      position = omega (arith, ap length (take-nil {A = ℕ} (length T - at)));
      bytes = sym (append-nil (take at T)) ∙ ap (take at T ++◌) (sym (take-nil (length T - at)));
    }

-- One byte: written where there is room for it, and dropped elsewhere.
module _ (T : List ℕ) (at b : ℕ) where
  pub wrote_byte : at < length T → Wrote T (set T at b) at (at + 1) (b ∷ [])
  wrote_byte h =
      let all : fitting_part T at (b ∷ []) ≡ b ∷ [] = take_all (length T - at) (b ∷ []) (omega arith) in
      record {
        kept = record { room = length-set T at b; before = take-set-le at T at b (omega arith) };
        position = omega (arith, ap length all);
        bytes = ap (λ (n : ℕ). take n (set T at b)) (add-one at) ∙ take-suc-set T at b h ∙ ap (take at T ++◌) (sym all);
      }

  pub dropped_byte : length T ≤ at → Wrote T T at at (b ∷ [])
  dropped_byte h =
      let z : length T - at ≡ 0 = omega arith in
      let none : fitting_part T at (b ∷ []) ≡ [] = ap (λ (n : ℕ). take n (b ∷ [])) z in
      record {
        kept = kept_same T at;
        position = omega (arith, ap length none);
        bytes = sym (append-nil (take at T)) ∙ ap (take at T ++◌) (sym none);
      }

-- The position does not go back, and is past the whole text where that fits.
module _ {T T' : List ℕ} {at end : ℕ} {text : List ℕ} (w : Wrote T T' at end text) where
  pub wrote_onward : at ≤ end
  wrote_onward = omega (arith, w.position)

  pub wrote_position : at + length text ≤ length T → end ≡ at + length text
  wrote_position h = omega (arith, w.position, ap length (take_all (length T - at) text (omega arith)))

  pub wrote_bytes : at + length text ≤ length T → take end T' ≡ take at T ++ text
  wrote_bytes h = w.bytes ∙ ap (take at T ++◌) (take_all (length T - at) text (omega arith))

-- One text after another.
module _ (T T' T'' : List ℕ) (at next end : ℕ) (x y : List ℕ) where
  joined : Wrote T T' at next x → fitting_part T at x ++ fitting_part T' next y ≡ fitting_part T at (x ++ y)
  joined k = try (leb (length T - at) (length x)) refl
    where
      try : (b : Bool) → leb (length T - at) (length x) ≡ b → fitting_part T at x ++ fitting_part T' next y ≡ fitting_part T at (x ++ y)
      try true q =
          let h : length T - at ≤ length x = leb-true _ _ q in
          let z : length T' - next ≡ 0 = omega (arith, k.position, k.kept.room, length-take-le (length T - at) x h) in
          ap (λ (n : ℕ). fitting_part T at x ++ take n y) z ∙ append-nil (fitting_part T at x) ∙ sym (take-append-le (length T - at) x y h)
      try false q =
          let h : length x < length T - at = leb-false _ _ q in
          let all : take (length T - at) x ≡ x = take_all (length T - at) x (omega arith) in
          let z : length T' - next ≡ length T - at - length x = omega (arith, k.position, k.kept.room, ap length all) in
          let e : length x + (length T - at - length x) ≡ length T - at = omega arith in
          ap₂ (λ (l : List ℕ) (n : ℕ). l ++ take n y) all z ∙ sym (take-append-add x y (length T - at - length x)) ∙ ap (λ (n : ℕ). take n (x ++ y)) e

  pub wrote_then : Wrote T T' at next x → Wrote T' T'' next end y → Wrote T T'' at end (x ++ y)
  wrote_then k l =
      record {
        kept = kept_then T T' T'' at next (wrote_onward k) k.kept l.kept;
        position = omega (arith, k.position, l.position, ap length (joined k), length-append (fitting_part T at x) (fitting_part T' next y));
        bytes = l.bytes ∙ ap (◌++ fitting_part T' next y) k.bytes ∙ append_assoc (take at T) (fitting_part T at x) (fitting_part T' next y) ∙ ap (take at T ++◌) (joined k);
      }

-- The bytes of a word, one after another: one more.
module _ (T T' : List ℕ) (at end n : ℕ) (word : List ℕ) (w : Wrote T T' at end (take n word)) where
  pub wrote_next : n < length word → (T'' : List ℕ) (next : ℕ) → Wrote T' T'' end next (get_or word n 0 ∷ []) → Wrote T T'' at next (take (n + 1) word)
  wrote_next h T'' next v = subst (Wrote T T'' at next) (sym (ap (λ (m : ℕ). take m word) (add-one n) ∙ take-suc word n 0 h)) (wrote_then T T' T'' at end next (take n word) (get_or word n 0 ∷ []) w v)

-- What was written at a position after something else was, from the same position on, is all that counts.
pub wrote_over : (T T' T'' : List ℕ) (at end : ℕ) (x : List ℕ) → KeptBefore T T' at → Wrote T' T'' at end x → Wrote T T'' at end x
wrote_over T T' T'' at end x k w =
    let same : fitting_part T' at x ≡ fitting_part T at x = ap (λ (n : ℕ). take (n - at) x) k.room in
    record {
      kept = kept_then T T' T'' at at (omega arith) k w.kept;
      position = w.position ∙ ap (λ (l : List ℕ). at + length l) same;
      bytes = w.bytes ∙ ap₂ ◌++◌ k.before same;
    }
