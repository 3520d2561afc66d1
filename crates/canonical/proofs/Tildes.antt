-- A clause's text is without `~` where every literal is printed in full, and only there.
use mathlib.Core.Path.{◌≡◌, refl, ap, ◌∙◌}
use mathlib.Core.Bool.{Bool, true, false}
use mathlib.Core.List.{List, [], ◌∷◌, ◌++◌}
use Prim.Native.Nat.{ℕ, zero, suc, ◌+◌, ◌/◌, ◌%◌, ◌<◌}
use native.Mathlib.Omega.{arith}
use lib.Dec.{eqb, leb, ltb}
use borrow.Author.Tests.{ltb-true, leb-true, le-leb, ne_eqb}
use Rattle.record.specs.Record.{pick}
use Rattle.unification.specs.Term.{Term, Terms, var, app, nil, cons, occurrences}
use Rattle.unification.proofs.Lists.{Each}
use Rattle.unification.proofs.Tests.{true_not_false}
use Rattle.derivation.specs.Written.{Clause}
use Rattle.verdict.specs.Text.{digits, decimal, sign_text, term_text, arguments_text, further_text, literal_text, literals_text}
use Rattle.appearance.specs.Appearance.{position, all_shown, number_in, canonical_text}
use Rattle.canonical.specs.SameClause.{has_tilde, AllPrinted}

-- A literal is printed in full, and not as `~`.
abbrev pub Printed : {X : Type 0} → Bool × Term X → Type 0
Printed l = leb (occurrences l.1) 64 ≡ true

-- ── What is printed in full has none ──
other_byte : (b : ℕ) (x : List ℕ) → eqb b 126 ≡ false → has_tilde x ≡ false → has_tilde (b ∷ x) ≡ false
other_byte b x e h = ap (λ (t : Bool). pick t true (has_tilde x)) e ∙ h

no_tilde_append : (x y : List ℕ) → has_tilde x ≡ false → has_tilde y ≡ false → has_tilde (x ++ y) ≡ false
no_tilde_append [] y h k = k
no_tilde_append (b ∷ x) y h k = try (eqb b 126) h (λ g. no_tilde_append x y g k)
  where
    try : (t : Bool) → pick t true (has_tilde x) ≡ false → (has_tilde x ≡ false → has_tilde (x ++ y) ≡ false) → pick t true (has_tilde (x ++ y)) ≡ false
    try true g ih = g
    try false g ih = ih g

digit_other : (n : ℕ) → n < 10 → eqb (48 + n) 126 ≡ false
digit_other n h = ne_eqb (48 + n) 126 (λ e. omega (arith, e, h))

digits_no_tilde : (k n : ℕ) (x : List ℕ) → has_tilde x ≡ false → has_tilde (digits k n x) ≡ false
digits_no_tilde zero n x h = h
digits_no_tilde (suc k) n x h = try (ltb n 10) refl (λ y g. digits_no_tilde k (n / 10) y g)
  where
    try : (b : Bool) → ltb n 10 ≡ b → ((y : List ℕ) → has_tilde y ≡ false → has_tilde (digits k (n / 10) y) ≡ false)
        → has_tilde (pick b ((48 + n) ∷ x) (digits k (n / 10) ((48 + n % 10) ∷ x))) ≡ false
    try true q ih = other_byte (48 + n) x (digit_other n (ltb-true n 10 q)) h
    try false q ih = ih ((48 + n % 10) ∷ x) (other_byte (48 + n % 10) x (digit_other (n % 10) (omega arith)) h)

decimal_no_tilde : (n : ℕ) → has_tilde (decimal n) ≡ false
decimal_no_tilde n = digits_no_tilde 5 n [] refl

module _ {X : Type 0} (name : X → List ℕ) (names : (x : X) → has_tilde (name x) ≡ false) where
  mutual
    term_no_tilde : (t : Term X) → has_tilde (term_text name t) ≡ false
    term_no_tilde (var x) = other_byte 118 (name x) refl (names x)
    term_no_tilde (app s ts) = other_byte 115 (decimal s ++ arguments_text name ts) refl (no_tilde_append (decimal s) (arguments_text name ts) (decimal_no_tilde s) (arguments_no_tilde ts))

    arguments_no_tilde : (ts : Terms X) → has_tilde (arguments_text name ts) ≡ false
    arguments_no_tilde nil = refl
    arguments_no_tilde (cons t ts) = other_byte 40 (term_text name t ++ further_text name ts) refl (no_tilde_append (term_text name t) (further_text name ts) (term_no_tilde t) (further_no_tilde ts))

    further_no_tilde : (ts : Terms X) → has_tilde (further_text name ts) ≡ false
    further_no_tilde nil = refl
    further_no_tilde (cons t ts) = other_byte 44 (term_text name t ++ further_text name ts) refl (no_tilde_append (term_text name t) (further_text name ts) (term_no_tilde t) (further_no_tilde ts))

  sign_other : (s : Bool) → eqb (sign_text s) 126 ≡ false
  sign_other true = refl
  sign_other false = refl

  literal_no_tilde : (l : Bool × Term X) → Printed l → has_tilde (literal_text name l) ≡ false
  literal_no_tilde l h =
      other_byte (sign_text l.0) (pick (leb (occurrences l.1) 64) (term_text name l.1) (126 ∷ [])) (sign_other l.0)
      (ap (λ (t : Bool). has_tilde (pick t (term_text name l.1) (126 ∷ []))) h ∙ term_no_tilde l.1)

  no_tilde : (ls : List (Bool × Term X)) → Each Printed ls → has_tilde (literals_text name ls) ≡ false
  no_tilde [] h = refl
  no_tilde (l ∷ ls) h =
      other_byte 32 (literal_text name l ++ literals_text name ls) refl
      (no_tilde_append (literal_text name l) (literals_text name ls) (literal_no_tilde l h.0) (no_tilde ls h.1))

-- ── What has none is printed in full ──
literal_printed : {X : Type 0} (name : X → List ℕ) (l : Bool × Term X) → has_tilde (literal_text name l) ≡ false → Printed l
literal_printed name l h = sign l.0 h
  where
    atom : (t : Bool) → has_tilde (pick t (term_text name l.1) (126 ∷ [])) ≡ false → t ≡ true
    atom true k = refl
    atom false k = absurd (true_not_false refl k)

    sign : (s : Bool) → has_tilde (sign_text s ∷ pick (leb (occurrences l.1) 64) (term_text name l.1) (126 ∷ [])) ≡ false → Printed l
    sign true k = atom (leb (occurrences l.1) 64) k
    sign false k = atom (leb (occurrences l.1) 64) k

tilde_parts : (x y : List ℕ) → has_tilde (x ++ y) ≡ false → (has_tilde x ≡ false) × (has_tilde y ≡ false)
tilde_parts [] y h = (refl, h)
tilde_parts (b ∷ x) y h = try (eqb b 126) h (λ k. tilde_parts x y k)
  where
    try : (t : Bool) → pick t true (has_tilde (x ++ y)) ≡ false → (has_tilde (x ++ y) ≡ false → (has_tilde x ≡ false) × (has_tilde y ≡ false)) → (pick t true (has_tilde x) ≡ false) × (has_tilde y ≡ false)
    try true k ih = absurd (true_not_false refl k)
    try false k ih = ih k

pub all_printed : {X : Type 0} (name : X → List ℕ) (ls : List (Bool × Term X)) → has_tilde (literals_text name ls) ≡ false → Each Printed ls
all_printed name [] h = tt
all_printed name (l ∷ ls) h =
    let p = tilde_parts (literal_text name l) (literals_text name ls) h in
    (literal_printed name l p.0, all_printed name ls p.1)

-- ── Both, of a clause ──
occurrences_at_most : (ls : Clause) → Each Printed ls → AllPrinted ls
occurrences_at_most [] h = tt
occurrences_at_most (l ∷ ls) h = (leb-true (occurrences l.1) 64 h.0, occurrences_at_most ls h.1)

at_most_printed : (ls : Clause) → AllPrinted ls → Each Printed ls
at_most_printed [] h = tt
at_most_printed (l ∷ ls) h = (le-leb (occurrences l.1) 64 h.0, at_most_printed ls h.1)

pub tilde_told : (ls : Clause) → (has_tilde (canonical_text ls) ≡ false → AllPrinted ls) × (AllPrinted ls → has_tilde (canonical_text ls) ≡ false)
tilde_told ls = (
  λ h. occurrences_at_most ls (all_printed (number_in (all_shown [] ls)) ls h),
  λ h. no_tilde (number_in (all_shown [] ls)) (λ x. decimal_no_tilde (position (all_shown [] ls) x)) ls (at_most_printed ls h),
)
