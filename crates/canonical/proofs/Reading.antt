-- The text of a term over numbers, and of a clause over them without `~`, can be read back in one way.
use mathlib.Core.Path.{◌≡◌, refl, sym, ap, ap₂, ◌∙◌}
use mathlib.Core.Bool.{Bool, true, false}
use mathlib.Core.List.{List, [], ◌∷◌, ◌++◌, append_assoc, append-nil}
use Prim.Native.Nat.{ℕ}
use native.Mathlib.Omega.{arith}
use Rattle.record.specs.Record.{pick}
use Rattle.unification.specs.Term.{Term, Terms, var, app, nil, cons}
use Rattle.unification.proofs.Lists.{Each}
use Rattle.verdict.specs.Text.{decimal, sign_text, term_text, arguments_text, further_text, literal_text, literals_text}
use Rattle.canonical.specs.SameClause.{has_tilde, FiveDigits, AllFiveDigits, FiveDigitLiterals, ReadInOneWay}
use Rattle.canonical.proofs.Digits.{NoDigit, decimal_once}
use Rattle.canonical.proofs.Tildes.{Printed, all_printed}

-- ── Terms ──

-- What follows a term: nothing, or neither a digit nor an opening parenthesis.
abbrev pub Boundary : List ℕ → Type 0
Boundary [] = Unit {0}
Boundary (b ∷ bs) = NoDigit (b ∷ bs) × ¬ (b ≡ 40)

boundary_no_digit : (x : List ℕ) → Boundary x → NoDigit x
boundary_no_digit [] h = tt
boundary_no_digit (b ∷ bs) h = h.0

no_parenthesis : (x y : List ℕ) → Boundary x → x ≡ 40 ∷ y → ⊥
no_parenthesis [] y h e = let z : ◌≡◌ {A = ℕ} 0 1 = cc in omega arith
no_parenthesis (b ∷ bs) y h e = h.1 (cc)

arguments_no_digit : (ts : Terms ℕ) (x : List ℕ) → Boundary x → NoDigit (arguments_text decimal ts ++ x)
arguments_no_digit nil x h = boundary_no_digit x h
arguments_no_digit (cons t ts) x h = refl

further_boundary : (ts : Terms ℕ) (x : List ℕ) → Boundary (further_text decimal ts ++ x)
further_boundary nil x = (refl, λ e. omega arith)
further_boundary (cons t ts) x = (refl, λ e. omega arith)

tail_same : (a b : ℕ) (x y : List ℕ) → ◌≡◌ {A = List ℕ} (a ∷ x) (b ∷ y) → x ≡ y
tail_same a b x y e = cc

head_same : (a b : ℕ) (x y : List ℕ) → ◌≡◌ {A = List ℕ} (a ∷ x) (b ∷ y) → a ≡ b
head_same a b x y e = cc

-- Two texts in two parts each, the first after a byte: the same without it.
after_byte : (a : ℕ) (p q x y u w : List ℕ) → ◌≡◌ {A = List ℕ} ((a ∷ (p ++ q)) ++ x) ((a ∷ (u ++ w)) ++ y) → p ++ (q ++ x) ≡ u ++ (w ++ y)
after_byte a p q x y u w e = sym (append_assoc p q x) ∙ tail_same a a ((p ++ q) ++ x) ((u ++ w) ++ y) e ∙ append_assoc u w y

mutual
  pub term_once : (t u : Term ℕ) (x y : List ℕ) → FiveDigits t → FiveDigits u → Boundary x → Boundary y → term_text decimal t ++ x ≡ term_text decimal u ++ y → (t ≡ u) × (x ≡ y)
  term_once (var n) (var m) x y h k a b e =
      let r = decimal_once n m x y h k (boundary_no_digit x a) (boundary_no_digit y b) (tail_same 118 118 (decimal n ++ x) (decimal m ++ y) e) in
      (ap var r.0, r.1)
  term_once (var n) (app s us) x y h k a b e = absurd (omega (arith, head_same 118 115 (decimal n ++ x) ((decimal s ++ arguments_text decimal us) ++ y) e))
  term_once (app s ts) (var m) x y h k a b e = absurd (omega (arith, head_same 115 118 ((decimal s ++ arguments_text decimal ts) ++ x) (decimal m ++ y) e))
  term_once (app s ts) (app r us) x y h k a b e =
      let d = decimal_once s r (arguments_text decimal ts ++ x) (arguments_text decimal us ++ y) h.0 k.0 (arguments_no_digit ts x a) (arguments_no_digit us y b)
      (after_byte 115 (decimal s) (arguments_text decimal ts) x y (decimal r) (arguments_text decimal us) e) in
      let f = arguments_once ts us x y h.1 k.1 a b d.1 in
      (ap₂ app d.0 f.0, f.1)

  arguments_once : (ts us : Terms ℕ) (x y : List ℕ) → AllFiveDigits ts → AllFiveDigits us → Boundary x → Boundary y → arguments_text decimal ts ++ x ≡ arguments_text decimal us ++ y → (ts ≡ us) × (x ≡ y)
  arguments_once nil nil x y h k a b e = (refl, e)
  arguments_once nil (cons u us) x y h k a b e = absurd (no_parenthesis x ((term_text decimal u ++ further_text decimal us) ++ y) a e)
  arguments_once (cons t ts) nil x y h k a b e = absurd (no_parenthesis y ((term_text decimal t ++ further_text decimal ts) ++ x) b (sym e))
  arguments_once (cons t ts) (cons u us) x y h k a b e =
      let d = term_once t u (further_text decimal ts ++ x) (further_text decimal us ++ y) h.0 k.0 (further_boundary ts x) (further_boundary us y)
      (after_byte 40 (term_text decimal t) (further_text decimal ts) x y (term_text decimal u) (further_text decimal us) e) in
      let f = further_once ts us x y h.1 k.1 d.1 in
      (ap₂ cons d.0 f.0, f.1)

  further_once : (ts us : Terms ℕ) (x y : List ℕ) → AllFiveDigits ts → AllFiveDigits us → further_text decimal ts ++ x ≡ further_text decimal us ++ y → (ts ≡ us) × (x ≡ y)
  further_once nil nil x y h k e = (refl, tail_same 41 41 x y e)
  further_once nil (cons u us) x y h k e = absurd (omega (arith, head_same 41 44 x ((term_text decimal u ++ further_text decimal us) ++ y) e))
  further_once (cons t ts) nil x y h k e = absurd (omega (arith, head_same 44 41 ((term_text decimal t ++ further_text decimal ts) ++ x) y e))
  further_once (cons t ts) (cons u us) x y h k e =
      let d = term_once t u (further_text decimal ts ++ x) (further_text decimal us ++ y) h.0 k.0 (further_boundary ts x) (further_boundary us y)
      (after_byte 44 (term_text decimal t) (further_text decimal ts) x y (term_text decimal u) (further_text decimal us) e) in
      let f = further_once ts us x y h.1 k.1 d.1 in
      (ap₂ cons d.0 f.0, f.1)

-- ── Clauses ──

printed_text : {X : Type 0} (name : X → List ℕ) (l : Bool × Term X) → Printed l → literal_text name l ≡ sign_text l.0 ∷ term_text name l.1
printed_text name l h = ap (λ (b : Bool). sign_text l.0 ∷ pick b (term_text name l.1) (126 ∷ [])) h

sign_once : (a b : Bool) → sign_text a ≡ sign_text b → a ≡ b
sign_once true true e = refl
sign_once true false e = absurd (omega arith)
sign_once false true e = absurd (omega arith)
sign_once false false e = refl

literals_boundary : (ls : List (Bool × Term ℕ)) → Boundary (literals_text decimal ls)
literals_boundary [] = tt
literals_boundary (l ∷ ls) = (refl, λ e. omega arith)

literal_once : (l m : Bool × Term ℕ) (x y : List ℕ) → FiveDigits l.1 → FiveDigits m.1 → Boundary x → Boundary y → Printed l → Printed m → literal_text decimal l ++ x ≡ literal_text decimal m ++ y → (l ≡ m) × (x ≡ y)
literal_once l m x y h k a b p q e =
    let f : ◌≡◌ {A = List ℕ} (sign_text l.0 ∷ (term_text decimal l.1 ++ x)) (sign_text m.0 ∷ (term_text decimal m.1 ++ y))
    = ap (◌++ x) (sym (printed_text decimal l p)) ∙ e ∙ ap (◌++ y) (printed_text decimal m q) in
    let s = sign_once l.0 m.0 (head_same (sign_text l.0) (sign_text m.0) (term_text decimal l.1 ++ x) (term_text decimal m.1 ++ y) f) in
    let t = term_once l.1 m.1 x y h k a b (tail_same (sign_text l.0) (sign_text m.0) (term_text decimal l.1 ++ x) (term_text decimal m.1 ++ y) f) in
    (λ i. (s i, t.0 i), t.1)

clause_once : (ls ms : List (Bool × Term ℕ)) → FiveDigitLiterals ls → FiveDigitLiterals ms → Each Printed ls → Each Printed ms → literals_text decimal ls ≡ literals_text decimal ms → ls ≡ ms
clause_once [] [] h k p q e = refl
clause_once [] (m ∷ ms) h k p q e = let z : ◌≡◌ {A = ℕ} 0 1 = cc in absurd (omega arith)
clause_once (l ∷ ls) [] h k p q e = let z : ◌≡◌ {A = ℕ} 0 1 = cc in absurd (omega arith)
clause_once (l ∷ ls) (m ∷ ms) h k p q e =
    let d = literal_once l m (literals_text decimal ls) (literals_text decimal ms) h.0 k.0 (literals_boundary ls) (literals_boundary ms) p.0 q.0
    (tail_same 32 32 (literal_text decimal l ++ literals_text decimal ls) (literal_text decimal m ++ literals_text decimal ms) e) in
    ap₂ (λ (n : Bool × Term ℕ) (ns : List (Bool × Term ℕ)). n ∷ ns) d.0 (clause_once ls ms h.1 k.1 p.1 q.1 d.1)

pub read_in_one_way_lem : ReadInOneWay
read_in_one_way_lem = record {
  term = λ t u h k e. (term_once t u [] [] h k tt tt (append-nil (term_text decimal t) ∙ e ∙ sym (append-nil (term_text decimal u)))).0;
  clause = λ ls ms h k e n. clause_once ls ms h k (all_printed decimal ls n) (all_printed decimal ms (ap has_tilde (sym e) ∙ n)) e;
}
