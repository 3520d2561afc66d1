-- What the days beside a record do to its step: they refuse it, or it is the step of the record without them. And the tests of the program in turn.
use mathlib.Core.Path.{◌≡◌, refl, sym, ap, ◌∙◌}
use mathlib.Core.Bool.{Bool, true, false, ◌&&◌}
use mathlib.Core.List.{List}
use Prim.Native.Nat.{ℕ, ◌≤◌, ◌<◌}
use native.Mathlib.Omega.{arith}
use lib.Dec.{eqb, leb}
use borrow.Author.Tests.{ne_eqb, le-leb, lt-leb}
use Rattle.record.specs.Record.{pick, Record, otherKind, Kind, symbolKind, variableKind, applicationKind, inputKind, resolveKind, factorKind, severalKind, windowKind, kind_numbered, kind_of, field_of, decoded, decoded_in}
use Rattle.verdict.specs.Refusal.{badKind, outOfRange, kind_of_record}
use Rattle.verdict.specs.State.{State}
use Rattle.verdict.specs.Step.{refused, require, step}
use Rattle.demands.specs.Conditions.{kind_below, kind_above, window_in_new_form, UnknownKind}
use Rattle.demands.proofs.RangeTests.{KindOf, of_kind_lem, other_kind, kind_at, equal, unequal, at_most}
use Rattle.demands.proofs.Resolution.{at_kind}
use Rattle.derivation.proofs.Literals.{leb_false_lt}
use Rattle.beside.specs.Beside.{refused_new_days, refused_days}
use Rattle.record.specs.declared.Form.{Form}
use Rattle.record.specs.declared.Form.TheVariants.{Old, New}
use Rattle.std.specs.Prelude.{Result, Ok, Err}
use Rattle.reasons.specs.Reasons.{meant}
use Rattle.reasons.proofs.Refusals.{err_not_ok, same_err}
use Rattle.reasons.specs.declared.Reason.{Reason}
use Rattle.reasons.specs.declared.Reason.TheVariants.{BadKind, OutOfRange}

-- ── The tests in turn ──
module _ (p : List ℕ) {k : ℕ} (kind : k ≡ kind_of p) where
  pub kind_zero : k < 1 → Err BadKind ≡ refused_new_days p
  unfolding refused_new_days
  kind_zero h = rw (← kind, lt-leb 1 k h)

  pub kind_high : 1 ≤ k → 7 < k → Err BadKind ≡ refused_new_days p
  unfolding refused_new_days
  kind_high n h = rw (← kind, le-leb 1 k n, lt-leb k 7 h)

  pub kind_input : k ≡ 4 → Ok tt ≡ refused_new_days p
  unfolding refused_new_days
  kind_input h = rw (← kind, h)

  module _ (n : 1 ≤ k) (m : k ≤ 7) (i : ¬ (k ≡ 4)) {f : ℕ} (first : f ≡ field_of p 7) where
    pub first_left : ¬ (f ≡ 0) → Err OutOfRange ≡ refused_new_days p
    unfolding refused_new_days
    first_left z = rw (← kind, le-leb 1 k n, le-leb k 7 m, ne_eqb k 4 i, ← first, ne_eqb f 0 z)

    pub last_left : {l : ℕ} → f ≡ 0 → l ≡ field_of p 8 → ¬ (l ≡ 0) → Err OutOfRange ≡ refused_new_days p
    unfolding refused_new_days
    last_left {l} e last z = rw (← kind, le-leb 1 k n, le-leb k 7 m, ne_eqb k 4 i, ← first, e, ← last, ne_eqb l 0 z)

    pub both_zero : {l : ℕ} → f ≡ 0 → l ≡ field_of p 8 → l ≡ 0 → Ok tt ≡ refused_new_days p
    unfolding refused_new_days
    both_zero {l} e last z = rw (← kind, le-leb 1 k n, le-leb k 7 m, ne_eqb k 4 i, ← first, e, ← last, z)

-- ── What they mean ──
-- Of a record of the new form: it is refused, or its days are zero, or it is an input clause.
data Beside (part : List ℕ) (q : Result (Unit {0}) Reason) : Type 0 where
  no_kind : q ≡ Err BadKind → UnknownKind (decoded_in New part) → Beside part q
  days_there : q ≡ Err OutOfRange → 1 ≤ kind_of part → kind_of part ≤ 7 → ¬ (kind_of part ≡ 4) → (eqb (field_of part 7) 0 && eqb (field_of part 8) 0) ≡ false → Beside part q
  days_zero : q ≡ Ok tt → 1 ≤ kind_of part → kind_of part ≤ 7 → ¬ (kind_of part ≡ 4) → (eqb (field_of part 7) 0 && eqb (field_of part 8) 0) ≡ true → Beside part q
  is_input : q ≡ Ok tt → kind_of part ≡ 4 → Beside part q

beside : (part : List ℕ) → Beside part (refused_new_days part)
unfolding refused_new_days
beside part = try (leb 1 (kind_of part)) refl (leb (kind_of part) 7) refl (eqb (kind_of part) 4) refl (eqb (field_of part 7) 0 && eqb (field_of part 8) 0) refl
  where
    above : 7 < kind_of part → UnknownKind (decoded_in New part)
    above l = by (eqb (kind_of part) 8) refl
      where
        by : (b : Bool) → eqb (kind_of part) 8 ≡ b → UnknownKind (decoded_in New part)
        by true q = window_in_new_form (equal (kind_of part) 8 q) refl
        by false q = let n = unequal (kind_of part) 8 q in kind_above (omega arith)

    try : (a : Bool) → leb 1 (kind_of part) ≡ a → (b : Bool) → leb (kind_of part) 7 ≡ b → (c : Bool) → eqb (kind_of part) 4 ≡ c → (d : Bool) → (eqb (field_of part 7) 0 && eqb (field_of part 8) 0) ≡ d → Beside part (pick (a && b) (pick c (Ok tt) (pick d (Ok tt) (Err OutOfRange))) (Err BadKind))
    try false p b q c r d s = no_kind refl (kind_below (leb_false_lt 1 (kind_of part) p))
    try true p false q c r d s = no_kind refl (above (leb_false_lt (kind_of part) 7 q))
    try true p true q true r d s = is_input refl (equal (kind_of part) 4 r)
    try true p true q false r true s = days_zero refl (at_most 1 (kind_of part) p) (at_most (kind_of part) 7 q) (unequal (kind_of part) 4 r) s
    try true p true q false r false s = days_there refl (at_most 1 (kind_of part) p) (at_most (kind_of part) 7 q) (unequal (kind_of part) 4 r) s

module _ (S : State) (k : ℕ) (part : List ℕ) where
  abbrev new : Record
  new = decoded_in New part

  unknown_step : UnknownKind new → step S k new ≡ refused badKind
  unfolding require
  unknown_step u = at_kind S k new otherKind (other_kind new u)

  -- Days that are not zero, of each kind that has none.
  module _ (low : 1 ≤ kind_of part) (high : kind_of part ≤ 7) (other : ¬ (kind_of part ≡ 4)) where
    days_refuse : (kind : Kind) → KindOf kind new → kind_of_record new ≡ kind → (eqb (field_of part 7) 0 && eqb (field_of part 8) 0) ≡ false → step S k new ≡ refused outOfRange
    unfolding require
    days_refuse symbolKind e m z = at_kind S k new symbolKind m ∙ rw z refl
    days_refuse variableKind e m z = at_kind S k new variableKind m ∙ rw z refl
    days_refuse applicationKind e m z = at_kind S k new applicationKind m ∙ rw z refl
    days_refuse inputKind e m z = absurd (other e)
    days_refuse resolveKind e m z = at_kind S k new resolveKind m ∙ rw z refl
    days_refuse severalKind e m z = at_kind S k new severalKind m ∙ rw z refl
    days_refuse factorKind e m z = at_kind S k new factorKind m ∙ rw z refl
    days_refuse windowKind e m z = absurd (omega (arith, e.0))
    days_refuse otherKind (kind_below l) m z = absurd (omega arith)
    days_refuse otherKind (kind_above l) m z = absurd (omega arith)
    days_refuse otherKind (window_in_new_form e d) m z = absurd (omega arith)

    -- Zero days change nothing.
    days_pass : (kind : Kind) → KindOf kind new → kind_of_record new ≡ kind → kind_of_record (decoded part) ≡ kind → (eqb (field_of part 7) 0 && eqb (field_of part 8) 0) ≡ true → step S k new ≡ step S k (decoded part)
    days_pass symbolKind e m n z = at_kind S k new symbolKind m ∙ rw z refl ∙ sym (at_kind S k (decoded part) symbolKind n)
    days_pass variableKind e m n z = at_kind S k new variableKind m ∙ rw z refl ∙ sym (at_kind S k (decoded part) variableKind n)
    days_pass applicationKind e m n z = at_kind S k new applicationKind m ∙ rw z refl ∙ sym (at_kind S k (decoded part) applicationKind n)
    days_pass inputKind e m n z = absurd (other e)
    days_pass resolveKind e m n z = at_kind S k new resolveKind m ∙ rw z refl ∙ sym (at_kind S k (decoded part) resolveKind n)
    days_pass severalKind e m n z = at_kind S k new severalKind m ∙ rw z refl ∙ sym (at_kind S k (decoded part) severalKind n)
    days_pass factorKind e m n z = at_kind S k new factorKind m ∙ rw z refl ∙ sym (at_kind S k (decoded part) factorKind n)
    days_pass windowKind e m n z = absurd (omega (arith, e.0))
    days_pass otherKind (kind_below l) m n z = absurd (omega arith)
    days_pass otherKind (kind_above l) m n z = absurd (omega arith)
    days_pass otherKind (window_in_new_form e d) m n z = absurd (omega arith)

    same_kind : kind_of_record (decoded part) ≡ kind_of_record new
    same_kind = sym (kind_at new (kind_of part) refl (ne_eqb (kind_of part) 8 (λ e. omega arith)))

-- A refusal is by the reason for which the step is refused.
pub days_refused : (form : Form) (S : State) (k : ℕ) (part : List ℕ) (r : Reason) → Err r ≡ refused_days form part → step S k (decoded_in form part) ≡ refused (meant r)
days_refused Old S k part r e = absurd (err_not_ok e)
days_refused New S k part r e = try (beside part)
  where
    try : Beside part (refused_new_days part) → step S k (decoded_in New part) ≡ refused (meant r)
    try (no_kind p u) = unknown_step S k part u ∙ sym (ap (λ (x : Reason). refused (meant x)) (same_err (e ∙ p)))
    try (days_there p l h o z) = days_refuse S k part l h o (kind_of_record (decoded_in New part)) (of_kind_lem (decoded_in New part) _ refl) refl z ∙ sym (ap (λ (x : Reason). refused (meant x)) (same_err (e ∙ p)))
    try (days_zero p l h o z) = absurd (err_not_ok (e ∙ p))
    try (is_input p z) = absurd (err_not_ok (e ∙ p))

-- Where there is none, the days matter to an input clause only.
pub days_plain : (form : Form) (part : List ℕ) → Ok tt ≡ refused_days form part → ¬ (kind_of part ≡ 4) → (S : State) (k : ℕ) → step S k (decoded_in form part) ≡ step S k (decoded part)
days_plain Old part e n S k = refl
days_plain New part e n S k = try (beside part)
  where
    try : Beside part (refused_new_days part) → step S k (decoded_in New part) ≡ step S k (decoded part)
    try (no_kind p u) = absurd (err_not_ok (sym (e ∙ p)))
    try (days_there p l h o z) = absurd (err_not_ok (sym (e ∙ p)))
    try (days_zero p l h o z) = days_pass S k part l h o (kind_of_record (decoded_in New part)) (of_kind_lem (decoded_in New part) _ refl) refl (same_kind S k part l h o) z
    try (is_input p z) = absurd (n z)

-- Where there is none, the kind is that of byte 0.
pub days_kind : (form : Form) (part : List ℕ) → Ok tt ≡ refused_days form part → kind_of_record (decoded_in form part) ≡ kind_numbered (kind_of part)
days_kind Old part e = refl
days_kind New part e = kind_at (decoded_in New part) (kind_of part) refl (ne_eqb (kind_of part) 8 (not_window (beside part)))
  where
    not_window : Beside part (refused_new_days part) → kind_of part ≡ 8 → ⊥
    not_window (no_kind p u) z = absurd (err_not_ok (sym (e ∙ p)))
    not_window (days_there p l h o y) z = omega arith
    not_window (days_zero p l h o y) z = omega arith
    not_window (is_input p y) z = omega arith
