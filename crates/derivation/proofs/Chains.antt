-- A chain of links in a resolvent is no longer than the longer of its parents' chains.
use mathlib.Core.Path.{◌≡◌, refl, sym, ap, ◌∙◌, subst}
use mathlib.Core.Bool.{Bool, true, false}
use mathlib.Core.Option.{Option, none, some}
use Prim.Native.Nat.{ℕ, zero, suc, ◌+◌, ◌-◌, ◌≤◌, ◌<◌}
use native.Mathlib.Omega.{arith}
use lib.Dec.{leb, leb→le}
use Rattle.unification.specs.Environment.{follow, Environment, unbound, link, View, applied, Ends, view_variable, view_row, onward}
use Rattle.unification.specs.Row.{variable, Row, application, Expression}
use Rattle.unification.proofs.Chains.{Short}
use Rattle.unification.proofs.Ranges.{IndicesKept}
use Rattle.unification.proofs.Tests.{to_t}
use Rattle.derivation.specs.Derivation.{raise, raise_answer, joined}
use Rattle.derivation.proofs.Literals.{In, leb_false_lt, joined_left, joined_right}

link_injective : {d e : Expression} → link d ≡ link e → d ≡ e
link_injective p = cc

abbrev raised_view : ℕ → View → View
raised_view m (unbound v e) = unbound v (raise m e)
raised_view m (applied s xs e) = applied s xs (raise m e)
raised_view m (link e) = link (raise m e)

not_raise : (m : ℕ) (w : View) → Ends w → Ends (raised_view m w)
not_raise m (unbound v e) h = tt
not_raise m (applied s xs e) h = tt
not_raise m (link e) h = h

module _ (row_ok : ℕ → Type 0) (row : ℕ → Row) (m n : ℕ) (ρ ρ' : Environment) (kl : IndicesKept (In m) ρ) (kr : IndicesKept (In n) ρ') where
  abbrev J : Environment
  J = joined m ρ ρ'

  -- in the left parent
  view_left : (e : Expression) → e.1 ≤ m → (w : Row) → view_row w J e ≡ view_row w ρ e
  view_left e h (variable v) = ap (λ o. view_variable o v e) (joined_left m ρ ρ' e h)
  view_left e h (application s xs) = refl

  link_left : (e : Expression) (w : Row) (d : Expression) → view_row w ρ e ≡ link d → d.1 ≤ m
  link_left e (variable v) d q = try (ρ e) refl q
    where
      try : (o : Option Expression) → ρ e ≡ o → view_variable o v e ≡ link d → d.1 ≤ m
      try none p r = absurd (let z : ◌≡◌ {A = ℕ} 0 1 = cc in omega arith)
      try (some c) p r = (kl e d (p ∙ ap some (link_injective r))).1.1
  link_left e (application s xs) d q = absurd (let z : ◌≡◌ {A = ℕ} 0 1 = cc in omega arith)

  short_left : (k : ℕ) (e : Expression) → e.1 ≤ m → Ends (follow row k ρ e) → Ends (follow row k J e)
  short_left zero e h q = subst Ends (sym (view_left e h (row e.0))) q
  short_left (suc k) e h q = subst (λ (w : View). Ends (onward (λ d. follow row k J d) w)) (sym (view_left e h (row e.0))) (try (λ d l z. short_left k d l z) (view_row (row e.0) ρ e) refl q)
    where
      try : ((d : Expression) → d.1 ≤ m → Ends (follow row k ρ d) → Ends (follow row k J d)) → (w : View) → view_row (row e.0) ρ e ≡ w → Ends (onward (λ d. follow row k ρ d) w) → Ends (onward (λ d. follow row k J d) w)
      try ih (unbound v d) p z = tt
      try ih (applied s xs d) p z = tt
      try ih (link d) p z = ih d (link_left e (row e.0) d p) z

  -- in the right parent
  view_right : (r i : ℕ) → 1 ≤ i → (w : Row) → view_row w J (r, m + i) ≡ raised_view m (view_row w ρ' (r, i))
  view_right r i h (variable v) = ap (λ o. view_variable o v (r, m + i)) (joined_right m ρ ρ' r i h) ∙ try (ρ' (r, i))
    where
      try : (o : Option Expression) → view_variable (raise_answer m o) v (r, m + i) ≡ raised_view m (view_variable o v (r, i))
      try none = refl
      try (some d) = refl
  view_right r i h (application s xs) = refl

  link_right : (r i : ℕ) (w : Row) (d : Expression) → view_row w ρ' (r, i) ≡ link d → 1 ≤ d.1
  link_right r i (variable v) d q = try (ρ' (r, i)) refl q
    where
      try : (o : Option Expression) → ρ' (r, i) ≡ o → view_variable o v (r, i) ≡ link d → 1 ≤ d.1
      try none p z = absurd (let y : ◌≡◌ {A = ℕ} 0 1 = cc in omega arith)
      try (some c) p z = (kr (r, i) d (p ∙ ap some (link_injective z))).1.0
  link_right r i (application s xs) d q = absurd (let z : ◌≡◌ {A = ℕ} 0 1 = cc in omega arith)

  short_right : (k r i : ℕ) → 1 ≤ i → Ends (follow row k ρ' (r, i)) → Ends (follow row k J (r, m + i))
  short_right zero r i h q = subst Ends (sym (view_right r i h (row r))) (not_raise m (view_row (row r) ρ' (r, i)) q)
  short_right (suc k) r i h q = subst (λ (w : View). Ends (onward (λ d. follow row k J d) w)) (sym (view_right r i h (row r))) (try (λ r' j l z. short_right k r' j l z) (view_row (row r) ρ' (r, i)) refl q)
    where
      try : ((r' j : ℕ) → 1 ≤ j → Ends (follow row k ρ' (r', j)) → Ends (follow row k J (r', m + j))) → (w : View) → view_row (row r) ρ' (r, i) ≡ w → Ends (onward (λ d. follow row k ρ' d) w) → Ends (onward (λ d. follow row k J d) (raised_view m w))
      try ih (unbound v d) p z = tt
      try ih (applied s xs d) p z = tt
      try ih (link d) p z = ih d.0 d.1 (link_right r i (row r) d p) z

  pub short_joined : (k : ℕ) → Short row_ok row k ρ → Short row_ok row k ρ' → Short row_ok row k (joined m ρ ρ')
  short_joined k h g e l = try (leb e.1 m) refl
    where
      try : (b : Bool) → leb e.1 m ≡ b → Ends (follow row k J e)
      try true q = short_left k e (leb→le e.1 m (to_t (leb e.1 m) q)) (h e l)
      try false q =
          let b : m < e.1 = leb_false_lt e.1 m q in
          let r : m + (e.1 - m) ≡ e.1 = omega arith in
          subst (λ (i : ℕ). Ends (follow row k J (e.0, i))) r (short_right k e.0 (e.1 - m) (omega arith) (g (e.0, e.1 - m) l))
