-- A variable that occurs in a clause that is written out is an unbound one, whose row is a variable's and no repeat.
use mathlib.Core.Path.{◌≡◌, refl, sym, ap, ◌∙◌}
use mathlib.Core.Logic.{◌⊎◌, inl, inr}
use mathlib.Core.Bool.{Bool, true, false}
use mathlib.Core.Option.{Option, none, some}
use mathlib.Core.List.{List, [], ◌∷◌}
use Prim.Native.Nat.{ℕ}
use native.Mathlib.Omega.{arith}
use lib.Dec.{eqb, ltb}
use lib.ListN.{length}
use borrow.Author.Tests.{ltb-true, ltb-false}
use Rattle.record.specs.Record.{pick}
use Rattle.unification.specs.Environment.{Environment, Respects}
use Rattle.unification.specs.Repeated.{IsEarliest, earliest_row}
use Rattle.unification.specs.Row.{variable, Row, application, Expression, Variable, row_at, argument_terms, row_term, term_at, written_out}
use Rattle.unification.specs.Term.{Term, var, app, nil, apply, Variables, AllVariables}
use Rattle.unification.proofs.Lists.{Each}
use Rattle.unification.proofs.Repeats.{row_old, earliest_more, earliest_shorter, earliest_itself, earliest_or_not}
use Rattle.unification.proofs.Rows.{below_other}
use Rattle.unification.proofs.Solved.{Solved, factors_at, unbound_at}
use Rattle.unification.proofs.Terms.{apply_agree, variables_more, variables_both}
use Rattle.demands.proofs.Shared.{ArgumentsEarliest, SharedRows}
use Rattle.canonical.proofs.Relabelling.{unchanged}

-- Row r is a variable's, and no row before it equals it.
pub record VariableRow (ws : List Row) (r : ℕ) : Type 0 where
  pub earliest : IsEarliest ws r
  pub number : ℕ
  pub is_variable : row_at ws r ≡ variable number

-- ── In the terms of rows ──
old_row : (w : Row) (ws : List Row) (r : ℕ) → VariableRow ws r → VariableRow (w ∷ ws) r
old_row w ws r R = record { earliest = earliest_more w ws r R.earliest; number = R.number; is_variable = row_old w ws r R.earliest.there ∙ R.is_variable }

arguments_rows : (w : Row) (ws : List Row) → ((q : ℕ) → IsEarliest ws q → Variables (VariableRow ws) (term_at ws q)) → (xs : List ℕ) → Each (IsEarliest ws) xs → AllVariables (VariableRow (w ∷ ws)) (argument_terms (term_at ws) xs)
arguments_rows w ws ih [] h = tt
arguments_rows w ws ih (x ∷ xs) h = (variables_more (VariableRow ws) (VariableRow (w ∷ ws)) (old_row w ws) (term_at ws x) (ih x h.0), arguments_rows w ws ih xs h.1)

new_row : (w : Row) (ws : List Row) (r : ℕ) → ArgumentsEarliest ws w → IsEarliest (w ∷ ws) r → row_at (w ∷ ws) r ≡ w → ((q : ℕ) → IsEarliest ws q → Variables (VariableRow ws) (term_at ws q)) → Variables (VariableRow (w ∷ ws)) (row_term (term_at ws) r w)
new_row (variable v) ws r a E e ih = record { earliest = E; number = v; is_variable = e }
new_row (application s xs) ws r a E e ih = arguments_rows (application s xs) ws ih xs a

pub term_rows : (ws : List Row) → SharedRows ws → (r : ℕ) → IsEarliest ws r → Variables (VariableRow ws) (term_at ws r)
term_rows [] h r E = absurd (omega (arith, E.there))
term_rows (w ∷ ws) h r E = try (eqb r (length ws)) refl (λ q F. term_rows ws h.1 q F)
  where
    try : (b : Bool) → eqb r (length ws) ≡ b → ((q : ℕ) → IsEarliest ws q → Variables (VariableRow ws) (term_at ws q)) → Variables (VariableRow (w ∷ ws)) (pick b (row_term (term_at ws) r w) (term_at ws r))
    try true q ih = new_row w ws r h.0 E (ap (λ (b : Bool). pick b w (row_at ws r)) q) ih
    try false q ih = variables_more (VariableRow ws) (VariableRow (w ∷ ws)) (old_row w ws) (term_at ws r) (ih r (earliest_shorter w ws r (below_other r (length ws) q E.there) E))

-- ── It can be told ──
earliest_told : (ws : List Row) (r : ℕ) → IsEarliest ws r ⊎ ¬ IsEarliest ws r
earliest_told ws r = try (ltb r (length ws)) refl
  where
    there : IsEarliest ws r ⊎ ¬ (earliest_row ws r ≡ r) → IsEarliest ws r ⊎ ¬ IsEarliest ws r
    there (inl E) = inl E
    there (inr n) = inr (λ E. n (earliest_itself ws r E))

    try : (b : Bool) → ltb r (length ws) ≡ b → IsEarliest ws r ⊎ ¬ IsEarliest ws r
    try true q = there (earliest_or_not ws r (ltb-true r (length ws) q))
    try false q = inr (λ E. omega (arith, ltb-false r (length ws) q, E.there))

variable_told : (ws : List Row) (r : ℕ) → VariableRow ws r ⊎ ¬ VariableRow ws r
variable_told ws r = try (earliest_told ws r) (row_at ws r) refl
  where
    try : IsEarliest ws r ⊎ ¬ IsEarliest ws r → (w : Row) → row_at ws r ≡ w → VariableRow ws r ⊎ ¬ VariableRow ws r
    try (inl E) (variable v) q = inl (record { earliest = E; number = v; is_variable = q })
    try (inl E) (application s xs) q = inr (λ R. other (sym q ∙ R.is_variable))
      where
        other : {v : ℕ} → application s xs ≡ variable v → ⊥
        other e = let z : ◌≡◌ {A = ℕ} 0 1 = cc in omega arith
    try (inr n) w q = inr (λ R. n R.earliest)

-- ── In what is written out ──

-- Any substitution that respects the bindings factors through σ. One that is σ on bound variables and on those of which it is to be shown, and a
-- constant on all others, respects them, so no value has one of the others.
module _ (ws : List Row) (shared : SharedRows ws) (good : ℕ → Type 0) (ρ : Environment) (σ : Variable → Term Variable) (S : Solved good (term_at ws) ρ σ)
    (targets : (x : Variable) (e : Expression) → ρ x ≡ some e → IsEarliest ws e.0) where
  abbrev chosen : {r : ℕ} → VariableRow ws r ⊎ ¬ VariableRow ws r → Option Expression → Term Variable → Term Variable
  chosen (inl R) o t = t
  chosen (inr n) (some e) t = t
  chosen (inr n) none t = app 0 nil

  abbrev marked : Variable → Term Variable
  marked x = chosen (variable_told ws x.0) (ρ x) (σ x)

  marked_row : (x : Variable) → VariableRow ws x.0 → marked x ≡ σ x
  marked_row x R = try (variable_told ws x.0)
    where
      try : (d : VariableRow ws x.0 ⊎ ¬ VariableRow ws x.0) → chosen d (ρ x) (σ x) ≡ σ x
      try (inl U) = refl
      try (inr n) = absurd (n R)

  marked_bound : (x : Variable) (e : Expression) → ρ x ≡ some e → marked x ≡ σ x
  marked_bound x e p = try (variable_told ws x.0) (ρ x) p
    where
      try : (d : VariableRow ws x.0 ⊎ ¬ VariableRow ws x.0) (o : Option Expression) → o ≡ some e → chosen d o (σ x) ≡ σ x
      try (inl U) o q = refl
      try (inr n) (some f) q = refl
      try (inr n) none q = absurd (let z : ◌≡◌ {A = ℕ} 0 1 = cc in omega arith)

  marked_unbound : (x : Variable) → ρ x ≡ none → marked x ≡ var x → VariableRow ws x.0
  marked_unbound x p = try (variable_told ws x.0) (ρ x) p
    where
      try : (d : VariableRow ws x.0 ⊎ ¬ VariableRow ws x.0) (o : Option Expression) → o ≡ none → chosen d o (σ x) ≡ var x → VariableRow ws x.0
      try (inl R) o q e = R
      try (inr n) (some f) q e = absurd (let z : ◌≡◌ {A = ℕ} 0 1 = cc in omega arith)
      try (inr n) none q e = absurd (let z : ◌≡◌ {A = ℕ} 0 1 = cc in omega arith)

  marked_written : (e : Expression) → IsEarliest ws e.0 → written_out (term_at ws) marked e ≡ written_out (term_at ws) σ e
  marked_written e E =
      apply_agree (λ v. marked (v, e.1)) (λ v. σ (v, e.1)) (term_at ws e.0)
      (variables_more (VariableRow ws) (λ v. marked (v, e.1) ≡ σ (v, e.1)) (λ v R. marked_row (v, e.1) R) (term_at ws e.0) (term_rows ws shared e.0 E))

  marked_respects : Respects (term_at ws) marked ρ
  marked_respects x e p = marked_bound x e p ∙ S.respects x e p ∙ sym (marked_written e (targets x e p))

  pub written_rows_lem : (e : Expression) → good e.1 → IsEarliest ws e.0 → Variables (λ x. VariableRow ws x.0 × good x.1) (written_out (term_at ws) σ e)
  written_rows_lem e o E =
      let t = written_out (term_at ws) σ e in
      let fixed : apply marked t ≡ t = factors_at good (term_at ws) ρ σ S marked marked_respects e ∙ marked_written e E in
      variables_more (λ x. (good x.1 × (ρ x ≡ none)) × (marked x ≡ var x)) (λ x. VariableRow ws x.0 × good x.1) (λ x h. (marked_unbound x h.0.1 h.1, h.0.0)) t
      (variables_both (λ x. good x.1 × (ρ x ≡ none)) (λ x. marked x ≡ var x) t (unbound_at good (term_at ws) ρ σ S e o) (unchanged marked t fixed))
