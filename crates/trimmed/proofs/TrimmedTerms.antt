-- The terms of kept rows are as they were, renumbered.
use mathlib.Core.Path.{◌≡◌, refl, sym, ap, ap₂, ◌∙◌, subst}
use mathlib.Core.Bool.{Bool, true, false}
use mathlib.Core.List.{List, [], ◌∷◌, map}
use Prim.Native.Nat.{ℕ, ◌<◌}
use native.Mathlib.Omega.{arith}
use lib.Dec.{eqb, eqb_refl}
use lib.ListN.{length}
use Rattle.record.specs.Record.{pick}
use Rattle.unification.specs.Repeated.{IsEarliest}
use Rattle.unification.specs.Row.{variable, Row, application, row_at, argument_terms, row_term, term_at}
use Rattle.unification.specs.Term.{Term, Terms, var, app, cons, Variables, AllVariables}
use Rattle.unification.proofs.Lists.{Each}
use Rattle.unification.proofs.Repeats.{row_old, row_new}
use Rattle.unification.proofs.Rows.{eqb_below}
use Rattle.unification.proofs.Tests.{from_t}
use Rattle.renumbering.specs.Renumbering.{Renumbering, renamed_term, renamed_terms}
use Rattle.renumbering.proofs.Renumbered.{renumbered_row}
use Rattle.demands.proofs.RangeTests.{equal, unequal}
use Rattle.demands.proofs.Shared.{ArgumentsEarliest, SharedRows}
use Rattle.trimming.specs.Trimming.{kept_below}
use Rattle.trimmed.proofs.Keeping.{keeping, keeping_length, keeping_new, below_less}

module _ (N : Renumbering) (kept : ℕ → Bool) (number : (r : ℕ) → kept r ≡ true → N.row r ≡ kept_below kept r) where
  -- The arguments of kept rows are kept.
  abbrev pub ArgumentsKept : List Row → Type 0
  ArgumentsKept ws = (r s : ℕ) (xs : List ℕ) → r < length ws → kept r ≡ true → row_at ws r ≡ application s xs → Each (λ a. kept a ≡ true) xs

  older_kept : (w : Row) (ws : List Row) → ArgumentsKept (w ∷ ws) → ArgumentsKept ws
  older_kept w ws h r s xs l k q = h r s xs (omega arith) k (row_old w ws r l ∙ q)

  abbrev TermKept : List Row → ℕ → Type 0
  TermKept ws a = term_at (keeping kept (renumbered_row N) ws) (kept_below kept a) ≡ renamed_term N.symbol N.row (term_at ws a)

  arguments_kept : (ws : List Row) → ((a : ℕ) → kept a ≡ true → a < length ws → TermKept ws a) → (xs : List ℕ) → Each (λ a. kept a ≡ true) xs → Each (IsEarliest ws) xs
      → argument_terms (term_at (keeping kept (renumbered_row N) ws)) (map N.row xs) ≡ renamed_terms N.symbol N.row (argument_terms (term_at ws) xs)
  arguments_kept ws ih [] h e = refl
  arguments_kept ws ih (x ∷ xs) h e = ap₂ (λ (t : Term ℕ) (ts : Terms ℕ). cons t ts) (ap (term_at (keeping kept (renumbered_row N) ws)) (number x h.0) ∙ ih x h.0 e.0.there) (arguments_kept ws ih xs h.1 e.1)

  new_kept : (w : Row) (ws : List Row) → ((a : ℕ) → kept a ≡ true → a < length ws → TermKept ws a) → ArgumentsEarliest ws w → kept (length ws) ≡ true → ((s : ℕ) (xs : List ℕ) → w ≡ application s xs → Each (λ a. kept a ≡ true) xs)
      → row_term (term_at (keeping kept (renumbered_row N) ws)) (kept_below kept (length ws)) (renumbered_row N w) ≡ renamed_term N.symbol N.row (row_term (term_at ws) (length ws) w)
  new_kept (variable v) ws ih e k h = ap var (sym (number (length ws) k))
  new_kept (application s xs) ws ih e k h = ap (app (N.symbol s)) (arguments_kept ws ih xs (h s xs refl) e)

  pub terms_kept : (ws : List Row) → SharedRows ws → ArgumentsKept ws → (r : ℕ) → kept r ≡ true → r < length ws → TermKept ws r
  terms_kept [] S h r k l = absurd (omega arith)
  terms_kept (w ∷ ws) S h r k l = try (eqb r (length ws)) refl (λ a j m. terms_kept ws S.1 (older_kept w ws h) a j m)
    where
      older : (c : Bool) → r < length ws → TermKept ws r → term_at (pick c (renumbered_row N w ∷ keeping kept (renumbered_row N) ws) (keeping kept (renumbered_row N) ws)) (kept_below kept r) ≡ renamed_term N.symbol N.row (term_at ws r)
      older true p ih =
          let m : kept_below kept r < length (keeping kept (renumbered_row N) ws) = omega (arith, below_less kept r (length ws) p k, keeping_length kept (renumbered_row N) ws) in
          ap (λ (b : Bool). pick b (row_term (term_at (keeping kept (renumbered_row N) ws)) (kept_below kept r) (renumbered_row N w)) (term_at (keeping kept (renumbered_row N) ws) (kept_below kept r))) (eqb_below (kept_below kept r) (length (keeping kept (renumbered_row N) ws)) m) ∙ ih
      older false p ih = ih

      try : (b : Bool) → eqb r (length ws) ≡ b → ((a : ℕ) → kept a ≡ true → a < length ws → TermKept ws a) → term_at (keeping kept (renumbered_row N) (w ∷ ws)) (kept_below kept r) ≡ renamed_term N.symbol N.row (pick b (row_term (term_at ws) r w) (term_at ws r))
      try true e ih =
          let z : r ≡ length ws = equal r (length ws) e in
          let n : kept (length ws) ≡ true = subst (λ (i : ℕ). kept i ≡ true) z k in
          ap (λ (u : List Row). term_at u (kept_below kept r)) (keeping_new kept (renumbered_row N) w ws n)
          ∙ ap (λ (b : Bool). pick b (row_term (term_at (keeping kept (renumbered_row N) ws)) (kept_below kept r) (renumbered_row N w)) (term_at (keeping kept (renumbered_row N) ws) (kept_below kept r))) (ap (eqb (kept_below kept r)) (keeping_length kept (renumbered_row N) ws ∙ ap (kept_below kept) (sym z)) ∙ from_t (eqb (kept_below kept r) (kept_below kept r)) (eqb_refl (kept_below kept r)))
          ∙ ap (λ (i : ℕ). row_term (term_at (keeping kept (renumbered_row N) ws)) (kept_below kept i) (renumbered_row N w)) z
          ∙ new_kept w ws ih S.0 n (λ s xs q. h (length ws) s xs (omega arith) n (row_new w ws ∙ q))
          ∙ ap (λ (i : ℕ). renamed_term N.symbol N.row (row_term (term_at ws) i w)) (sym z)
      try false e ih =
          let d : ¬ (r ≡ length ws) = unequal r (length ws) e in
          let p : r < length ws = omega arith in
          older (kept (length ws)) p (ih r k p)

-- The variables of a row's term have a property that passes from a row to its arguments.
module _ (P : ℕ → Type 0) where
  arguments_have : (ws : List Row) → ((a : ℕ) → P a → a < length ws → Variables P (term_at ws a)) → (xs : List ℕ) → Each P xs → Each (IsEarliest ws) xs → AllVariables P (argument_terms (term_at ws) xs)
  arguments_have ws ih [] h e = tt
  arguments_have ws ih (x ∷ xs) h e = (ih x h.0 e.0.there, arguments_have ws ih xs h.1 e.1)

  pub variables_have : (ws : List Row) → SharedRows ws → ((r s : ℕ) (xs : List ℕ) → r < length ws → P r → row_at ws r ≡ application s xs → Each P xs) → (r : ℕ) → P r → r < length ws → Variables P (term_at ws r)
  variables_have [] S h r k l = absurd (omega arith)
  variables_have (w ∷ ws) S h r k l = try (eqb r (length ws)) refl (λ a j m. variables_have ws S.1 (λ i s xs n p q. h i s xs (omega arith) p (row_old w ws i n ∙ q)) a j m)
    where
      new : (u : Row) → u ≡ w → r ≡ length ws → ((a : ℕ) → P a → a < length ws → Variables P (term_at ws a)) → ArgumentsEarliest ws u → Variables P (row_term (term_at ws) r u)
      new (variable v) e z ih x = k
      new (application s xs) e z ih x = arguments_have ws ih xs (h r s xs (omega arith) k (ap (row_at (w ∷ ws)) z ∙ row_new w ws ∙ sym e)) x

      try : (b : Bool) → eqb r (length ws) ≡ b → ((a : ℕ) → P a → a < length ws → Variables P (term_at ws a)) → Variables P (pick b (row_term (term_at ws) r w) (term_at ws r))
      try true e ih = new w refl (equal r (length ws) e) ih S.0
      try false e ih = let d : ¬ (r ≡ length ws) = unequal r (length ws) e in ih r k (omega arith)
