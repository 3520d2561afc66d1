-- Instances are well formed: over symbols that exist, each with as many arguments as its arity, and the extra constant.
use mathlib.Core.Path.{◌≡◌, refl, sym, ap, ◌∙◌}
use mathlib.Core.Option.{Option, none, some}
use mathlib.Core.List.{List, [], ◌∷◌}
use Prim.Native.Nat.{ℕ, zero, suc, ◌≤◌}
use native.Mathlib.Omega.{arith}
use lib.ListN.{length}
use Rattle.unification.specs.Environment.{follow, Environment, unbound, link, View, applied, Ends, view_variable, view_row, onward}
use Rattle.unification.specs.Row.{variable, Row, application, Expression, Variable, row_term, written_out}
use Rattle.unification.specs.Term.{Term, var, app, occurrences, all_occurrences}
use Rattle.unification.proofs.Lists.{Each}
use Rattle.unification.proofs.Meaning.{written_arguments, written_view, expression_of, Ended, written_follow, follow_ends}
use Rattle.derivation.specs.Derivation.{RowLiteral, Use}
use Rattle.derivation.specs.Ground.{instances, Ground, Values, instance_at, argument_count, WellFormed, AllWellFormed, WellFormedInstance, WellFormedInstances}

module _ (arity : ℕ → Option ℕ) (row : ℕ → Row) (term : ℕ → Term ℕ) (termLaw : (r : ℕ) → term r ≡ row_term term r (row r)) (row_ok : ℕ → Type 0)
    (declared : (r s : ℕ) (xs : List ℕ) → row_ok r → row r ≡ application s xs → (arity s ≡ some (length xs)) × Each row_ok xs) where
  count_arguments : {Y : Type 0} (γ : Variable → Term Y) (xs : List ℕ) (i : ℕ) → argument_count arity (written_arguments term γ xs i) ≡ length xs
  count_arguments γ [] i = refl
  count_arguments γ (x ∷ xs) i = ap suc (count_arguments γ xs i)

  -- An environment over rows that are there, whose chains end, and its values.
  module _ (ρ : Environment) (links : ℕ) (kept : (x : Variable) (e : Expression) → ρ x ≡ some e → row_ok e.0) (ends : (e : Expression) → row_ok e.0 → Ends (follow row links ρ e))
      (γ : Variable → Ground) (values : Values term ρ γ) where
    -- Where following ends, the row is there still.
    kept_view_variable : (v : ℕ) (e : Expression) → row_ok e.0 → (o : Option Expression) → ρ e ≡ o → row_ok (expression_of (view_variable o v e)).0
    kept_view_variable v e h none q = h
    kept_view_variable v e h (some d) q = kept e d q

    kept_view_row : (e : Expression) → row_ok e.0 → (w : Row) → row_ok (expression_of (view_row w ρ e)).0
    kept_view_row e h (variable v) = kept_view_variable v e h (ρ e) refl
    kept_view_row e h (application s xs) = h

    kept_follow : (n : ℕ) (e : Expression) → row_ok e.0 → row_ok (expression_of (follow row n ρ e)).0
    kept_follow zero e h = kept_view_row e h (row e.0)
    kept_follow (suc n) e h = further (λ d k. kept_follow n d k) (view_row (row e.0) ρ e) (kept_view_row e h (row e.0))
      where
        further : ((d : Expression) → row_ok d.0 → row_ok (expression_of (follow row n ρ d)).0) → (w : View) → row_ok (expression_of w).0 → row_ok (expression_of (onward (λ d. follow row n ρ d) w)).0
        further ih (unbound v d) q = q
        further ih (applied s xs d) q = q
        further ih (link d) q = ih d q

    formed_all : (n : ℕ) → ((e : Expression) → row_ok e.0 → occurrences (written_out term γ e) ≤ n → WellFormed arity (written_out term γ e))
        → (xs : List ℕ) (i : ℕ) → Each row_ok xs → all_occurrences (written_arguments term γ xs i) ≤ n → AllWellFormed arity (written_arguments term γ xs i)
    formed_all n each [] i h l = tt
    formed_all n each (x ∷ xs) i h l = (each (x, i) h.0 (omega arith), formed_all n each xs i h.1 (omega arith))

    no_size : (t : Ground) → occurrences t ≤ 0 → ⊥
    no_size (var x) k = omega arith
    no_size (app s ts) k = omega arith

    -- By induction over a bound on the value's occurrences.
    formed : (n : ℕ) (e : Expression) → row_ok e.0 → occurrences (written_out term γ e) ≤ n → WellFormed arity (written_out term γ e)
    formed zero e h l = absurd (no_size (written_out term γ e) l)
    formed (suc n) e h l = try (λ d k z. formed n d k z) (follow row links ρ e) (ends e h) (follow_ends row links ρ e) (kept_follow links e h) (written_follow row term termLaw γ links ρ values.bound e)
      where
        try : ((d : Expression) → row_ok d.0 → occurrences (written_out term γ d) ≤ n → WellFormed arity (written_out term γ d))
            → (w : View) → Ends w → Ended row ρ w → row_ok (expression_of w).0 → written_out term γ e ≡ written_view term γ w → WellFormed arity (written_out term γ e)
        try ih (unbound v d) k g o q = rw (q ∙ values.unbound d g.1) tt
        try ih (applied s xs d) k g o q =
            let a = declared d.0 s xs o g in
            let z : occurrences (written_out term γ e) ≡ suc (all_occurrences (written_arguments term γ xs d.1)) = ap occurrences q in
            rw q (a.0 ∙ ap some (sym (count_arguments γ xs d.1)), formed_all n ih xs d.1 a.1 (omega arith))
        try ih (link d) k g o q = absurd k

    instance_formed : (k : ℕ) (ls : List RowLiteral) → Each (λ (l : RowLiteral). row_ok l.1) ls → WellFormedInstance arity (instance_at term γ k ls)
    instance_formed k [] h = tt
    instance_formed k (l ∷ ls) h = (formed (occurrences (written_out term γ (l.1, k))) (l.1, k) h.0 (omega arith), instance_formed k ls h.1)

    pub instances_formed : (k : ℕ) (us : List Use) → Each (λ (u : Use). Each (λ (l : RowLiteral). row_ok l.1) u.1) us → WellFormedInstances arity (instances term γ k us)
    instances_formed k [] h = tt
    instances_formed k (u ∷ us) h = (instance_formed k u.1 h.0, instances_formed (suc k) us h.1)
