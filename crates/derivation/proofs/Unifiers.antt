-- A step's bindings are a most general unifier of the written-out atoms; a clash or an occurrence means that there is none.
use mathlib.Core.Path.{◌≡◌, refl, sym, ap, ◌∙◌}
use mathlib.Core.Logic.{◌⊎◌, inl, inr}
use mathlib.Core.Bool.{Bool, true, false}
use mathlib.Core.Option.{Option, none, some}
use mathlib.Core.List.{List, [], ◌∷◌, map}
use Prim.Native.Nat.{ℕ}
use lib.ListN.{length}
use Rattle.record.specs.Record.{pick}
use Rattle.unification.specs.Environment.{Binding, Environment, extend, Respects}
use Rattle.unification.specs.Row.{Row, application, Expression, Variable, same, row_term, written_out}
use Rattle.unification.specs.Substitution.{composed}
use Rattle.unification.specs.Term.{Term, var, apply}
use Rattle.unification.specs.Unification.{unify, most_work, most_links, clash, occurs, unified, failed, Pair, unifying, no_room}
use Rattle.unification.specs.Unifier.{TermPair, Unifies, NoUnifier, MostGeneralUnifier}
use Rattle.unification.proofs.Generality.{ForthEnd, forth_run}
use Rattle.unification.proofs.Ranges.{IndicesKept, IndicesKeptPairs}
use Rattle.unification.proofs.Solved.{Solved, agree, factors_at, agree_at_lem}
use Rattle.unification.proofs.Soundness.{AllEqual}
use Rattle.unification.proofs.Terms.{apply_apply}
use Rattle.unification.proofs.Tests.{some_not_none}
use Rattle.derivation.proofs.Substitutions.{unified_solved}
use Rattle.derivation.proofs.Truth.{unified_sound}
use Rattle.derivation.proofs.Validity.{Unified, unified_kept}

extend_none : (base : Environment) (bs : List Binding) (y : Variable) → extend base bs y ≡ none → base y ≡ none
extend_none base [] y p = p
extend_none base (b ∷ bs) y p = try (same y b.0) p (λ q. extend_none base bs y q)
  where
    try : (t : Bool) → pick t (some b.1) (extend base bs y) ≡ none → (extend base bs y ≡ none → base y ≡ none) → base y ≡ none
    try true q k = absurd (some_not_none q refl)
    try false q k = k q

-- The pairs written out.
abbrev pub written_pairs : (ℕ → Term ℕ) → (Variable → Term Variable) → List Pair → List TermPair
written_pairs term σ ps = map (λ p. (written_out term σ p.0, written_out term σ p.1)) ps

-- A variable that was bound before the step does not occur in a value, so the unifier may leave it alone.
abbrev free_only : Option Expression → Variable → Term Variable → Term Variable
free_only none x t = t
free_only (some e) x t = var x

module _ (row : ℕ → Row) (term : ℕ → Term ℕ) (termLaw : (r : ℕ) → term r ≡ row_term term r (row r)) (good : ℕ → Type 0) (base : Environment) (σ : Variable → Term Variable) (S : Solved good term base σ) where
  -- A substitution after the values respects the bindings.
  then_respects : {Y : Type 0} (τ : Variable → Term Y) → Respects term (λ x. apply τ (σ x)) base
  then_respects τ x e p = ap (apply τ) (S.respects x e p) ∙ apply_apply τ (λ v. σ (v, e.1)) (term e.0)

  then_written : {Y : Type 0} (τ : Variable → Term Y) (e : Expression) → apply τ (written_out term σ e) ≡ written_out term (λ x. apply τ (σ x)) e
  then_written τ e = apply_apply τ (λ v. σ (v, e.1)) (term e.0)

  -- A unifier of the written-out expressions is carried through the whole run.
  made_equal : {Y : Type 0} (τ : Variable → Term Y) (ps : List Pair) → Unifies τ (written_pairs term σ ps) → AllEqual term (λ x. apply τ (σ x)) ps
  made_equal τ [] q = tt
  made_equal τ (p ∷ ps) q = (sym (then_written τ p.0) ∙ q.0 ∙ then_written τ p.1, made_equal τ ps q.1)

  carried : (held : ℕ) (ps : List Pair) {Y : Type 0} (τ : Variable → Term Y) → Unifies τ (written_pairs term σ ps) → ForthEnd row most_links base term (λ x. apply τ (σ x)) (unify row held base ps)
  carried held ps τ q = forth_run row most_links base term (λ x. apply τ (σ x)) (no_room held) termLaw most_work (unifying [] ps) (then_respects τ, made_equal τ ps q)

  pub no_unifier_lem : (Y : Type 0) (held : ℕ) (ps : List Pair) → (unify row held base ps ≡ failed clash) ⊎ (unify row held base ps ≡ failed occurs) → NoUnifier Y (written_pairs term σ ps)
  no_unifier_lem Y held ps (inl r) τ q = rw r at (carried held ps τ q)
  no_unifier_lem Y held ps (inr r) τ q = rw r at (carried held ps τ q)

  module _ (arities : (r q s : ℕ) (xs ys : List ℕ) → row r ≡ application s xs → row q ≡ application s ys → length xs ≡ length ys)
      (ps : List Pair) (bs : List Binding) (u : Unified row base ps bs) (κ : IndicesKept good base) (o : IndicesKeptPairs good ps) where
    abbrev after : Variable → Term Variable
    after = composed term σ bs

    M : Solved good term (extend base bs) after
    M = unified_solved row term termLaw good base ps bs u κ o σ S

    -- The unifier of the step.
    abbrev pub unifier : Variable → Term Variable
    unifier x = free_only (base x) x (composed term σ bs x)

    before : Respects term after base × AllEqual term after ps
    before = unified_sound row term termLaw arities after base ps bs u M.respects

    unifier_free : (y : Variable) → good y.1 → base y ≡ none → after y ≡ unifier y
    unifier_free y o p = rw p

    -- An expression's value after the step is its value before it, under the unifier.
    pub value_after : (a : Expression) → good a.1 → written_out term (composed term σ bs) a ≡ apply unifier (written_out term σ a)
    value_after a w = sym (factors_at good term base σ S after before.0 a) ∙ agree_at_lem good term base σ S after unifier unifier_free a w

    general : {Y : Type 0} (τ : Variable → Term Y) → Unifies τ (written_pairs term σ ps) → (x : Variable) → τ x ≡ apply τ (unifier x)
    general {Y} τ q x = try (base x) refl
      where
        γ : Variable → Term Y
        γ y = apply τ (σ y)

        R : Respects term γ (extend base bs)
        R = let k : ForthEnd row most_links base term γ (unified bs u.1) = rw u.2 at (carried u.0 ps τ q) in k

        γ-free : (y : Variable) → base y ≡ none → γ y ≡ τ y
        γ-free y p = ap (apply τ) (S.free y p)

        swap : (o : Option Expression) → extend base bs x ≡ o → apply γ (after x) ≡ apply τ (after x)
        swap none p = ap (apply γ) (M.free x p) ∙ γ-free x (extend_none base bs x p) ∙ sym (ap (apply τ) (M.free x p))
        swap (some c) p = agree good term (extend base bs) after M γ τ (λ y oy r. γ-free y (extend_none base bs y r)) x (unified_kept row good base ps bs u κ o x c p).0

        try : (o : Option Expression) → base x ≡ o → τ x ≡ apply τ (free_only o x (after x))
        try none p = sym (γ-free x p) ∙ sym (M.factors γ R x) ∙ swap (extend base bs x) refl
        try (some c) p = refl

    unifies_all : (qs : List Pair) → AllEqual term after qs → IndicesKeptPairs good qs → Unifies unifier (written_pairs term σ qs)
    unifies_all [] h k = tt
    unifies_all (p ∷ qs) h k = (sym (value_after p.0 k.0) ∙ h.0 ∙ value_after p.1 k.1, unifies_all qs h.1 k.2)

    pub most_general_lem : (Y : Type 0) → MostGeneralUnifier Y unifier (written_pairs term σ ps)
    most_general_lem Y = record { unifies = unifies_all ps before.1 o; general = general }
