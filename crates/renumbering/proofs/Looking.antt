-- Looking up in a clause renumbered: rows inside have numbers of their own, so a variable finds the binding that it found before.
use mathlib.Core.Path.{◌≡◌, refl, sym, ap, ap₂, ◌∙◌, subst}
use mathlib.Core.Bool.{Bool, true, false}
use mathlib.Core.Option.{Option, none, some}
use Prim.Native.Nat.{ℕ, ◌-◌}
use lib.Dec.{leb}
use Rattle.record.specs.Record.{pick}
use Rattle.unification.specs.Environment.{Environment}
use Rattle.unification.specs.Row.{Expression, Variable}
use Rattle.unification.proofs.Tests.{some_not_none, some_injective}
use Rattle.derivation.specs.Derivation.{input, Derivation, resolve, factor, maximum_index, raise_answer, joined, lookup}
use Rattle.renumbering.proofs.Inside.{InsideDerivation, renumbered_answer, RenumbersEnvironment}
use Rattle.renumbering.specs.Renumbering.{Renumbering}
use Rattle.renumbering.proofs.Renumbered.{renumbered_expression, renumbered_derivation}
use Rattle.renumbering.proofs.Derivations.{maximum_index_renumbered}
use Rattle.renumbering.proofs.Following.{extend_renumbered}

-- No two rows inside get the same number.
abbrev pub OneRow : Renumbering → (ℕ → Type 0) → Type 0
OneRow N I = (r q : ℕ) → I r → I q → N.row r ≡ N.row q → r ≡ q

module _ (N : Renumbering) (I : ℕ → Type 0) where
  -- Both parents' environments as one.
  pub joined_renumbers : (m : ℕ) (ρ ρ' σ σ' : Environment) → RenumbersEnvironment N I ρ ρ' → RenumbersEnvironment N I σ σ' → RenumbersEnvironment N I (joined m ρ σ) (joined m ρ' σ')
  joined_renumbers m ρ ρ' σ σ' R S = record { answers = answered; stays = stayed }
    where
      raised : (o : Option Expression) → raise_answer m (renumbered_answer N o) ≡ renumbered_answer N (raise_answer m o)
      raised none = refl
      raised (some e) = refl

      picked : (b : Bool) (o p : Option Expression) → pick b (renumbered_answer N o) (renumbered_answer N p) ≡ renumbered_answer N (pick b o p)
      picked true o p = refl
      picked false o p = refl

      answered : (x : Variable) → I x.0 → joined m ρ' σ' (renumbered_expression N x) ≡ renumbered_answer N (joined m ρ σ x)
      answered x h =
          ap₂ (λ (o p : Option Expression). pick (leb x.1 m) o p) (R.answers x h) (ap (raise_answer m) (S.answers (x.0, x.1 - m) h) ∙ raised (σ (x.0, x.1 - m)))
          ∙ picked (leb x.1 m) (ρ x) (raise_answer m (σ (x.0, x.1 - m)))

      stayed : (x : Variable) (e : Expression) → I x.0 → joined m ρ σ x ≡ some e → I e.0
      stayed x e h q = try (leb x.1 m) q
        where
          up_to : (o : Option Expression) → σ (x.0, x.1 - m) ≡ o → raise_answer m o ≡ some e → I e.0
          up_to none p r = absurd (some_not_none refl r)
          up_to (some d) p r = subst (λ (y : Expression). I y.0) (some_injective r) (S.stays (x.0, x.1 - m) d h p)

          try : (b : Bool) → pick b (ρ x) (raise_answer m (σ (x.0, x.1 - m))) ≡ some e → I e.0
          try true r = R.stays x e h r
          try false r = up_to (σ (x.0, x.1 - m)) refl r

  module _ (one : OneRow N I) where
    pub lookup_renumbers : (d : Derivation) → InsideDerivation I d → RenumbersEnvironment N I (lookup d) (lookup (renumbered_derivation N d))
    lookup_renumbers (input number ls) h = record { answers = λ x k. refl; stays = λ x e k q. absurd (some_not_none refl q) }
    lookup_renumbers (resolve number l a r ns bs) h =
        extend_renumbered one
        (subst (λ (m : ℕ). RenumbersEnvironment N I (joined (maximum_index l) (lookup l) (lookup r)) (joined m (lookup (renumbered_derivation N l)) (lookup (renumbered_derivation N r)))) (sym (maximum_index_renumbered N l))
        (joined_renumbers (maximum_index l) (lookup l) (lookup (renumbered_derivation N l)) (lookup r) (lookup (renumbered_derivation N r)) (lookup_renumbers l h.0) (lookup_renumbers r h.1)))
        bs h.2
    lookup_renumbers (factor number c a b bs) h = extend_renumbered one (lookup_renumbers c h.0) bs h.1
