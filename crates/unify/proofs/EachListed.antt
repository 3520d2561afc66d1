-- The pairs of one expression with listed ones, as the loop over them takes them up.
use mathlib.Core.Path.{◌≡◌, sym, ap, ◌∙◌, subst}
use mathlib.Core.List.{List, [], ◌∷◌}
use Prim.Native.Nat.{ℕ, suc, ◌+◌, ◌-◌, ◌*◌, ◌≤◌, ◌<◌}
use native.Mathlib.Numerals.{add-one}
use native.Mathlib.Omega.{arith}
use lib.ListN.{get_or}
use Rattle.unification.specs.Row.{Expression}
use Rattle.unification.specs.Unification.{most_work, Pair}
use Rattle.unify.specs.Unifying.{pairs_from, ReadyForEach}
use Rattle.unify.proofs.Answer.{Remains, remains_all}

module _ {N A B : List ℕ} {held : ℕ} {e : Expression} {cells : List ℕ} {n raised : ℕ} (R : ReadyForEach N A B held e cells n raised) where
  -- At first all of them remain, from number 0 on.
  pub listed_all : (w : ℕ) → most_work ≡ w → Remains N A A B held (pairs_from e raised cells 0 n) (pairs_from e raised cells 0 (n - 0)) w held
  listed_all w q =
      let z : n ≡ n - 0 = omega arith in
      subst (λ (m : ℕ). Remains N A A B held (pairs_from e raised cells 0 n) (pairs_from e raised cells 0 m) w held) z (remains_all R.ready w q)

  module _ (A₁ B₁ : List ℕ) (left total j : ℕ) (K : Remains N A A₁ B₁ held (pairs_from e raised cells 0 n) (pairs_from e raised cells j (n - j)) left total) where
    -- Where j is past the last none remain.
    pub listed_none : n ≤ j → Remains N A A₁ B₁ held (pairs_from e raised cells 0 n) [] left total
    listed_none past =
        let z : n - j ≡ 0 = omega arith in
        subst (λ (m : ℕ). Remains N A A₁ B₁ held (pairs_from e raised cells 0 n) (pairs_from e raised cells j m) left total) z K

    module _ (more : j < n) where
      -- The pair with number j is the next one.
      pub listed_next : Remains N A A₁ B₁ held (pairs_from e raised cells 0 n) ((e, (get_or cells (2 * j) 0, raised + get_or cells (2 * j + 1) 0)) ∷ pairs_from e raised cells (j + 1) (n - (j + 1))) left total
      listed_next =
          let z : n - j ≡ suc (n - (j + 1)) = omega arith in
          subst (λ (ps : List Pair). Remains N A A₁ B₁ held (pairs_from e raised cells 0 n) ps left total)
          (ap (λ (m : ℕ). pairs_from e raised cells j m) z
          ∙ ap (λ (m : ℕ). (e, (get_or cells (2 * j) 0, raised + get_or cells (2 * j + 1) 0)) ∷ pairs_from e raised cells m (n - (j + 1))) (sym (add-one j)))
          K

      -- Its raised index is one of the step, so the sum does not wrap.
      pub raised_fits : raised + get_or cells (2 * j + 1) 0 ≤ 4096
      raised_fits =
          let k = listed_next R.ready.top R.ready.environment R.ready.facing in
          omega (arith, k.in_step.1.high, k.stand.models.fits)
