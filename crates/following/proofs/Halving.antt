-- Following over the array, with chains shortened on the way: what the loop keeps.
use mathlib.Core.Path.{◌≡◌, refl, sym, ap, ap₂, ◌∙◌, subst}
use mathlib.Core.Bool.{Bool, true, false}
use mathlib.Core.Option.{none}
use mathlib.Core.List.{List}
use Prim.Native.Nat.{ℕ, zero, suc, ◌+◌, ◌-◌, ◌<◌}
use native.Mathlib.Omega.{arith}
use lib.Dec.{eqb, eqb-suc-zero}
use lib.ListN.{get_or}
use borrow.Author.Tests.{ne_eqb}
use Rattle.record.specs.Record.{pick}
use Rattle.unification.specs.Environment.{follow, Environment, unbound}
use Rattle.unification.specs.Nodes.{is_variable, part, node_arity, arguments_from, node_row_if, node_row}
use Rattle.unification.specs.Row.{variable, application, Expression}
use Rattle.unification.specs.Unification.{most_links}
use Rattle.unification.specs.ValueArray.{slot, put, cell_of, index_of, InStep, Onward, Models}
use Rattle.following.specs.Walks.{halved, Walked}
use Rattle.unification.proofs.Limits.{links_8192}
use Rattle.following.proofs.Links.{onward_trans, onward_in_step, onward_follow, EndsIn, ends_onward}
use Rattle.unification.proofs.Meaning.{Ended, follow_ends, follow_unb, follow_appl}
use Rattle.following.proofs.Writing.{models_put}
use Rattle.following.specs.declared.follow.Followed.{Followed}
use Rattle.following.specs.declared.follow.Followed.TheVariants.{Variable, Application}

-- Where following has come to from e: to d, with l turns of the loop left.
pub record Going (N : List ℕ) (top : ℕ) (A : List ℕ) (ρ : Environment) (e d : Expression) (l : ℕ) : Type 0 where
  pub models : Models N top A ρ
  pub good : InStep N top d
  pub same : follow (node_row N) most_links ρ e ≡ follow (node_row N) most_links ρ d
  pub ends : EndsIn N ρ l d

pred_suc : (r : ℕ) → (r ≡ 0 → ⊥) → r ≡ suc (r - 1)
pred_suc r h = omega arith

module _ (N : List ℕ) (top : ℕ) (A : List ℕ) (ρ : Environment) where
  pub going_start : (e : Expression) → Models N top A ρ → InStep N top e → Going N top A ρ e e 8193
  going_start e M g = record { models = M; good = g; same = refl; ends = subst (λ (n : ℕ). EndsIn N ρ n e) (ap suc links_8192) (M.ends e g.row) }

  module _ (e : Expression) (v j l : ℕ) (G : Going N top A ρ e (v, j) l) where
    pub going_none : l ≡ 0 → (x : Followed) → Walked N top A ρ e x
    going_none h x = absurd (subst (λ (n : ℕ). EndsIn N ρ n (v, j)) h G.ends)

    pub going_app : is_variable N v ≡ false → Walked N top A ρ e (Application v j)
    going_app h = record { models = G.models; good = G.good; seen = G.same ∙ follow_appl (node_row N) most_links ρ (part N v 0) (arguments_from N v (node_arity N v) 1) (v, j) (ap (node_row_if N v) h) }

    pub going_free : (at : ℕ) → is_variable N v ≡ true → at ≡ slot N v j → get_or A at 0 ≡ 0 → Walked N top A ρ e (Variable v j)
    going_free at h q z = record { models = G.models; good = G.good; seen = G.same ∙ follow_unb (node_row N) most_links ρ (part N v 0) (v, j) (ap (node_row_if N v) h) (G.models.free (v, j) G.good h (ap (λ (s : ℕ). get_or A s 0) (sym q) ∙ z)) }

    module _ (h : is_variable N v ≡ true) (t : ℕ) (z : cell_of N A (v, j) ≡ suc t) where
      reached : Onward N ρ (v, j) (t, index_of N A (v, j))
      reached = G.models.full (v, j) t G.good h z

      there : InStep N top (t, index_of N A (v, j))
      there = onward_in_step G.models.kept reached G.good

      halved_models : Models N top (halved N A (slot N v j) t (index_of N A (v, j))) ρ
      unfolding halved
      halved_models = try (is_variable N t) refl (get_or A (slot N t (index_of N A (v, j))) 0) refl
        where
          try : (b : Bool) → is_variable N t ≡ b → (q : ℕ) → cell_of N A (t, index_of N A (v, j)) ≡ q → Models N top (pick b (pick (eqb q 0) A (put A (slot N v j) q (index_of N A (t, index_of N A (v, j))))) A) ρ
          try false p q r = G.models
          try true p zero r = G.models
          try true p (suc s) r = rw eqb-suc-zero (models_put N top A ρ G.models (v, j) G.good h s (index_of N A (t, index_of N A (v, j))) (onward_trans reached (G.models.full (t, index_of N A (v, j)) s there p r)))

      going_to : (n : ℕ) → l ≡ suc n → Going N top (halved N A (slot N v j) t (index_of N A (v, j))) ρ e (t, index_of N A (v, j)) n
      going_to n q = record { models = halved_models; good = there; same = G.same ∙ onward_follow N ρ most_links reached (G.models.ends (v, j) G.good.row); ends = ends_onward N ρ n reached (subst (λ (m : ℕ). EndsIn N ρ m (v, j)) q G.ends) }

    pub going_on : is_variable N v ≡ true → (at r k : ℕ) → at ≡ slot N v j → r ≡ get_or A at 0 → (r ≡ 0 → ⊥) → k ≡ get_or A (at + 1) 0 → (A' : List ℕ) → A' ≡ halved N A at (r - 1) k → 0 < l → Going N top A' ρ e (r - 1, k) (l - 1)
    going_on h at r k q z nz y A' c pos =
        let z' : cell_of N A (v, j) ≡ suc (r - 1) = ap (λ (s : ℕ). get_or A s 0) (sym q) ∙ sym z ∙ pred_suc r nz in
        let y' : index_of N A (v, j) ≡ k = ap (λ (s : ℕ). get_or A (s + 1) 0) (sym q) ∙ sym y in
        let g = going_to h (r - 1) z' (l - 1) (omega arith) in
        subst (λ (u : List ℕ × Expression). Going N top u.0 ρ e u.1 (l - 1)) (λ i. ((ap₂ (λ (a b : ℕ). halved N A a (r - 1) b) (sym q) y' ∙ sym c) i, (r - 1, y' i))) g

module _ (N A : List ℕ) (at t k : ℕ) where
  pub halved_not : (b : Bool) → b ≡ is_variable N t → b ≡ false → A ≡ halved N A at t k
  unfolding halved
  halved_not b p h = rw (sym p ∙ h)

  pub halved_free : (b : Bool) (next q : ℕ) → b ≡ is_variable N t → b ≡ true → next ≡ slot N t k → q ≡ get_or A next 0 → q ≡ 0 → A ≡ halved N A at t k
  unfolding halved
  halved_free b next q p h n c z = rw (sym p ∙ h, ap (λ (s : ℕ). get_or A s 0) (sym n) ∙ sym c ∙ z)

  pub halved_put : (b : Bool) (next q j : ℕ) → b ≡ is_variable N t → b ≡ true → next ≡ slot N t k → q ≡ get_or A next 0 → (q ≡ 0 → ⊥) → j ≡ get_or A (next + 1) 0 → (A' : List ℕ) → A' ≡ put A at q j → A' ≡ halved N A at t k
  unfolding halved
  halved_put b next q j p h n c z d A' e =
      let c' : get_or A (slot N t k) 0 ≡ q = ap (λ (s : ℕ). get_or A s 0) (sym n) ∙ sym c in
      let d' : get_or A (slot N t k + 1) 0 ≡ j = ap (λ (s : ℕ). get_or A (s + 1) 0) (sym n) ∙ sym d in
      e ∙ rw (sym p ∙ h, c', d', ne_eqb q 0 z)

-- The row of what following ended on.
row_app : (N : List ℕ) (r s : ℕ) (xs : List ℕ) (b : Bool) → is_variable N r ≡ b → node_row_if N r b ≡ application s xs → b ≡ false
row_app N r s xs false p q = refl
row_app N r s xs true p q = let z : ◌≡◌ {A = ℕ} 0 1 = cc in absurd (omega arith)

row_var : (N : List ℕ) (r v : ℕ) (b : Bool) → is_variable N r ≡ b → node_row_if N r b ≡ variable v → b ≡ true
row_var N r v true p q = refl
row_var N r v false p q = let z : ◌≡◌ {A = ℕ} 0 1 = cc in absurd (omega arith)

module _ (N : List ℕ) (top : ℕ) (A : List ℕ) (ρ : Environment) (e : Expression) (r i : ℕ) where
  pub walked_app : Walked N top A ρ e (Application r i) → is_variable N r ≡ false
  walked_app W = row_app N r _ _ (is_variable N r) refl (rw W.seen at (follow_ends (node_row N) most_links ρ e))

  pub walked_var : Walked N top A ρ e (Variable r i) → (is_variable N r ≡ true) × (ρ (r, i) ≡ none)
  walked_var W = let h : Ended (node_row N) ρ (unbound (part N r 0) (r, i)) = rw W.seen at (follow_ends (node_row N) most_links ρ e) in (row_var N r _ (is_variable N r) refl h.0, h.1)

-- What is known of where following ends.
abbrev pub EndsAt : List ℕ → Environment → Followed → Type 0
EndsAt N ρ (Variable r i) = (is_variable N r ≡ true) × (ρ (r, i) ≡ none)
EndsAt N ρ (Application r i) = is_variable N r ≡ false

pub walked_ends : (N : List ℕ) (top : ℕ) (A : List ℕ) (ρ : Environment) (e : Expression) (x : Followed) → Walked N top A ρ e x → EndsAt N ρ x
walked_ends N top A ρ e (Variable r i) W = walked_var N top A ρ e r i W
walked_ends N top A ρ e (Application r i) W = walked_app N top A ρ e r i W
