-- What the walk over one pair after another ensures, put into the terms of unification.
use mathlib.Core.Path.{◌≡◌, refl, sym, ap, ◌∙◌, subst}
use mathlib.Core.List.{List, [], ◌∷◌, append-nil}
use Prim.Native.Nat.{ℕ, zero, suc, ◌-◌}
use native.Mathlib.Nat.{add-zero}
use lib.ListN.{length}
use Rattle.unification.specs.Bindings.{bindings_from, Added}
use Rattle.unification.specs.Environment.{Binding, Environment}
use Rattle.unification.specs.Nodes.{node_row}
use Rattle.unification.specs.Row.{Expression}
use Rattle.unification.specs.Unification.{unify, most_work, most_links, unified, Pair, unifying, no_room, run}
use Rattle.unify.specs.Unifying.{EachInStep, Facing, Ready, Answered}
use Rattle.unify.specs.Pairs.{Answer, done, Filed, bindings_onto, Stand, PairReady, Pairing, Paired}
use Rattle.unify.proofs.BindingsAdded.{added_none, added_below, onto_none, onto_then}
use Rattle.std.specs.Prelude.{Ok, Err}
use Rattle.following.specs.declared.failure.Failure.{Failure}

-- What unification of `all` has come to: the pairs ps are still to be taken up, with `left` work left and `total` bindings held, and that
-- has the same outcome as the whole.
module _ (N : List ℕ) (top : ℕ) (A B : List ℕ) (held : ℕ) (ρ : Environment) where
  pub record Remaining (all ps : List Pair) (left total : ℕ) : Type 0 where
    pub stand : Stand N top A B held ρ (bindings_onto B held (total - held) []) total
    pub in_step : EachInStep N top ps
    pub whole : unify (node_row N) held ρ all ≡ run (node_row N) most_links (no_room held) ρ left (unifying (bindings_onto B held (total - held) []) ps)

abbrev pub Remains : List ℕ → List ℕ → List ℕ → List ℕ → ℕ → List Pair → List Pair → ℕ → ℕ → Type 0
Remains N A A' B' held all ps left total = (top : ℕ) (ρ : Environment) → Facing N top A held ρ all → Remaining N top A' B' held ρ all ps left total

-- With all the work of a step, everything remains.
pub remains_all : {N A B : List ℕ} {held : ℕ} {all : List Pair} → Ready N A B held all → (w : ℕ) → most_work ≡ w → Remains N A A B held all all w held
remains_all {N} {A} {B} {held} {all} R w q top ρ F =
    record {
      stand = subst (λ (bs : List Binding). Stand N top A B held ρ bs held) (sym (onto_none B held []))
          (record { models = F.models; count = add-zero held; few = R.few; short = F.short; room = R.bindings });
      in_step = F.in_step;
      whole = ap (λ (n : ℕ). run (node_row N) most_links (no_room held) ρ n (unifying [] all)) q
          ∙ ap (λ (bs : List Binding). run (node_row N) most_links (no_room held) ρ w (unifying bs all)) (sym (onto_none B held []));
    }

-- What the walk over the next pair asks.
pub pair_ready : {N A A₁ B B₁ : List ℕ} {held : ℕ} {all ps : List Pair} {e d : Expression} {left total : ℕ} → Ready N A B held all → Remains N A A₁ B₁ held all ((e, d) ∷ ps) left total → PairReady N A₁ B₁ total e d
pair_ready {B₁ = B₁} {held} {total = total} R K =
    let k = K R.top R.environment R.facing in
    record {
      step = record { nodes = R.nodes; top = R.top; first = held; base = R.environment; bindings = bindings_onto B₁ held (total - held) []; stand = k.stand };
      left = k.in_step.0;
      right = k.in_step.1;
    }

-- Without work too, a machine that has nothing left to do is done.
run_nothing : (N : List ℕ) (held : ℕ) (ρ : Environment) (left : ℕ) (bs : List Binding) → run (node_row N) most_links (no_room held) ρ left (unifying bs []) ≡ unified bs left
unfolding run
run_nothing N held ρ zero bs = refl
run_nothing N held ρ (suc left) bs = refl

module _ (N A A₁ B B₁ : List ℕ) (held : ℕ) (all : List Pair) (R : Ready N A B held all) (left total : ℕ) (K₁ : Added B B₁ held total) where
  -- All pairs were unified.
  pub answered_done : Remains N A A₁ B₁ held all [] left total → length A₁ ≡ 524416 → length B₁ ≡ length B → Answered N A A₁ B B₁ held all (done left total)
  answered_done K l m =
      record {
        outcome = λ top ρ F. (K top ρ F).whole ∙ run_nothing N held ρ left (bindings_onto B₁ held (total - held) []) ∙ ap (λ (bs : List Binding). unified bs left) (append-nil (bindings_from B₁ held (total - held)));
        values = l;
        bindings = m;
        before = K₁.low;
        counted = (K₁.le, (K R.top R.environment R.facing).stand.few, K₁.high);
      }

  module _ (e d : Expression) (ps : List Pair) (K : Remains N A A₁ B₁ held all ((e, d) ∷ ps) left total) (A₂ B₂ : List ℕ) (u : Answer) (P : Paired N A₁ A₂ B₁ B₂ total e d left u) (K₂ : Filed B₁ B₂ total u) where
    here : (top : ℕ) (ρ : Environment) → Facing N top A held ρ all → Pairing N top A₂ B₂ held ρ (bindings_onto B₁ held (total - held) []) total e d left u
    here top ρ F =
        let k = K top ρ F in
        P top held ρ (bindings_onto B₁ held (total - held) []) k.stand k.in_step.0 k.in_step.1

    -- The pair was refused.
    pub answered_refused : (n : Failure) → u ≡ Err n → length A₂ ≡ 524416 → length B₂ ≡ length B → Answered N A A₂ B B₂ held all (Err n)
    answered_refused n p l m =
        let k = subst (Filed B₁ B₂ total) p K₂ in
        let below = added_below K₁ k in
        record {
          outcome = λ top ρ F. (K top ρ F).whole ∙ (subst (Pairing N top A₂ B₂ held ρ (bindings_onto B₁ held (total - held) []) total e d left) p (here top ρ F)).ok ps;
          values = l;
          bindings = m;
          before = below.low;
          counted = below.past;
        }

    -- The pair was unified, and the others remain.
    pub remains_next : (w h : ℕ) → u ≡ done w h → Remains N A A₂ B₂ held all ps w h
    remains_next w h p top ρ F =
        let k = K top ρ F in
        let y = subst (Pairing N top A₂ B₂ held ρ (bindings_onto B₁ held (total - held) []) total e d left) p (here top ρ F) in
        let j = onto_then [] K₁ (subst (Filed B₁ B₂ total) p K₂) in
        record {
          stand = subst (λ (bs : List Binding). Stand N top A₂ B₂ held ρ bs h) j y.after;
          in_step = k.in_step.2;
          whole = k.whole ∙ y.ok ps ∙ ap (λ (bs : List Binding). run (node_row N) most_links (no_room held) ρ w (unifying bs ps)) j;
        }

-- One pair is all.
pub one_ready : {N A B : List ℕ} {held : ℕ} {e d : Expression} → Ready N A B held ((e, d) ∷ []) → PairReady N A B held e d
one_ready R = pair_ready R (remains_all R most_work refl)

module _ (N A A' B B' : List ℕ) (held : ℕ) (e d : Expression) (R : Ready N A B held ((e, d) ∷ [])) (w : ℕ) (q : most_work ≡ w) where
  pub one_answered : (u : Answer) → Paired N A A' B B' held e d w u → Filed B B' held u → length A' ≡ 524416 → length B' ≡ length B → Answered N A A' B B' held ((e, d) ∷ []) u
  one_answered (Ok u) P K l m =
      answered_done N A A' B B' held ((e, d) ∷ []) R u.work u.held K
      (remains_next N A A B B held ((e, d) ∷ []) R w held (added_none B held) e d [] (remains_all R w q) A' B' (Ok u) P K u.work u.held refl) l m
  one_answered (Err n) P K l m =
      answered_refused N A A B B held ((e, d) ∷ []) R w held (added_none B held) e d [] (remains_all R w q) A' B' (Err n) P K n refl l m
