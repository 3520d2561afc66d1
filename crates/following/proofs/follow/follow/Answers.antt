use mathlib.Core.Path.{sym, ◌∙◌}
use native.Mathlib.Omega.{arith}
use Rattle.following.proofs.Halving.{going_start, going_none, going_app, going_free, going_on}
use Rattle.following.proofs.follow.follow.Goals as goal

pub loop-links-init : goal.loop-links-init
loop-links-init c =
    (c.requires.models.room, omega arith, λ top ρ M g. going_start _ top _ ρ _ M g)

pub returns-then-not-is_variable : goal.returns-then-not-is_variable
returns-then-not-is_variable c =
    let l = c.loop-links in
    (λ top ρ M g. going_app _ top _ ρ _ l.v l.j l.links (l.invariant.2 top ρ M g) (sym c.is_variable.ensures ∙ c.if-not-is_variable.true), l.invariant.0)

pub returns-then-r-eq0 : goal.returns-then-r-eq0
returns-then-r-eq0 c =
    let l = c.loop-links in
    (λ top ρ M g. going_free _ top _ ρ _ l.v l.j l.links (l.invariant.2 top ρ M g) _ (sym c.is_variable.ensures ∙ c.if-not-is_variable.false) c.slot_of-at.ensures.0 (sym c.cell-r.ensures ∙ c.if-r-eq0.true), l.invariant.0)

pub loop-links-preserved : goal.loop-links-preserved
loop-links-preserved c =
    let l = c.loop-links in
    (c.halve.array_long, omega arith, λ top ρ M g. going_on _ top _ ρ _ l.v l.j l.links (l.invariant.2 top ρ M g) (sym c.is_variable.ensures ∙ c.if-not-is_variable.false) _ _ _ c.slot_of-at.ensures.0 c.cell-r.ensures c.if-r-eq0.false c.cell-k.ensures _ c.halve.ensures (omega arith))

pub returns : goal.returns
returns c =
    let l = c.loop-links in
    (λ top ρ M g. going_none _ top _ ρ _ l.v l.j l.links (l.invariant.2 top ρ M g) (omega arith) _, l.invariant.0)
