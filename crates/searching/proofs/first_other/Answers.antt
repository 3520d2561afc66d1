use mathlib.Core.Path.{refl, sym, ◌∙◌}
use native.Mathlib.Omega.{arith}
use Rattle.searching.proofs.SearchSteps.{first_ended, goes_on, goes_on_whole, ends}
use Rattle.searching.proofs.first_other.Goals as goal

pub loop-i-init : goal.loop-i-init
loop-i-init c =
    (omega arith, omega arith, refl)

pub compare_at-requires : goal.compare_at-requires
compare_at-requires c =
    (c.loop-i-test.true, c.requires, c.loop-i.invariant.1)

pub loop-i-smaller : goal.loop-i-smaller
loop-i-smaller c =
    let m = goes_on _ _ _ _ c.compare_at.ensures c.loop-i.invariant.2 c.in-Continue.is in
    omega (arith, m)

pub loop-i-preserved : goal.loop-i-preserved
loop-i-preserved c =
    let m = goes_on _ _ _ _ c.compare_at.ensures c.loop-i.invariant.2 c.in-Continue.is in
    (m.4, m.5, goes_on_whole _ _ _ _ c.compare_at.ensures c.loop-i.invariant.2 c.in-Continue.is)

pub returns-in-Break : goal.returns-in-Break
returns-in-Break c =
    ends _ _ _ _ c.compare_at.ensures c.loop-i.invariant.2 c.in-Break.is

pub returns : goal.returns
returns c =
    sym (first_ended _ _ _ _ c.loop-i-test.false) ∙ c.loop-i.invariant.2
