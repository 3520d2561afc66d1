use mathlib.Core.Path.{sym, subst, ◌∙◌}
use native.Mathlib.Omega.{arith}
use Rattle.pack.proofs.PackLaws.{inside, passed_more, passed_cut}
use Rattle.pack.specs.Pack.{RightCount}
use Rattle.pack.proofs.count_files.Goals as goal

pub returns-in_err-at : goal.returns-in_err-at
returns-in_err-at c =
    subst (RightCount c.args.pack.now) (sym c.from_residual.ensures) (passed_cut c.loop-at.invariant (sym c.entry_at.ensures ∙ c.in_err-at.was) c.loop-at-test.true)

pub loop-at-smaller : goal.loop-at-smaller
loop-at-smaller c =
    let i = inside (sym c.entry_at.ensures ∙ c.in_ok-at.was) in
    omega (arith, i.begins, i.ordered, i.ends, c.loop-at-test.true)

pub loop-at-preserved : goal.loop-at-preserved
loop-at-preserved c =
    passed_more c.loop-at.invariant (sym c.entry_at.ensures ∙ c.in_ok-at.was)
