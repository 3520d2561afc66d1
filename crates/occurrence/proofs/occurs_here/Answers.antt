-- The test is the one that the definition takes.
use mathlib.Core.Path.{sym, ap, ◌∙◌}
use mathlib.Core.Bool.{Bool}
use Rattle.following.specs.Walks.{met_variable}
use Rattle.occurrence.proofs.occurs_here.Goals as goal

pub returns-then-is_same : goal.returns-then-is_same
returns-then-is_same c =
    sym (ap (λ (b : Bool). met_variable b c.args.left) (sym c.is_same.ensures ∙ c.if-is_same.true))

pub returns-else-is_same : goal.returns-else-is_same
returns-else-is_same c =
    sym (ap (λ (b : Bool). met_variable b c.args.left) (sym c.is_same.ensures ∙ c.if-is_same.false))
