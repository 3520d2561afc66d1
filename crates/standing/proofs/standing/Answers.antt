use mathlib.Core.Path.{ap, ◌∙◌}
use mathlib.Core.List.{List}
use Prim.Native.Nat.{ℕ}
use Rattle.answer.specs.Given.{standing_numbers, all_set}
use Rattle.standing.proofs.standing.Goals as goal

pub returns : goal.returns
unfolding all_set
returns c =
    c.first_accepted.ensures ∙ ap (λ (L : List ℕ). standing_numbers c.args.clauses.now L c.args.count) c.in_force.ensures
