-- Each case is one of the definition.
use mathlib.Core.Path.{sym, ◌∙◌}
use Rattle.unify.specs.Pairs.{same_variable, left_to_variable, left_to_application, right_variable}
use Rattle.unify.proofs.PairWalk.{meets_as}
use Rattle.unify_meet.proofs.meet.Goals as goal

pub returns-then-is_same : goal.returns-then-is_same
returns-then-is_same c =
    meets_as c.in-Variable.is c.in-Variable-y.is (same_variable (sym c.is_same.ensures ∙ c.if-is_same.true))

pub returns-else-is_same : goal.returns-else-is_same
returns-else-is_same c =
    meets_as c.in-Variable.is c.in-Variable-y.is (left_to_variable (sym c.is_same.ensures ∙ c.if-is_same.false))

pub returns-in-Application-y : goal.returns-in-Application-y
returns-in-Application-y c =
    meets_as c.in-Variable.is c.in-Application-y.is left_to_application

pub returns-in-Variable-y-2 : goal.returns-in-Variable-y-2
returns-in-Variable-y-2 c =
    meets_as c.in-Application.is c.in-Variable-y-2.is right_variable

pub returns-in-Application-y-2 : goal.returns-in-Application-y-2
returns-in-Application-y-2 c =
    meets_as c.in-Application.is c.in-Application-y-2.is c.meet_applications.ensures
