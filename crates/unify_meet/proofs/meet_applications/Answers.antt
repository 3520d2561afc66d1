-- Each way out is one case of the definition.
use mathlib.Core.Path.{sym, ◌∙◌}
use native.Mathlib.Omega.{arith}
use Rattle.unify.specs.Pairs.{same_application, other_symbol, no_arguments, some_arguments}
use Rattle.unify_meet.proofs.meet_applications.Goals as goal

pub returns-then-is_same : goal.returns-then-is_same
returns-then-is_same c =
    same_application (sym c.is_same.ensures ∙ c.if-is_same.true)

pub returns-then-part_of : goal.returns-then-part_of
returns-then-part_of c =
    other_symbol (sym c.is_same.ensures ∙ c.if-is_same.false) (λ z. c.if-part_of.true (c.part_of.ensures ∙ z ∙ sym c.part_of-2.ensures))

pub returns-then-arity_of-eq0 : goal.returns-then-arity_of-eq0
returns-then-arity_of-eq0 c =
    no_arguments (sym c.is_same.ensures ∙ c.if-is_same.false) (sym c.part_of.ensures ∙ c.if-part_of.false ∙ c.part_of-2.ensures) (sym c.if-arity_of-eq0.true ∙ c.arity_of.ensures.0)

pub returns : goal.returns
returns c =
    some_arguments (sym c.is_same.ensures ∙ c.if-is_same.false) (sym c.part_of.ensures ∙ c.if-part_of.false ∙ c.part_of-2.ensures) (omega (arith, c.if-arity_of-eq0.false, c.arity_of.ensures.0))
