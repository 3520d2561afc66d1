use mathlib.Core.Path.{sym, ◌∙◌}
use native.Mathlib.Omega.{arith}
use Rattle.named_literals.proofs.Origins.{from_itself, walked, walk_there, walk_small}
use Rattle.literal_walk.proofs.input_place.Goals as goal

pub loop-up-init : goal.loop-up-init
loop-up-init c =
    λ B d s. from_itself c.requires.low c.requires.high s

pub parent_place-up-requires : goal.parent_place-up-requires
parent_place-up-requires c =
    record { stored_literal = walk_there c.requires c.loop-up.invariant; fact = λ z. c.loop-up-test.true (c.origin_code.ensures ∙ z) }

pub overflow_add-place : goal.overflow_add-place
overflow_add-place c =
    omega (arith, walk_small c.requires (walked c.loop-up.invariant c.parent_place-up.ensures))

pub loop-up-smaller : goal.loop-up-smaller
loop-up-smaller c =
    c.parent_place-up.ensures.below

pub loop-up-preserved : goal.loop-up-preserved
loop-up-preserved c =
    walked c.loop-up.invariant c.parent_place-up.ensures

pub returns : goal.returns
returns c =
    record { is_input = sym c.origin_code.ensures ∙ c.loop-up-test.false; from = c.loop-up.invariant }
