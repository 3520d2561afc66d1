-- A short output is refused before all else.
use mathlib.Core.Path.{refl}
use Rattle.merge.proofs.Answered.{short_answered}
use Rattle.merge.proofs.merge.Goals as goal

pub returns-then-output-lt65536-clause-answered : goal.returns-then-output-lt65536-clause-answered
returns-then-output-lt65536-clause-answered c =
    short_answered _ _ _ _ _ c.if-output-lt65536.true refl

pub returns-clause-answered : goal.returns-clause-answered
returns-clause-answered c =
    c.merge_with.ensures.answered
