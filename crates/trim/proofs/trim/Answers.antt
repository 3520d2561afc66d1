-- A short output is refused before all else.
use mathlib.Core.Path.{refl}
use Rattle.trim.proofs.Answered.{short_answered}
use Rattle.trim.proofs.trim.Goals as goal

pub returns-then-output-lt65536-clause-answered : goal.returns-then-output-lt65536-clause-answered
returns-then-output-lt65536-clause-answered c =
    short_answered _ _ _ _ _ c.if-output-lt65536.true refl

pub returns-clause-answered : goal.returns-clause-answered
returns-clause-answered c =
    c.trim_with.ensures.answered
