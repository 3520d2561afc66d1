-- What the check leaves is what comparing asks for.
use Rattle.cover.proofs.Answered.{covers_answered}
use Rattle.cover.proofs.covers_with.Goals as goal

pub compare-requires : goal.compare-requires
compare-requires c =
    record { day = _; file = _; before = _; lent = _; symbols = _; rows = _; bindings = _; values = _; checked = c.check_with-a.ensures.answered }

pub returns-clause-answered : goal.returns-clause-answered
returns-clause-answered c =
    covers_answered _ _ _ _ _ _ _ _ _ _ _ _ _ _ _ _ _ _ _ _ c.check_with-a.ensures.answered c.compare.ensures
