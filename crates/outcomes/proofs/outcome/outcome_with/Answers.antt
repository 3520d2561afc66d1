-- What the check leaves is what the readouts ask for, and the hashes are of the tables that it left.
use mathlib.Core.Path.{◌∙◌}
use Rattle.units.proofs.UnitWriting.{after_again}
use Rattle.outcomes.proofs.OutcomeLaws.{outcome_given}
use Rattle.outcomes.proofs.outcome.outcome_with.Goals as goal

pub digest_of-readout-requires : goal.digest_of-readout-requires
digest_of-readout-requires c =
    record { after = record { day = _; file = _; before = _; lent = _; symbols = _; rows = _; checked = c.check_with-answer.ensures.answered }; numbers = tt }

pub digest_of-canonical-requires : goal.digest_of-canonical-requires
digest_of-canonical-requires c =
    record { after = after_again (record { day = _; file = _; before = _; lent = _; symbols = _; rows = _; checked = c.check_with-answer.ensures.answered }) c.digest_of-readout.ensures.values; numbers = record { cells = c.cells-1.given ∙ c.requires.cells; list = c.order-1.given ∙ c.requires.list } }

pub returns : goal.returns
returns c =
    outcome_given _ _ _ _ _ _ _ _ _ _ _ _ _ _ _ _ _ _ _ _ c.check_with-answer.ensures.answered c.hashes_of-hashes.ensures.symbols c.hashes_of-hashes.ensures.rows c.hashes_of-hashes.ensures.clauses c.hashes_of-hashes.ensures.bindings c.digest_of-readout.ensures c.digest_of-canonical.ensures
