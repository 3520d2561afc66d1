use Rattle.canonical.proofs.SameClauseShown.{same_clause_same_line}
use Rattle.readout.proofs.canonical_piece.Goals as goal

pub returns-clause-answered : goal.returns-clause-answered
returns-clause-answered c =
    record { written = c.piece_by.ensures.answered; same_line = same_clause_same_line }
