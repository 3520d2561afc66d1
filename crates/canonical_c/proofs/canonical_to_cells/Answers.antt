use Rattle.exported_readout.proofs.ProgressWritten.{left_alone, piece_exported}
use Rattle.canonical.proofs.SameClauseShown.{same_clause_same_line}
use Rattle.canonical_c.proofs.canonical_to_cells.Goals as goal

pub returns-then-progress-lt3-clause-answered : goal.returns-then-progress-lt3-clause-answered
returns-then-progress-lt3-clause-answered c =
    record { exported = left_alone _ _ _ _ _ _ _ c.if-progress-lt3.true; same_line = same_clause_same_line }

pub returns-clause-answered : goal.returns-clause-answered
returns-clause-answered c =
    record { exported = piece_exported _ _ _ _ _ _ _ _ _ _ _ c.if-progress-lt3.false c.canonical_piece-p.ensures.answered.written c.put_progress.ensures; same_line = c.canonical_piece-p.ensures.answered.same_line }
