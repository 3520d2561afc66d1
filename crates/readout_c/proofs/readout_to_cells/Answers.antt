use Rattle.exported_readout.proofs.ProgressWritten.{left_alone, piece_exported}
use Rattle.readout_c.proofs.readout_to_cells.Goals as goal

pub returns-then-progress-lt3-clause-answered : goal.returns-then-progress-lt3-clause-answered
returns-then-progress-lt3-clause-answered c =
    left_alone _ _ _ _ _ _ _ c.if-progress-lt3.true

pub returns-clause-answered : goal.returns-clause-answered
returns-clause-answered c =
    piece_exported _ _ _ _ _ _ _ _ _ _ _ c.if-progress-lt3.false c.readout_piece-p.ensures.answered c.put_progress.ensures
