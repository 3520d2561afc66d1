-- What the check leaves is what a piece asks for.
use Rattle.readout.proofs.PieceChecked.{piece_written}
use Rattle.readout.proofs.piece.piece_with.Goals as goal

pub write_named_piece-requires : goal.write_named_piece-requires
write_named_piece-requires c =
    record { day = _; file = _; before = _; lent = _; symbols = _; rows = _; checked = c.check_with-a.ensures.answered }

pub returns-clause-answered : goal.returns-clause-answered
returns-clause-answered c =
    piece_written _ _ _ _ _ _ _ _ _ _ _ _ _ _ _ _ _ _ c.check_with-a.ensures.answered c.write_named_piece.ensures
