use Rattle.pieces.proofs.write_named_piece.Goals as goal

pub returns-in-ByAppearance : goal.returns-in-ByAppearance
returns-in-ByAppearance c =
    rw c.in-ByAppearance.is c.write_numbered_piece.ensures
