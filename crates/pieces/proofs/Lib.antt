pub mod PieceRuns
pub mod PieceWriting
