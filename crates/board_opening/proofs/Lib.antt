pub mod ClearedCells
pub mod FillSteps
pub mod OpenedBoard
