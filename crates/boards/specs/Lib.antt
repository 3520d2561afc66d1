pub mod Board
pub mod Cells
pub mod Opening
pub mod Promised
