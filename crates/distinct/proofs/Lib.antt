pub mod Cells
pub mod Lowest
pub mod Writing
pub mod Searching
pub mod Listing
