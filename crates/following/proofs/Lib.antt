pub mod Links
pub mod Writing
pub mod Halving
pub mod Machine
pub mod Occurrence
