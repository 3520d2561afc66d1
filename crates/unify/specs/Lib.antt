pub mod Pairs
pub mod Unifying
