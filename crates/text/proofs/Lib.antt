pub mod Positions
pub mod Decimals
