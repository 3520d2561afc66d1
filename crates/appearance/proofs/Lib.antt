pub mod Positions
pub mod VariableNames
