-- What crates above cite of the definitions.
pub mod CasesProved
pub mod Records
pub mod Bytes
pub mod Sorts
