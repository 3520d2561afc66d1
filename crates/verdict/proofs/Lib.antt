pub mod CasesProved
pub mod Endings
