pub mod CasesProved
