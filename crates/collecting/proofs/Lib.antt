pub mod ListedLiterals
pub mod CollectedLiterals
