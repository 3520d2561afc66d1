pub mod Clearing
pub mod Walks
pub mod Lent
