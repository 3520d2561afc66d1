pub mod Counted
pub mod NewWritten
