pub mod Stepping
pub mod Rights
