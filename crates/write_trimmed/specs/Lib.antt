pub mod Places
pub mod Writing
