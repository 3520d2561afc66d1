pub mod Merging
pub mod Answer
pub mod Promised
