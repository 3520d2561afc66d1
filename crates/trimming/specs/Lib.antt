pub mod Kept
pub mod Trimming
pub mod Cases
pub mod Answer
pub mod Used
pub mod Promised
