pub mod Converting
pub mod Cases
pub mod Answer
pub mod Promised
