pub mod Record
pub mod Answered
pub mod Bytes
pub mod Sorts
pub mod Cases
