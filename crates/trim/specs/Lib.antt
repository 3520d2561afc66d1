pub mod Accepted
pub mod Contract
