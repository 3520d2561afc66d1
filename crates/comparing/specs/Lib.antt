pub mod Given
pub mod Comparing
