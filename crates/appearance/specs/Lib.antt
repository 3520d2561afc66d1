pub mod Appearance
pub mod Growing
