pub mod Derivation
pub mod Written
pub mod Textbook
pub mod Ground
pub mod Lifting
pub mod Stored
