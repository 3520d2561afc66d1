pub mod Parents
pub mod Passing
pub mod Calls
pub mod BoardShown
