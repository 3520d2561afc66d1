pub mod Wrapped
