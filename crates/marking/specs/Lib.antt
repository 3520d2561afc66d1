pub mod Marking
