pub mod NodeTable
pub mod Filling
pub mod NodeLaws
pub mod Entering
pub mod EntryLaws
pub mod Kept
pub mod Declaring
