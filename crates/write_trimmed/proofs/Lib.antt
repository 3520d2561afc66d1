pub mod Numbered
pub mod GoingOn
