pub mod Windows
pub mod MarkedFields
pub mod GoingDown
