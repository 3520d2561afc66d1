pub mod Placing
pub mod Numbering
pub mod Counting
pub mod Going
