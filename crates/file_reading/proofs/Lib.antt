pub mod KeptFlags
pub mod CheckLaws
