pub mod Covering
pub mod Answering
pub mod Choosing
