pub mod Program
pub mod Progress
