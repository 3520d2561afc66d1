pub mod Comparisons
pub mod CompareSteps
