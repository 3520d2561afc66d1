pub mod SearchSteps
