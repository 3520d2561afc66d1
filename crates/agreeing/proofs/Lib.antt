pub mod AgreeSteps
