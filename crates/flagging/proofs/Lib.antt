pub mod FlagSteps
