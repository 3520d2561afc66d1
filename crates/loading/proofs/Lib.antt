pub mod Loading
pub mod ValidBindings
pub mod LoadedModels
pub mod Putting
