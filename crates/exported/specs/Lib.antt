pub mod Exported
pub mod ExportedWith
pub mod ExportedForm
