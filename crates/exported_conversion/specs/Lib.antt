pub mod ExportedConversion
