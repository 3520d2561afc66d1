pub mod ExportedTrim
