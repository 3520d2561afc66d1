pub mod ExportedReadout
