pub mod ExportedCovers
