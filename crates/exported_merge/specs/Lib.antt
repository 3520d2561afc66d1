pub mod ExportedMerge
