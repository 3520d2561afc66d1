pub mod ExportedBoard
