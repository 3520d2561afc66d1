pub mod Told
pub mod ToldFiles
pub mod Marks
pub mod KeptRecords
pub mod Windows
pub mod Writing
pub mod MarkedFile
pub mod WrittenFile
